-- The numbers of a request, cut into its list and its bytes.
use Rattle.flash.proofs.Kit.{◌≡◌, refl, sym, ap, ap₂, ◌∙◌, subst, ⊎_elim, Bool, true, false, ◌&&◌, List, [], ◌∷◌, ◌++◌, Option, none, some, ℕ, zero, suc, ◌+◌, ◌-◌, ◌*◌}
use Rattle.flash.proofs.Kit.{◌≤◌, zero-add, arith, eqb, leb, eqb-true, eq-eqb, length, take, drop, length-append, length-drop, take-take, take-add, drop_at, length-take-le}
use Rattle.flash.specs.Lists.{all}
use Rattle.flash.specs.declared.sizes.Sizes.{Sizes}
use Rattle.flash.specs.Geometry.{original_count}
use Rattle.flash.proofs.Bools.{bool_cases, and_left, and_right}
use Rattle.flash.proofs.Bounds.{product_le}
use Rattle.listing.specs.Area.{Written}
use Rattle.listing.specs.Numbers.{numbers_in, Taken, taken}
use Rattle.listing.specs.Input.{Input, unreadable, refused, request, is_allowed, sizes_from, numbers_due, exactly, requested, after_sizes, input_of, within_limit}
use Rattle.listing.specs.ReaderAnswers.{request_in, asked_as}
use Rattle.std.specs.Prelude.{Result}
use Rattle.listing.specs.declared.input.InputError.{InputError}
use Rattle.listing.proofs.AreaLaws.{over-room}
use Rattle.listing.proofs.InputLaws.{bounded, few-originals}
use Rattle.steplist.specs.Output.{answered, output, Counts}
use Rattle.steplist.specs.inner.Given.{Asked, Readable}

drop-take : (a b : ℕ) (xs : List ℕ) → a ≤ b → a ≤ length xs → drop a (take b xs) ≡ take (b - a) (drop a xs)
drop-take a b xs h l =
    let e : b ≡ a + (b - a) = omega arith in
    ap (λ (k : ℕ). drop a (take k xs)) e ∙ ap (drop a) (take-add a (b - a) xs) ∙ drop_at (take a xs) (take (b - a) (drop a xs)) a (length-take-le a xs l)

module _ (Z : Sizes) (count due : ℕ) (numbers : List ℕ) (count-is : count ≡ original_count Z) (due-is : due ≡ count + count * Z.p) (A : Asked Z numbers) (most : 4160 ≤ length numbers) where
  open Z use {n, m, p as P}

  all-due : due ≡ n * m + n * m * P
  all-due = due-is ∙ rw count-is

  pub room : due ≤ length numbers
  room =
      let l = bounded Z A.allowed in
      let few = few-originals n m l.few-blocks l.few-pages in
      omega (arith, all-due, product_le (n * m) P {c = 64} {d = 64} few l.short-pages)

  list-is : take (n * m) (take (n * m + n * m * P) numbers) ≡ take count numbers
  list-is = take-take (n * m) (n * m + n * m * P) numbers (omega arith) ∙ ap (λ (k : ℕ). take k numbers) (sym count-is)

  bytes-are : drop (n * m) (take (n * m + n * m * P) numbers) ≡ take (due - count) (drop count numbers)
  bytes-are = rw (← all-due, ← count-is) (drop-take count due numbers (omega arith) (omega (arith, room)))

  pub readable : Readable Z (take count numbers) (take (due - count) (drop count numbers))
  readable =
      let r = room in
      let left = length-drop count numbers in
      let d = all-due in
      record {
        allowed = A.allowed;
        list_length = length-take-le count numbers (omega arith) ∙ count-is;
        bytes-length = length-take-le (due - count) (drop count numbers) (omega arith) ∙ omega arith;
        bytes_fit = ap (all (λ byte. leb byte 255)) (sym bytes-are) ∙ A.bytes_fit;
      }

  pub same-request : request Z (take count numbers) (take (due - count) (drop count numbers)) ≡ request_in numbers Z
  same-request = ap₂ {C = Input} (request Z) (sym list-is) (sym bytes-are)

-- as many numbers were taken as were asked for
abbrev is_taken : (count : ℕ) → Option Taken → Bool
is_taken count none = true
is_taken count (some due) = eqb (length due.values) count

taken-count : (values : List ℕ) (count : ℕ) (words : List (Option ℕ)) → is_taken (length values + count) (taken values count words) ≡ true
unfolding taken
taken-count values zero words = eq-eqb (length values) (length values + 0) (omega arith)
taken-count values (suc count) [] = refl
taken-count values (suc count) (none ∷ words) = refl
taken-count values (suc count) (some value ∷ words) =
    let e : length values + suc count ≡ length (values ++ (value ∷ [])) + count = omega (arith, length-append values (value ∷ [])) in
    rw e (taken-count (values ++ (value ∷ [])) count words)

-- what every request that is read has: sizes within the limits, bytes to 255, and an entry for each original
abbrev is_sound : Input → Bool
is_sound unreadable = true
is_sound refused = true
is_sound (request Z list bytes) = is_allowed Z && all (λ byte. leb byte 255) bytes && eqb (length list) (original_count Z)

due-sound : (Z : Sizes) → is_allowed Z ≡ true → (found : Option Taken) → is_taken (numbers_due Z) found ≡ true → is_sound (requested Z (exactly (original_count Z) found)) ≡ true
unfolding requested exactly
due-sound Z e none t = refl
due-sound Z e (some due) t =
    let fit = all (λ byte. leb byte 255) (drop (original_count Z) due.values) in
    let over = eqb (length due.rest) 0 in
    let size = length-take-le (original_count Z) due.values (omega (arith, eqb-true (length due.values) (numbers_due Z) t)) in
    ⊎_elim
    (λ (h : (fit && over) ≡ true).
    let g = and_left fit over h in
    rw (h, e, g, eq-eqb _ _ size))
    (λ (h : (fit && over) ≡ false). rw h)
    (bool_cases (fit && over))

sizes-sound : (found : Option Taken) → is_sound (after_sizes found) ≡ true
unfolding after_sizes
sizes-sound none = refl
sizes-sound (some sizes) =
    let Z = sizes_from sizes.values in
    ⊎_elim
    (λ (e : is_allowed Z ≡ true). rw e (due-sound Z e (taken [] (numbers_due Z) sizes.rest) (rw zero-add at (taken-count [] (numbers_due Z) sizes.rest))))
    (λ (e : is_allowed Z ≡ false). rw e)
    (bool_cases (is_allowed Z))

pub asked : (Z : Sizes) (text numbers : List ℕ) → request_in numbers Z ≡ input_of text → Asked Z numbers
unfolding input_of
asked Z text numbers e =
    let bytes = all (λ byte. leb byte 255) (drop (original_count Z) (take (numbers_due Z) numbers)) in
    let size = eqb (length (take (original_count Z) (take (numbers_due Z) numbers))) (original_count Z) in
    let sound : (is_allowed Z && bytes && size) ≡ true = ap is_sound e ∙ sizes-sound (taken [] 4 (numbers_in text)) in
    let both = and_left (is_allowed Z && bytes) size sound in
    record {
      allowed = and_left (is_allowed Z) bytes both;
      bytes_fit = and_right (is_allowed Z) bytes both;
    }

pub asked-list : (Z : Sizes) (text list bytes : List ℕ) → input_of text ≡ request Z list bytes → (is_allowed Z ≡ true) × (length list ≡ original_count Z)
unfolding input_of
asked-list Z text list bytes e =
    let fit = all (λ byte. leb byte 255) bytes in
    let size = eqb (length list) (original_count Z) in
    let sound : (is_allowed Z && fit && size) ≡ true = ap is_sound (sym e) ∙ sizes-sound (taken [] 4 (numbers_in text)) in
    (and_left (is_allowed Z) fit (and_left (is_allowed Z && fit) size sound), eqb-true (length list) (original_count Z) (and_right (is_allowed Z && fit) size sound))

-- what the reader told, and the output
pub answers : (named : Bool) (input numbers before after : List ℕ) (count : ℕ) (told known : Result Sizes InputError) → asked_as numbers told ≡ input_of (within_limit input) → told ≡ known
    → Written (answered named (asked_as numbers known)) before after count → Written (output named input) before after count × Counts count after
unfolding output
answers named input numbers before after count told known e q w =
    let room = over-room (answered named (asked_as numbers known)) before after count w.0 w.1 in
    (subst (λ (text : List ℕ). Written text before after count) (ap (answered named) (ap (asked_as numbers) (sym q) ∙ e)) w, (room, sym (length-take-le count after room)))
