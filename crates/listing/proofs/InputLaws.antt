-- What the parts of an input say together.
use Rattle.flash.proofs.Kit.{◌≡◌, refl, sym, ap, ◌∙◌, Bool, true, false, cond, ◌&&◌, List, [], ◌∷◌, ◌++◌, append_assoc, append-nil, Option, none}
use Rattle.flash.proofs.Kit.{some, ℕ, ◌-◌, ◌*◌, ◌≤◌, ◌<◌, mul-le-mul, arith, eqb, leb, ltb, length, take, drop, set, length-drop, length-append}
use Rattle.flash.proofs.Kit.{take-append-drop, length-take-le, drop-append-le, drop-length, take_at, set_split, leb-true, ltb-true, le-leb, lt-leb}
use Rattle.flash.specs.Lists.{all}
use Rattle.flash.specs.declared.sizes.Sizes.{Sizes}
use Rattle.flash.specs.Geometry.{original_count, is_letter}
use Rattle.flash.proofs.Bools.{and_left, and_right}
use Rattle.listing.specs.Numbers.{numbers_in, Taken, taken, numbers_met}
use Rattle.listing.specs.Input.{unreadable, refused, is_allowed, sizes_from, numbers_due, exactly, requested, after_sizes, input_of, met_after, numbers_put, within_limit}
use Rattle.listing.specs.ReaderAnswers.{request_in}
use Rattle.listing.specs.Area.{over}
use Rattle.listing.proofs.TakeLaws.{met-short}

-- the program's limits
pub record Bounded (Z : Sizes) : Type 0 where
  pub some-blocks : 1 ≤ Z.n
  pub few-blocks : Z.n ≤ 8
  pub some-pages : 1 ≤ Z.m
  pub few-pages : Z.m ≤ 8
  pub some_bytes : 1 ≤ Z.p
  pub short-pages : Z.p ≤ 64
  pub letter : Z.s < 3

pub bounded : (Z : Sizes) → is_allowed Z ≡ true → Bounded Z
unfolding is_allowed is_letter
bounded Z e =
    let one : Bool = leb 1 Z.n in
    let two : Bool = one && leb Z.n 8 in
    let three : Bool = two && leb 1 Z.m in
    let four : Bool = three && leb Z.m 8 in
    let five : Bool = four && leb 1 Z.p in
    let f = and_left (five && leb Z.p 64) (ltb Z.s 3) e in
    let g = and_left five (leb Z.p 64) f in
    let q = and_left four (leb 1 Z.p) g in
    let h = and_left three (leb Z.m 8) q in
    let t = and_left two (leb 1 Z.m) h in
    record {
      some-blocks = leb-true 1 Z.n (and_left one (leb Z.n 8) t);
      few-blocks = leb-true Z.n 8 (and_right one (leb Z.n 8) t);
      some-pages = leb-true 1 Z.m (and_right two (leb 1 Z.m) h);
      few-pages = leb-true Z.m 8 (and_right three (leb Z.m 8) q);
      some_bytes = leb-true 1 Z.p (and_right four (leb 1 Z.p) g);
      short-pages = leb-true Z.p 64 (and_right five (leb Z.p 64) f);
      letter = ltb-true Z.s 3 (and_right (five && leb Z.p 64) (ltb Z.s 3) e);
    }

pub few-originals : (n m : ℕ) → n ≤ 8 → m ≤ 8 → n * m ≤ 64
few-originals n m h k = mul-le-mul {n₁ = n} {m₁ = m} {n₂ = 8} {m₂ = 8} h k

-- An area of the numbers due stands at the front of a longer one.
module _ (count due wanted : ℕ) (numbers area : List ℕ) (words : List (Option ℕ)) (found : Option Taken) (due-is : due ≡ wanted) (room : due ≤ length numbers) (e : found ≡ taken [] (length (take due numbers)) words) where
  found-due : found ≡ taken [] wanted words
  found-due = e ∙ rw (length-take-le due numbers room, due-is)

  pub none_found : found ≡ none → none ≡ exactly count (taken [] wanted words)
  unfolding exactly
  none_found f = ap (exactly count) (sym f ∙ found-due)

  module _ (size : length area ≡ length (take due numbers)) (few : count ≤ due) where
    size_is : length area ≡ due
    size_is = size ∙ length-take-le due numbers room

    -- what is lent to be looked at, from `count` on
    pub bytes-are : take (due - count) (drop count (area ++ drop due numbers)) ≡ drop count area
    bytes-are =
        let l = size_is in
        rw (drop-append-le count area (drop due numbers) (omega arith)) (take_at (drop count area) (drop due numbers) (due - count) (omega (arith, length-drop count area)))

    module _ (rest : List (Option ℕ)) (f : found ≡ some (record { values = area; rest = rest })) where
      pub all_found : (right : Bool) → all (λ byte. leb byte 255) (drop count area) ≡ true → right ≡ eqb (length rest) 0 → cond right (some (take wanted (area ++ drop due numbers))) none ≡ exactly count (taken [] wanted words)
      unfolding exactly
      all_found right h g = rw (take_at area (drop due numbers) wanted (size_is ∙ due-is), ← found-due, f, h, g)

      pub too_large : all (λ byte. leb byte 255) (drop count area) ≡ false → none ≡ exactly count (taken [] wanted words)
      unfolding exactly
      too_large h = rw (← found-due, f, h)

-- The numbers met are put into the front of an area, by way of the part that is as long as those due.
part-rest : (k due : ℕ) (area : List ℕ) → k ≤ due → due ≤ length area → drop k (take due area) ++ drop due area ≡ drop k area
part-rest k due area h room =
    let size : length (take due area) ≡ due = length-take-le due area room in
    sym (drop-append-le k (take due area) (drop due area) (omega arith)) ∙ ap (drop k) (take-append-drop due area)

pub due-put : (due wanted : ℕ) (numbers area : List ℕ) (words : List (Option ℕ)) → due ≡ wanted → due ≤ length numbers
    → area ≡ over (numbers_met (length (take due numbers)) words) (take due numbers) → area ++ drop due numbers ≡ over (numbers_met wanted words) numbers
due-put due wanted numbers area words d room e =
    let met = numbers_met due words in
    let front : area ≡ over met (take due numbers) = e ∙ rw (length-take-le due numbers room) in
    rw (← d, front) (append_assoc met (drop (length met) (take due numbers)) (drop due numbers) ∙ ap (λ (rest : List ℕ). met ++ rest) (part-rest (length met) due numbers (met-short due words) room))

-- ---- the input within the limit
pub limit-kept : (input : List ℕ) → length input ≤ 4096 → (length input ≡ length (within_limit input)) × (input ≡ over (within_limit input) input)
unfolding within_limit
limit-kept input h = rw (le-leb (length input) 4096 h) (refl, sym (rw (drop-length input) (append-nil input)))

pub limit-cut : (input : List ℕ) → 4096 < length input → (4097 ≡ length (within_limit input)) × (set input 4096 0 ≡ over (within_limit input) input)
unfolding within_limit
limit-cut input h =
    let size : length (take 4096 input) ≡ 4096 = length-take-le 4096 input (omega arith) in
    let n : length (take 4096 input ++ (0 ∷ [])) ≡ 4097 = length-append (take 4096 input) (0 ∷ []) ∙ rw size in
    rw (lt-leb (length input) 4096 h) (sym n, rw n (set_split input 4096 0 h ∙ sym (append_assoc (take 4096 input) (0 ∷ []) (drop 4097 input))))

-- What `read` answers, and what it leaves in the area. There are no four sizes:
pub no-sizes : (text area : List ℕ) → none ≡ taken [] 4 (numbers_in text) → (unreadable ≡ input_of text) × (area ≡ over (numbers_put text) area)
unfolding input_of after_sizes numbers_put met_after
no-sizes text area e = rw (← e) (refl, refl)

-- or there are:
module _ (text four area : List ℕ) (next : ℕ) (sizes : some (record { values = four; rest = numbers_in (drop next text) }) ≡ taken [] 4 (numbers_in text)) where
  abbrev Z : Sizes
  Z = sizes_from four

  pub not-allowed : is_allowed Z ≡ false → (refused ≡ input_of text) × (area ≡ over (numbers_put text) area)
  unfolding input_of after_sizes numbers_put met_after
  not-allowed e = rw (← sizes, e) (refl, refl)

  pub as-asked : (right : Bool) (exit : List ℕ) → is_allowed Z ≡ true
      → cond right (some (take (numbers_due Z) exit)) none ≡ exactly (original_count Z) (taken [] (numbers_due Z) (numbers_in (drop next text)))
      → exit ≡ over (numbers_met (numbers_due Z) (numbers_in (drop next text))) area → (cond right (request_in exit Z) unreadable ≡ input_of text) × (exit ≡ over (numbers_put text) area)
  unfolding input_of after_sizes requested numbers_put met_after
  as-asked true exit e f g = rw (← sizes, e, ← f) (refl, g)
  as-asked false exit e f g = rw (← sizes, e, ← f) (refl, g)
