-- Laws of the list as bytes: its entries, how many they are, and what a call answers for them.
use Rattle.flash.proofs.Kit.{◌≡◌, refl, sym, ap, ap₂, ◌∙◌, ⊎_elim, ◌≢◌, Bool, true, false, cond, ◌||◌, List, [], ◌∷◌, ◌++◌, ℕ, zero, suc, ◌+◌, ◌*◌}
use Rattle.flash.proofs.Kit.{◌/◌, ◌%◌, ◌≤◌, ◌<◌, not-suc-le-zero, div-add-mod', mod-lt, mul-le-mul, add-one, arith, ltb, length, get_or, take, drop}
use Rattle.flash.proofs.Kit.{set, take-suc, take_all, take_at, length-take-le, eqb-false, ltb-true, ltb-false}
use Rattle.flash.specs.declared.sizes.Sizes.{Sizes}
use Rattle.flash.specs.Geometry.{in_range, original_count}
use Rattle.flash.proofs.Bools.{bool_cases, or-false-left, or-false-right}
use Rattle.flash.proofs.Bounds.{in-range}
use Rattle.flash.proofs.Loops.{over-more}
use Rattle.split.proofs.Answers.{small}
use Rattle.c_api.specs.Bytes.{entries_of, is_odd, entries_within}
use Rattle.c_api.specs.Exports.{on_bytes}

pub entries-length : (count : ℕ) (bytes : List ℕ) → length bytes ≡ 2 * count → length (entries_of bytes) ≡ count
unfolding entries_of
entries-length zero [] e = refl
entries-length zero (x ∷ bytes) e = absurd (omega arith)
entries-length (suc count) [] e = absurd (omega arith)
entries-length (suc count) (x ∷ []) e = absurd (omega arith)
entries-length (suc count) (x ∷ y ∷ bytes) e = ap suc (entries-length count bytes (omega arith))

pub entry-is : (bytes : List ℕ) (count i : ℕ) → length bytes ≡ 2 * count → i < count → get_or (entries_of bytes) i 0 ≡ get_or bytes (2 * i) 0 + get_or bytes (2 * i + 1) 0 * 256
unfolding entries_of
entry-is [] count i e h = absurd (omega arith)
entry-is (x ∷ []) count i e h = absurd (omega arith)
entry-is (x ∷ y ∷ bytes) count zero e h = refl
entry-is (x ∷ y ∷ bytes) zero (suc i) e h = absurd (not-suc-le-zero h)
entry-is (x ∷ y ∷ bytes) (suc count) (suc i) e h =
    let two : 2 * suc i ≡ suc (suc (2 * i)) = omega arith in
    let three : 2 * suc i + 1 ≡ suc (suc (2 * i + 1)) = omega arith in
    entry-is bytes count i (omega arith) (omega arith)
    ∙ ap₂ (λ (a b : ℕ). get_or (x ∷ y ∷ bytes) a 0 + get_or (x ∷ y ∷ bytes) b 0 * 256) (sym two) (sym three)

-- the entries up to one more
pub entries-more : (bytes : List ℕ) (count i : ℕ) → length bytes ≡ 2 * count → i < count
    → take (suc i) (entries_of bytes) ≡ take i (entries_of bytes) ++ ((get_or bytes (2 * i) 0 + get_or bytes (2 * i + 1) 0 * 256) ∷ [])
entries-more bytes count i e h =
    take-suc (entries_of bytes) i 0 (omega (arith, entries-length count bytes e)) ∙ ap (λ (x : ℕ). take i (entries_of bytes) ++ (x ∷ [])) (entry-is bytes count i e h)

pub all-entries : (bytes : List ℕ) (count : ℕ) → length bytes ≡ 2 * count → take count (entries_of bytes) ≡ entries_of bytes
all-entries bytes count e = take_all count (entries_of bytes) (omega (arith, entries-length count bytes e))

even-bytes : (bytes : List ℕ) → is_odd bytes ≡ false → length bytes ≡ 2 * (length bytes / 2)
unfolding is_odd
even-bytes bytes even =
    let not-one = eqb-false (length bytes % 2) 1 even in
    omega (arith, div-add-mod' (length bytes) 2, mod-lt (length bytes) {m = 2} (omega arith))

-- ---- bytes that are a list, with room for its entries
module _ (room : ℕ) (bytes : List ℕ) where
  abbrev no-list : Bool
  no-list = is_odd bytes || ltb room (length bytes / 2)

  pub no-entries : no-list ≡ true → entries_within room bytes ≡ []
  unfolding entries_within
  no-entries e = rw e

  pub entries-within : no-list ≡ false → entries_within room bytes ≡ entries_of bytes
  unfolding entries_within
  entries-within e = rw e

  pub within : no-list ≡ false → (length bytes ≡ 2 * (length bytes / 2)) × (length bytes / 2 ≤ room)
  within e = (
    even-bytes bytes (or-false-left (is_odd bytes) (ltb room (length bytes / 2)) e),
    ltb-false room (length bytes / 2) (or-false-right (is_odd bytes) (ltb room (length bytes / 2)) e),
  )

  -- there is room for what is decoded
  entries_fit : length (entries_within room bytes) ≤ room
  entries_fit = ⊎_elim
      (λ (none : no-list ≡ true). rw (no-entries none) (omega arith))
      (λ (fits : no-list ≡ false). let w = within fits in rw (entries-within fits) (omega (arith, entries-length (length bytes / 2) bytes w.0)))
      (bool_cases no-list)

-- one more entry of a list that is decoded into an area
pub decode-more : (bytes area : List ℕ) (count i : ℕ) → length bytes ≡ 2 * count → i < count → count ≤ length area
    → set (take i (entries_of bytes) ++ drop i area) i (get_or bytes (2 * i) 0 + get_or bytes (2 * i + 1) 0 * 256) ≡ take (i + 1) (entries_of bytes) ++ drop (i + 1) area
decode-more bytes area count i e h k =
    let passed : length (take i (entries_of bytes)) ≡ i = length-take-le i (entries_of bytes) (omega (arith, entries-length count bytes e)) in
    over-more (take i (entries_of bytes)) area i _ passed (omega arith) ∙ rw (add-one i, entries-more bytes count i e h)

-- what a caller lends of an area that a list was decoded into
pub count_fits : (room : ℕ) (bytes : List ℕ) (r : ℕ) → r ≡ length (entries_within room bytes) → r ≤ room
count_fits room bytes r count = rw count (entries_fit room bytes)

pub front-is : (entries rest after : List ℕ) (r : ℕ) → r ≡ length entries → after ≡ entries ++ rest → take r after ≡ entries
front-is entries rest after r count whole = rw whole (take_at entries rest r (sym count))

-- A call that refuses every list of another length alike answers for the entries decoded what it answers for the bytes. `sized` tells that the sizes are
-- in their ranges.
pub on_list : {A : Type 0} (sized : Bool) (originals : ℕ) → (sized ≡ true → (1 ≤ originals) × (originals ≤ 4096)) → (refused : ℕ → A) (answer : List ℕ → A)
    → ((list : List ℕ) → (sized ≡ true → length list ≢ originals) → answer list ≡ refused (cond sized 2 1))
    → (bytes entries : List ℕ) (r : A) → entries ≡ entries_within 4096 bytes → r ≡ answer entries
    → r ≡ cond (is_odd bytes) (refused (cond sized 2 1)) (answer (entries_of bytes))
on_list sized originals bounds refused answer refuses bytes entries r e f =
    f ∙ ap answer e ∙ ⊎_elim
    (λ (none : no-list 4096 bytes ≡ true).
    ⊎_elim
    (λ (odd : is_odd bytes ≡ true). rw odd (nothing none))
    (λ (even : is_odd bytes ≡ false). rw even (nothing none ∙ sym (too_long even (rw even at none))))
    (bool_cases (is_odd bytes)))
    (λ (fits : no-list 4096 bytes ≡ false).
    rw (entries-within 4096 bytes fits, or-false-left (is_odd bytes) (ltb 4096 (length bytes / 2)) fits))
    (bool_cases (no-list 4096 bytes))
  where
    nothing : no-list 4096 bytes ≡ true → answer (entries_within 4096 bytes) ≡ refused (cond sized 2 1)
    nothing none = refuses (entries_within 4096 bytes) (λ ranged e.
        let some = bounds ranged in
        let z = rw (no-entries 4096 bytes none) at e in
        absurd (omega (arith, some.0)))

    too_long : is_odd bytes ≡ false → ltb 4096 (length bytes / 2) ≡ true → answer (entries_of bytes) ≡ refused (cond sized 2 1)
    too_long even long = refuses (entries_of bytes) (λ ranged e.
        let over = ltb-true 4096 (length bytes / 2) long in
        let count = entries-length (length bytes / 2) bytes (even-bytes bytes even) in
        absurd (omega (arith, (bounds ranged).1)))

pub on-bytes : {A : Type 0} (Z : Sizes) (refused : ℕ → A) (answer : List ℕ → A)
    → ((list : List ℕ) → (in_range Z ≡ true → length list ≢ original_count Z) → answer list ≡ refused (cond (in_range Z) 2 1))
    → (bytes entries : List ℕ) (r : A) → entries ≡ entries_within 4096 bytes → r ≡ answer entries → r ≡ on_bytes Z refused answer bytes
on-bytes Z = on_list (in_range Z) (original_count Z) (λ ranged.
    let B = in-range Z ranged in
    let some : 1 * 1 ≤ original_count Z = mul-le-mul B.n-low B.m-low in
    (omega arith, omega (arith, small Z ranged)))
