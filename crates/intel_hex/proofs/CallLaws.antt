-- The two calls' whole answers, case by case of the table, and the parts of the store that they lend on.
use Rattle.flash.proofs.Kit.{◌≡◌, ap, ◌∙◌, Bool, true, false, ◌||◌, not, List, [], ◌++◌, append-nil, ℕ, ◌+◌, ◌-◌, ◌*◌, ◌≤◌, arith, eqb, length, take}
use Rattle.flash.proofs.Kit.{drop, replicate, length-append, length-drop, length-replicate, take-append-drop, take_all, take_at, drop_at}
use Rattle.flash.proofs.Kit.{drop_of_length-le, length-take-le, eqb-true, ne_eqb, not-false, add-mul}
use Rattle.flash.specs.Tables.{first_fit, number_or0, refusal}
use Rattle.flash.specs.declared.sizes.Sizes.{Sizes}
use Rattle.flash.specs.Geometry.{in_range, Bounds, original_count, slot_count, store_len}
use Rattle.flash.specs.Chip.{Chip, erased}
use Rattle.flash.proofs.Bools.{or-false-left, or-false-right}
use Rattle.flash.proofs.Bounds.{product_le}
use Rattle.method.specs.State.{chip_at_rest, originals_in}
use Rattle.method.specs.Answers.{bad_chip, is_elsewhere}
use Rattle.intel_hex.specs.Writing.{hex_text, hex_length}
use Rattle.intel_hex.specs.Reading.{hex_number, hex_image}
use Rattle.intel_hex.specs.Answers.{rest_sizes, spare_length, image_length, hex_write_rows, hex_read_rows, hex_write_answer, hex_read_answer}

same_length : (x y : ℕ) → not (eqb x y) ≡ false → x ≡ y
same_length x y e = eqb-true x y (not-false (eqb x y) e)

-- ---- lengths
module _ (Z : Sizes) (chip : Chip) where
  abbrev store : List ℕ
  store = chip.store

  pub chip-lengths : bad_chip Z chip ≡ false → (length store ≡ store_len Z) × (length chip.marks ≡ slot_count Z)
  unfolding bad_chip
  chip-lengths e = (
    same_length (length store) (store_len Z)
        (or-false-left (not (eqb (length store) (store_len Z))) (not (eqb (length chip.marks) (slot_count Z))) e),
    same_length (length chip.marks) (slot_count Z)
        (or-false-right (not (eqb (length store) (store_len Z))) (not (eqb (length chip.marks) (slot_count Z))) e),
  )

  pub write-lengths : (text : List ℕ) → (bad_chip Z chip || not (eqb (length text) (hex_length (image_length Z)))) ≡ false
      → (length store ≡ store_len Z) × (length chip.marks ≡ slot_count Z) × (length text ≡ hex_length (image_length Z))
  write-lengths text e =
      let other : Bool = not (eqb (length text) (hex_length (image_length Z))) in
      let L = chip-lengths (or-false-left (bad_chip Z chip) other e) in
      (L.0, L.1, same_length (length text) (hex_length (image_length Z)) (or-false-right (bad_chip Z chip) other e))

-- the store is the spare's bytes and the image
pub spare-and-image : (Z : Sizes) → store_len Z ≡ spare_length Z + image_length Z
spare-and-image Z =
    let a = add-mul Z.n 1 Z.m in
    let b = add-mul (Z.n * Z.m) (1 * Z.m) Z.p in
    let one : 1 * Z.m ≡ Z.m = omega arith in
    ap (λ (x : ℕ). x * Z.p) a ∙ b ∙ rw one (omega arith)

-- and the marks are those of the spare's pages and the others
pub pages-fit : (Z : Sizes) → Z.m ≤ slot_count Z
pages-fit Z = omega (arith, add-mul Z.n 1 Z.m)

pub other-pages : (Z : Sizes) → slot_count Z - Z.m ≡ original_count Z
other-pages Z = omega (arith, add-mul Z.n 1 Z.m)

pub image-small : (Z : Sizes) → Bounds Z → image_length Z ≤ 16777216
image-small Z B = product_le (Z.n * Z.m) Z.p (product_le Z.n Z.m B.n-high B.m-high) B.p-high

pub spare-small : (Z : Sizes) → Bounds Z → spare_length Z ≤ 262144
spare-small Z B = product_le Z.m Z.p B.m-high B.p-high

module _ (Z : Sizes) (store : List ℕ) (e : length store ≡ store_len Z) where
  abbrev image : List ℕ
  image = take (length store - spare_length Z) (drop (spare_length Z) store)

  pub spare-fits : spare_length Z ≤ length store
  spare-fits = omega (arith, spare-and-image Z)

  pub image-is : image ≡ drop (spare_length Z) store
  image-is = take_all (length store - spare_length Z) (drop (spare_length Z) store) (omega (arith, length-drop (spare_length Z) store))

  pub image-length : length image ≡ image_length Z
  image-length = ap length image-is ∙ length-drop (spare_length Z) store ∙ omega (arith, spare-and-image Z)

  -- an image put back behind the spare
  abbrev pub put_back : (after : List ℕ) → List ℕ
  put_back after = take (spare_length Z) store ++ (after ++ drop (length store - spare_length Z) (drop (spare_length Z) store))

  pub put_same : put_back image ≡ store
  put_same = rw (take-append-drop (length store - spare_length Z) (drop (spare_length Z) store)) (take-append-drop (spare_length Z) store)

  pub put-behind : (after : List ℕ) → drop (spare_length Z) (put_back after) ≡ after
  put-behind after =
      let n = length-take-le (spare_length Z) store spare-fits in
      let d = drop_of_length-le (drop (spare_length Z) store) {i = length store - spare_length Z} (omega (arith, length-drop (spare_length Z) store)) in
      drop_at (take (spare_length Z) store) (after ++ drop (length store - spare_length Z) (drop (spare_length Z) store)) (spare_length Z) n
      ∙ rw (d, append-nil)

  pub put-length : (after : List ℕ) → length (put_back after) ≡ spare_length Z + length after
  put-length after =
      let n = length-take-le (spare_length Z) store spare-fits in
      let d = drop_of_length-le (drop (spare_length Z) store) {i = length store - spare_length Z} (omega (arith, length-drop (spare_length Z) store)) in
      rw (d, append-nil) (length-append (take (spare_length Z) store) after ∙ omega arith)

-- ---- the cases of the two answers
module _ (n m p : ℕ) (chip : Chip) (text : List ℕ) where
  abbrev Z : Sizes
  Z = rest_sizes n m p

  abbrev Wrote : (number : ℕ) → (after : List ℕ) → Type 0
  Wrote number after = record { number = number; text = after } ≡ hex_write_answer n m p chip text

  abbrev Left : (number : ℕ) → (store marks : List ℕ) → Type 0
  Left number store marks = record { number = number; chip = record { store = store; marks = marks } } ≡ hex_read_answer n m p text chip

  abbrev bad_write : Bool
  bad_write = bad_chip Z chip || not (eqb (length text) (hex_length (image_length Z)))

  pub write-1 : in_range Z ≡ false → Wrote 1 text
  unfolding hex_write_answer hex_write_rows refusal first_fit number_or0
  write-1 e = rw e

  pub read-1 : in_range Z ≡ false → Left 1 chip.store chip.marks
  unfolding hex_read_answer hex_read_rows refusal first_fit number_or0
  read-1 e = rw e

  module _ (r : in_range Z ≡ true) where
    pub write-2 : bad_write ≡ true → Wrote 2 text
    unfolding hex_write_answer hex_write_rows refusal first_fit number_or0
    write-2 e = rw (r, e)

    pub write-5 : bad_write ≡ false → true ≡ is_elsewhere Z chip 0 → Wrote 5 text
    unfolding hex_write_answer hex_write_rows refusal first_fit number_or0
    write-5 e f = rw (r, e, ← f)

    pub write-0 : bad_write ≡ false → false ≡ is_elsewhere Z chip 0 → (after : List ℕ) → after ≡ hex_text (originals_in Z chip) → Wrote 0 after
    unfolding hex_write_answer hex_write_rows refusal first_fit number_or0
    write-0 e f after t = rw (r, e, ← f, t)

    pub read-2 : bad_chip Z chip ≡ true → Left 2 chip.store chip.marks
    unfolding hex_read_answer hex_read_rows refusal first_fit number_or0
    read-2 e = rw (r, e)

    pub read-text : bad_chip Z chip ≡ false → (number : ℕ) → number ≡ hex_number (image_length Z) text → (number ≡ 0 → ⊥)
        → (store : List ℕ) → store ≡ chip.store → Left number store chip.marks
    unfolding hex_read_answer hex_read_rows refusal first_fit number_or0
    read-text e number q f store s = rw (r, e, ← q, ne_eqb number 0 f, s) (rw (ne_eqb number 0 f))

    pub read-0 : bad_chip Z chip ≡ false → hex_number (image_length Z) text ≡ 0 → (store marks : List ℕ)
        → store ≡ replicate (spare_length Z) erased ++ hex_image (image_length Z) text → marks ≡ replicate m erased ++ replicate (original_count Z) 0
        → Left 0 store marks
    unfolding hex_read_answer hex_read_rows refusal first_fit number_or0 chip_at_rest
    read-0 e q store marks s t = rw (r, e, q, s, t)

-- ---- what the reader sets beside the image
pub rest-marks : (marks front rear : List ℕ) (pages : ℕ) → pages ≤ length marks → front ≡ replicate (length (take pages marks)) erased
    → (let whole = front ++ drop pages marks in
    rear ≡ replicate (length (take (length whole - pages) (drop pages whole))) 0
    → take pages whole ++ (rear ++ drop (length whole - pages) (drop pages whole)) ≡ replicate pages erased ++ replicate (length marks - pages) 0)
rest-marks marks front rear pages h e f =
    let whole : List ℕ = front ++ drop pages marks in
    let few : length front ≡ pages = ap length e ∙ length-replicate (length (take pages marks)) erased ∙ length-take-le pages marks h in
    let n : length whole ≡ length marks = length-append front (drop pages marks) ∙ omega (arith, length-drop pages marks) in
    let d : drop pages whole ≡ drop pages marks = drop_at front (drop pages marks) pages few in
    let t : take pages whole ≡ front = take_at front (drop pages marks) pages few in
    let k : length (drop pages marks) ≡ length marks - pages = length-drop pages marks in
    let all : take (length marks - pages) (drop pages marks) ≡ drop pages marks = take_all (length marks - pages) (drop pages marks) (omega arith) in
    let none : drop (length marks - pages) (drop pages marks) ≡ [] = drop_of_length-le (drop pages marks) {i = length marks - pages} (omega arith) in
    let ones : front ≡ replicate pages erased = e ∙ ap (λ (x : ℕ). replicate x erased) (length-take-le pages marks h) in
    let zeros : rear ≡ replicate (length marks - pages) 0 = rw (n, d, all, k) at f in
    rw (n, d, t, none, append-nil, ones, zeros)
