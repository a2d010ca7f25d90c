-- The method's own listing: what its pages hold at each place, as masks, and that every original is determined there.
use Rattle.flash.proofs.Kit.{◌≡◌, refl, sym, ap, ap₂, ◌∙◌, ⊎_elim, true, false, List, [], ◌∷◌, map, ℕ, suc, ◌+◌, ◌-◌, ◌*◌, ◌/◌, ◌%◌, ◌^◌, ◌≤◌, ◌<◌, div-add-mod', mod-lt, arith}
use Rattle.flash.proofs.Kit.{bit_xor, xor_comm, xor_zero_r, ltb, length, get_or, length-map}
use Rattle.flash.specs.Lists.{range}
use Rattle.flash.specs.declared.sizes.Sizes.{Sizes}
use Rattle.flash.specs.Geometry.{slot, block_of, number_at, slot_count}
use Rattle.flash.specs.PageSum.{◌⊕◌, sum}
use Rattle.flash.proofs.Bools.{bool_cases}
use Rattle.flash.proofs.Ranges.{length-range, all-is}
use Rattle.flash.proofs.Sums.{⊕-at}
use Rattle.flash.proofs.Xor.{xor_assoc}
use Rattle.method.specs.Move.{Move, AcceptedMove}
use Rattle.method.specs.Cycle.{coded, sent_to}
use Rattle.method.specs.Place.{Held, blank, plain, code, final, held_at, held_mark, marks_of, last_place, pass_at, filling, filled}
use Rattle.method.specs.State.{held_originals}
use Rattle.method.specs.Read.{read_slots}
use Rattle.method.proofs.basics.Indexes.{slot-div, slot-mod, slot_lt, map-range-at}
use Rattle.method.proofs.basics.MoveShape.{Shows}
use Rattle.method.proofs.cycles.SetCycles.{block_in, entry_in, sent-entry}
use Rattle.method.proofs.places.PagesHeld.{held-told, marks_of-at}
use Rattle.method.proofs.places.PlaceShape.{letter_above, which-pass, shape-filling}
use Rattle.method.proofs.states.PagesWritten.{coded-some}
use Rattle.method.proofs.walks.ReadsOriginals.{reads}
use Rattle.checker.specs.Pages.{mask_of, is_sum, are_determined}
use Rattle.checker.specs.Method.{inserted, ascending, move_by}
use Rattle.checker.proofs.SumLaws.{sum-none, sum-page, sum-xor}

-- ---- originals in rising order have the same mask
mask-inserted : (k : ℕ) (ks : List ℕ) → mask_of (inserted k ks) ≡ bit_xor (2 ^ k) (mask_of ks)
unfolding inserted mask_of
mask-inserted k [] = refl
mask-inserted k (x ∷ xs) = ⊎_elim
    (λ (e : ltb k x ≡ true). rw e)
    (λ (e : ltb k x ≡ false).
    rw (e, mask-inserted k xs)
    (sym (xor_assoc (2 ^ x) (2 ^ k) (mask_of xs)) ∙ ap (λ (y : ℕ). bit_xor y (mask_of xs)) (xor_comm (2 ^ x) (2 ^ k)) ∙ xor_assoc (2 ^ k) (2 ^ x) (mask_of xs)))
    (bool_cases (ltb k x))

pub mask-ascending : (ks : List ℕ) → mask_of (ascending ks) ≡ mask_of ks
unfolding ascending mask_of
mask-ascending [] = refl
mask-ascending (k ∷ ks) = mask-inserted k (ascending ks) ∙ ap (bit_xor (2 ^ k)) (mask-ascending ks)

-- ---- originals as pages of one number
abbrev one : ℕ → List ℕ
one k = 2 ^ k ∷ []

mask-sum : (x : ℕ) (xs : List ℕ) → sum one (x ∷ xs) ≡ mask_of (x ∷ xs) ∷ []
unfolding sum mask_of ◌⊕◌
mask-sum x [] = ap (λ (v : ℕ). v ∷ []) (sym (xor_zero_r (2 ^ x)))
mask-sum x (y ∷ ys) = ap (λ (l : List ℕ). one x ⊕ l) (mask-sum y ys)

sum_is : (xs : List ℕ) → 0 < length xs → sum one xs ≡ mask_of xs ∷ []
sum_is [] h = absurd (omega arith)
sum_is (x ∷ xs) h = mask-sum x xs

-- what pages of one number sum to is a sum of the pages
sums-in : (pages ts : List ℕ) → ((i : ℕ) → i < length ts → get_or ts i 0 < length pages) → is_sum pages (get_or (sum (λ t. get_or pages t 0 ∷ []) ts) 0 0) ≡ true
unfolding sum
sums-in pages [] inside = sum-none pages
sums-in pages (t ∷ ts) inside =
    let page : ℕ → List ℕ = λ t. get_or pages t 0 ∷ [] in
    rw (⊕-at (page t) (sum page ts) 0)
    (sum-xor pages (get_or pages t 0) (get_or (sum page ts) 0 0) (sum-page pages t (inside 0 (omega arith))) (sums-in pages ts (λ i h. inside (suc i) (omega arith))))

module _ (n m : ℕ) (list sets : List ℕ) where
  abbrev M : Move
  M = move_by n m list sets

  abbrev Z : Sizes
  Z = M.sizes

  abbrev held_mask : (place t : ℕ) → ℕ
  held_mask place t = mask_of (held_originals M (held_at Z place (t / m) (t % m)) (t / m) (t % m))

  -- the pages at a place
  unfoldable pub held : (place : ℕ) → List ℕ
  held place = map (held_mask place) (range 0 (slot_count Z))

  pub length-held : (place : ℕ) → length (held place) ≡ (n + 1) * m
  unfolding held
  length-held place = length-map (range 0 (slot_count Z)) (held_mask place) ∙ length-range 0 (slot_count Z)

  pub held-at : (place b q : ℕ) → b ≤ n → q < m → get_or (held place) (slot m b q) 0 ≡ mask_of (held_originals M (held_at Z place b q) b q)
  unfolding held
  held-at place b q h k =
      map-range-at (held_mask place) 0 (slot_count Z) (slot m b q) 0 (slot_lt m b q (n + 1) (omega arith) k)
      ∙ ap (held_mask place) (omega arith)
      ∙ ap₂ (λ (x y : ℕ). mask_of (held_originals M (held_at Z place x y) x y)) (slot-div m b q k) (slot-mod m b q k)

  pub held-as : (place b q : ℕ) → b ≤ n → q < m → (x : Held) → held_at Z place b q ≡ x → get_or (held place) (slot m b q) 0 ≡ mask_of (held_originals M x b q)
  held-as place b q h k x e = held-at place b q h k ∙ ap (λ (y : Held). mask_of (held_originals M y b q)) e

  mask_one : (k : ℕ) → mask_of (k ∷ []) ≡ 2 ^ k
  unfolding mask_of
  mask_one k = xor_zero_r (2 ^ k)

  pub held_plain : (place b q : ℕ) → b ≤ n → q < m → held_at Z place b q ≡ plain → get_or (held place) (slot m b q) 0 ≡ 2 ^ number_at m b q
  unfolding held_originals
  held_plain place b q h k e = held-as place b q h k plain e ∙ mask_one (number_at m b q)

  pub held-final : (place b q : ℕ) → b ≤ n → q < m → held_at Z place b q ≡ final → get_or (held place) (slot m b q) 0 ≡ 2 ^ sent_to M (number_at m b q)
  unfolding held_originals
  held-final place b q h k e = held-as place b q h k final e ∙ mask_one (sent_to M (number_at m b q))

  pub held-blank-page : (place b q : ℕ) → b ≤ n → q < m → held_at Z place b q ≡ blank → get_or (held place) (slot m b q) 0 ≡ 0
  unfolding held_originals mask_of
  held-blank-page place b q h k e = held-as place b q h k blank e

  coded-held : (set v : ℕ) → v - 1 + 1 ≡ v → mask_of (held_originals M code (v - 1) set) ≡ mask_of (coded M set v)
  unfolding held_originals
  coded-held set v up = ap (λ (x : ℕ). mask_of (coded M set x)) up

  module _ (A : AcceptedMove M) where
    page-in : (k : ℕ) → k % m < m
    page-in k = mod-lt k A.ranges.m-low

    -- a page number, by its block and its page
    pub number_is : (k : ℕ) → number_at m (block_of m k) (k % m) ≡ k
    number_is k = let block : k / m + 1 - 1 ≡ k / m = omega arith in rw block (div-add-mod' k m)

    shown : (place : ℕ) → Shows M (marks_of Z place) one (λ t. get_or (held place) t 0 ∷ [])
    unfolding held_mark
    shown place = record {
      whole = λ k h. refl;
      plain = λ k h e.
          let b = block_in M A k h in
          let q = page-in k in
          let is = held-told Z _ plain (sym ((marks_of-at Z place).mark-is (block_of m k) (k % m) b.high q) ∙ e) in
          ap (λ (v : ℕ). v ∷ []) (held_plain place (block_of m k) (k % m) b.high q is ∙ ap (λ (x : ℕ). 2 ^ x) (number_is k));
      code = λ set v q l u e.
          let up : v - 1 + 1 ≡ v = omega arith in
          let is = held-told Z _ code (sym ((marks_of-at Z place).mark-is (v - 1) set (omega arith) q) ∙ e) in
          ap (λ (x : ℕ). x ∷ []) (held-as place (v - 1) set (omega arith) q code is ∙ coded-held set v up) ∙ sym (sum_is (coded M set v) (coded-some M A set v));
      final = λ k h e.
          let t = get_or list k 0 in
          let b = block_in M A t (entry_in M A k h) in
          let q = page-in t in
          let is = held-told Z _ final (sym ((marks_of-at Z place).mark-is (block_of m t) (t % m) b.high q) ∙ e) in
          ap (λ (v : ℕ). v ∷ []) (held-final place (block_of m t) (t % m) b.high q is ∙ ap (λ (x : ℕ). 2 ^ sent_to M x) (number_is t) ∙ ap (λ (x : ℕ). 2 ^ x) (sent-entry M A k h));
    }

    -- while a block is being filled, every original can be computed
    pub held-determined : (place : ℕ) → place ≤ last_place Z → filled Z place < m → are_determined (n * m) (held place) ≡ true
    unfolding are_determined
    held-determined place h room = all-is (λ k. is_sum (held place) (2 ^ k)) 0 (n * m) (λ k a l.
        let marks = marks_of Z place in
        let pass = pass_at Z place in
        let shape = shape-filling Z place h marks (marks_of-at Z place) room in
        let R = reads M A marks (filling Z place) (suc (filling Z place)) k (omega arith) (letter_above pass) (which-pass pass) shape in
        let total : sum (λ t. get_or (held place) t 0 ∷ []) (read_slots M marks k) ≡ one k = R.original one (λ t. get_or (held place) t 0 ∷ []) (shown place) in
        let value : get_or (sum (λ t. get_or (held place) t 0 ∷ []) (read_slots M marks k)) 0 0 ≡ 2 ^ k = ap (λ (l : List ℕ). get_or l 0 0) total in
        rw value at (sums-in (held place) (read_slots M marks k) (λ i j. omega (arith, (R.sited i j).inside, length-held place))))
