-- What a split says: each set has just one page from each data block and just one page to each; and what makes one.
-- The layer above relies on these laws and on nothing of the rule.
use Rattle.flash.proofs.Kit.{◌≡◌, refl, sym, ap, ap₂, ◌∙◌, Bool, true, ◌&&◌, List, ℕ, zero, suc, ◌+◌, ◌-◌, ◌*◌, ◌/◌, ◌%◌, ◌≤◌, ◌<◌, mul-le-mul_right}
use Rattle.flash.proofs.Kit.{div-lt_iff_lt-mul, mul-add-div_right, div-eq_of_lt, mul-zero, arith, eqb, ltb, length, get_or, eqb-true, eq-eqb, ltb-true}
use Rattle.flash.proofs.Kit.{lt-ltb, suc-mul, div-add-mod'}
use Rattle.flash.specs.Lists.{range, all, count, first}
use Rattle.flash.specs.Geometry.{block_of}
use Rattle.split.specs.OneToOne.{is_one_to_one}
use Rattle.split.specs.Split.{source_block, dest_block, set_of, pages_from, pages_to, is_split}
use Rattle.flash.proofs.Bools.{and_left, and_right, and_both}
use Rattle.flash.proofs.Searches.{all-at, all_of}
use Rattle.flash.proofs.Ranges.{all_in, all-is, first-hit, count-one, one-counted}
use Rattle.split.proofs.Pigeon.{onto}
use Rattle.split.proofs.OneToOneLaws.{entry_lt, entry-same}

-- a number is told by its block and by its place in the block
pub same_place : (m x y : ℕ) → block_of m x ≡ block_of m y → x % m ≡ y % m → x ≡ y
same_place m x y d r =
    let e : x / m ≡ y / m = omega arith in
    sym (div-add-mod' x m) ∙ ap₂ (λ (i j : ℕ). i * m + j) e r ∙ div-add-mod' y m

-- a page of a set at a block; `block` tells the block of each page, at its source or at its destination
pub record PageOf (originals : ℕ) (sets : List ℕ) (block : ℕ → ℕ) (set at k : ℕ) : Type 0 where
  pub inside : k < originals
  pub in-set : set_of sets k ≡ set
  pub at_block : block k ≡ at

-- pages of one set at one block are one page
abbrev pub Proper : (originals : ℕ) → List ℕ → (block : ℕ → ℕ) → Type 0
Proper originals sets block = (x y : ℕ) → x < originals → y < originals → block x ≡ block y → set_of sets x ≡ set_of sets y → x ≡ y

-- there is something in each block
pub some-page : (n m : ℕ) {k : ℕ} → k < n * m → 0 < m
some-page n zero h = absurd (omega (arith, mul-zero n))
some-page n (suc m) h = omega arith

pub block-range : (n m place : ℕ) → place < n * m → (1 ≤ block_of m place) × (block_of m place ≤ n)
block-range n m place h = let d = (div-lt_iff_lt-mul (some-page n m h)).1 h in (omega arith, omega arith)

-- the places of a block
pub place-block : (m b j : ℕ) → 1 ≤ b → j < m → block_of m ((b - 1) * m + j) ≡ b
place-block m b j l h =
    let e : ((b - 1) * m + j) / m ≡ (b - 1) + j / m = mul-add-div_right (omega arith) (b - 1) j in
    let f : j / m ≡ 0 = div-eq_of_lt h in
    omega arith

place-lt : (n m b j : ℕ) → 1 ≤ b → b ≤ n → j < m → (b - 1) * m + j < n * m
place-lt n m b j l h k = omega (arith, mul-le-mul_right {m = suc (b - 1)} {n = n} m (omega arith), suc-mul (b - 1) m)

-- ---- what a split says
module _ (n m : ℕ) (list sets : List ℕ) (split : is_split n m list sets ≡ true) where
  pub set-lt : (k : ℕ) → k < length sets → set_of sets k < m
  unfolding is_split set_of
  set-lt k h = ltb-true (get_or sets k 0) m (all-at (λ set. ltb set m) sets k 0 (and_left (all (λ set. ltb set m) sets) _ split) h)

  ones : (set block : ℕ) → set < m → 1 ≤ block → block ≤ n
      → (eqb (pages_from n m list sets set block) 1 && eqb (pages_to n m list sets set block) 1) ≡ true
  unfolding is_split
  ones set block h l u =
      all_in _ 1 n (all_in _ 0 m (and_right (all (λ set. ltb set m) sets) _ split) set (omega arith)
      (omega arith)) block l (omega arith)

  from_one : (set block : ℕ) → set < m → 1 ≤ block → block ≤ n → pages_from n m list sets set block ≡ 1
  from_one set block h l u = eqb-true _ 1 (and_left _ (eqb (pages_to n m list sets set block) 1) (ones set block h l u))

  to_one : (set block : ℕ) → set < m → 1 ≤ block → block ≤ n → pages_to n m list sets set block ≡ 1
  to_one set block h l u = eqb-true _ 1 (and_right (eqb (pages_from n m list sets set block) 1) _ (ones set block h l u))

  -- at one end: `block` is the block of each page there
  module _ (block : ℕ → ℕ) (one : (set at : ℕ) → set < m → 1 ≤ at → at ≤ n
      → count (λ k. eqb (set_of sets k) set && eqb (block k) at) (range 0 (n * m)) ≡ 1) where
    a-page : (set at : ℕ) → set < m → 1 ≤ at → at ≤ n → (k : ℕ) × PageOf (n * m) sets block set at k
    a-page set at h l u =
        let test : ℕ → Bool = λ k. eqb (set_of sets k) set && eqb (block k) at in
        let k = first test (range 0 (n * m)) 0 in
        let r = count-one test 0 (n * m) 0 (one set at h l u) in (
          k,
          record {
            inside = omega (arith, r.high);
            in-set = eqb-true (set_of sets k) set (and_left (eqb (set_of sets k) set) (eqb (block k) at) r.passes);
            at_block = eqb-true (block k) at (and_right (eqb (set_of sets k) set) (eqb (block k) at) r.passes);
          },
        )

    proper : length sets ≡ n * m → ((k : ℕ) → k < n * m → (1 ≤ block k) × (block k ≤ n)) → Proper (n * m) sets block
    proper len blocks x y h l b s =
        let e = one (set_of sets y) (block y) (set-lt y (omega arith)) (blocks y l).0 (blocks y l).1 in
        let r = count-one (λ k. eqb (set_of sets k) (set_of sets y) && eqb (block k) (block y)) 0 (n * m) 0 e in
        r.others x (omega arith) (omega arith) (and_both _ _ (eq-eqb (set_of sets x) (set_of sets y) s) (eq-eqb (block x) (block y) b))
        ∙ sym (r.others y (omega arith) (omega arith) (and_both _ _ (eq-eqb (set_of sets y) (set_of sets y) refl) (eq-eqb (block y) (block y) refl)))

  -- each set has a page from each block, and a page to each block
  pub page-from : (set block : ℕ) → set < m → 1 ≤ block → block ≤ n → (k : ℕ) × PageOf (n * m) sets (source_block m) set block k
  unfolding pages_from
  page-from = a-page (source_block m) from_one

  pub page-to : (set block : ℕ) → set < m → 1 ≤ block → block ≤ n → (k : ℕ) × PageOf (n * m) sets (dest_block m list) set block k
  unfolding pages_to
  page-to = a-page (dest_block m list) to_one

  -- and no more than one
  pub same_from : length sets ≡ n * m → Proper (n * m) sets (source_block m)
  unfolding pages_from source_block
  same_from len = proper (source_block m) from_one len (λ k h. block-range n m k h)

  pub same-to : length sets ≡ n * m → length list ≡ n * m → is_one_to_one (n * m) list ≡ true → Proper (n * m) sets (dest_block m list)
  unfolding pages_to dest_block
  same-to len listed accepted = proper (dest_block m list) to_one len
      (λ k h. block-range n m (get_or list k 0) (entry_lt (n * m) list accepted k (omega arith)))

-- ---- what makes a split
-- At one end: the pages go to `place`s one-to-one, and no two of a block share a set. A block has m places, and so each set.
module _ (n m : ℕ) (sets : List ℕ) (small : (k : ℕ) → k < n * m → set_of sets k < m)
    (place : ℕ → ℕ) (into : (k : ℕ) → k < n * m → place k < n * m)
    (same : (x y : ℕ) → x < n * m → y < n * m → place x ≡ place y → x ≡ y)
    (proper : Proper (n * m) sets (λ k. block_of m (place k))) where
  -- the page at place j of a block, and its set
  page : (at j : ℕ) → ℕ
  page at j = first (λ k. eqb (place k) ((at - 1) * m + j)) (range 0 (n * m)) 0

  page-is : (at j : ℕ) → 1 ≤ at → at ≤ n → j < m → (page at j < n * m) × (place (page at j) ≡ (at - 1) * m + j)
  unfolding page
  page-is at j l u h =
      let t = (at - 1) * m + j in
      let r = onto (n * m) place into same t (place-lt n m at j l u h) in
      let f = first-hit (λ k. eqb (place k) t) 0 (n * m) r.0 0 (omega arith) (omega (arith, r.1))
      (eq-eqb (place r.0) t r.2) in
      (omega (arith, f.high), eqb-true _ t f.passes)

  page-at : (at j : ℕ) → 1 ≤ at → at ≤ n → j < m → block_of m (place (page at j)) ≡ at
  page-at at j l u h = ap (block_of m) (page-is at j l u h).1 ∙ place-block m at j l h

  -- m pages of m different sets
  each_set : (set at : ℕ) → set < m → 1 ≤ at → at ≤ n → (j : ℕ) × (j < m) × (set_of sets (page at j) ≡ set)
  each_set set at h l u = onto m (λ j. set_of sets (page at j)) (λ j g. small (page at j) (page-is at j l u g).0) differ set h
    where
      differ : (i j : ℕ) → i < m → j < m → set_of sets (page at i) ≡ set_of sets (page at j) → i ≡ j
      differ i j a b e =
          let p = page-is at i l u a in
          let q = page-is at j l u b in
          let s = proper (page at i) (page at j) p.0 q.0 (page-at at i l u a ∙ sym (page-at at j l u b)) e in
          let t : (at - 1) * m + i ≡ (at - 1) * m + j = sym p.1 ∙ ap place s ∙ q.1 in
          omega arith

  one_each : (set at : ℕ) → set < m → 1 ≤ at → at ≤ n
      → count (λ k. eqb (set_of sets k) set && eqb (block_of m (place k)) at) (range 0 (n * m)) ≡ 1
  one_each set at h l u =
      let r = each_set set at h l u in
      let k = page at r.0 in
      let k_lt : k < n * m = (page-is at r.0 l u r.1).0 in
      let k-at : block_of m (place k) ≡ at = page-at at r.0 l u r.1 in
      one-counted (λ k. eqb (set_of sets k) set && eqb (block_of m (place k)) at) 0 (n * m) k (record {
        low = omega arith;
        high = omega arith;
        passes = and_both _ _ (eq-eqb (set_of sets k) set r.2) (eq-eqb (block_of m (place k)) at k-at);
        others = λ y a b t.
            let p = eqb-true (set_of sets y) set (and_left _ (eqb (block_of m (place y)) at) t) in
            let q = eqb-true (block_of m (place y)) at (and_right (eqb (set_of sets y) set) _ t) in
            proper y k (omega arith) k_lt (q ∙ sym k-at) (p ∙ sym r.2);
      })

pub split-of : (n m : ℕ) (list sets : List ℕ) → length list ≡ n * m → is_one_to_one (n * m) list ≡ true → length sets ≡ n * m
    → ((k : ℕ) → k < n * m → set_of sets k < m) → Proper (n * m) sets (source_block m) → Proper (n * m) sets (dest_block m list)
    → is_split n m list sets ≡ true
unfolding is_split pages_from pages_to source_block dest_block set_of
split-of n m list sets listed accepted len small from to =
    and_both _ _
    (all_of (λ set. ltb set m) sets 0 (λ k h. lt-ltb (get_or sets k 0) m (small' k h)))
    (all-is _ 0 m (λ set a h. all-is _ 1 n (λ block l u. and_both _ _
    (eq-eqb _ 1 (one_each n m sets small (λ k. k) (λ k h. h) (λ x y h l e. e) from set block (omega arith) l (omega arith)))
    (eq-eqb _ 1 (one_each n m sets small (λ k. get_or list k 0) (λ k h. entry_lt (n * m) list accepted k (omega arith))
    (λ x y h l e. entry-same (n * m) list accepted x y (omega arith) (omega arith) e) to set block (omega arith) l (omega arith))))))
  where
    small' : (k : ℕ) → k < length sets → get_or sets k 0 < m
    small' k h = small k (omega arith)
