-- Laws of the pages: at rest, where they lie, and what a write or an erase leaves determined.
use Rattle.flash.proofs.Kit.{◌≡◌, refl, sym, ap, ap₂, ◌∙◌, ◌≢◌, ⊎_elim, Bool, true, false, cond, not, ◌&&◌, ◌||◌, List, [], ◌∷◌, ◌++◌, map, ℕ, zero, suc, ◌+◌, ◌-◌, ◌*◌, ◌^◌, ◌≤◌, ◌<◌}
use Rattle.flash.proofs.Kit.{div-add-mod', add-mul, arith, ltb, length, get_or, set, take, drop, replicate, length-append, length-map, length-replicate, get_or-replicate}
use Rattle.flash.proofs.Kit.{List·getD-append, get_or-append-add, lt-ltb, le-ltb, eqb, eqb-true, ne_eqb, bit_xor, xor_zero_r, take_at, drop_at, drop-cons, drop-drop, length-take-le}
use Rattle.std.specs.List.{list_all}
use Rattle.flash.specs.Lists.{range, all, any, set_part}
use Rattle.flash.specs.Geometry.{slot, slot_of}
use Rattle.flash.proofs.Bools.{or_cases}
use Rattle.flash.proofs.Comparisons.{lt-cases}
use Rattle.flash.proofs.Ranges.{length-range, all_in, all-is, none_in}
use Rattle.method.proofs.basics.Indexes.{map-range-at}
use Rattle.checker.specs.Pages.{resting_pages, is_blank, is_bad_write, page_written, block_erased, is_sum, are_determined, survives}
use Rattle.checker.proofs.SumLaws.{sum-without, sum-with, sum-page}

-- slot m + k is that of page number k
pub slot_is : (m k : ℕ) → slot_of m k ≡ m + k
slot_is m k = omega (arith, div-add-mod' k m)

-- ---- a part that is blank
not-both : (a b : Bool) → not (a && b) ≡ (not a || not b)
not-both true b = refl
not-both false b = refl

pub blank-part : (pages : List ℕ) (start size : ℕ) → start + size ≤ length pages
    → list_all (λ page. eqb page 0) (take size (drop start pages)) ≡ all (is_blank pages) (range start size)
unfolding range all
blank-part pages start zero h = refl
blank-part pages start (suc size) h =
    rw (drop-cons pages start 0 (omega arith)) (ap (λ (t : Bool). is_blank pages start && t) (blank-part pages (suc start) size (omega arith)))

pub bad-part : (pages : List ℕ) (m block page size : ℕ) → block * m + page + size ≤ length pages
    → not (list_all (λ page. eqb page 0) (take size (drop (block * m + page) pages)))
    ≡ any (λ q. not (is_blank pages (slot m block q))) (range page size)
unfolding range any
bad-part pages m block page zero h = refl
bad-part pages m block page (suc size) h =
    let next : block * m + suc page ≡ suc (block * m + page) = omega arith in
    rw (drop-cons pages (block * m + page) 0 (omega arith))
    (not-both (is_blank pages (block * m + page)) _
    ∙ ap (λ (t : Bool). not (is_blank pages (block * m + page)) || t) (rw next at (bad-part pages m block (suc page) size (omega arith))))

-- ---- at rest
abbrev plain : (n m : ℕ) → List ℕ
plain n m = map (λ k. 2 ^ k) (range 0 (n * m))

pub length-resting : (n m : ℕ) → length (resting_pages n m) ≡ (n + 1) * m
unfolding resting_pages
length-resting n m =
    length-append (replicate m 0) (plain n m)
    ∙ omega (arith, length-replicate {A = ℕ} m 0, length-map (range 0 (n * m)) (λ k. 2 ^ k), length-range 0 (n * m), add-mul n 1 m)

pub resting-at : (n m t : ℕ) → t < (n + 1) * m → get_or (resting_pages n m) t 0 ≡ cond (ltb t m) 0 (2 ^ (t - m))
unfolding resting_pages
resting-at n m t h = ⊎_elim
    (λ (l : t < m).
    let inside : t < length (replicate {A = ℕ} m 0) = omega (arith, length-replicate {A = ℕ} m 0) in
    List·getD-append (replicate m 0) (plain n m) 0 t inside ∙ get_or-replicate m t 0 0 l ∙ rw (lt-ltb t m l))
    (λ (l : m ≤ t).
    let at : length (replicate {A = ℕ} m 0) + (t - m) ≡ t = omega (arith, length-replicate {A = ℕ} m 0) in
    let first : 0 + (t - m) ≡ t - m = omega arith in
    ap (λ (i : ℕ). get_or (replicate m 0 ++ plain n m) i 0) (sym at)
    ∙ get_or-append-add (replicate m 0) (plain n m) (t - m) 0
    ∙ map-range-at (λ k. 2 ^ k) 0 (n * m) (t - m) 0 (omega (arith, add-mul n 1 m))
    ∙ rw (first, le-ltb t m l))
    (lt-cases t m)

pub resting-determined : (n m : ℕ) → are_determined (n * m) (resting_pages n m) ≡ true
unfolding are_determined
resting-determined n m = all-is (λ k. is_sum (resting_pages n m) (2 ^ k)) 0 (n * m) (λ k a h.
    let inside : m + k < (n + 1) * m = omega (arith, add-mul n 1 m) in
    let back : m + k - m ≡ k = omega arith in
    let holds : get_or (resting_pages n m) (m + k) 0 ≡ 2 ^ k = resting-at n m (m + k) inside ∙ rw (le-ltb (m + k) m (omega arith), back) in
    rw holds at (sum-page (resting_pages n m) (m + k) (rw (length-resting n m) inside)))

-- ---- a write to a blank page
-- what was a sum of pages stays one
sum_kept : (pages : List ℕ) (t mask v : ℕ) → get_or pages t 0 ≡ 0 → is_sum pages v ≡ true → is_sum (set pages t mask) v ≡ true
unfolding is_sum
sum_kept [] t mask v z s = s
sum_kept (page ∷ pages) zero mask v z s =
    sum-without mask pages v (⊎_elim
    (λ (e : is_sum pages v ≡ true). e)
    (λ (e : is_sum pages (bit_xor v page) ≡ true). rw (z, xor_zero_r) at e)
    (or_cases (is_sum pages v) (is_sum pages (bit_xor v page)) s))
sum_kept (page ∷ pages) (suc t) mask v z s = ⊎_elim
    (λ (e : is_sum pages v ≡ true). sum-without page (set pages t mask) v (sum_kept pages t mask v z e))
    (λ (e : is_sum pages (bit_xor v page) ≡ true). sum-with page (set pages t mask) v (sum_kept pages t mask (bit_xor v page) z e))
    (or_cases (is_sum pages v) (is_sum pages (bit_xor v page)) s)

set_back : (pages : List ℕ) (t mask : ℕ) → get_or pages t 0 ≡ 0 → set (set pages t mask) t 0 ≡ pages
set_back [] t mask z = refl
set_back (page ∷ pages) zero mask z = ap (λ (x : ℕ). x ∷ pages) (sym z)
set_back (page ∷ pages) (suc t) mask z = ap (λ (l : List ℕ). page ∷ l) (set_back pages t mask z)

not-false-true : (t : Bool) → not t ≡ false → t ≡ true
not-false-true true e = refl
not-false-true false e = sym e

module _ (m : ℕ) (pages : List ℕ) (block page : ℕ) (inside : page < m) (good : is_bad_write m pages block page ≡ false) where
  pub was-blank : get_or pages (slot m block page) 0 ≡ 0
  unfolding is_bad_write
  was-blank =
      eqb-true (get_or pages (slot m block page) 0) 0
      (not-false-true (is_blank pages (slot m block page)) (none_in (λ q. not (is_blank pages (slot m block q))) page (m - page) good page (omega arith) (omega arith)))

  pub written-determined : (count mask : ℕ) → are_determined count pages ≡ true → are_determined count (page_written m pages block page mask) ≡ true
  unfolding are_determined page_written
  written-determined count mask d =
      all-is (λ k. is_sum (set pages (slot m block page) mask) (2 ^ k)) 0 count (λ k a h.
      sum_kept pages (slot m block page) mask (2 ^ k) was-blank (all_in (λ k. is_sum pages (2 ^ k)) 0 count d k a h))

  -- with that page taken as lost, the pages are what they were
  pub write-back : (mask : ℕ) → page_written m (page_written m pages block page mask) block page 0 ≡ pages
  unfolding page_written
  write-back mask = set_back pages (slot m block page) mask was-blank

  pub write-survives : (count mask : ℕ) → are_determined count pages ≡ true
      → survives count (page_written m pages block page mask) (page_written m (page_written m pages block page mask) block page 0) ≡ true
  unfolding survives
  write-survives count mask d = rw (written-determined count mask d) (ap (are_determined count) (write-back mask) ∙ d)

-- ---- an erase: with the block taken as lost, nothing more is lost
pub erased-twice : (m : ℕ) (pages : List ℕ) (block : ℕ) → block * m + m ≤ length pages
    → block_erased m (block_erased m pages block) block ≡ block_erased m pages block
unfolding block_erased set_part
erased-twice m pages block h =
    let front = take (block * m) pages in
    let zeros = replicate {A = ℕ} m 0 in
    let back = drop (block * m + m) pages in
    let size : length front ≡ block * m = length-take-le (block * m) pages (omega arith) in
    let tail : drop (block * m + m) (front ++ (zeros ++ back)) ≡ back =
    sym (drop-drop m (block * m) (front ++ (zeros ++ back))) ∙ ap (drop m) (drop_at front (zeros ++ back) (block * m) size) ∙ drop_at zeros back m (length-replicate m 0) in
    ap₂ (λ (x y : List ℕ). x ++ (zeros ++ y)) (take_at front (zeros ++ back) (block * m) size) tail

pub erase-survives : (count m : ℕ) (pages : List ℕ) (block : ℕ) → block * m + m ≤ length pages
    → survives count (block_erased m pages block) (block_erased m (block_erased m pages block) block) ≡ are_determined count (block_erased m pages block)
unfolding survives
erase-survives count m pages block h = rw (erased-twice m pages block h) (and_same (are_determined count (block_erased m pages block)))
  where
    and_same : (t : Bool) → (t && t) ≡ t
    and_same true = refl
    and_same false = refl

-- where the list sends an original
module _ (pages list : List ℕ) (m k r v : ℕ) (e : r ≡ get_or list k 0) (w : v ≡ 2 ^ k) where
  pub placed-elsewhere : get_or pages (m + r) 0 ≢ v → eqb (get_or pages (slot_of m (get_or list k 0)) 0) (2 ^ k) ≡ false
  placed-elsewhere q = rw (slot_is m (get_or list k 0), ← e) (ne_eqb _ _ (λ f. q (f ∙ sym w)))
