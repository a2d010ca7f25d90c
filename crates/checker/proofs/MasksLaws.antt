-- Pages hold sums of originals below a number: at rest, after a line, and after an erase.
use Rattle.flash.proofs.Kit.{◌≡◌, sym, ap, ◌∙◌, subst, ⊎_elim, true, true≢false, ◌&&◌, List, [], ◌∷◌, ◌++◌, ℕ, zero, suc, ◌+◌, ◌*◌, ◌^◌, ◌≤◌, ◌<◌, arith, pow-lt, pow_pos, add-mul}
use Rattle.flash.proofs.Kit.{leb, ltb, length, set, take, drop, replicate, List·getD-eq-default, lt-ltb, le-ltb, ltb-true}
use lib.Bits.{xor_lt}
use Rattle.flash.specs.Lists.{all, set_part}
use Rattle.flash.specs.Geometry.{slot}
use Rattle.flash.proofs.Bools.{and_left, and_right}
use Rattle.flash.proofs.Comparisons.{lt-cases}
use Rattle.split.proofs.MaskLaws.{zeros-at}
use Rattle.checker.specs.Lines.{are_originals, is_rising, read_line}
use Rattle.checker.specs.Pages.{mask_of, resting_pages, page_written, block_erased}
use Rattle.checker.specs.Claims.{Named, is_write}
use Rattle.checker.specs.inner.Told.{wrote, said_of}
use Rattle.checker.specs.inner.Pages.{Masks}
use Rattle.checker.proofs.PageLaws.{length-resting, resting-at}
use Rattle.checker.proofs.TurnLaws.{said-write}
use Rattle.checker.proofs.LinesBack.{lines-as-printed}

-- ---- the mask of a line
rising-small : (count : ℕ) (ks : List ℕ) → all (λ k. ltb k count) ks ≡ true → mask_of ks < 2 ^ count
unfolding mask_of all
rising-small count [] e = pow_pos count
rising-small count (k ∷ ks) e =
    xor_lt count (2 ^ k) (mask_of ks) (pow-lt (ltb-true k count (and_left (ltb k count) (all (λ j. ltb j count) ks) e)))
    (rising-small count ks (and_right (ltb k count) (all (λ j. ltb j count) ks) e))

originals-small : (count : ℕ) (ks : List ℕ) → are_originals count ks ≡ true → mask_of ks < 2 ^ count
unfolding are_originals
originals-small count ks e = rising-small count ks (and_right (leb 1 (length ks) && is_rising 0 ks) (all (λ k. ltb k count) ks) e)

pub said-small : (n m step : ℕ) (text : List ℕ) (b q mask : ℕ) (after : List ℕ) → wrote b q mask after ≡ said_of (read_line n m step text) → mask < 2 ^ (n * m)
unfolding is_write
said-small n m step text b q mask after e =
    let R = read_line n m step text in
    let s = said-write R.line R.rest b q mask after e in
    ⊎_elim
    (λ o. absurd (true≢false (ap (is_write n m []) (sym s.1 ∙ o))))
    (λ N. rw s.2 (originals-small (n * m) s.0 (subst (Named n m) s.1 N.0).2))
    (lines-as-printed.only n m step text)

-- ---- lists of masks
module _ (count : ℕ) where
  masks-set : (pages : List ℕ) (t mask : ℕ) → Masks count pages → mask < 2 ^ count → Masks count (set pages t mask)
  masks-set [] t mask M h u = M u
  masks-set (page ∷ pages) zero mask M h zero = h
  masks-set (page ∷ pages) zero mask M h (suc u) = M (suc u)
  masks-set (page ∷ pages) (suc t) mask M h zero = M 0
  masks-set (page ∷ pages) (suc t) mask M h (suc u) = masks-set pages t mask (λ w. M (suc w)) h u

  masks-append : (xs ys : List ℕ) → Masks count xs → Masks count ys → Masks count (xs ++ ys)
  masks-append [] ys M N u = N u
  masks-append (x ∷ xs) ys M N zero = M 0
  masks-append (x ∷ xs) ys M N (suc u) = masks-append xs ys (λ w. M (suc w)) N u

  masks-take : (i : ℕ) (xs : List ℕ) → Masks count xs → Masks count (take i xs)
  masks-take zero xs M u = pow_pos count
  masks-take (suc i) [] M u = M u
  masks-take (suc i) (x ∷ xs) M zero = M 0
  masks-take (suc i) (x ∷ xs) M (suc u) = masks-take i xs (λ w. M (suc w)) u

  masks-drop : (i : ℕ) (xs : List ℕ) → Masks count xs → Masks count (drop i xs)
  masks-drop zero xs M u = M u
  masks-drop (suc i) [] M u = M u
  masks-drop (suc i) (x ∷ xs) M u = masks-drop i xs (λ w. M (suc w)) u

  pub masks-written : (m : ℕ) (pages : List ℕ) (block page mask : ℕ) → Masks count pages → mask < 2 ^ count → Masks count (page_written m pages block page mask)
  unfolding page_written
  masks-written m pages block page mask M h = masks-set pages (slot m block page) mask M h

  pub masks-erased : (m : ℕ) (pages : List ℕ) (block : ℕ) → Masks count pages → Masks count (block_erased m pages block)
  unfolding block_erased set_part
  masks-erased m pages block M =
      masks-append (take (block * m) pages) (replicate m 0 ++ drop (block * m + m) pages) (masks-take (block * m) pages M)
      (masks-append (replicate m 0) (drop (block * m + m) pages) (λ u. rw (zeros-at m u) (pow_pos count)) (masks-drop (block * m + m) pages M))

pub masks-resting : (n m : ℕ) → Masks (n * m) (resting_pages n m)
masks-resting n m t = ⊎_elim
    (λ (h : t < (n + 1) * m). rw (resting-at n m t h) (⊎_elim
    (λ (l : t < m). rw (lt-ltb t m l) (pow_pos (n * m)))
    (λ (l : m ≤ t). rw (le-ltb t m l) (pow-lt (omega (arith, add-mul n 1 m))))
    (lt-cases t m)))
    (λ (h : (n + 1) * m ≤ t). rw (List·getD-eq-default (resting_pages n m) 0 {n = t} (rw (length-resting n m) h)) (pow_pos (n * m)))
    (lt-cases t ((n + 1) * m))
