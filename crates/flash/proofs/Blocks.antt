-- Laws of marks: when a block is full of a letter, or unfinished.
use Rattle.flash.proofs.Kit.{◌≡◌, refl, sym, ◌∙◌, ◌≢◌, Bool, true, false, or-true, List, [], ◌∷◌, ℕ, zero, suc, ◌+◌, ◌*◌, ◌≤◌, ◌<◌}
use Rattle.flash.proofs.Kit.{not-suc-le-zero, le_of_suc-le-suc, arith, eqb, length, get_or, eqb-true, eq-eqb, ne_eqb}
use Rattle.flash.specs.Lists.{all, part}
use Rattle.flash.specs.Geometry.{slot}
use Rattle.flash.specs.Chip.{erased, mark_at, is_full, is_unfinished}
use Rattle.flash.proofs.Bools.{never_both, fails, bool_eq}
use Rattle.flash.proofs.Searches.{all-at, all_of}
use Rattle.flash.proofs.Ranges.{all_in, all-is, all-not}
use Rattle.flash.proofs.Parts.{length_part, part_at}

-- what a list has at an index within it does not depend on the default
pub get_d_any : (xs : List ℕ) (i d e : ℕ) → i < length xs → get_or xs i d ≡ get_or xs i e
get_d_any [] i d e h = absurd (not-suc-le-zero h)
get_d_any (x ∷ xs) zero d e h = refl
get_d_any (x ∷ xs) (suc i) d e h = get_d_any xs i d e (le_of_suc-le-suc h)

-- the mark of a slot that there is
pub mark-is : (marks : List ℕ) (t : ℕ) → t < length marks → mark_at marks t ≡ get_or marks t 0
unfolding mark_at
mark-is marks t h = get_d_any marks t erased 0 h

pub first-mark : (m : ℕ) (marks : List ℕ) (block : ℕ) → 0 < m → block * m + m ≤ length marks
    → mark_at marks (slot m block 0) ≡ get_or marks (block * m) 0
first-mark m marks block h fits =
    let start : block * m + 0 ≡ block * m = omega arith in
    rw start (mark-is marks (block * m) (omega arith))

module _ (m : ℕ) (marks : List ℕ) (block : ℕ) where
  abbrev marked : ℕ → ℕ → Bool
  marked letter page = eqb (mark_at marks (slot m block page)) letter

  -- full: each mark is the letter
  pub full_at : (letter page : ℕ) → is_full m marks block letter ≡ true → page < m
      → mark_at marks (slot m block page) ≡ letter
  unfolding is_full
  full_at letter page e h = eqb-true _ _ (all_in (marked letter) 0 m e page (omega arith) (omega arith))

  pub full-of : (letter : ℕ) → ((page : ℕ) → page < m → mark_at marks (slot m block page) ≡ letter)
      → is_full m marks block letter ≡ true
  unfolding is_full
  full-of letter f = all-is (marked letter) 0 m (λ page a b. eq-eqb _ _ (f page (omega arith)))

  pub not_full : (letter page : ℕ) → page < m → mark_at marks (slot m block page) ≢ letter
      → is_full m marks block letter ≡ false
  unfolding is_full
  not_full letter page h ne = all-not (marked letter) 0 m page (omega arith) (omega arith) (ne_eqb _ _ ne)

  -- full of one letter, and of no other
  pub full-same : (letter other : ℕ) → 0 < m → is_full m marks block letter ≡ true → is_full m marks block other ≡ true
      → letter ≡ other
  full-same letter other h e f = sym (full_at letter 0 e h) ∙ full_at other 0 f h

  -- a block that is full of a letter is finished
  pub full-finished : (letter : ℕ) → letter < 3 → is_full m marks block letter ≡ true
      → is_unfinished m marks block ≡ false
  unfolding is_unfinished
  full-finished zero h e = rw e
  full-finished (suc zero) h e = rw (e, or-true)
  full-finished (suc (suc zero)) h e = rw (e, or-true)
  full-finished (suc (suc (suc letter))) h e = absurd (omega arith)

  pub unfinished-at : (letter : ℕ) → letter < 3 → is_unfinished m marks block ≡ true
      → is_full m marks block letter ≡ false
  unfinished-at letter h u = fails (λ e. never_both u (full-finished letter h e))

  pub unfinished-of : ((letter : ℕ) → letter < 3 → is_full m marks block letter ≡ false)
      → is_unfinished m marks block ≡ true
  unfolding is_unfinished
  unfinished-of f = rw (f 0 (omega arith), f 1 (omega arith), f 2 (omega arith))

  -- no other letter than its first mark can fill a block
  pub unfinished-first : (mark : ℕ) → 0 < m → mark_at marks (slot m block 0) ≡ mark
      → (mark < 3 → is_full m marks block mark ≡ false) → is_unfinished m marks block ≡ true
  unfinished-first mark h at f =
      unfinished-of
      (λ letter l. fails (λ e.
      let same : mark ≡ letter = sym at ∙ full_at letter 0 e h in
      never_both e (rw same at (f (rw same l)))))

  -- the test over the block's part of the marks
  pub full-part : (letter : ℕ) → block * m + m ≤ length marks
      → is_full m marks block letter ≡ all (λ mark. eqb mark letter) (part m block marks)
  unfolding mark_at
  full-part letter fits =
      let size = length_part m block marks fits in
      bool_eq _ _
      (λ e.
      all_of (λ mark. eqb mark letter) (part m block marks) erased
      (λ page h.
      let l : page < m = omega arith in
      eq-eqb _ _ (part_at m block marks page erased l ∙ full_at letter page e l)))
      (λ e.
      full-of letter
      (λ page h. sym (part_at m block marks page erased h) ∙ eqb-true _ _ (all-at (λ mark. eqb mark letter) (part m block marks) page erased e (omega arith))))
