-- What is given up cannot be told from the pages that are left, and what can be told is not given up.
use Rattle.flash.proofs.Kit.{◌≡◌, refl, sym, ap, ◌∙◌, subst, true, false, ◌||◌, not, Option, none, some, List, [], ℕ, ◌*◌, ◌<◌}
use Rattle.flash.proofs.Kit.{eqb, eq-eqb, length, get_or}
use Rattle.flash.specs.Tables.{refusal}
use Rattle.flash.specs.declared.sizes.Sizes.{Sizes}
use Rattle.flash.specs.declared.wear.Wear.{Wear}
use Rattle.flash.specs.Geometry.{original_count, slot_count}
use Rattle.flash.specs.Chip.{Chip, page_at}
use Rattle.flash.proofs.Bools.{never_both}
use Rattle.flash.proofs.Bounds.{range-in}
use Rattle.flash.proofs.Searches.{any_of}
use Rattle.flash.proofs.Sums.{sum_same}
use Rattle.flash.proofs.Tables.{refusal-skip, refusal-nil}
use Rattle.split.specs.Request.{Request}
use Rattle.method.specs.Move.{Move, plan}
use Rattle.method.specs.State.{originals_in, state_of}
use Rattle.method.specs.Mend.{Reading, seen, reading}
use Rattle.method.specs.Answers.{bad_chip, marks_answer, fits_none, mend_rows, mended, mend_answer}
use Rattle.method.specs.Rebuild.{rebuilt_from, rebuilt_flag, rebuild_answer, RebuildAnswer, whole_move}
use Rattle.method.specs.Unreadable.{flag_of, Unseen, SumOf}
use Rattle.method.proofs.rebuild.Lists.{has}
use Rattle.method.proofs.rebuild.UsedSums.{own-sum, other-sum}
use Rattle.method.proofs.rebuild.Taken.{RebuildTaken, FromCases, by-own, by-other, lost-torn, lost-full, from-cases, flag_is}

-- ---- mend's place
mended-place : (Z : Sizes) (chip : Chip) (wear : Wear) (found : Reading) → (mended Z chip wear found).place ≡ found.place
unfolding mended
mended-place Z chip wear found = go found.to_erase
  where
    go : (to_erase : Option ℕ) → (mended Z chip wear (record { place = found.place; to_erase = to_erase })).place ≡ found.place
    go none = refl
    go (some b) = refl

module _ (R : Request) (chip : Chip) (area flags : List ℕ) (bad : ℕ) (T : RebuildTaken R chip area flags bad) where
  open R.sizes use {n, m, p as P}

  abbrev Z : Sizes
  Z = R.sizes

  abbrev M : Move
  M = whole_move R

  abbrev place : ℕ
  place = T.found.place

  pub mend-place : (wear : Wear) → (mend_answer Z chip wear).place ≡ place
  unfolding mend_answer mend_rows bad_chip fits_none marks_answer
  mend-place wear =
      let lengths : (not (eqb (length chip.store) (slot_count Z * P)) || not (eqb (length chip.marks) (slot_count Z))) ≡ false =
      rw (eq-eqb _ _ T.store_length, eq-eqb _ _ T.marks-length) in
      let fits : fits_none (reading Z chip.marks) ≡ false = ap fits_none T.told in
      let ok : refusal (mend_rows Z chip) ≡ 0 = refusal-skip _ _ (ap not (range-in Z T.accepted.ranges)) (refusal-skip _ _ lengths (refusal-skip _ [] fits refusal-nil)) in
      rw (ok, T.told) (mended-place Z chip wear T.found)

  -- ---- a sum of pages that are the same in both stores gives no original in which they differ
  module _ (k : ℕ) (k-in : k < original_count Z) (U : Unseen R chip.marks place bad k) where
    told-apart : (slots : List ℕ) → SumOf R place chip.marks bad k slots → ⊥
    told-apart slots X =
        U.differ
        (sym (X.gives U.one U.one-starts)
        ∙ sum_same (page_at P (state_of (plan R) (originals_in Z U.one) place)) (page_at P (state_of (plan R) (originals_in Z U.other) place)) slots
        (λ i l.
        let t : ℕ = get_or slots i 0 in
        let h : has t slots ≡ true = any_of (eqb t) slots i 0 l (eq-eqb t t refl) in
        U.same t (X.inside t h) (λ e. never_both (subst (λ (u : ℕ). has u slots ≡ true) e h) X.left_out) (X.full t h))
        ∙ X.gives U.other U.other-starts)

    flag-zero : FromCases M T.accepted chip.marks T.found T.told bad k k-in → rebuilt_flag (rebuilt_from M (seen chip.marks) T.found bad k) ≡ 0
    unfolding rebuilt_flag
    flag-zero (by-own q f) = absurd (told-apart _ (own-sum R chip area flags bad T k k-in q))
    flag-zero (by-other q J z f) = absurd (told-apart _ (other-sum R chip area flags bad T k k-in J q z))
    flag-zero (lost-torn q b t f) = rw f
    flag-zero (lost-full q J z f) = rw f

  pub seen-lost : (k : ℕ) → k < original_count Z → Unseen R chip.marks place bad k → flag_of (rebuild_answer R chip area flags bad) k ≡ 0
  seen-lost k k-in U =
      ap (λ (a : RebuildAnswer). flag_of a k) T.answer ∙ flag_is M chip T.found bad k k-in
      ∙ flag-zero k k-in U (from-cases M T.accepted chip.marks T.found T.told bad k k-in)
