-- Any values of the originals are shown by some pages: those that hold, by their marks, what they should.
use Rattle.flash.proofs.Kit.{◌≡◌, refl, ap, ap₂, ◌∙◌, cond, List, ℕ, ◌+◌, ◌-◌, ◌/◌, ◌%◌, ◌<◌, arith, eqb, length, eq-eqb, ne_eqb}
use Rattle.flash.specs.declared.sizes.Sizes.{Sizes}
use Rattle.flash.specs.Geometry.{original_count, letter}
use Rattle.flash.specs.PageSum.{sum}
use Rattle.flash.specs.Chip.{mark_at}
use Rattle.method.specs.Move.{Move, AcceptedMove}
use Rattle.method.specs.Cycle.{coded, sent_to}
use Rattle.method.proofs.basics.Indexes.{slot-div, slot-mod}
use Rattle.method.proofs.basics.MoveShape.{Shows, slot-back}
use Rattle.method.proofs.cycles.SetCycles.{sent-entry}

module _ (M : Move) (A : AcceptedMove M) (marks : List ℕ) (value : ℕ → List ℕ) where
  open M.sizes use {m}

  abbrev Z : Sizes
  Z = M.sizes

  unfoldable pub page_by : (t : ℕ) → List ℕ
  page_by t =
      cond (eqb (mark_at marks t) (letter Z 1)) (sum value (coded M (t % m) (t / m + 1)))
      (cond (eqb (mark_at marks t) (letter Z 0)) (value (t - m)) (value (sent_to M (t - m))))

  by-plain : (t k : ℕ) → t - m ≡ k → mark_at marks t ≡ letter Z 0 → page_by t ≡ value k
  unfolding page_by letter
  by-plain t k is e = rw (e, ne_eqb (letter Z 0) (letter Z 1) (λ q. absurd (omega arith)), eq-eqb (letter Z 0) (letter Z 0) refl) (ap value is)

  by-final : (t k : ℕ) → sent_to M (t - m) ≡ k → mark_at marks t ≡ letter Z 2 → page_by t ≡ value k
  unfolding page_by letter
  by-final t k is e =
      rw (e, ne_eqb (letter Z 2) (letter Z 1) (λ q. absurd (omega arith)), ne_eqb (letter Z 2) (letter Z 0) (λ q. absurd (omega arith))) (ap value is)

  by_code : (t set v : ℕ) → t % m ≡ set → t / m + 1 ≡ v → mark_at marks t ≡ letter Z 1 → page_by t ≡ sum value (coded M set v)
  unfolding page_by
  by_code t set v is at e = rw (e, eq-eqb (letter Z 1) (letter Z 1) refl) (ap₂ (λ (q b : ℕ). sum value (coded M q b)) is at)

  pub shows-by : ((k : ℕ) → k < original_count Z → length (value k) ≡ Z.p) → Shows M marks value page_by
  shows-by whole = record {
    whole = whole;
    plain = λ k h e. by-plain _ k (slot-back m k) e;
    code = λ set v s l u e. by_code _ set v (slot-mod m (v - 1) set s) (ap (λ (b : ℕ). b + 1) (slot-div m (v - 1) set s) ∙ omega arith) e;
    final = λ k h e. by-final _ k (ap (sent_to M) (slot-back m _) ∙ sent-entry M A k h) e;
  }
