-- The lines of the method's steps by originals, one after the other.
use Rattle.flash.proofs.Kit.{◌≡◌, refl, sym, ◌∙◌, subst, List, [], ◌∷◌, ◌++◌, append_assoc, append-nil, ℕ, zero, suc, ◌+◌, ◌*◌, ◌≤◌, ◌<◌, zero-add}
use Rattle.flash.proofs.Kit.{add-one, add-zero, not-suc-le-zero, arith, length, get_or, take, take-length}
use Rattle.method.specs.Move.{Move}
use Rattle.method.specs.Place.{Operation, done, operations, operation_at, last_place}
use Rattle.method.specs.Claims.{StepsCounted}
use Rattle.method.proofs.places.StepsCounted.{steps-counted}
use Rattle.method.proofs.places.ErasesCounted.{all-writes, all-erases}
use Rattle.listing.specs.Area.{Written}
use Rattle.listing.specs.Lines.{Printed, end_line}
use Rattle.listing.proofs.PrintLaws.{over-printed}
use Rattle.checker.specs.Method.{step_text, steps_text, move_by, method_text}
use Rattle.steplist.specs.inner.Listing.{most_line}

-- the lines of the steps before a place were written over the front of what the output was before
pub record Lists (M : Move) (place at : ℕ) (before out : List ℕ) : Type 0 where
  pub lines_are : Written (steps_text M 0 (take place (operations M.sizes))) before out at
  pub at_high : at ≤ most_line * place

-- the line of one step more
steps-more : (M : Move) (ops : List Operation) (from k : ℕ) → k < length ops
    → steps_text M from (take (suc k) ops) ≡ steps_text M from (take k ops) ++ step_text M (from + k) (get_or ops k done)
unfolding steps_text
steps-more M [] from k h = absurd (not-suc-le-zero h)
steps-more M (op ∷ ops) from zero h = rw (add-zero from, append-nil)
steps-more M (op ∷ ops) from (suc k) h =
    let next : suc from + k ≡ from + suc k = omega arith in
    rw (steps-more M ops (suc from) k (omega arith), next)
    (sym (append_assoc (step_text M from op) (steps_text M (suc from) (take k ops)) (step_text M (from + suc k) (get_or ops k done))))

module _ (M : Move) where
  pub lists-none : (out : List ℕ) → Lists M 0 0 out out
  unfolding steps_text
  lists-none out = record { lines_are = (refl, refl); at_high = omega arith }

  size : length (operations M.sizes) ≡ last_place M.sizes
  unfolding StepsCounted
  size = steps-counted M.sizes

  pub lists-more : (place at next : ℕ) (before out out' : List ℕ) → Lists M place at before out → place < last_place M.sizes
      → Printed (step_text M place (operation_at M.sizes place)) out at out' next → next ≤ at + most_line → Lists M (place + 1) next before out'
  unfolding operation_at
  lists-more place at next before out out' L h p short =
      let ops = operations M.sizes in
      let lines : steps_text M 0 (take place ops) ++ step_text M place (get_or ops place done) ≡ steps_text M 0 (take (place + 1) ops) =
      rw (add-one place) (sym (steps-more M ops 0 place (omega (arith, size)) ∙ rw (zero-add place))) in
      record {
        lines_are = subst (λ (text : List ℕ). Written text before out' next) lines (over-printed (steps_text M 0 (take place ops)) before L.lines_are.0 L.lines_are.1 p);
        at_high = omega (arith, L.at_high);
      }

-- all steps, and the end line
module _ (n m : ℕ) (list sets : List ℕ) where
  pub all_listed : (at next : ℕ) (before out out' : List ℕ) → Lists (move_by n m list sets) (last_place (move_by n m list sets).sizes) at before out
      → Printed (end_line (2 * n * m) (2 * n)) out at out' next → Written (method_text n m list sets) before out' next
  unfolding method_text
  all_listed at next before out out' L p =
      let M = move_by n m list sets in
      let ops = operations M.sizes in
      let all : take (last_place M.sizes) ops ≡ ops = rw (← size M) (take-length ops) in
      let lines : steps_text M 0 (take (last_place M.sizes) ops) ++ end_line (2 * n * m) (2 * n) ≡ method_text n m list sets = rw (all, all-writes M.sizes, all-erases M.sizes) in
      subst (λ (text : List ℕ). Written text before out' next) lines (over-printed (steps_text M 0 (take (last_place M.sizes) ops)) before L.lines_are.0 L.lines_are.1 p)
