-- Read answers at every moment, and what it counts.
use Rattle.flash.proofs.Kit.{◌≡◌, List, [], ℕ, ◌<◌, length, lt-leb}
use Rattle.flash.specs.Tables.{refusal}
use Rattle.flash.specs.Geometry.{original_count}
use Rattle.flash.specs.Chip.{Chip}
use Rattle.flash.proofs.Tables.{refusal-skip, refusal-nil}
use Rattle.split.specs.Request.{Request}
use Rattle.method.specs.Move.{move, plan, AcceptedMove, Lent}
use Rattle.method.specs.Read.{stored_slots, read_terms}
use Rattle.method.specs.Answers.{read_rows, read_answer}
use Rattle.method.proofs.basics.AcceptedCalls.{ListFits, accepted-move}
use Rattle.method.proofs.recovery.MarksSeen.{terms-seen}
use Rattle.method.proofs.recovery.MendFinds.{moment-fits}
use Rattle.method.proofs.recovery.Moments.{Moment}

module _ (R : Request) (A : AcceptedMove (move R)) (F : ListFits R) (chip : Chip) (work : List ℕ) (L : Lent R.sizes chip work) (place : ℕ)
    (N : Moment R.sizes chip.marks place) (k : ℕ) (k-in : k < original_count R.sizes) where
  pub read_taken : refusal (read_rows R chip work k) ≡ 0
  unfolding read_rows
  read_taken =
      accepted-move R chip work _ A L F
      (refusal-skip _ _ (moment-fits R.sizes A.ranges chip.marks place N) (refusal-skip _ [] (lt-leb (original_count R.sizes) k k-in) refusal-nil))

  pub read_number : (read_answer R chip work k).number ≡ 0
  unfolding read_answer
  read_number = rw read_taken

  pub read_count_lem : (read_answer R chip work k).count ≡ length (stored_slots (read_terms (plan R) chip.marks k))
  unfolding read_answer
  read_count_lem = rw (read_taken, terms-seen (plan R) chip.marks k)
