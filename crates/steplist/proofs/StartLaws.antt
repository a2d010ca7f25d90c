-- The store that the program fills is at rest, and the run from it is not refused.
use Rattle.flash.proofs.Kit.{◌≡◌, ap, ◌∙◌, true, List, ◌++◌, ℕ, ◌-◌, ◌*◌, add-mul, arith, length, replicate, length-replicate}
use Rattle.flash.specs.declared.sizes.Sizes.{Sizes}
use Rattle.flash.specs.Geometry.{Bounds, marks_len}
use Rattle.flash.specs.Wear.{counter_end, unworn}
use Rattle.split.specs.Drops.{completed}
use Rattle.split.proofs.RuleLaws.{rule-split, rule-length}
use Rattle.split.specs.Request.{Request, unpinned}
use Rattle.split.proofs.Answers.{none-pinned}
use Rattle.split.proofs.DropLaws.{completed-length}
use Rattle.method.specs.Move.{move, plan, AcceptedMove}
use Rattle.method.specs.State.{chip_at_rest}
use Rattle.method.specs.Step.{Running, running_of}
use Rattle.method.proofs.wear.WornLaws.{unworn-passes}
use Rattle.method.proofs.basics.AcceptedCalls.{ListFits, fits-one-to-one, taken-run}
use Rattle.method.proofs.states.AtRest.{rest-stands}
use Rattle.method.proofs.states.MadeAtRest.{is-at-rest, store-size, marks-size}
use Rattle.listing.specs.Area.{Written}
use Rattle.listing.specs.Input.{is_allowed}
use Rattle.listing.proofs.InputLaws.{Bounded, bounded}
use Rattle.steplist.specs.Output.{listed, move_lines}
use Rattle.steplist.specs.inner.Listing.{Listable}
use Rattle.steplist.specs.inner.Given.{AcceptedInput}

-- the program's limits are within the ranges
pub in_bounds : (Z : Sizes) → is_allowed Z ≡ true → Bounds Z
in_bounds Z e =
    let l = bounded Z e in
    record {
      n-low = l.some-blocks;
      n-high = omega arith;
      m-low = l.some-pages;
      m-high = omega arith;
      p-low = l.some_bytes;
      p-high = omega arith;
      s-high = l.letter;
    }

module _ (Z : Sizes) (list sets bytes : List ℕ) where
  open Z use {n, m, p as P, s}

  abbrev R : Request
  R = unpinned Z list sets

  module _ (A : AcceptedInput Z list sets bytes) where
    limits : Bounded Z
    limits = bounded Z A.readable.allowed

    fits : ListFits R
    fits = record {
      list_length = A.readable.list_length;
      good = A.good;
      pins-length = length-replicate {A = ℕ} (n * m) 0;
      stay = none-pinned (n * m) list;
    }

    accepted : AcceptedMove (move R)
    accepted =
        let size : length (completed list) ≡ n * m = completed-length list ∙ A.readable.list_length in
        let one-to-one = fits-one-to-one R fits in
        record {
          ranges = in_bounds Z A.readable.allowed;
          list_length = size;
          sets-length = ap length A.sets-is ∙ rule-length n m (completed list) size one-to-one;
          one-to-one = one-to-one;
          split = rw A.sets-is (rule-split n m (completed list) size one-to-one);
        }

    -- a run from rest, with a work page of zeros
    abbrev pub start : Running
    start = record { chip = chip_at_rest Z bytes; work = replicate P 0 }

    pub listable : (run : Running) → run ≡ start → Listable R run 0
    listable run e =
        let l = limits in
        let Store-is = store-size Z bytes A.readable.bytes-length in
        rw e (record {
          few-blocks = l.few-blocks;
          few-pages = l.few-pages;
          short-pages = l.short-pages;
          taken = taken-run R (chip_at_rest Z bytes) (replicate P 0) unworn 0 counter_end (record {
            accepted = accepted;
            lent = record { store_length = Store-is; marks-length = marks-size Z bytes; work-length = length-replicate {A = ℕ} P 0 };
            stands = rest-stands (move R) accepted (chip_at_rest Z bytes) Store-is (marks-size Z bytes) (is-at-rest Z bytes);
            fits = fits;
            lasts = unworn-passes R.sizes.n 0;
          });
        })

    pub is-listed : (run : Running) (before after : List ℕ) (count : ℕ) → run ≡ start → Written (move_lines (plan R) run) before after count → Written (listed Z list bytes) before after count
    unfolding listed
    is-listed run before after count e w = rw (e, A.sets-is) at w

    -- what was filled is the store at rest
    pub filled : (store marks work old : List ℕ) → store ≡ replicate (m * P) 255 ++ bytes → marks ≡ replicate m 255 ++ replicate (length old - m) s → length old ≡ marks_len Z
        → work ≡ replicate P 0 → running_of store marks work ≡ start
    unfolding chip_at_rest
    filled store marks work old e f size w =
        let count : length old - m ≡ n * m = omega (arith, add-mul n 1 m) in
        rw (e, f, count, w)
