-- What the pass that looks at one span keeps from one record to the next.
use Rattle.flash.proofs.Kit.{◌≡◌, sym, ap, ◌∙◌, Bool, true, false, cond, ◌&&◌, List, Option, none, ℕ, ◌+◌, ◌*◌, ◌≤◌, ◌<◌, arith, length, take, drop}
use Rattle.flash.proofs.Kit.{replicate, length-replicate}
use Rattle.flash.specs.Lists.{any}
use Rattle.flash.specs.Refusals.{number_in}
use Rattle.intel_hex.specs.Reading.{records_in, going, fault, is_given, number_of}
use Rattle.intel_hex.specs.declared.survey.Found.{Found}
use Rattle.intel_hex.specs.inner.Lines.{bytes_at, Good}
use Rattle.intel_hex.specs.inner.Passes.{judge_all_in, state_of, put_at, judged_by, only_in, half_at, offset_at, count_at, next_at, Goes, Walk}
use Rattle.intel_hex.specs.inner.Bits.{Shows, LookIs}
use Rattle.intel_hex.proofs.TurnLaws.{fault-stays}
use Rattle.intel_hex.proofs.BitLaws.{none-set}
use Rattle.intel_hex.proofs.GivenLaws.{length-put}
use Rattle.intel_hex.proofs.WalkLaws.{nothing, none-at, begins, walk_step, walk-on, walk_end}

pub record Looking (text : List ℕ) (found : Found) (w : ℕ) (words : List ℕ) (at upper : ℕ) : Type 0 where
  pub given : List (Option ℕ)
  pub same : judged_by (only_in w) found.size text ≡ judge_all_in (only_in w) found.size (going (state_of upper given)) (records_in (drop at text))
  pub shows : Shows words w given
  pub size_is : length given ≡ found.size
  pub walk : Walk text found at upper
  pub low : upper ≤ 65535

pub looking-start : (text : List ℕ) (found : Found) (w : ℕ) → Walk text found 0 0 → Looking text found w (replicate 1024 0) 0 0
looking-start text found w W = record {
  given = replicate found.size none;
  same = begins (only_in w) found.size text;
  shows = λ b h. none-set b h ∙ sym (none-at found.size (w * 65536 + b));
  size_is = length-replicate found.size nothing;
  walk = W;
  low = omega arith;
}

module _ {text : List ℕ} {found : Found} {w : ℕ} {words : List ℕ} {at upper : ℕ} (L : Looking text found w words at upper) where
  abbrev size : ℕ
  size = found.size

  pub looking-stop : found.end ≤ at → number_of (judged_by (only_in w) size text) ≡ number_in found.verdict
  looking-stop h = ap number_of L.same ∙ (walk_end L.walk h).number_is (only_in w) L.given

  module _ (h : at < found.end) where
    pub looking-good : Good text at
    looking-good = (walk_step L.walk h).good

    pub looking-goes : Goes text at upper size (half_at text at upper) (offset_at text at upper) (count_at text at) (next_at text at)
    looking-goes = (walk_step L.walk h).goes

    module _ {after : List ℕ} {r : Bool} (K : LookIs words w (half_at text at upper) (offset_at text at upper) (count_at text at) after r) where
      room : (offset_at text at upper) + (count_at text at) ≤ length L.given
      room = omega (arith, looking-goes.fits, L.size_is)

      test-is : r ≡ (only_in w (half_at text at upper) && any is_given (take (count_at text at) (drop (offset_at text at upper) L.given)))
      test-is = K.found L.given L.shows room

      went : judged_by (only_in w) size text ≡ judge_all_in (only_in w) size (cond r (fault 10) (going (state_of (half_at text at upper) (put_at L.given (offset_at text at upper) (bytes_at text at (count_at text at)))))) (records_in (drop (next_at text at) text))
      went =
          L.same ∙ looking-goes.is (only_in w) L.given
          ∙ ap (λ (t : Bool). judge_all_in (only_in w) size (cond t (fault 10) (going (state_of (half_at text at upper) (put_at L.given (offset_at text at upper) (bytes_at text at (count_at text at)))))) (records_in (drop (next_at text at) text))) (sym test-is)

      pub looking-hit : r ≡ true → number_of (judged_by (only_in w) size text) ≡ 10
      unfolding number_of
      looking-hit e = rw (went, e, fault-stays (only_in w) size 10 (records_in (drop (next_at text at) text)))

      pub looking-on : r ≡ false → Looking text found w after (next_at text at) (half_at text at upper)
      looking-on e = record {
        given = put_at L.given (offset_at text at upper) (bytes_at text at (count_at text at));
        same = went ∙ ap (λ (t : Bool). judge_all_in (only_in w) size (cond t (fault 10) (going (state_of (half_at text at upper) (put_at L.given (offset_at text at upper) (bytes_at text at (count_at text at)))))) (records_in (drop (next_at text at) text))) e;
        shows = K.shows e L.given (bytes_at text at (count_at text at)) L.shows room looking-goes.length-is;
        size_is = length-put L.given (offset_at text at upper) (bytes_at text at (count_at text at)) (omega (arith, room, looking-goes.length-is)) ∙ L.size_is;
        walk = walk-on L.walk h;
        low = looking-goes.half-low;
      }
