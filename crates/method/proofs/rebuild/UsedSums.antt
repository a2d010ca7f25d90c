-- The sums by which originals are rebuilt: what they are of, and that they give them.
use Rattle.flash.proofs.Kit.{◌≡◌, refl, ap, ◌∙◌, ⊎_elim, true, false, Option, none, some, List, ℕ, ◌+◌, ◌/◌, ◌≤◌, ◌<◌, div-lt_iff_lt-mul, arith, length}
use Rattle.flash.specs.Lists.{part}
use Rattle.flash.specs.declared.sizes.Sizes.{Sizes}
use Rattle.flash.specs.Geometry.{original_count, slot_count, letter}
use Rattle.flash.specs.PageSum.{sum}
use Rattle.flash.specs.Chip.{Chip, page_at, is_unfinished}
use Rattle.flash.proofs.Blocks.{full-finished}
use Rattle.flash.proofs.Comparisons.{lt-cases}
use Rattle.split.specs.Split.{set_of}
use Rattle.split.specs.Request.{Request}
use Rattle.method.specs.Move.{Move, plan}
use Rattle.method.specs.Place.{Pass, last_place, marks_of}
use Rattle.method.specs.Read.{read_slots}
use Rattle.method.specs.State.{originals_in, state_of}
use Rattle.method.specs.Runs.{Start}
use Rattle.method.specs.Rebuild.{apart, whole_move}
use Rattle.method.specs.Unreadable.{is_of_set, SumOf}
use Rattle.method.specs.inner.Shape.{Shape}
use Rattle.method.proofs.basics.MoveShape.{Shows}
use Rattle.method.proofs.cycles.SetCycles.{set-in}
use Rattle.method.proofs.places.PagesHeld.{edge}
use Rattle.method.proofs.places.PlaceShape.{letter_above, which-pass}
use Rattle.method.proofs.states.RunsAddUp.{start-page}
use Rattle.method.proofs.walks.ReadsOriginals.{reads}
use Rattle.method.proofs.rebuild.Lists.{has, either, has-apart, apart_distinct}
use Rattle.method.proofs.rebuild.BlockFilled.{JustFilled, just-filled, block-torn, filled-there}
use Rattle.method.proofs.rebuild.ZeroSum.{zero-distinct}
use Rattle.method.proofs.rebuild.OtherSum.{each-has, each-apart, zero_of, reads-own, other-original, other-inside}
use Rattle.method.proofs.rebuild.SameShape.{slots_same}
use Rattle.method.proofs.rebuild.States.{state-size, state-shows}
use Rattle.method.proofs.rebuild.Taken.{RebuildTaken, reads_now, page-length}
use Rattle.method.proofs.rebuild.OwnSets.{zero-of-set, read-of-set}

module _ (R : Request) (chip : Chip) (area flags : List ℕ) (bad : ℕ) (T : RebuildTaken R chip area flags bad) where
  open R.sizes use {n, m, p as P}

  abbrev Z : Sizes
  Z = R.sizes

  abbrev M : Move
  M = whole_move R

  abbrev place : ℕ
  place = T.found.place

  -- ---- the marks, and those of the place
  record Both : Type 0 where
    low : ℕ
    high : ℕ
    pass : Pass
    here : Shape Z chip.marks low high (letter_above pass)
    there : Shape Z (marks_of Z place) low high (letter_above pass)
    in-move : place ≤ last_place Z

  both : Both
  both = go T.found.to_erase refl
    where
      go : (torn : Option ℕ) → T.found.to_erase ≡ torn → Both
      go none t =
          let J = just-filled Z T.accepted.ranges chip.marks T.found T.told t in
          record { low = _; high = _; pass = J.pass; here = J.full; there = (filled-there Z chip.marks place J).full; in-move = J.in-move }
      go (some b) t =
          let B = block-torn Z T.accepted.ranges chip.marks T.found T.told b t in
          record { low = _; high = _; pass = B.pass; here = B.shape; there = B.begun.shape; in-move = B.in-move }

  same-slots : (k : ℕ) → k < original_count Z → read_slots M chip.marks k ≡ read_slots M (marks_of Z place) k
  same-slots = slots_same M T.accepted both.low both.high (letter_above both.pass) chip.marks (marks_of Z place) both.here both.there

  abbrev value_of : Chip → (j : ℕ) → List ℕ
  value_of c j = part P j (originals_in Z c)

  abbrev page_of : Chip → (t : ℕ) → List ℕ
  page_of c = page_at P (state_of (plan R) (originals_in Z c) place)

  shows : (c : Chip) → Start R c → Shows M (marks_of Z place) (value_of c) (page_of c)
  shows c S = state-shows R c S T.undropped place both.in-move

  page-size : (c : Chip) → Start R c → (t : ℕ) → t < slot_count Z → length (page_of c t) ≡ P
  page-size c S = page-length M T.accepted chip.marks T.found T.told bad (state_of (plan R) (originals_in Z c) place) (state-size R c S T.undropped place both.in-move)

  block_of : (t : ℕ) → t < slot_count Z → t / m ≤ n
  block_of t h = (let l : t / m < n + 1 = (div-lt_iff_lt-mul T.accepted.ranges.m-low).1 h in omega arith)

  -- with no block unfinished, each is full
  all_finished : JustFilled Z chip.marks place → (t : ℕ) → t < slot_count Z → is_unfinished m chip.marks (t / m) ≡ false
  unfolding letter
  all_finished J t h = ⊎_elim
      (λ (l : t / m < edge J.pass J.block). full-finished m chip.marks (t / m) (letter Z 1) (omega arith) (J.full.below (t / m) l))
      (λ (l : edge J.pass J.block ≤ t / m). full-finished m chip.marks (t / m) (letter Z (letter_above J.pass)) (omega arith) (J.full.above (t / m) l (block_of t h)))
      (lt-cases (t / m) (edge J.pass J.block))

  module _ (k : ℕ) (k-in : k < original_count Z) where
    abbrev own : List ℕ
    own = read_slots M chip.marks k

    -- ---- read's
    pub own-sum : has bad own ≡ false → SumOf R place chip.marks bad k own
    unfolding letter
    own-sum out =
        let r = reads_now M T.accepted chip.marks T.found T.told bad k k-in in
        record {
          once = r.distinct;
          inside = each-has (λ t. t < slot_count Z) own (λ i l. (r.sited i l).inside);
          full = each-has (λ t. is_unfinished m chip.marks (t / m) ≡ false) own (λ i l.
              let t = r.sited i l in
              full-finished m chip.marks _ (letter Z t.index) (omega arith) t.full);
          left_out = out;
          own-set = read-of-set R chip area flags bad T k k-in;
          gives = λ c S.
              ap (sum (page_of c)) (same-slots k k-in)
              ∙ (reads M T.accepted (marks_of Z place) both.low both.high k k-in (letter_above both.pass) (which-pass both.pass) both.there).original (value_of c) (page_of c) (shows c S)
              ∙ start-page R c S k;
        }

    -- ---- the other
    module _ (J : JustFilled Z chip.marks place) where
      abbrev zeros : List ℕ
      zeros = zero_of M T.accepted chip.marks place J k k-in

      pub other-sum : has bad own ≡ true → has bad zeros ≡ true → SumOf R place chip.marks bad k (apart own zeros)
      unfolding either
      other-sum q z =
          let inside = each-has (λ t. t < slot_count Z) (apart own zeros) (other-inside M T.accepted chip.marks place J k k-in) in
          record {
            once = apart_distinct own zeros (reads-own M T.accepted chip.marks place J k k-in).distinct
                (zero-distinct M T.accepted chip.marks place J (set_of M.sets k) (set-in M T.accepted k k-in));
            inside = inside;
            full = λ t h. all_finished J t (inside t h);
            left_out = has-apart bad own zeros ∙ rw (q, z);
            own-set = each-apart (λ t. is_of_set R place k t ≡ true) own zeros (read-of-set R chip area flags bad T k k-in) (zero-of-set R chip area flags bad T J k k-in);
            gives = λ c S.
                ap (λ (ts : List ℕ). sum (page_of c) (apart ts zeros)) (same-slots k k-in)
                ∙ other-original M T.accepted (marks_of Z place) place (filled-there Z chip.marks place J) k k-in (value_of c) (page_of c) (shows c S) (page-size c S)
                ∙ start-page R c S k;
          }
