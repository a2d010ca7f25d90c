-- What is said to be rebuilt is the original, and a slot of the unfinished block loses nothing.
use Rattle.flash.proofs.Kit.{◌≡◌, sym, ap, ◌∙◌, subst, ◌≢◌, fun_ext, false, some, List, ℕ, ◌*◌, ◌/◌, ◌<◌, arith, eqb, eqb-true, length, get_or}
use Rattle.flash.specs.Lists.{part}
use Rattle.flash.specs.Geometry.{letter, original_count, store_len}
use Rattle.flash.specs.Chip.{Chip, page_at, is_unfinished}
use Rattle.flash.proofs.Bools.{fails, never_both}
use Rattle.flash.proofs.Blocks.{full-finished}
use Rattle.flash.proofs.Searches.{any-find}
use Rattle.split.specs.Request.{Request}
use Rattle.method.specs.Move.{Move, Plan, plan, AcceptedMove}
use Rattle.method.specs.Read.{term_page, read_slots, filler_page}
use Rattle.method.specs.Mend.{Reading, seen, reading}
use Rattle.method.specs.State.{originals_in, counts_as}
use Rattle.method.specs.NoDrops.{undropped}
use Rattle.method.specs.Runs.{Start}
use Rattle.method.specs.Events.{History, starting}
use Rattle.method.specs.Rebuild.{rebuilt_from, rebuilt_page, rebuilt_flag, rebuilt, rebuild_answer, RebuildAnswer, whole_move}
use Rattle.method.specs.Unreadable.{flag_of, TornLosesNothing, Rebuilds, RebuiltRight}
use Rattle.method.proofs.basics.Indexes.{clash}
use Rattle.method.proofs.basics.MoveShape.{Holding, Shows, counted, holding-shows}
use Rattle.method.proofs.states.RunsAddUp.{start-full, start-page}
use Rattle.method.proofs.states.Undropped.{term-stored, no-drops}
use Rattle.method.proofs.demand.KeptByHistories.{Kept}
use Rattle.method.proofs.demand.EveryEvent.{along, started}
use Rattle.method.proofs.rebuild.Lists.{has}
use Rattle.method.proofs.rebuild.OtherSum.{other-original}
use Rattle.method.proofs.rebuild.Taken.{rebuild-taken, FromCases, by-own, by-other, lost-torn, lost-full, from-cases, reads_now, page-length, area-part, flag_is}

-- ---- with nothing dropped, pages show what they store
pub shows-stored : (M : Move) (originals : List ℕ) (chip : Chip) → length originals ≡ original_count M.sizes * M.sizes.p → Holding (undropped M) originals chip
    → Shows M chip.marks (λ k. part M.sizes.p k originals) (page_at M.sizes.p chip)
unfolding counts_as term_page
shows-stored M originals chip size H =
    subst (λ (page : ℕ → List ℕ). Shows M chip.marks (λ k. part M.sizes.p k originals) page)
    (fun_ext {f = counted (undropped M) chip} {g = page_at M.sizes.p chip} (λ t. ap (term_page M.sizes.p chip) (term-stored M chip.marks t)))
    (holding-shows (undropped M) originals chip size H)

module _ (M : Move) (A : AcceptedMove M) (chip : Chip) (found : Reading) (told : reading M.sizes chip.marks ≡ some found) (bad : ℕ)
    (size : length chip.store ≡ store_len M.sizes) (value : ℕ → List ℕ) (H : Shows M chip.marks value (page_at M.sizes.p chip)) where
  -- the page of what is rebuilt is the original, and the flag is 1; else 255s and 0
  pub rebuilt-value : (k : ℕ) → k < original_count M.sizes → rebuilt_flag (rebuilt_from M (seen chip.marks) found bad k) ≡ 1
      → rebuilt_page M.sizes.p chip (rebuilt_from M (seen chip.marks) found bad k) ≡ value k
  unfolding rebuilt_page rebuilt_flag
  rebuilt-value k k-in e = go (from-cases M A chip.marks found told bad k k-in)
    where
      go : FromCases M A chip.marks found told bad k k-in → rebuilt_page M.sizes.p chip (rebuilt_from M (seen chip.marks) found bad k) ≡ value k
      go (by-own q f) = rw f ((reads_now M A chip.marks found told bad k k-in).original value (page_at M.sizes.p chip) H)
      go (by-other q J z f) = rw f (other-original M A chip.marks found.place J k k-in value (page_at M.sizes.p chip) H (page-length M A chip.marks found told bad chip size))
      go (lost-torn q b t f) = absurd (clash (rw f at e))
      go (lost-full q J z f) = absurd (clash (rw f at e))

  pub lost-value : (k : ℕ) → k < original_count M.sizes → rebuilt_flag (rebuilt_from M (seen chip.marks) found bad k) ≢ 1
      → (rebuilt_flag (rebuilt_from M (seen chip.marks) found bad k) ≡ 0) × (rebuilt_page M.sizes.p chip (rebuilt_from M (seen chip.marks) found bad k) ≡ filler_page M.sizes.p)
  unfolding rebuilt_page rebuilt_flag
  lost-value k k-in ne = go (from-cases M A chip.marks found told bad k k-in)
    where
      go : FromCases M A chip.marks found told bad k k-in
          → (rebuilt_flag (rebuilt_from M (seen chip.marks) found bad k) ≡ 0) × (rebuilt_page M.sizes.p chip (rebuilt_from M (seen chip.marks) found bad k) ≡ filler_page M.sizes.p)
      go (by-own q f) = absurd (ne (rw f))
      go (by-other q J z f) = absurd (ne (rw f))
      go (lost-torn q b t f) = (rw f, rw f)
      go (lost-full q J z f) = (rw f, rw f)

-- ---- from demand 3's stores
module _ (R : Request) (chip₀ : Chip) (S : Start R chip₀) (h : History) (K : Kept (plan R) (originals_in R.sizes chip₀) h) where
  abbrev chip : Chip
  chip = h.chip

  kept-rebuilds : (area flags : List ℕ) (bad : ℕ) → (rebuild_answer R chip area flags bad).number ≡ 0 → (k : ℕ) → k < original_count R.sizes → Rebuilds R chip₀ chip area flags bad k
  unfolding rebuilt
  kept-rebuilds area flags bad e k k-in =
      let T = rebuild-taken R chip area flags bad e in
      let M = whole_move R in
      let originals = originals_in R.sizes chip₀ in
      let holds : Holding (undropped M) originals chip = subst (λ (X : Plan). Holding X originals chip) (no-drops.plan-is R T.undropped) K.holds in
      let H = shows-stored M originals chip (start-full R chip₀ S) holds in
      let flag : flag_of (rebuild_answer R chip area flags bad) k ≡ rebuilt_flag (rebuilt_from M (seen chip.marks) T.found bad k) =
      ap (λ (a : RebuildAnswer). flag_of a k) T.answer ∙ flag_is M chip T.found bad k k-in in
      let page : part R.sizes.p k (rebuild_answer R chip area flags bad).area ≡ rebuilt_page R.sizes.p chip (rebuilt_from M (seen chip.marks) T.found bad k) =
      ap (λ (a : RebuildAnswer). part R.sizes.p k a.area) T.answer ∙ area-part M T.accepted chip.marks T.found T.told bad chip T.store_length k k-in in
      record {
        right = λ f. page ∙ rebuilt-value M T.accepted chip T.found T.told bad T.store_length _ H k k-in (sym flag ∙ f) ∙ start-page R chip₀ S k;
        lost = λ ne.
            let l = lost-value M T.accepted chip T.found T.told bad T.store_length _ H k k-in (λ f. ne (flag ∙ f)) in
            (flag ∙ l.0, page ∙ l.1);
      }

pub rebuilt-right : RebuiltRight
unfolding RebuiltRight
rebuilt-right R chip₀ S events O = along R chip₀ S _ (kept-rebuilds R chip₀ S) events (starting chip₀) (started R chip₀ S) O

-- ---- a slot of the unfinished block is in no sum of read's
pub torn-loses-nothing : TornLosesNothing
unfolding TornLosesNothing letter rebuilt_flag
torn-loses-nothing R chip area flags bad e torn k k-in =
    let T = rebuild-taken R chip area flags bad e in
    let M = whole_move R in
    let r = reads_now M T.accepted chip.marks T.found T.told bad k k-in in
    let out : has bad (read_slots M chip.marks k) ≡ false = fails (λ q.
    let f = any-find (eqb bad) (read_slots M chip.marks k) 0 q in
    let t = r.sited f.0 f.1 in
    let same = eqb-true bad (get_or (read_slots M chip.marks k) f.0 0) f.2 in
    never_both torn (ap (λ (u : ℕ). is_unfinished R.sizes.m chip.marks (u / R.sizes.m)) same
    ∙ full-finished R.sizes.m chip.marks _ (letter R.sizes t.index) (omega arith) t.full)) in
    ap (λ (a : RebuildAnswer). flag_of a k) T.answer ∙ flag_is M chip T.found bad k k-in ∙ go out (from-cases M T.accepted chip.marks T.found T.told bad k k-in)
  where
    go : {M : Move} {A : AcceptedMove M} {marks : List ℕ} {found : Reading} {told : reading M.sizes marks ≡ some found} {bad k : ℕ} {k-in : k < original_count M.sizes}
        → has bad (read_slots M marks k) ≡ false → FromCases M A marks found told bad k k-in → rebuilt_flag (rebuilt_from M (seen marks) found bad k) ≡ 1
    go out (by-own q f) = rw f
    go out (by-other q J z f) = absurd (never_both q out)
    go out (lost-torn q b t f) = absurd (never_both q out)
    go out (lost-full q J z f) = absurd (never_both q out)
