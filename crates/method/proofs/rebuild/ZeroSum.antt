-- Where no block is unfinished, the page of a set in the block that was filled last and the pages that were read to write it sum to zeros.
use Rattle.flash.proofs.Kit.{◌≡◌, refl, sym, ap, ap₂, ◌∙◌, subst, List, [], ◌∷◌, map, ℕ, suc, ◌+◌, ◌-◌, ◌*◌, ◌/◌, ◌%◌, ◌≤◌, ◌<◌}
use Rattle.flash.proofs.Kit.{div-add-mod', mod-lt, arith, length, get_or, bit_xor, xor_self, xor_zero_r}
use Rattle.flash.specs.declared.sizes.Sizes.{Sizes}
use Rattle.flash.specs.Geometry.{slot, slot_of, block_of, page_of, number_at, original_count, letter}
use Rattle.flash.specs.PageSum.{sum}
use Rattle.flash.specs.Chip.{mark_at}
use Rattle.flash.proofs.Blocks.{full_at}
use Rattle.flash.proofs.Sums.{sum_one, sum_same}
use Rattle.split.specs.Split.{dest_block, set_of}
use Rattle.split.proofs.OneToOneLaws.{Distinct}
use Rattle.method.specs.Move.{Move, AcceptedMove}
use Rattle.method.specs.Cycle.{D, dest, pred, sent_to}
use Rattle.method.specs.Place.{Pass, forward, backward, code, written}
use Rattle.method.specs.Read.{read_slots}
use Rattle.method.specs.State.{held_originals}
use Rattle.method.specs.Step.{originals_of}
use Rattle.method.specs.Rebuild.{apart, added, set_page, zero_slots}
use Rattle.method.specs.inner.Shape.{Shape}
use Rattle.method.proofs.basics.EachNumber.{Each, each-one}
use Rattle.method.proofs.basics.MoveShape.{Shows}
use Rattle.method.proofs.cycles.Orbits.{DataBlock}
use Rattle.method.proofs.cycles.SetCycles.{D-page, pred_in, dest-pred, sent-entry}
use Rattle.method.proofs.places.PagesHeld.{edge}
use Rattle.method.proofs.places.PlaceShape.{letter_above, which-pass}
use Rattle.method.proofs.states.PagesWritten.{Originals, originals-one, coded_in, coded-some}
use Rattle.method.proofs.walks.StoredPages.{Reads}
use Rattle.method.proofs.walks.ReadsOriginals.{reads}
use Rattle.method.proofs.rebuild.Lists.{mix, apart_distinct, mix-apart, AddedUp, added-up}
use Rattle.method.proofs.rebuild.PageSets.{set_at, held-set}
use Rattle.method.proofs.rebuild.BlockFilled.{JustFilled, marks_begun, shows-begun}

-- the page of a set in a block that a pass has filled
module _ (M : Move) (A : AcceptedMove M) (set : ℕ) (set-ok : set < M.sizes.m) where
  open M.sizes use {n, m}

  abbrev Z : Sizes
  Z = M.sizes

  pub record LastPage (pass : Pass) (block : ℕ) : Type 0 where
    pub page-in : set_page M pass block set < m
    pub known : Originals M (originals_of M pass block (set_page M pass block set))
    pub some : 0 < length (originals_of M pass block (set_page M pass block set))
    pub of-set : Each (λ j. set_of M.sets j ≡ set) (originals_of M pass block (set_page M pass block set))
    pub holds : (marks : List ℕ) (value page : ℕ → List ℕ) → Shows M marks value page → Shape Z marks (edge pass block) (edge pass block) (letter_above pass)
        → page (slot m block (set_page M pass block set)) ≡ sum value (originals_of M pass block (set_page M pass block set))

  forth : (block : ℕ) → suc block ≤ n → LastPage forward block
  unfolding set_page originals_of held_originals written set_at
  forth block h =
      let up_in : DataBlock n (block + 1) = record { low = omega arith; high = omega arith } in
      let down : block + 1 - 1 ≡ block = omega arith in
      record {
        page-in = set-ok;
        known = coded_in M A set (block + 1) set-ok up_in;
        some = coded-some M A set (block + 1);
        of-set = held-set M A code block set set-ok h;
        holds = λ marks value page H S.
            ap (λ (b : ℕ). page (slot m b set)) (sym down)
            ∙ H.code set (block + 1) set-ok (omega arith) (omega arith)
            (ap (λ (b : ℕ). mark_at marks (slot m b set)) down ∙ full_at m marks block (letter Z 1) set (S.below block (omega arith)) set-ok);
      }

  back : (block : ℕ) → 1 ≤ block → block ≤ n → LastPage backward block
  unfolding set_page originals_of held_originals written dest dest_block
  back block l h =
      let b-in : DataBlock n block = record { low = l; high = h } in
      let k = D M set (pred M set block) in
      let k-in = (D-page M A set set-ok (pred M set block) (pred_in M A set set-ok block b-in)).inside in
      let to = get_or M.list k 0 in
      let goes : block_of m to ≡ block = dest-pred M A set set-ok block b-in in
      let page-lt : page_of m to < m = mod-lt to A.ranges.m-low in
      let down : block - 1 ≡ to / m = omega (arith, goes) in
      let home : number_at m block (page_of m to) ≡ to = ap (λ (b : ℕ). b * m + to % m) down ∙ div-add-mod' to m in
      let sent : sent_to M (number_at m block (page_of m to)) ≡ k = ap (sent_to M) home ∙ sent-entry M A k k-in in
      record {
        page-in = page-lt;
        some = omega arith;
        of-set = each-one (λ j. set_of M.sets j ≡ set) _ (ap (set_of M.sets) sent ∙ (D-page M A set set-ok (pred M set block) (pred_in M A set set-ok block b-in)).in-set);
        known = originals-one M _ (subst (λ (x : ℕ). x < original_count Z) (sym sent) k-in);
        holds = λ marks value page H S.
            let here : slot_of m to ≡ slot m block (page_of m to) = ap (λ (b : ℕ). slot m b (page_of m to)) goes in
            ap page (sym here)
            ∙ H.final k k-in (ap (mark_at marks) here ∙ full_at m marks block (letter Z 2) (page_of m to) (S.above block (omega arith) h) page-lt)
            ∙ sym (sum_one value _ ∙ ap value sent);
      }

  pub last-page : (pass : Pass) (block : ℕ) → 1 ≤ edge pass block → edge pass block ≤ n → LastPage pass block
  last-page forward block l h = forth block h
  last-page backward block l h = back block l h

-- the zero sum
module _ (M : Move) (A : AcceptedMove M) (marks : List ℕ) (place : ℕ) (J : JustFilled M.sizes marks place) (set : ℕ) (set-ok : set < M.sizes.m) where
  open M.sizes use {n, m}

  -- the slot of that page, and the originals that it holds
  abbrev pub last_slot : ℕ
  last_slot = slot m J.block (set_page M J.pass J.block set)

  abbrev pub last_originals : List ℕ
  last_originals = originals_of M J.pass J.block (set_page M J.pass J.block set)

  pub L : LastPage M A set set-ok J.pass J.block
  L = last-page M A set set-ok J.pass J.block J.low J.high

  abbrev pub rest : List ℕ
  rest = added (map (read_slots M (marks_begun M A marks place J)) last_originals)

  abbrev pub zero : List ℕ
  zero = zero_slots M (marks_begun M A marks place J) J.pass J.block set

  pub zero_is : zero ≡ apart (last_slot ∷ []) rest
  unfolding zero_slots added
  zero_is = refl

  pub reads-begun : (k : ℕ) → k < original_count M.sizes → Reads M (marks_begun M A marks place J) n (read_slots M (marks_begun M A marks place J) k) k
  reads-begun k h = reads M A (marks_begun M A marks place J) J.block (suc J.block) k h (letter_above J.pass) (which-pass J.pass) J.begun.shape

  one-distinct : (t : ℕ) → Distinct (t ∷ [])
  one-distinct t i j h l e = omega arith

  module _ (value page : ℕ → List ℕ) (H : Shows M marks value page) (i : ℕ) where
    abbrev byte : ℕ → ℕ
    byte t = get_or (page t) i 0

    rest_up : AddedUp (read_slots M (marks_begun M A marks place J)) page i last_originals
    rest_up = added-up (read_slots M (marks_begun M A marks place J)) page i last_originals (λ j h. (reads-begun (get_or last_originals j 0) (L.known j h)).distinct)

    pub rest-bytes : mix byte rest ≡ get_or (page last_slot) i 0
    rest-bytes =
        rest_up.bytes
        ∙ ap (λ (p : List ℕ). get_or p i 0)
        (sum_same (λ k. sum page (read_slots M (marks_begun M A marks place J) k)) value last_originals
        (λ j h. (reads-begun (get_or last_originals j 0) (L.known j h)).original value page (shows-begun M A marks place J value page H))
        ∙ sym (L.holds marks value page H J.full))

    pub zero-bytes : mix byte (zero) ≡ 0
    unfolding mix
    zero-bytes =
        ap (mix byte) zero_is
        ∙ mix-apart byte (last_slot ∷ []) rest (one-distinct last_slot) rest_up.distinct
        ∙ ap₂ bit_xor (xor_zero_r (byte last_slot)) rest-bytes
        ∙ xor_self (byte last_slot)

  pub zero-distinct : Distinct (zero)
  zero-distinct =
      subst Distinct (sym zero_is)
      (apart_distinct (last_slot ∷ []) rest (one-distinct last_slot)
      (added-up (read_slots M (marks_begun M A marks place J)) (λ t. []) 0 last_originals (λ j h. (reads-begun (get_or last_originals j 0) (L.known j h)).distinct)).distinct)
