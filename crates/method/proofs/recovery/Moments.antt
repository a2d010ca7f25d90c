-- Moments of a move: the marks that places have, and those that cuts leave. A moment goes by the place where the move goes on after
-- a mend, which the marks tell (Recovery).
use Rattle.flash.proofs.Kit.{◌≡◌, refl, sym, ap, ◌∙◌, subst, ◌≢◌, ⊎_elim, List, ℕ, ◌+◌, ◌*◌, ◌≤◌, ◌<◌, div-add-mod', mod-lt, arith, length}
use Rattle.flash.proofs.Kit.{get_or}
use Rattle.flash.specs.declared.sizes.Sizes.{Sizes}
use Rattle.flash.specs.Geometry.{slot, slot_of, block_of, page_of, original_count, marks_len, letter}
use Rattle.flash.specs.Chip.{Chip, erased, page_at, mark_at}
use Rattle.method.specs.Move.{Plan, AcceptedMove}
use Rattle.method.specs.State.{counts_as}
use Rattle.method.specs.Place.{last_place, pass_at, filling, filled, above, held_at, held_mark}
use Rattle.method.proofs.basics.Indexes.{Order, less, same, more, order, this-or-other}
use Rattle.method.proofs.basics.MoveShape.{Holding}
use Rattle.method.proofs.basics.AcceptedCalls.{StandsAt}
use Rattle.method.proofs.cycles.SetCycles.{block_in, entry_in}
use Rattle.method.proofs.places.StepsAtPlaces.{Stands, page-cases, filling-in, last-stands}
use Rattle.method.proofs.places.PagesHeld.{MarksAt, stands-marks, held_below, held-above, held-blank}
use Rattle.method.proofs.places.PlaceShape.{Shaped, shape-around, shape-full}
use Rattle.method.proofs.places.Turns.{turn, resumes_at, resumes-start, resumes-there, start-stands}

module _ (Z : Sizes) where
  open Z use {n, m}

  -- Of the block that is being filled a page has no letter, and the others are anything; or all are as the place has them.
  pub data Block (marks : List ℕ) (place : ℕ) : Type 0 where
    unfinished : filled Z place ≡ 0 → (q : ℕ) → q < m → 3 ≤ mark_at marks (slot m (filling Z place) q) → Block marks place
    whole : filled Z place ≡ m → ((q : ℕ) → q < m → mark_at marks (slot m (filling Z place) q) ≡ held_mark Z (held_at Z place (filling Z place) q)) → Block marks place

  -- all blocks but one are as the place has them
  pub record Moment (marks : List ℕ) (place : ℕ) : Type 0 where
    pub in-move : place ≤ last_place Z
    pub marks-length : length marks ≡ marks_len Z
    pub others : (b q : ℕ) → b ≢ filling Z place → b ≤ n → q < m → mark_at marks (slot m b q) ≡ held_mark Z (held_at Z place b q)
    pub own : Block marks place

  -- ---- places
  -- outside the block that is being filled, the places of a turn are alike
  held-around : (place other : ℕ) → pass_at Z place ≡ pass_at Z other → filling Z place ≡ filling Z other → (b q : ℕ) → b ≢ filling Z place → held_at Z place b q ≡ held_at Z other b q
  held-around place other e f b q apart = go (order b (filling Z place))
    where
      go : Order b (filling Z place) → held_at Z place b q ≡ held_at Z other b q
      go (less l) = held_below Z place b q l ∙ sym (held_below Z other b q (omega arith))
      go (same l) = absurd (apart l)
      go (more l) = held-above Z place b q l ∙ ap above e ∙ sym (held-above Z other b q (omega arith))

  -- the page that is written next has no letter, and the other blocks are as the place has them
  pub filling-moment : (place : ℕ) → place ≤ last_place Z → filled Z place < m → (marks : List ℕ) → length marks ≡ marks_len Z
      → ((b q : ℕ) → b ≢ filling Z place → b ≤ n → q < m → mark_at marks (slot m b q) ≡ held_mark Z (held_at Z place b q))
      → 3 ≤ mark_at marks (slot m (filling Z place) (filled Z place)) → Moment marks (resumes_at Z place)
  filling-moment place in-move k marks size others hole =
      let start-in : turn Z place * (m + 1) ≤ last_place Z = omega (arith, div-add-mod' place (m + 1)) in
      subst (Moment marks) (sym (resumes-start Z place k)) (from (turn Z place * (m + 1)) start-in (start-stands Z place in-move))
    where
      from : (start : ℕ) → start ≤ last_place Z → Stands Z start (pass_at Z place) (filling Z place) 0 → Moment marks start
      from start h S = record {
        in-move = h;
        marks-length = size;
        others = λ b q apart l r.
            let other : b ≢ filling Z place = λ e. apart (e ∙ sym S.block-is) in
            others b q other l r ∙ ap (held_mark Z) (held-around place start (sym S.pass-is) (sym S.block-is) b q other);
        own = unfinished S.pages-is (filled Z place) k (subst (λ (b : ℕ). 3 ≤ mark_at marks (slot m b (filled Z place))) (sym S.block-is) hole);
      }

  module _ (place : ℕ) (in-move : place ≤ last_place Z) (marks : List ℕ) (A : MarksAt Z place marks) where
    hole-is : filled Z place < m → mark_at marks (slot m (filling Z place) (filled Z place)) ≡ erased
    unfolding held_mark
    hole-is k =
        A.mark-is (filling Z place) (filled Z place) (filling-in Z place in-move) k
        ∙ ap (held_mark Z) (held-blank Z place (filling Z place) (filled Z place) refl (omega arith))

    full-moment : filled Z place ≡ m → Moment marks place
    full-moment k = record {
      in-move = in-move;
      marks-length = A.length-is;
      others = λ b q apart. A.mark-is b q;
      own = whole k (λ q. A.mark-is (filling Z place) q (filling-in Z place in-move));
    }

    pub place-moment : Moment marks (resumes_at Z place)
    place-moment =
        ⊎_elim
        (λ k. filling-moment place in-move k marks A.length-is (λ b q apart. A.mark-is b q) (omega (arith, hole-is k)))
        (λ k. subst (Moment marks) (sym (resumes-there Z place k)) (full-moment k))
        (page-cases Z place)

  -- ---- the end of the move
  -- all data blocks are full of s + 2
  finished-marks : (marks : List ℕ) → Moment marks (last_place Z) → (b q : ℕ) → 1 ≤ b → b ≤ n → q < m → mark_at marks (slot m b q) ≡ letter Z 2
  unfolding held_mark above
  finished-marks marks M b q low h k =
      let E = last-stands Z in
      let at-end = E.block-is in
      M.others b q (omega arith) h k ∙ ap (held_mark Z) (held-above Z (last_place Z) b q (omega arith) ∙ ap above E.pass-is)

  -- ---- shapes
  module _ (marks : List ℕ) (place : ℕ) (M : Moment marks place) where
    -- with no block unfinished, the marks are those of the place
    pub moment-marks : ((q : ℕ) → q < m → mark_at marks (slot m (filling Z place) q) ≡ held_mark Z (held_at Z place (filling Z place) q)) → MarksAt Z place marks
    moment-marks f = record {
      length-is = M.marks-length;
      mark-is = λ b q h k.
          this-or-other (λ c. mark_at marks (slot m c q) ≡ held_mark Z (held_at Z place c q)) (filling Z place) b (f q k) (λ apart. M.others b q apart h k);
    }

  pub moment-shape : (marks : List ℕ) (place : ℕ) → Moment marks place → Shaped Z marks
  moment-shape marks place M = go M.own
    where
      go : Block marks place → Shaped Z marks
      go (unfinished z q k hole) = record { low = _; high = _; pass = pass_at Z place; shape = shape-around Z place M.in-move marks M.others q k hole }
      go (whole k f) = record { low = _; high = _; pass = pass_at Z place; shape = shape-full Z place M.in-move marks (moment-marks marks place M f) k }

-- a chip that stands at a place
pub stands-moment : (Z : Sizes) (chip : Chip) (place : ℕ) → StandsAt Z chip place → Moment Z chip.marks (resumes_at Z place)
stands-moment Z chip place S = place-moment Z place S.inside chip.marks (stands-marks Z S)

-- once the move is over, every original lies where the list sends it, as what it counts as
pub finished-page : (X : Plan) (A : AcceptedMove X.move) (originals : List ℕ) (chip : Chip) → Moment X.move.sizes chip.marks (last_place X.move.sizes)
    → Holding X originals chip → (k : ℕ) → k < original_count X.move.sizes
    → page_at X.move.sizes.p chip (slot_of X.move.sizes.m (get_or X.move.list k 0)) ≡ counts_as X originals k
finished-page X A originals chip N H k h =
    let M = X.move in
    let to = get_or M.list k 0 in
    let b = block_in M A to (entry_in M A k h) in
    H.final k h (finished-marks M.sizes chip.marks N (block_of M.sizes.m to) (page_of M.sizes.m to) b.low b.high (mod-lt to A.ranges.m-low))
