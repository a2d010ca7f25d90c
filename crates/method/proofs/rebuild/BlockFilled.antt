-- Marks with no block unfinished: the block that was filled last, and the marks with which it was begun.
use Rattle.flash.proofs.Kit.{◌≡◌, sym, ap, ◌∙◌, subst, Option, none, some, List, ℕ, suc, ◌+◌, ◌-◌, ◌*◌, ◌/◌, ◌%◌, ◌≤◌, ◌<◌, mul-le-mul_right, suc-mul, add-zero, mod-lt, arith, get_or, ⊎_elim}
use Rattle.flash.specs.Tables.{Row}
use Rattle.flash.specs.declared.sizes.Sizes.{Sizes}
use Rattle.flash.specs.Geometry.{Bounds, slot, slot_of, slot_count, letter, original_count}
use Rattle.flash.specs.Chip.{erased, mark_at}
use Rattle.flash.proofs.Blocks.{full_at}
use Rattle.flash.proofs.Bounds.{slot-in-marks}
use Rattle.flash.proofs.Comparisons.{lt-cases}
use Rattle.method.specs.Move.{Move, AcceptedMove}
use Rattle.method.specs.Place.{Pass, forward, backward, last_place, pass_at, held_mark, marks_of}
use Rattle.method.specs.Mend.{Reading, forward_torn, backward_torn, forward_full, backward_full, reading}
use Rattle.method.specs.inner.Shape.{Shape}
use Rattle.method.proofs.basics.Indexes.{Order, less, same, more, order, each-slot, clash}
use Rattle.method.proofs.basics.MoveShape.{Shows}
use Rattle.method.proofs.cycles.SetCycles.{block_in, entry_in}
use Rattle.method.proofs.places.StepsAtPlaces.{turn_of, Fills, Stands, stands_at, filling-in}
use Rattle.method.proofs.places.PagesHeld.{edge, marks_of-at, held-blank}
use Rattle.method.proofs.places.PlaceShape.{letter_above, shape-filling, shape-full}
use Rattle.method.proofs.recovery.LinesAgree.{Fit, torn-forth, torn-back, full-forth, full_back}
use Rattle.method.proofs.recovery.FittingMarks.{torn-shape, filled-shape, read-row}

module _ (Z : Sizes) where
  open Z use {n, m}

  -- the marks of a place where a block is begun
  pub record Begun (start : ℕ) (pass : Pass) (block : ℕ) : Type 0 where
    pub stands : Stands Z start pass block 0
    pub shape : Shape Z (marks_of Z start) block (suc block) (letter_above pass)
    pub empty : (q : ℕ) → q < m → mark_at (marks_of Z start) (slot m block q) ≡ erased

  -- and of one where it is filled, and every block is full
  pub record JustFilled (marks : List ℕ) (place : ℕ) : Type 0 where
    pub pass : Pass
    pub block : ℕ
    pub stands : Stands Z place pass block m
    pub in-move : place ≤ last_place Z
    pub low : 1 ≤ edge pass block
    pub high : edge pass block ≤ n
    pub full : Shape Z marks (edge pass block) (edge pass block) (letter_above pass)
    pub begun : Begun (place - m) pass block

  fills : (pass : Pass) (block : ℕ) → edge pass block ≤ n → Fills Z pass block
  fills forward block h = h
  fills backward block h = h

  turn_low : (pass : Pass) (block : ℕ) → edge pass block ≤ n → turn_of Z pass block ≤ 2 * n
  turn_low forward block h = omega arith
  turn_low backward block h = omega arith

  turn-high : (pass : Pass) (block : ℕ) → 1 ≤ edge pass block → edge pass block ≤ n → suc (turn_of Z pass block) ≤ 2 * n
  turn-high forward block l h = omega arith
  turn-high backward block l h = omega arith

  pub begins : 1 ≤ m → (pass : Pass) (block : ℕ) → edge pass block ≤ n → Begun (turn_of Z pass block * (m + 1) + 0) pass block
  unfolding last_place held_mark
  begins pages pass block h =
      let start : ℕ = turn_of Z pass block * (m + 1) + 0 in
      let S = stands_at Z pass block 0 (fills pass block h) (omega arith) in
      let in-move : start ≤ last_place Z = omega (arith, mul-le-mul_right (m + 1) (turn_low pass block h)) in
      let A = marks_of-at Z start in
      let T = shape-filling Z start in-move (marks_of Z start) A (omega (arith, S.pages-is)) in
      record {
        stands = S;
        shape = subst (λ (p : Pass). Shape Z (marks_of Z start) block (suc block) (letter_above p)) S.pass-is
            (subst (λ (b : ℕ). Shape Z (marks_of Z start) b (suc b) (letter_above (pass_at Z start))) S.block-is T);
        empty = λ q k.
            let inside : block ≤ n = rw S.block-is at (filling-in Z start in-move) in
            A.mark-is block q inside k ∙ ap (held_mark Z) (held-blank Z start block q (sym S.block-is) (omega (arith, S.pages-is)));
      }

  pub filled_at : 1 ≤ m → (marks : List ℕ) (pass : Pass) (block : ℕ) → 1 ≤ edge pass block → edge pass block ≤ n
      → Shape Z marks (edge pass block) (edge pass block) (letter_above pass) → JustFilled marks (turn_of Z pass block * (m + 1) + m)
  unfolding last_place
  filled_at pages marks pass block l h S =
      let t : ℕ = turn_of Z pass block * (m + 1) in
      let far : suc (turn_of Z pass block) * (m + 1) ≤ 2 * n * (m + 1) = mul-le-mul_right (m + 1) (turn-high pass block l h) in
      let on : suc (turn_of Z pass block) * (m + 1) ≡ t + (m + 1) = suc-mul (turn_of Z pass block) (m + 1) in
      let back : t + 0 ≡ t + m - m = omega arith in
      record {
        pass = pass;
        block = block;
        stands = stands_at Z pass block m (fills pass block h) (omega arith);
        in-move = omega (arith, far, on);
        low = l;
        high = h;
        full = S;
        begun = subst (λ (start : ℕ). Begun start pass block) back (begins pages pass block h);
      }

some-none : (b : ℕ) → ◌≡◌ {A = Option ℕ} (some b) none → ⊥
some-none b e = (let z : ◌≡◌ {A = ℕ} 0 1 = cc in clash z)

some_same : (b c : ℕ) → ◌≡◌ {A = Option ℕ} (some b) (some c) → b ≡ c
some_same b c e = cc

-- what the marks tell
module _ (Z : Sizes) (B : Bounds Z) (marks : List ℕ) (found : Reading) (e : reading Z marks ≡ some found) where
  open Z use {n, m}

  pub just-filled : found.to_erase ≡ none → JustFilled Z marks found.place
  unfolding forward_torn backward_torn forward_full backward_full
  just-filled whole = (let r = read-row Z B.m-low marks found e in go r.0 r.1 r.2)
    where
      go : (row : Row Reading) → Fit Z B.m-low marks row → row.gives ≡ found → JustFilled Z marks found.place
      go row (torn-forth b T g) is = absurd (some-none b (ap (λ (x : Reading). x.to_erase) (sym g ∙ is) ∙ whole))
      go row (torn-back b T g) is = absurd (some-none b (ap (λ (x : Reading). x.to_erase) (sym g ∙ is) ∙ whole))
      go row (full-forth b F g) is =
          let up : b ≡ suc (b - 1) = omega (arith, F.low) in
          subst (JustFilled Z marks) (ap (λ (x : Reading). x.place) (sym g ∙ is))
          (filled_at Z B.m-low marks forward (b - 1) (omega arith) (omega (arith, F.high, F.low))
          (subst (λ (x : ℕ). Shape Z marks x x 0) up (filled-shape Z B.m-low marks 0 b F)))
      go row (full_back b F g) is =
          subst (JustFilled Z marks) (ap (λ (x : Reading). x.place) (sym g ∙ is))
          (filled_at Z B.m-low marks backward b F.low F.high (filled-shape Z B.m-low marks 2 b F))

  -- or a block is torn, and the place is where it is begun anew
  pub record BlockTorn (block : ℕ) : Type 0 where
    pub pass : Pass
    pub shape : Shape Z marks block (suc block) (letter_above pass)
    pub begun : Begun Z found.place pass block
    pub in-move : found.place ≤ last_place Z

  pub block-torn : (block : ℕ) → found.to_erase ≡ some block → BlockTorn block
  unfolding forward_torn backward_torn forward_full backward_full last_place
  block-torn block torn = (let r = read-row Z B.m-low marks found e in go r.0 r.1 r.2)
    where
      tell : (pass : Pass) (b : ℕ) → b ≡ block → edge pass b ≤ n → Shape Z marks b (suc b) (letter_above pass) → turn_of Z pass b * (m + 1) ≡ found.place → BlockTorn block
      tell pass b is h S at =
          let start : turn_of Z pass b * (m + 1) + 0 ≡ found.place = add-zero (turn_of Z pass b * (m + 1)) ∙ at in
          subst BlockTorn is
          (record {
            pass = pass;
            shape = S;
            begun = subst (λ (p : ℕ). Begun Z p pass b) start (begins Z B.m-low pass b h);
            in-move = rw (← at) (mul-le-mul_right (m + 1) (turn_low Z pass b h));
          })

      -- where block n is torn, both passes tell the same
      last : (b : ℕ) → n ≤ b → Shape Z marks b (suc b) 0 → Shape Z marks b (suc b) 2
      last b h S = record {
        below = S.below;
        above = λ c l r. absurd (omega arith);
        between = S.between;
        order = S.order;
        near = S.near;
        inside = S.inside;
      }

      forth : (b : ℕ) → b ≡ block → Shape Z marks b (suc b) 0 → b * (m + 1) ≡ found.place → BlockTorn block
      forth b is S at = ⊎_elim
          (λ (l : b < n). tell forward b is l S at)
          (λ (l : n ≤ b).
          let turn : 2 * n - b ≡ b = omega (arith, S.inside) in
          tell backward b is S.inside (last b l S) (ap (λ (x : ℕ). x * (m + 1)) turn ∙ at))
          (lt-cases b n)

      go : (row : Row Reading) → Fit Z B.m-low marks row → row.gives ≡ found → BlockTorn block
      go row (torn-forth b T g) is =
          forth b (some_same b block (ap (λ (x : Reading). x.to_erase) (sym g ∙ is) ∙ torn))
          (torn-shape Z B.m-low marks 0 b T) (ap (λ (x : Reading). x.place) (sym g ∙ is))
      go row (torn-back b T g) is =
          tell backward b (some_same b block (ap (λ (x : Reading). x.to_erase) (sym g ∙ is) ∙ torn)) T.low
          (torn-shape Z B.m-low marks 2 b T) (ap (λ (x : Reading). x.place) (sym g ∙ is))
      go row (full-forth b F g) is = absurd (some-none block (sym (ap (λ (x : Reading). x.to_erase) (sym g ∙ is) ∙ torn)))
      go row (full_back b F g) is = absurd (some-none block (sym (ap (λ (x : Reading). x.to_erase) (sym g ∙ is) ∙ torn)))

-- ---- from the marks with which the block was begun to those where it is filled, no page has lost its letter
module _ (M : Move) (A : AcceptedMove M) (marks : List ℕ) (place : ℕ) (J : JustFilled M.sizes marks place) where
  open M.sizes use {n, m}

  abbrev Z : Sizes
  Z = M.sizes

  abbrev pub marks_begun : List ℕ
  marks_begun = marks_of Z (place - m)

  edge-between : (pass : Pass) (b : ℕ) → (b ≤ edge pass b) × (edge pass b ≤ suc b)
  edge-between forward b = (omega arith, omega arith)
  edge-between backward b = (omega arith, omega arith)

  stays : (t : ℕ) → t < slot_count Z → (j : ℕ) → mark_at marks_begun t ≡ letter Z j → mark_at marks t ≡ letter Z j
  unfolding letter
  stays = each-slot m (n + 1) (λ t. (j : ℕ) → mark_at marks_begun t ≡ letter Z j → mark_at marks t ≡ letter Z j)
      (λ b q h k j e. at b q (omega arith) k j e (order b J.block))
    where
      at : (b q : ℕ) → b ≤ n → q < m → (j : ℕ) → mark_at marks_begun (slot m b q) ≡ letter Z j → Order b J.block → mark_at marks (slot m b q) ≡ letter Z j
      at b q h k j e (less l) =
          let N = edge-between J.pass J.block in
          full_at m marks b (letter Z 1) q (J.full.below b (omega (arith, N.0))) k
          ∙ sym (full_at m marks_begun b (letter Z 1) q (J.begun.shape.below b l) k) ∙ e
      at b q h k j e (same l) =
          let z : mark_at marks_begun (slot m b q) ≡ erased = ap (λ (x : ℕ). mark_at marks_begun (slot m x q)) l ∙ J.begun.empty q k in
          absurd (omega (arith, sym z ∙ e))
      at b q h k j e (more l) =
          let N = edge-between J.pass J.block in
          full_at m marks b (letter Z (letter_above J.pass)) q (J.full.above b (omega (arith, N.1)) h) k
          ∙ sym (full_at m marks_begun b (letter Z (letter_above J.pass)) q (J.begun.shape.above b (omega arith) h) k) ∙ e

  page-slot : (k : ℕ) → k < original_count Z → slot_of m k < slot_count Z
  page-slot k h = slot-in-marks Z (k / m + 1) (k % m) (block_in M A k h).high (mod-lt k A.ranges.m-low)

  pub shows-begun : (value page : ℕ → List ℕ) → Shows M marks value page → Shows M marks_begun value page
  shows-begun value page H = record {
    whole = H.whole;
    plain = λ k h e. H.plain k h (stays (slot_of m k) (page-slot k h) 0 e);
    code = λ set v s l u e. H.code set v s l u (stays (slot m (v - 1) set) (slot-in-marks Z (v - 1) set (omega arith) s) 1 e);
    final = λ k h e. H.final k h (stays (slot_of m (get_or M.list k 0)) (page-slot (get_or M.list k 0) (entry_in M A k h)) 2 e);
  }

-- the marks of the place itself are such marks
abbrev pub filled-there : (Z : Sizes) (marks : List ℕ) (place : ℕ) → JustFilled Z marks place → JustFilled Z (marks_of Z place) place
filled-there Z marks place J = record {
  pass = J.pass;
  block = J.block;
  stands = J.stands;
  in-move = J.in-move;
  low = J.low;
  high = J.high;
  full = subst (λ (p : Pass). Shape Z (marks_of Z place) (edge p J.block) (edge p J.block) (letter_above p)) J.stands.pass-is
      (subst (λ (b : ℕ). Shape Z (marks_of Z place) (edge (pass_at Z place) b) (edge (pass_at Z place) b) (letter_above (pass_at Z place))) J.stands.block-is
      (shape-full Z place J.in-move (marks_of Z place) (marks_of-at Z place) J.stands.pages-is));
  begun = J.begun;
}
