-- The pages of a set in an accepted move: D, dest and pred are what their names say, and so is sent_to.
use Rattle.flash.proofs.Kit.{◌≡◌, sym, ap, ◌∙◌, ℕ, ◌+◌, ◌-◌, ◌*◌, ◌/◌, ◌%◌, ◌<◌, div-add-mod', div-lt_iff_lt-mul, mod-lt, arith, eqb, get_or, eqb-true}
use Rattle.flash.proofs.Kit.{eq-eqb}
use Rattle.flash.specs.Geometry.{block_of, page_of, slot_of, original_count, slot_count}
use Rattle.flash.proofs.Bounds.{slot-in-marks}
use Rattle.flash.proofs.Ranges.{First, first-hit}
use Rattle.split.specs.Split.{source_block, dest_block, set_of}
use Rattle.split.proofs.OneToOneLaws.{entry_lt, entry-same, entry-onto}
use Rattle.split.proofs.SplitLaws.{PageOf, set-lt, page-from, page-to, same_from, same-to, block-range}
use Rattle.method.specs.Move.{Move, AcceptedMove}
use Rattle.method.specs.Cycle.{D, dest, pred, sent_to}
use Rattle.method.proofs.basics.Indexes.{slot-div}
use Rattle.method.proofs.cycles.Orbits.{DataBlock, OneToOne}

module _ (M : Move) (A : AcceptedMove M) where
  open M.sizes use {n, m}
  open M use {list, sets}

  -- ---- originals
  pub entry_in : (k : ℕ) → k < original_count M.sizes → get_or list k 0 < original_count M.sizes
  entry_in k h = entry_lt (n * m) list A.one-to-one k (omega (arith, A.list_length))

  pub set-in : (k : ℕ) → k < original_count M.sizes → set_of sets k < m
  set-in k h = set-lt n m list sets A.split k (omega (arith, A.sets-length))

  pub block_in : (k : ℕ) → k < original_count M.sizes → DataBlock n (block_of m k)
  block_in k h = let b = block-range n m k h in record { low = b.0; high = b.1 }

  pub slot-in : (k : ℕ) → k < original_count M.sizes → slot_of m k < slot_count M.sizes
  slot-in k h = slot-in-marks M.sizes (block_of m k) (page_of m k) (block_in k h).high (mod-lt k A.ranges.m-low)

  module _ (set : ℕ) (set-ok : set < m) where
    -- ---- D(i), rule 3.1
    pub D-page : (i : ℕ) → DataBlock n i → PageOf (original_count M.sizes) sets (source_block m) set i (D M set i)
    unfolding D source_block
    D-page i b =
        let found = page-from n m list sets A.split set i set-ok b.low b.high in
        let k = found.0 in
        let p = found.1 in
        let k-is : k / m ≡ i - 1 = omega (arith, p.at_block) in
        let parts : (i - 1) * m + k % m ≡ k = rw (← k-is) (div-add-mod' k m) in
        let page-lt = mod-lt k A.ranges.m-low in
        let f = first-hit (λ k. eqb (set_of sets k) set) ((i - 1) * m) m k 0 (omega arith) (omega arith) (eq-eqb (set_of sets k) set p.in-set) in
        let d : ℕ = D M set i in
        let d-parts : (i - 1) * m + (d - (i - 1) * m) ≡ d = omega (arith, f.low) in
        let d-div : d / m ≡ i - 1 = rw (← d-parts) (slot-div m (i - 1) (d - (i - 1) * m) (omega (arith, f.low, f.high))) in
        record {
          inside = (div-lt_iff_lt-mul A.ranges.m-low).0 (omega arith);
          in-set = eqb-true (set_of sets d) set f.passes;
          at_block = omega arith;
        }

    -- ---- the block where D(i) goes
    pub dest-in : (i : ℕ) → DataBlock n i → DataBlock n (dest M set i)
    unfolding dest dest_block
    dest-in i b = block_in (get_or list (D M set i) 0) (entry_in (D M set i) (D-page i b).inside)

    pub dest-same : (i j : ℕ) → DataBlock n i → DataBlock n j → dest M set i ≡ dest M set j → i ≡ j
    unfolding dest
    dest-same i j a b e =
        let p = D-page i a in
        let q = D-page j b in
        let same = same-to n m list sets A.split A.sets-length A.list_length A.one-to-one (D M set i) (D M set j) p.inside q.inside e (p.in-set ∙ sym q.in-set) in
        sym p.at_block ∙ ap (source_block m) same ∙ q.at_block

    pub dest-one : OneToOne n (dest M set)
    dest-one = record { into = dest-in; same = dest-same }

  -- ---- the page of a set from a block is the one that is there
  module _ (k : ℕ) (h : k < original_count M.sizes) where
    pub D-is : D M (set_of sets k) (block_of m k) ≡ k
    unfolding source_block
    D-is =
        let p = D-page (set_of sets k) (set-in k h) (block_of m k) (block_in k h) in
        same_from n m list sets A.split A.sets-length (D M (set_of sets k) (block_of m k)) k p.inside h p.at_block p.in-set

    pub dest-is : dest M (set_of sets k) (block_of m k) ≡ dest_block m list k
    unfolding dest
    dest-is = ap (dest_block m list) D-is

  module _ (set : ℕ) (set-ok : set < m) where
    -- ---- pred(i), rule 3.1
    pred-found : (i : ℕ) → DataBlock n i → First (λ j. eqb (dest M set j) i) 1 n (pred M set i)
    unfolding pred
    pred-found i b =
        let found = page-to n m list sets A.split set i set-ok b.low b.high in
        let k = found.0 in
        let p = found.1 in
        let from = block_in k p.inside in
        let goes : dest M set (block_of m k) ≡ i = ap (λ (q : ℕ). dest M q (block_of m k)) (sym p.in-set) ∙ dest-is k p.inside ∙ p.at_block in
        first-hit (λ j. eqb (dest M set j) i) 1 n (block_of m k) 0 (omega arith) (omega arith) (eq-eqb (dest M set (block_of m k)) i goes)

    pub pred_in : (i : ℕ) → DataBlock n i → DataBlock n (pred M set i)
    pred_in i b = let f = pred-found i b in record { low = f.low; high = omega arith }

    pub dest-pred : (i : ℕ) → DataBlock n i → dest M set (pred M set i) ≡ i
    dest-pred i b = eqb-true (dest M set (pred M set i)) i (pred-found i b).passes

    pub pred-dest : (i : ℕ) → DataBlock n i → pred M set (dest M set i) ≡ i
    pred-dest i b =
        let to = dest-in set set-ok i b in
        dest-same set set-ok (pred M set (dest M set i)) i (pred_in (dest M set i) to) b (dest-pred (dest M set i) to)

  -- ---- the original that the list sends to a page number
  sent-found : (t : ℕ) → t < original_count M.sizes → First (λ k. eqb (get_or list k 0) t) 0 (original_count M.sizes) (sent_to M t)
  unfolding sent_to
  sent-found t h =
      let found = entry-onto (n * m) list A.one-to-one A.list_length t h in
      first-hit (λ k. eqb (get_or list k 0) t) 0 (n * m) found.0 0 (omega arith) (omega (arith, found.1)) (eq-eqb (get_or list found.0 0) t found.2)

  pub sent-in : (t : ℕ) → t < original_count M.sizes → sent_to M t < original_count M.sizes
  sent-in t h = omega (arith, (sent-found t h).high)

  pub entry-sent : (t : ℕ) → t < original_count M.sizes → get_or list (sent_to M t) 0 ≡ t
  entry-sent t h = eqb-true (get_or list (sent_to M t) 0) t (sent-found t h).passes

  pub sent-entry : (k : ℕ) → k < original_count M.sizes → sent_to M (get_or list k 0) ≡ k
  sent-entry k h =
      let to = entry_in k h in
      entry-same (n * m) list A.one-to-one (sent_to M (get_or list k 0)) k (rw A.list_length (sent-in (get_or list k 0) to)) (rw A.list_length h) (entry-sent (get_or list k 0) to)
