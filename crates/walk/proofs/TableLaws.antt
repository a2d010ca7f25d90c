-- Rows and tables that are filled entry by entry tell the pages and the sources of each set.
use Rattle.flash.proofs.Kit.{◌≡◌, refl, sym, ap, ◌∙◌, ⊎_elim, List, ℕ, zero, suc, ◌+◌, ◌-◌, ◌*◌, ◌/◌, ◌%◌, ◌≤◌, ◌<◌, not-suc-le-zero}
use Rattle.flash.proofs.Kit.{div-add-mod', div-lt_iff_lt-mul, mod-lt, add-one, arith, length, get_or, set, take, drop, length-set, length-take}
use Rattle.flash.proofs.Kit.{length-drop, get_or-take, get_or-drop, get_or-set_same, get_or-set_other}
use Rattle.flash.specs.Lists.{part}
use Rattle.flash.specs.Geometry.{number_at}
use Rattle.flash.proofs.Comparisons.{lt-cases}
use Rattle.flash.proofs.Parts.{part-fits, length_part, part_at}
use Rattle.split.specs.Split.{source_block, dest_block, set_of}
use Rattle.split.proofs.SplitLaws.{same_from, same-to}
use Rattle.method.specs.Move.{Move, AcceptedMove}
use Rattle.method.specs.Cycle.{D, dest, pred}
use Rattle.method.proofs.basics.Indexes.{slot-div, slot-mod}
use Rattle.method.proofs.cycles.Orbits.{DataBlock}
use Rattle.method.proofs.cycles.SetCycles.{set-in, entry_in, D-page, D-is, dest-in, dest-same, pred_in, dest-pred}
use Rattle.walk.specs.inner.Rows.{row_length, table_length, entry_of, ListIn, SetsIn, PagesRow, SourcesRow, PagesTable, SourcesTable, filled_by}
use Rattle.walk.specs.inner.Rows.{pages_by, sources_by}

-- ---- one entry after the other
module _ (at value : ℕ → ℕ) where
  pub filled_more : (before table : List ℕ) (k i x : ℕ) → table ≡ filled_by at value k before → i ≡ at k → x ≡ value k
      → set table i x ≡ filled_by at value (k + 1) before
  unfolding filled_by
  filled_more before table k i x e f g = rw (add-one k, e, f, g)

  pub length-filled : (count : ℕ) (table : List ℕ) → length (filled_by at value count table) ≡ length table
  unfolding filled_by
  length-filled zero table = refl
  length-filled (suc k) table = length-set (filled_by at value k table) (at k) (value k) ∙ length-filled k table

  -- where no two go to one index, each finds its own
  filled_at : (count : ℕ) (table : List ℕ) → ((j k : ℕ) → j < k → k < count → at j ≡ at k → ⊥) → ((k : ℕ) → k < count → at k < length table)
      → (k : ℕ) → k < count → get_or (filled_by at value count table) (at k) 0 ≡ value k
  unfolding filled_by
  filled_at zero table apart inside k h = absurd (not-suc-le-zero h)
  filled_at (suc count) table apart inside k h =
      let before : List ℕ = filled_by at value count table in
      ⊎_elim
      (λ (l : k < count).
      get_or-set_other before (at count) (at k) (value count) 0 (apart k count l (omega arith))
      ∙ filled_at count table (λ i j a b. apart i j a (omega arith)) (λ j a. inside j (omega arith)) k l)
      (λ (l : count ≤ k).
      let e : k ≡ count = omega arith in
      rw e (get_or-set_same before (at count) (value count) 0 (rw (length-filled count table) (inside count (omega arith)))))
      (lt-cases k count)

-- the block of a page number
pub block-lt : (n m t : ℕ) → 1 ≤ m → t < n * m → t / m < n
block-lt n m t h l = (div-lt_iff_lt-mul h).1 l

-- The page of block b + 1 that is the set's, and the block where it goes, counted from 0.
abbrev pub page_from : Move → (set b : ℕ) → ℕ
page_from M set b = D M set (b + 1) - b * M.sizes.m

abbrev pub goes_to : Move → (set b : ℕ) → ℕ
goes_to M set b = dest M set (b + 1) - 1

module _ (M : Move) (set b k : ℕ) where
  -- the original of the set in block b + 1 is k
  pub record Found : Type 0 where
    pub low : b * M.sizes.m ≤ k
    pub page-lt : k - b * M.sizes.m < M.sizes.m
    pub page-is : k - b * M.sizes.m ≡ page_from M set b
    pub target_is : get_or M.list k 0 / M.sizes.m ≡ goes_to M set b
    pub target-lt : get_or M.list k 0 / M.sizes.m < M.sizes.n

module _ (M : Move) (A : AcceptedMove M) where
  open M.sizes use {n, m}
  open M use {list, sets}

  pub list-in : ListIn n m list
  list-in = record { length-is = A.list_length; entry_lt = λ k h. entry_in M A k h }

  pub sets-in : SetsIn n m sets
  unfolding set_of
  sets-in = record { length-is = A.sets-length; set-lt = λ k h. set-in M A k h }

  module _ (set : ℕ) (set-ok : set < m) where
    -- D(v) is a page of its block
    D-parts : (v : ℕ) → DataBlock n v → D M set v ≡ number_at m v (D M set v % m)
    unfolding source_block
    D-parts v b =
        let p = D-page M A set set-ok v b in
        let e : D M set v / m ≡ v - 1 = omega (arith, p.at_block) in
        sym (div-add-mod' (D M set v) m) ∙ ap (λ (x : ℕ). x * m + D M set v % m) e

    -- ---- a row by its entries
    module _ (row : List ℕ) (room : length row ≡ row_length) where
      pages-by : ((v : ℕ) → DataBlock n v → entry_of row v ≡ D M set v % m) → PagesRow M set row
      pages-by e = record {
        fits = record { room = room; page-lt = λ v a b. rw (e v (record { low = a; high = b })) (mod-lt (D M set v) A.ranges.m-low) };
        is = λ v a b. (let v-in : DataBlock n v = record { low = a; high = b } in rw (e v v-in) (sym (D-parts v v-in)));
      }

      sources-by : ((v : ℕ) → DataBlock n v → entry_of row v ≡ pred M set v) → SourcesRow M set row
      sources-by e =
          let tells : (v : ℕ) → 1 ≤ v → v ≤ n → (entry_of row v ≡ pred M set v) × DataBlock n (entry_of row v) = λ v a b.
          let v-in : DataBlock n v = record { low = a; high = b } in
          (e v v-in, rw (e v v-in) (pred_in M A set set-ok v v-in)) in
          record {
            fits = record { room = room; low = λ v a b. (tells v a b).1.low; high = λ v a b. (tells v a b).1.high };
            is = λ v a b. (tells v a b).0;
          }

    -- ---- the rows of one set, block by block: the search in block b + 1, and what it finds
    D-in : (b : ℕ) → b < n → (b * m ≤ D M set (b + 1)) × (D M set (b + 1) - b * m < m) × (D M set (b + 1) < n * m)
    D-in b h =
        let v-in : DataBlock n (b + 1) = record { low = omega arith; high = omega arith } in
        let back : b + 1 - 1 ≡ b = omega arith in
        let parts : D M set (b + 1) ≡ b * m + D M set (b + 1) % m = rw back at (D-parts (b + 1) v-in) in
        let page = mod-lt (D M set (b + 1)) A.ranges.m-low in
        (omega arith, omega arith, (D-page M A set set-ok (b + 1) v-in).inside)

    -- the position of the one page of the set in a block's part of the sets, as it is lent
    pub found : (b start page wanted : ℕ) → b < n → start ≡ b * m → wanted ≡ set → (let row = take (start + m - start) (drop start sets) in
        ((at : ℕ) → at < length row → get_or row at 0 ≡ wanted → ((i : ℕ) → i < length row → get_or row i 0 ≡ wanted → i ≡ at) → page ≡ at)
        → Found M set b (start + page))
    unfolding dest dest_block set_of
    found b start page wanted h begins is one =
        let r = D-in b h in
        let fits = part-fits b n m h in
        let row = take (start + m - start) (drop start sets) in
        let size : start + m - start ≡ m = omega arith in
        let long : length row ≡ m = simp (length-take, length-drop) (omega (arith, A.sets-length)) in
        let at : ℕ = D M set (b + 1) - b * m in
        let whole : start + at ≡ D M set (b + 1) = omega (arith, r.0) in
        let v-in : DataBlock n (b + 1) = record { low = omega arith; high = omega arith } in
        let there : (i : ℕ) → i < m → get_or row i 0 ≡ get_or sets (start + i) 0 = λ i l.
        (rw size (get_or-take m (drop start sets) i 0 l) ∙ get_or-drop start sets i 0) in
        let here : page ≡ at = one at (omega (arith, r.1))
        (there at r.1 ∙ ap (set_of sets) whole ∙ (D-page M A set set-ok (b + 1) v-in).in-set ∙ sym is) (λ i l e.
        let low : i < m = omega arith in
        let block : (start + i) / m + 1 ≡ b + 1 = rw begins (ap (λ (x : ℕ). x + 1) (slot-div m b i low)) in
        let in-set : get_or sets (start + i) 0 ≡ set = sym (there i low) ∙ e ∙ is in
        let this = rw (in-set, block) at (D-is M A (start + i) (omega arith)) in
        omega arith) in
        let k : start + page ≡ D M set (b + 1) = ap (λ (x : ℕ). start + x) here ∙ whole in
        rw k
        (record {
          low = r.0;
          page-lt = r.1;
          page-is = refl;
          target_is = omega arith;
          target-lt = block-lt n m (get_or list (D M set (b + 1)) 0) A.ranges.m-low (entry_in M A (D M set (b + 1)) r.2);
        })

    module _ (row : List ℕ) (h : length row ≡ row_length) where
      pub pages-row : PagesRow M set (filled_by (λ b. b) (page_from M set) n row)
      pages-row =
          pages-by (filled_by (λ b. b) (page_from M set) n row) (length-filled (λ b. b) (page_from M set) n row ∙ h)
          (λ v v-in.
          let e : v - 1 + 1 ≡ v = omega (arith, v-in.low) in
          filled_at (λ b. b) (page_from M set) n row (λ j k l r q. omega arith) (λ k l. omega (arith, A.ranges.n-high)) (v - 1)
          (omega (arith, v-in.low, v-in.high))
          ∙ rw e (omega (arith, D-parts v v-in)))

      pub sources-row : SourcesRow M set (filled_by (goes_to M set) (λ b. b + 1) n row)
      sources-row =
          let goes : (b : ℕ) → b < n → DataBlock n (dest M set (b + 1)) = λ b l. dest-in M A set set-ok (b + 1)
          (record { low = omega arith; high = omega arith }) in
          sources-by (filled_by (goes_to M set) (λ b. b + 1) n row) (length-filled (goes_to M set) (λ b. b + 1) n row ∙ h)
          (λ v v-in.
          let u-in = pred_in M A set set-ok v v-in in
          let e : pred M set v - 1 + 1 ≡ pred M set v = omega (arith, u-in.low) in
          let f : goes_to M set (pred M set v - 1) ≡ v - 1 = rw e (ap (λ (x : ℕ). x - 1) (dest-pred M A set set-ok v v-in)) in
          let at = filled_at (goes_to M set) (λ b. b + 1) n row
          (λ j k l r q.
          let j-in : DataBlock n (j + 1) = record { low = omega arith; high = omega arith } in
          let k-in : DataBlock n (k + 1) = record { low = omega arith; high = omega arith } in
          let same = dest-same M A set set-ok (j + 1) (k + 1) j-in k-in (omega (arith, (goes j (omega arith)).low, (goes k r).low)) in
          omega arith)
          (λ k l. omega (arith, (goes k l).high, (goes k l).low, A.ranges.n-high))
          (pred M set v - 1) (omega (arith, u-in.low, u-in.high)) in
          rw f at at ∙ e)

  -- ---- the tables
  module _ (table : List ℕ) (h : length table ≡ table_length) where
    -- the row of each set is filled by originals that have each their own block
    module _ (block value : ℕ → ℕ) (low : (k : ℕ) → k < n * m → block k < n)
        (one : (j k : ℕ) → j < n * m → k < n * m → block j ≡ block k → set_of sets j ≡ set_of sets k → j ≡ k) where
      abbrev filled : List ℕ
      filled = filled_by (λ k. set_of sets k * row_length + block k) value (n * m) table

      filled-length : length filled ≡ table_length
      filled-length = length-filled (λ k. set_of sets k * row_length + block k) value (n * m) table ∙ h

      apart : (j k : ℕ) → j < n * m → k < n * m → set_of sets j * row_length + block j ≡ set_of sets k * row_length + block k → j ≡ k
      apart j k a b e =
          let p : block j < row_length = omega (arith, low j a, A.ranges.n-high) in
          let q : block k < row_length = omega (arith, low k b, A.ranges.n-high) in
          one j k a b
          (sym (slot-mod row_length (set_of sets j) (block j) p) ∙ ap (λ (x : ℕ). x % row_length) e ∙ slot-mod row_length (set_of sets k) (block k) q)
          (sym (slot-div row_length (set_of sets j) (block j) p) ∙ ap (λ (x : ℕ). x / row_length) e ∙ slot-div row_length (set_of sets k) (block k) q)

      -- what the row of a set tells of a block, where the original of that set at the block is known
      told : (set v k : ℕ) → DataBlock n v → k < n * m → set_of sets k ≡ set → block k + 1 ≡ v → entry_of (part row_length set filled) v ≡ value k
      told set v k v-in k-in e f =
          let at : v - 1 ≡ block k = omega arith in
          part_at row_length set filled (v - 1) 0 (omega (arith, v-in.high, A.ranges.n-high))
          ∙ rw (at, ← e)
          (filled_at (λ k. set_of sets k * row_length + block k) value (n * m) table (λ i j l r q. (let z = apart i j (omega arith) r q in omega arith))
          (λ j l. omega (arith, set-in M A j l, low j l, A.ranges.n-high, A.ranges.m-high)) k k-in)

      room_for : (set : ℕ) → set < m → length (part row_length set filled) ≡ row_length
      room_for set l = length_part row_length set filled (omega (arith, filled-length, A.ranges.m-high))

    pub pages-tell : PagesTable M (pages_by m sets (n * m) table)
    unfolding source_block
    pages-tell =
        let low : (k : ℕ) → k < n * m → k / m < n = λ k l. block-lt n m k A.ranges.m-low l in
        let one : (j k : ℕ) → j < n * m → k < n * m → j / m ≡ k / m → set_of sets j ≡ set_of sets k → j ≡ k = λ j k l r f e.
        same_from n m list sets A.split A.sets-length j k l r (ap (λ (x : ℕ). x + 1) f) e in
        record {
          room = filled-length (λ k. k / m) (λ k. k % m) low one;
          row = λ set set-ok.
              pages-by set set-ok _ (room_for (λ k. k / m) (λ k. k % m) low one set set-ok)
              (λ v v-in. (let p = D-page M A set set-ok v v-in in told (λ k. k / m) (λ k. k % m) low one set v (D M set v) v-in p.inside
              p.in-set p.at_block));
        }

    pub sources-tell : SourcesTable M (sources_by m list sets (n * m) table)
    unfolding source_block dest_block dest
    sources-tell =
        let low : (k : ℕ) → k < n * m → get_or list k 0 / m < n = λ k l. block-lt n m (get_or list k 0) A.ranges.m-low (entry_in M A k l) in
        let one : (j k : ℕ) → j < n * m → k < n * m → get_or list j 0 / m ≡ get_or list k 0 / m → set_of sets j ≡ set_of sets k → j ≡ k = λ j k l r f e.
        same-to n m list sets A.split A.sets-length A.list_length A.one-to-one j k l r (ap (λ (x : ℕ). x + 1) f) e in
        record {
          room = filled-length (λ k. get_or list k 0 / m) (λ k. k / m + 1) low one;
          row = λ set set-ok.
              sources-by set set-ok _ (room_for (λ k. get_or list k 0 / m) (λ k. k / m + 1) low one set set-ok)
              (λ v v-in.
              let p = D-page M A set set-ok (pred M set v) (pred_in M A set set-ok v v-in) in
              told (λ k. get_or list k 0 / m) (λ k. k / m + 1) low one set v (D M set (pred M set v)) v-in p.inside p.in-set
              (dest-pred M A set set-ok v v-in) ∙ p.at_block);
        }
