-- Read's rules are taken in their order, by the moment in place of the marks.
use Rattle.flash.proofs.Kit.{◌≡◌, get_or, refl, ℕ, ◌+◌, ◌*◌, ◌/◌, ◌≤◌, ◌<◌, arith}
use Rattle.flash.specs.Geometry.{block_of}
use Rattle.flash.proofs.Bounds.{product_le}
use Rattle.split.specs.Split.{dest_block, set_of}
use Rattle.split.proofs.SplitLaws.{block-range}
use Rattle.method.specs.Move.{Move, AcceptedMove}
use Rattle.method.specs.Cycle.{top}
use Rattle.method.proofs.cycles.SetCycles.{set-in, block_in, entry_in}
use Rattle.method.proofs.cycles.Tops.{top_in}
use Rattle.walk.specs.inner.Rows.{SourcesRow}
use Rattle.walk.proofs.GatherLaws.{gather_none, gather-more, gather-all, with-room}
use Rattle.walk.proofs.ReadLaws.{read_plain, read-final, read_back, read-on}
use Rattle.walk.proofs.SetLaws.{moves, pages-of, sources-of}
use Rattle.walk.proofs.TableLaws.{list-in}
use Rattle.walk.specs.declared.set.Rows.{Rows}
use Rattle.walk.proofs.walk.row_slots.Goals as goal

-- the block of original k is a data block, and so is the one where it goes
module _ (rows : Rows) (k : ℕ) (h : k < rows.moved.sizes.n * rows.moved.sizes.m) where
  block-high : block_of rows.moved.sizes.m k ≤ rows.moved.sizes.n
  block-high = (block_in (moves rows) rows.moved.accepted k h).high

  few : rows.moved.sizes.n * rows.moved.sizes.m ≤ 4096
  few = let G = rows.moved.accepted.ranges in product_le rows.moved.sizes.n rows.moved.sizes.m {c = 64} {d = 64} G.n-high G.m-high

  goes : (to : ℕ) → to ≡ get_or rows.moved.list.now k 0 → (to < rows.moved.sizes.n * rows.moved.sizes.m) × (to / rows.moved.sizes.m + 1 ≤ rows.moved.sizes.n)
  goes to e = let in-range = entry_in (moves rows) rows.moved.accepted k h in rw e (in-range, (block-range rows.moved.sizes.n rows.moved.sizes.m _ in-range).1)

-- ---- rule 1
pub returns-then-plain-v : goal.returns-then-plain-v
returns-then-plain-v c =
    λ marks T.
    rw (read_plain (moves c.args.rows) c.args.rows.moved.accepted marks c.args.moment T c.args.k c.requires.0 c.if-plain-v.true)
    (gather-all (gather-more (gather_none c.requires.1) refl (omega arith)) refl (omega arith))

pub returns-then-done-w : goal.returns-then-done-w
unfolding dest_block
returns-then-done-w c =
    λ marks T.
    rw (read-final (moves c.args.rows) c.args.rows.moved.accepted marks c.args.moment T c.args.k c.requires.0 c.if-plain-v.false (rw c.from-to.ensures at c.if-done-w.true), c.from-to.ensures)
    (gather-all (gather-more (gather_none c.requires.1) refl (omega arith)) refl (omega arith))

-- ---- rules 2 and 3
tip : (rows : Rows) (k result : ℕ) → k < rows.moved.sizes.n * rows.moved.sizes.m → rows.set ≡ set_of rows.moved.sets.now k
    → ((M : Move) (set : ℕ) → AcceptedMove M → set < M.sizes.m → M.sizes.n ≡ rows.moved.sizes.n → SourcesRow M set rows.sources.now → result ≡ top M set (block_of rows.moved.sizes.m k))
    → result ≡ top (moves rows) (set_of rows.moved.sets.now k) (block_of rows.moved.sizes.m k)
tip rows k result h of says = says (moves rows) _ rows.moved.accepted (set-in (moves rows) rows.moved.accepted k h) refl (sources-of rows k of)

pub overflow_sub-top : goal.overflow_sub-top
overflow_sub-top c =
    let v-in = block_in _ c.args.rows.moved.accepted c.args.k c.requires.0 in
    omega (arith, tip c.args.rows c.args.k _ c.requires.0 c.requires.2 c.top_of-top.ensures, (top_in _ c.args.rows.moved.accepted _ (set-in (moves c.args.rows) c.args.rows.moved.accepted c.args.k c.requires.0) _ v-in).low)

pub go_back-requires : goal.go_back-requires
go_back-requires c =
    let rows = c.args.rows in
    let G = rows.moved.accepted.ranges in
    record { pages_in = (rows.pages_row.fits, rows.sources_row.fits, omega arith, block-high rows c.args.k c.requires.0); n_bound = (G.n-high, G.m-high, rows.set_in, c.requires.1) }

pub go_on-requires : goal.go_on-requires
go_on-requires c =
    let rows = c.args.rows in
    let G = rows.moved.accepted.ranges in
    record { pages_in = (rows.pages_row.fits, list-in _ rows.moved.accepted, omega arith, (goes rows c.args.k c.requires.0 _ c.from-to.ensures).1, c.new.ensures); n_bound = (G.n-high, G.m-high, rows.set_in, c.requires.1) }

pub returns-then-top-moment : goal.returns-then-top-moment
unfolding set_of dest_block
returns-then-top-moment c =
    let rows = c.args.rows in
    let not_done = rw c.from-to.ensures at c.if-done-w.false in
    let at_top = tip rows c.args.k _ c.requires.0 c.requires.2 c.top_of-top.ensures in
    λ marks T.
    let r = read_back _ rows.moved.accepted marks c.args.moment T c.args.k c.requires.0 c.if-plain-v.false not_done _ (pages-of rows c.args.k c.requires.2) _ (sources-of rows c.args.k c.requires.2) (rw at_top at c.if-top-moment.true) in
    with-room _ _ _ _ (rw (c.requires.2, at_top) at c.go_back.ensures) 1 r.0 (omega (arith, r.1, rows.moved.accepted.ranges.n-high))

pub returns-else-top-moment : goal.returns-else-top-moment
unfolding set_of dest_block
returns-else-top-moment c =
    let rows = c.args.rows in
    let to = c.from-to.ensures in
    let at_top = tip rows c.args.k _ c.requires.0 c.requires.2 c.top_of-top.ensures in
    λ marks T.
    let r = read-on _ rows.moved.accepted marks c.args.moment T c.args.k c.requires.0 c.if-plain-v.false (rw to at c.if-done-w.false) _ (pages-of rows c.args.k c.requires.2) (rw at_top at c.if-top-moment.false) in
    with-room _ _ _ _ (rw (c.requires.2, to) at c.go_on.ensures) 1 r.0 (omega (arith, r.1, rows.moved.accepted.ranges.n-high))
