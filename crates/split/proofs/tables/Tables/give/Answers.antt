-- `give` gives page k the set of the rule, and the tables stay exact.
use Rattle.flash.proofs.Kit.{refl, sym, ◌∙◌, ◌*◌, ◌<◌, List, ℕ, arith, length}
use Rattle.split.specs.inner.Work.{Working}
use Rattle.split.proofs.Filling.{rooms, other-lt, plain, blocked}
use Rattle.split.proofs.tables.Tables.give.Goals as goal

-- the page is one of the list
more : {m k : ℕ} {list numbers targets homes destinations : List ℕ} (W : Working m list k numbers targets homes destinations) → k < length list → k < W.blocks * m
more W inside = omega (arith, inside, W.accepted.listed)

pub bounds-self-block : goal.bounds-self-block
bounds-self-block c =
    let W = c.requires.working in
    (rooms _ _ _ _ _ _ _ W (more W c.requires.inside) _ _ c.block_of-home.ensures c.target-block.ensures).1

pub note-requires : goal.note-requires
note-requires c =
    let W = c.requires.working in
    let f = rooms _ _ _ _ _ _ _ W (more W c.requires.inside) _ _ c.block_of-home.ensures c.target-block.ensures in
    (f.3, f.0, omega (arith, f))

pub overflow_cast-b : goal.overflow_cast-b
overflow_cast-b c =
    let W = c.requires.working in
    record { fits = omega (arith, other-lt _ _ _ _ _ _ _ W (more W c.requires.inside) _ _ c.block_of-home.ensures c.target-block.ensures _ c.lowest_free-b.ensures) }

pub note-requires-then-has : goal.note-requires-then-has
note-requires-then-has c =
    let W = c.requires.working in
    let f = rooms _ _ _ _ _ _ _ W (more W c.requires.inside) _ _ c.block_of-home.ensures c.target-block.ensures in
    (other-lt _ _ _ _ _ _ _ W (more W c.requires.inside) _ _ c.block_of-home.ensures c.target-block.ensures _ c.lowest_free-b.ensures, f.1, omega (arith, f))

pub flip-requires : goal.flip-requires
flip-requires c =
    let W = c.requires.working in
    (omega (arith, rooms _ _ _ _ _ _ _ W (more W c.requires.inside) _ _ c.block_of-home.ensures c.target-block.ensures), other-lt _ _ _ _ _ _ _ W (more W c.requires.inside) _ _ c.block_of-home.ensures c.target-block.ensures _ c.lowest_free-b.ensures)

pub exchange_along_path-requires : goal.exchange_along_path-requires
exchange_along_path-requires c =
    let W = c.requires.working in
    blocked _ _ _ _ _ _ _ W (more W c.requires.inside) _ _ c.block_of-home.ensures c.target-block.ensures _ refl _ _ _ c.note.ensures _
    c.lowest_free-b.ensures (sym c.has.ensures ∙ c.if-has.true) c.note-then-has.ensures c.flip.ensures.flips

-- ---- or free there
pub note-requires-else-has : goal.note-requires-else-has
note-requires-else-has c =
    let W = c.requires.working in
    let f = rooms _ _ _ _ _ _ _ W (more W c.requires.inside) _ _ c.block_of-home.ensures c.target-block.ensures in
    (f.3, f.1, omega (arith, f))

pub flip-requires-else-has : goal.flip-requires-else-has
flip-requires-else-has c =
    let W = c.requires.working in
    let f = rooms _ _ _ _ _ _ _ W (more W c.requires.inside) _ _ c.block_of-home.ensures c.target-block.ensures in
    (omega (arith, f), f.3)

pub returns-else-has : goal.returns-else-has
returns-else-has c =
    let W = c.requires.working in
    plain _ _ _ _ _ _ _ W (more W c.requires.inside) _ _ c.block_of-home.ensures c.target-block.ensures _ refl _ _ _ c.note.ensures
    (sym c.has.ensures ∙ c.if-has.false) c.note-else-has.ensures c.flip-else-has.ensures.flips
