-- `sets_refusal` tells whether the list is one-to-one and the sets a split of it, and then leaves the sets by destination.
use Rattle.flash.proofs.Kit.{◌≡◌, ℕ, refl, sym, ap₂, ◌∙◌, ◌&&◌, ◌*◌, ◌≤◌, arith}
use Rattle.flash.proofs.Bounds.{product_le}
use Rattle.split.specs.OneToOne.{is_one_to_one}
use Rattle.split.specs.Split.{is_split}
use Rattle.split.proofs.RowsLaws.{one-to-one-by, by-destination, rows_split}
use Rattle.split.proofs.rows.sets_refusal.Goals as goal
use Rattle.split.proofs.rows.sets_refusal.Lts as lts
use Rattle.split.proofs.rows.sets_refusal.Reads as reads
use Rattle.split.proofs.rows.sets_refusal.Tie as tie

-- the originals fit the table
few : (n m : ℕ) → (1 ≤ m) × (n ≤ 64) × (m ≤ 64) → n * m ≤ 4096
few n m fits = product_le n m {c = 64} {d = 64} fits.1 fits.2

pub are_below-requires : goal.are_below-requires
are_below-requires c = (7, refl)

-- what the places tell
one-is : (c : lts.After-are_below tie.the-claims reads.Pre reads.Post tie.handed_clauses) → (let a = c.args in
    (c.are_places.result && c.are_below.result) ≡ is_one_to_one (a.n * a.m) a.list.now)
one-is c =
    let b = c.sets_by_destination-each in
    ap₂ ◌&&◌ c.are_places.ensures c.are_below.ensures
    ∙ one-to-one-by _ _ _ _ c.requires.list_len.0 (few _ _ c.requires.le_m) b.ensures.0 (omega (arith, few _ _ c.requires.le_m, b.auto.table))

pub returns-then-not-are_places-are_below : goal.returns-then-not-are_places-are_below
returns-then-not-are_places-are_below c =
    let no = sym (one-is c.before.before) ∙ c.if-not-are_places-are_below.true in
    record { value = rw no; by_destination = λ z. absurd (omega arith) }

pub are_below-requires-2 : goal.are_below-requires-2
are_below-requires-2 c = (6, refl)

-- what the rows tell
split-is : (c : lts.After-rows_have_each tie.the-claims reads.Pre reads.Post tie.handed_clauses) → (let a = c.args in
    (c.sets_by_destination-each.result && c.are_below-2.result && c.rows_have_each.result)
    ≡ is_split a.n a.m a.list.now a.sets.now)
split-is c =
    let a = c.args in
    let b = c.sets_by_destination-each in
    let one = sym (one-is c.before.before.before) ∙ c.if-not-are_places-are_below.false in
    ap₂ ◌&&◌ (ap₂ ◌&&◌ b.ensures.1 c.are_below-2.ensures) c.rows_have_each.ensures
    ∙ rows_split a.n a.m a.list.now a.sets.now _
    (record { some-pages = c.requires.le_m.0; n-fits = c.requires.le_m.1; m-fits = c.requires.le_m.2; listed = c.requires.list_len.0; one-to-one = one })
    c.requires.list_len.1 (omega (arith, few _ _ c.requires.le_m, b.auto.table)) (by-destination _ _ _ _ c.requires.list_len.0 (few _ _ c.requires.le_m) b.ensures.0 one)

pub returns-then-not-each-are_below : goal.returns-then-not-each-are_below
returns-then-not-each-are_below c =
    let one = sym (one-is c.before.before.before.before.before) ∙ c.if-not-are_places-are_below.false in
    let no = sym (split-is c.before.before) ∙ c.if-not-each-are_below.true in
    record { value = rw (one, no); by_destination = λ z. absurd (omega arith) }

pub returns : goal.returns
returns c =
    let one = sym (one-is c.before.before.before.before.before) ∙ c.if-not-are_places-are_below.false in
    let yes = sym (split-is c.before.before) ∙ c.if-not-each-are_below.false in
    record { value = rw (one, yes); by_destination = λ z. by-destination _ _ _ _ c.requires.list_len.0 (few _ _ c.requires.le_m) c.sets_by_destination-each.ensures.0 one }
