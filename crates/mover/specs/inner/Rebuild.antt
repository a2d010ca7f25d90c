-- What the marks tell a rebuild, and what its functions are lent.
use Rattle.std.specs.Prelude.{◌≡◌, true, cond, List, Some, None, ℕ, ◌-◌, ◌≤◌, eqb}
use Rattle.std.proofs.Math.Option.{none, some}
use Rattle.flash.specs.Lists.{any}
use Rattle.flash.specs.declared.sizes.Sizes.{Sizes}
use Rattle.method.specs.Move.{Move}
use Rattle.method.specs.Mend.{Reading, reading}
use Rattle.method.specs.Read.{read_slots}
use Rattle.method.specs.Place.{pass_at, filling, marks_of}
use Rattle.method.specs.Rebuild.{zero_slots}
use Rattle.split.specs.Split.{set_of}
use Rattle.recovery.specs.MarksRead.{place_in_turn}
use Rattle.walk.specs.inner.Moments.{HasMoment}
use Rattle.mover.specs.declared.rebuild.Coded.{Coded}
use Rattle.mover.specs.declared.rebuild.Told.{Told}

-- the zero sum of the set of original k, at the place that the marks tell
abbrev pub zero_here : (M : Move) → Reading → (k : ℕ) → List ℕ
zero_here M found k =
    let place = found.place in
    zero_slots M (marks_of M.sizes (place - M.sizes.m)) (pass_at M.sizes place) (filling M.sizes place) (set_of M.sets k)

-- no block is torn, and the pass has come as far as this
pub record IsCoded (Z : Sizes) (marks : List ℕ) (found : Reading) (coded : Coded) : Type 0 where
  pub reads : reading Z marks ≡ some found
  pub none-torn : found.to_erase ≡ none
  pub low : 1 ≤ coded.change
  pub high : coded.change ≤ Z.n
  pub place-is : found.place ≡ place_in_turn Z coded.backward (cond coded.backward coded.change (coded.change - 1)) Z.m

pub record Sees (M : Move) (marks : List ℕ) (found : Reading) (told : Told) : Type 0 where
  pub reads : reading M.sizes marks ≡ some found
  pub has-moment : HasMoment M.sizes marks told.moment
  pub torn : told.coded ≡ None → (block : ℕ) × (found.to_erase ≡ some block)
  pub full : (coded : Coded) → told.coded ≡ Some coded → IsCoded M.sizes marks found coded

-- there are marks that tell this
abbrev pub Seen : Move → Told → Type 0
Seen M told = (marks : List ℕ) × (found : Reading) × Sees M marks found told

-- read's slots of original k have the slot, and no block is torn
pub record Others (M : Move) (coded : Coded) (bad k : ℕ) (own : List ℕ) : Type 0 where
  pub has-bad : any (eqb bad) own ≡ true
  pub marks : List ℕ
  pub found : Reading
  pub coded_at : IsCoded M.sizes marks found coded
  pub is : own ≡ read_slots M marks k
