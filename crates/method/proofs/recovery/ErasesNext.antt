-- The block that mend erases is the one that is written next.
use Rattle.flash.proofs.Kit.{◌≡◌, sym, ap, subst, ◌∙◌, inl, inr, ⊎_elim, List, none, some, ℕ, ◌+◌, ◌-◌, ◌*◌, ◌≤◌, ◌<◌, arith}
use Rattle.flash.specs.Tables.{Row}
use Rattle.flash.specs.declared.sizes.Sizes.{Sizes}
use Rattle.flash.proofs.Bounds.{in-range}
use Rattle.flash.proofs.Comparisons.{lt-cases}
use Rattle.method.specs.Place.{Pass, forward, backward, last_place}
use Rattle.method.specs.Mend.{Reading, forward_torn, backward_torn, forward_full, backward_full}
use Rattle.method.specs.Claims.{WrittenNext, ErasesNext}
use Rattle.method.proofs.recovery.FittingMarks.{read-row}
use Rattle.method.proofs.basics.Indexes.{slot_lt}
use Rattle.method.proofs.recovery.LinesAgree.{Fit, torn-forth, torn-back, full-forth, full_back}
use Rattle.method.proofs.places.StepsAtPlaces.{turn_of, Fills, Stands, stands_at, operation-writes, operation-done}

-- a reading with no block to erase is none that has one
kept_next : {at place block : ℕ} {Q : Type 0} → ◌≡◌ {A = Reading} (record { place = at; to_erase = none }) (record { place = place; to_erase = some block }) → Q
kept_next {at} {place} {block} e =
    let q : none ≡ some block = ap (λ (r : Reading). r.to_erase) e in
    let z : ◌≡◌ {A = ℕ} 0 1 = cc in
    absurd (omega arith)

module _ (Z : Sizes) (pages : 1 ≤ Z.m) (marks : List ℕ) where
  open Z use {n, m}

  last_turn : (turn : ℕ) → last_place Z ≤ turn * (m + 1) → 2 * n ≤ turn
  unfolding last_place
  last_turn turn h =
      let not-before : turn < 2 * n → ⊥ = λ l. (let less = slot_lt (m + 1) turn 0 (2 * n) l (omega arith) in absurd (omega arith)) in
      omega arith

  -- a turn starts with page 0 of its block, and after the last turn no step is left
  turn-starts : (pass : Pass) (b : ℕ) → Fills Z pass b → (2 * n ≤ turn_of Z pass b → b ≡ 0) → WrittenNext Z (turn_of Z pass b * (m + 1)) b
  unfolding WrittenNext
  turn-starts pass b f last =
      let at : ℕ = turn_of Z pass b * (m + 1) in
      let zero : at + 0 ≡ at = omega arith in
      let S = subst (λ (p : ℕ). Stands Z p pass b 0) zero (stands_at Z pass b 0 f (omega arith)) in
      ⊎_elim
      (λ (l : at < last_place Z). inl (operation-writes Z at l (rw S.pages-is pages) ∙ rw (S.block-is, S.pages-is)))
      (λ (l : last_place Z ≤ at). inr (operation-done Z at l, last (last_turn (turn_of Z pass b) l)))
      (lt-cases at (last_place Z))

  -- a reading that has one is of that block
  erased-next : {at place block : ℕ} (b : ℕ) → WrittenNext Z at b
      → ◌≡◌ {A = Reading} (record { place = at; to_erase = some b }) (record { place = place; to_erase = some block }) → WrittenNext Z place block
  erased-next {at} {place} {block} b W e =
      let p : at ≡ place = ap (λ (r : Reading). r.place) e in
      let q : some b ≡ some block = ap (λ (r : Reading). r.to_erase) e in
      let q : b ≡ block = cc in
      rw (← p, ← q) W

  backward-starts : (b : ℕ) → b ≤ n → WrittenNext Z ((2 * n - b) * (m + 1)) b
  backward-starts b h = turn-starts backward b h (λ l. omega arith)

  -- for block n the forward line gives the place of the backward one
  forward-starts : (b : ℕ) → b ≤ n → WrittenNext Z (b * (m + 1)) b
  forward-starts b h = ⊎_elim
      (λ (l : b < n). turn-starts forward b l (λ k. omega arith))
      (λ (l : n ≤ b). (let same : 2 * n - b ≡ b = omega arith in subst (λ (turn : ℕ). WrittenNext Z (turn * (m + 1)) b) same (backward-starts b h)))
      (lt-cases b n)

  row_next : (row : Row Reading) (place block : ℕ) → Fit Z pages marks row → row.gives ≡ record { place = place; to_erase = some block } → WrittenNext Z place block
  unfolding forward_torn backward_torn forward_full backward_full
  row_next row place block (torn-forth b T e) f = erased-next b (forward-starts b T.low) (sym e ∙ f)
  row_next row place block (torn-back b T e) f = erased-next b (backward-starts b T.low) (sym e ∙ f)
  row_next row place block (full-forth b F e) f = kept_next (sym e ∙ f)
  row_next row place block (full_back b F e) f = kept_next (sym e ∙ f)

pub erases-next : ErasesNext
unfolding ErasesNext
erases-next Z h marks place block e =
    let pages = (in-range Z h).m-low in
    let r = read-row Z pages marks _ e in
    row_next Z pages marks r.0 place block r.1 r.2
