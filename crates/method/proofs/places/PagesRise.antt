-- A block's pages are filled upwards, and none that is not blank.
use Rattle.flash.proofs.Kit.{◌≡◌, sym, ap, ap₂, ◌∙◌, ◌≢◌, ◌⊎◌, inl, inr, ℕ, suc, ◌+◌, ◌-◌, ◌*◌, ◌≤◌, ◌<◌, suc-mul, mul-le-mul_right, arith}
use Rattle.flash.specs.declared.sizes.Sizes.{Sizes}
use Rattle.method.specs.Place.{Pass, forward, backward, write, erase, last_place, operation_at, filled}
use Rattle.method.specs.Claims.{PagesRise}
use Rattle.method.proofs.basics.Indexes.{clash}
use Rattle.method.proofs.places.StepsAtPlaces.{next_block, turn_of, Stands, stands_at, located, page-cases, forward-high, operation-writes, operation-erases, operation-done}
use Rattle.method.proofs.places.PagesHeld.{held-blank}

module _ (Z : Sizes) where
  open Z use {n, m}

  -- what the step at a place tells of the place
  pub record WriteAt (place : ℕ) (pass : Pass) (b q : ℕ) : Type 0 where
    pub in-move : place < last_place Z
    pub page-in : q < m
    pub stands : Stands Z place pass b q

  pub write-at : (place : ℕ) (pass : Pass) (b q : ℕ) → operation_at Z place ≡ write pass b q → WriteAt place pass b q
  write-at place pass b q e = go (page-cases Z place)
    where
      late : last_place Z ≤ place → ⊥
      late l = let d = operation-done Z place l in clash (cc)

      go : (filled Z place < m) ⊎ (filled Z place ≡ m) → WriteAt place pass b q
      go (inl k) =
          let h : place < last_place Z = omega (arith, late) in
          let w = operation-writes Z place h k in
          let q-is : filled Z place ≡ q = cc in
          record { in-move = h; page-in = omega arith; stands = record { pass-is = cc; block-is = cc; pages-is = q-is } }
      go (inr k) =
          let w = operation-erases Z place (omega (arith, late)) k in
          absurd (clash (cc))

  -- the place of a write
  number : (place : ℕ) (pass : Pass) (b q : ℕ) → WriteAt place pass b q → place ≡ turn_of Z pass b * (m + 1) + q
  number place pass b q W =
      let h = W.in-move in
      (located Z place (omega arith)).number
      ∙ ap₂ (λ (x y : ℕ). x * (m + 1) + y) (ap₂ (turn_of Z) W.stands.pass-is W.stands.block-is) W.stands.pages-is

  forward-block : (place b q : ℕ) → WriteAt place forward b q → b < n
  forward-block place b q W =
      let h = W.in-move in
      rw W.stands.block-is at (forward-high Z place (omega arith) W.stands.pass-is)

  -- the backward pass erases block b just before it fills it
  erased-before : (b : ℕ) → b < n → operation_at Z ((2 * n - suc b) * (m + 1) + m) ≡ erase b
  unfolding last_place
  erased-before b h =
      let r : ℕ = (2 * n - suc b) * (m + 1) + m in
      let S = stands_at Z backward (suc b) m h (omega arith) in
      let low : suc (2 * n - suc b) ≤ 2 * n = omega arith in
      let in-move : r < last_place Z = omega (arith, mul-le-mul_right (m + 1) low, suc-mul (2 * n - suc b) (m + 1)) in
      operation-erases Z r in-move S.pages-is
      ∙ ap erase (ap₂ next_block S.pass-is S.block-is ∙ omega arith)

  ascending : (p q : ℕ) (one other : Pass) (b i j : ℕ) → WriteAt p one b i → WriteAt q other b j → p < q
      → ((r : ℕ) → p < r → r < q → operation_at Z r ≢ erase b) → i < j
  ascending p q forward forward b i j U W h none = omega (arith, number p forward b i U, number q forward b j W)
  ascending p q backward backward b i j U W h none = omega (arith, number p backward b i U, number q backward b j W)
  ascending p q forward backward b i j U W h none =
      let low = forward-block p b i U in
      let turn : ℕ = 2 * n - suc b in
      let next : 2 * n - b ≡ suc turn = omega arith in
      let first = number p forward b i U in
      let second : q ≡ suc turn * (m + 1) + j = number q backward b j W ∙ ap (λ (t : ℕ). t * (m + 1) + j) next in
      let before : b * (m + 1) ≤ turn * (m + 1) = mul-le-mul_right (m + 1) (omega arith) in
      let size = suc-mul turn (m + 1) in
      absurd (none (turn * (m + 1) + m) (omega (arith, U.page-in)) (omega arith) (erased-before b low))
  ascending p q backward forward b i j U W h none =
      let low = forward-block q b j W in
      let after : suc b * (m + 1) ≤ (2 * n - b) * (m + 1) = mul-le-mul_right (m + 1) (omega arith) in
      absurd (omega (arith, number p backward b i U, number q forward b j W, suc-mul b (m + 1), W.page-in))

pub pages-rise : PagesRise
pages-rise = record {
  ascending = λ Z p q one other b i j e f. ascending Z p q one other b i j (write-at Z p one b i e) (write-at Z q other b j f);
  only-blank = λ Z place pass b q e.
      let S = (write-at Z place pass b q e).stands in
      held-blank Z place b q (sym S.block-is) (omega (arith, S.pages-is));
}
