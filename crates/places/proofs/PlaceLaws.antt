-- What a place holds, the step there and the next place, in the cases that the code tells apart.
use Rattle.flash.proofs.Kit.{◌≡◌, refl, sym, ap, ◌∙◌, subst, ◌⊎◌, inl, inr, ⊎_elim, Bool, true, false, ◌&&◌, ℕ, suc, ◌+◌, ◌-◌, ◌*◌, ◌/◌, ◌%◌, ◌≤◌}
use Rattle.flash.proofs.Kit.{◌<◌, mod-lt, div-add-mod', div-lt_iff_lt-mul, suc-mul, add-one, arith, eqb, eq-eqb, ne_eqb, le-ltb}
use Rattle.flash.specs.declared.sizes.Sizes.{Sizes}
use Rattle.flash.specs.Geometry.{Bounds}
use Rattle.flash.proofs.Bools.{never_both}
use Rattle.flash.proofs.Bounds.{product_le}
use Rattle.flash.proofs.Comparisons.{lt-cases}
use Rattle.method.specs.Place.{Pass, forward, backward, erase, mark_of, last_place, operation_at, pass_at, filling, filled}
use Rattle.method.proofs.places.StepsAtPlaces.{next_block, Stands, stands_at, Turned, pages-in, backward-from, backward-low, forward-high, filling-in, after_write, after-erase, operation-writes, operation-erases, operation-done}
use Rattle.places.specs.declared.place.Place.{Place}
use Rattle.places.specs.declared.place.Op.TheVariants.{Write, Done}
use Rattle.places.specs.inner.Place.{is_backward, pass_of, place_of, op_of}

pub pass-told : (pass : Pass) (t : Bool) → t ≡ is_backward pass → pass ≡ pass_of t
pass-told forward t e = rw e
pass-told backward t e = rw e

pass-cases : (pass : Pass) → (pass ≡ forward) ⊎ (pass ≡ backward)
pass-cases forward = inl refl
pass-cases backward = inr refl

module _ (Z : Sizes) where
  open Z use {n, m}

  pub last-small : Bounds Z → last_place Z ≤ 8320
  unfolding last_place
  last-small B = omega (arith, product_le (2 * n) (m + 1) {c = 128} {d = 65} (omega (arith, B.n-high)) (omega (arith, B.m-high)))

  placed : (at : ℕ) (pass : Pass) (b q : ℕ) → Stands Z at pass b q → ◌≡◌ {A = Place} (record { at = at; backward = is_backward pass; block = b; page = q }) (place_of Z at)
  unfolding place_of
  placed at pass b q S = rw (S.pass-is, S.block-is, S.pages-is)

  -- ---- a place by its number
  module _ (at : ℕ) where
    abbrev turn : ℕ
    turn = at / (m + 1)

    abbrev page : ℕ
    page = at % (m + 1)

    divided : turn * (m + 1) + page ≡ at
    divided = div-add-mod' at (m + 1)

    page-in : page ≤ m
    page-in = omega (arith, mod-lt at {m = m + 1} (omega arith))

    pub new-forward : turn < n → ◌≡◌ {A = Place} (record { at = at; backward = false; block = turn; page = page }) (place_of Z at)
    new-forward h = placed at forward turn page (subst (λ (p : ℕ). Stands Z p forward turn page) divided (stands_at Z forward turn page h page-in))

    pub turns-in : at ≤ last_place Z → turn ≤ 2 * n
    unfolding last_place
    turns-in h =
        let few = (div-lt_iff_lt-mul {k = m + 1} {x = at} {y = suc (2 * n)} (omega arith)).1 (omega (arith, suc-mul (2 * n) (m + 1))) in
        omega arith

    pub new-backward : at ≤ last_place Z → n ≤ turn → ◌≡◌ {A = Place} (record { at = at; backward = true; block = 2 * n - turn; page = page }) (place_of Z at)
    new-backward h k =
        let few = turns-in h in
        let e : 2 * n - (2 * n - turn) ≡ turn = omega arith in
        placed at backward (2 * n - turn) page
        (subst (λ (p : ℕ). Stands Z p backward (2 * n - turn) page) (ap (λ (t : ℕ). t * (m + 1) + page) e ∙ divided)
        (stands_at Z backward (2 * n - turn) page (omega arith) page-in))

    past_end : last_place Z ≤ at → (pass_at Z at ≡ backward) × (filling Z at ≡ 0)
    unfolding last_place filling
    past_end h =
        let half : n * (m + 1) ≤ at = omega (arith, suc-mul n (m + 1)) in
        let many : (at - n * (m + 1)) / (m + 1) < n → ⊥ = λ l. omega (arith, (div-lt_iff_lt-mul {k = m + 1} {x = at - n * (m + 1)} {y = n} (omega arith)).0 l) in
        (backward-from Z at half, rw (le-ltb at (n * (m + 1)) half) (omega arith))

  pub number_is : (here : Place) (at : ℕ) → here ≡ place_of Z at → here.at ≡ at
  unfolding place_of
  number_is here at e = ap (λ (p : Place). p.at) e

  pub is-place : (here : Place) (at : ℕ) → here ≡ place_of Z at → here ≡ place_of Z here.at
  is-place here at e = e ∙ ap (place_of Z) (sym (number_is here at e))

  -- ---- a place as the code holds it
  module _ (here : Place) (is : here ≡ place_of Z here.at) where
    abbrev at : ℕ
    at = here.at

    back_is : here.backward ≡ is_backward (pass_at Z at)
    unfolding place_of
    back_is = ap (λ (p : Place). p.backward) is

    pub pass-is : pass_at Z at ≡ pass_of here.backward
    pass-is = pass-told (pass_at Z at) here.backward back_is

    pub block-is : here.block ≡ filling Z at
    unfolding place_of
    block-is = ap (λ (p : Place). p.block) is

    pub page-is : here.page ≡ filled Z at
    unfolding place_of
    page-is = ap (λ (p : Place). p.page) is

    pub low : at < last_place Z → here.backward ≡ true → 1 ≤ here.block
    low h t = rw block-is (backward-low Z at h (pass-is ∙ ap pass_of t))

    pub high : here.backward ≡ false → here.block < n
    high t = ⊎_elim
        (λ (h : at < last_place Z). rw block-is (forward-high Z at (omega arith) (pass-is ∙ ap pass_of t)))
        (λ (h : last_place Z ≤ at). (let e = (past_end at h).0 in let f : true ≡ false = sym (back_is ∙ ap is_backward e) ∙ t in absurd (never_both refl f)))
        (lt-cases at (last_place Z))

    -- ---- the step
    pub all_done : here.backward ≡ true → here.block ≡ 0 → op_of Z (operation_at Z at) ≡ Done
    all_done t e = ⊎_elim
        (λ (h : at < last_place Z). absurd (omega (arith, low h t)))
        (λ (h : last_place Z ≤ at). ap (op_of Z) (operation-done Z at h))
        (lt-cases at (last_place Z))

    pub goes_on : (here.backward && eqb here.block 0) ≡ false → at < last_place Z
    goes_on e = ⊎_elim
        (λ (h : at < last_place Z). h)
        (λ (h : last_place Z ≤ at).
        let end = past_end at h in
        let t : here.backward ≡ true = back_is ∙ ap is_backward end.0 in
        let z : eqb here.block 0 ≡ true = eq-eqb here.block 0 (block-is ∙ end.1) in
        absurd (never_both (rw (t, z) refl) e))
        (lt-cases at (last_place Z))

    pub writes : at < last_place Z → here.page < m → op_of Z (operation_at Z at) ≡ Write here.backward here.block here.page (mark_of Z (pass_of here.backward))
    writes h k =
        ap (op_of Z) (operation-writes Z at h (rw (← page-is) k))
        ∙ rw (pass-is, ← block-is, ← page-is) (ap (λ (t : Bool). Write t here.block here.page (mark_of Z (pass_of here.backward))) (told here.backward))
      where
        told : (t : Bool) → is_backward (pass_of t) ≡ t
        told true = refl
        told false = refl

    pub erases : at < last_place Z → here.page ≡ m → operation_at Z at ≡ erase (next_block (pass_of here.backward) here.block)
    erases h k = operation-erases Z at h (sym page-is ∙ k) ∙ rw (pass-is, ← block-is)

    -- a page is left, or the block is full
    pub page-full : m ≤ here.page → here.page ≡ m
    page-full k = omega (arith, page-is, pages-in Z at)

    -- ---- the next place
    module _ (h : at < last_place Z) where
      pub next-page : here.page < m → ◌≡◌ {A = Place} (record { at = at + 1; backward = here.backward; block = here.block; page = here.page + 1 }) (place_of Z (at + 1))
      next-page k = rw (add-one at, add-one here.page, back_is, block-is, page-is)
          (placed (suc at) (pass_at Z at) (filling Z at) (suc (filled Z at)) (after_write Z at (omega arith) (rw (← page-is) k)))

      turned : m ≤ here.page → (pass : Pass) → pass_at Z at ≡ pass → Turned Z (suc at) pass (filling Z at)
      turned k pass p = rw p at (after-erase Z at h (omega (arith, page-is, pages-in Z at)))

      pub next-back : m ≤ here.page → here.backward ≡ true → ◌≡◌ {A = Place} (record { at = at + 1; backward = here.backward; block = here.block - 1; page = 0 }) (place_of Z (at + 1))
      next-back k t =
          let T = turned k backward (pass-is ∙ ap pass_of t) in
          let inside : filling Z (suc at) < n = omega (arith, T.block-is, low h t, block-is, filling-in Z at (omega arith)) in
          rw (add-one at, t, block-is)
          (placed (suc at) backward (filling Z at - 1) 0 (record { pass-is = T.pass-is inside; block-is = T.block-is; pages-is = T.pages-is }))

      pub next-forth : m ≤ here.page → here.backward ≡ false → ◌≡◌ {A = Place} (record { at = at + 1; backward = eqb (here.block + 1) n; block = here.block + 1; page = 0 }) (place_of Z (at + 1))
      next-forth k t =
          let T = turned k forward (pass-is ∙ ap pass_of t) in
          let stands : (pass : Pass) → pass_at Z (suc at) ≡ pass → Stands Z (suc at) pass (suc (filling Z at)) 0 = λ pass p.
          record { pass-is = p; block-is = T.block-is; pages-is = T.pages-is } in
          rw (add-one at, add-one here.block, block-is)
          (⊎_elim
          (λ (l : suc (filling Z at) < n). rw (ne_eqb (suc (filling Z at)) n (omega arith)) (placed (suc at) forward _ 0 (stands forward (T.pass-is (omega (arith, T.block-is))))))
          (λ (l : n ≤ suc (filling Z at)).
          let last : suc (filling Z at) ≡ n = omega (arith, high t, block-is) in
          rw (eq-eqb (suc (filling Z at)) n last)
          (⊎_elim
          (λ (p : pass_at Z (suc at) ≡ forward). absurd (omega (arith, forward-high Z (suc at) h p, T.block-is)))
          (λ (p : pass_at Z (suc at) ≡ backward). placed (suc at) backward _ 0 (stands backward p))
          (pass-cases (pass_at Z (suc at)))))
          (lt-cases (suc (filling Z at)) n))
