-- Turns: a turn is the m writes of a block and an erase, so its number tells how many erases lie behind a place.
use Rattle.flash.proofs.Kit.{◌≡◌, sym, ap, ◌∙◌, subst, ⊎_elim, cond, ℕ, suc, ◌+◌, ◌*◌, ◌/◌, ◌≤◌, ◌<◌, suc-mul, add-zero, div-add-mod'}
use Rattle.flash.proofs.Kit.{div-lt_iff_lt-mul, mul-div_cancel, arith, ltb, lt-ltb, le-ltb}
use Rattle.flash.specs.declared.sizes.Sizes.{Sizes}
use Rattle.method.specs.Place.{last_place, pass_at, filling, filled}
use Rattle.method.proofs.basics.Indexes.{slot-div}
use Rattle.method.proofs.places.StepsAtPlaces.{turn_of, Stands, stands_at, located, page-cases, last-stands}

module _ (Z : Sizes) where
  open Z use {n, m}

  abbrev pub turn : (place : ℕ) → ℕ
  turn place = place / (m + 1)

  pub turn_is : (place : ℕ) → place ≤ last_place Z → turn place ≡ turn_of Z (pass_at Z place) (filling Z place)
  turn_is place h =
      let P = located Z place h in
      ap turn P.number ∙ slot-div (m + 1) (turn_of Z (pass_at Z place) (filling Z place)) (filled Z place) (omega arith)

  pub turn-high : (place : ℕ) → place ≤ last_place Z → turn place ≤ 2 * n
  unfolding last_place
  turn-high place h =
      let in-time : turn place < suc (2 * n) = (div-lt_iff_lt-mul {k = m + 1} (omega arith)).1 (omega arith) in
      omega arith

  pub turn_last : turn (last_place Z) ≡ 2 * n
  unfolding last_place
  turn_last = mul-div_cancel (2 * n) (omega arith)

  -- a write stays in its turn, and an erase ends it
  pub turn-writes : (place : ℕ) → filled Z place < m → turn (suc place) ≡ turn place
  unfolding filled
  turn-writes place k =
      let at : suc place ≡ turn place * (m + 1) + suc (filled Z place) = omega (arith, div-add-mod' place (m + 1)) in
      ap turn at ∙ slot-div (m + 1) (turn place) (suc (filled Z place)) (omega arith)

  pub turn-erases : (place : ℕ) → filled Z place ≡ m → turn (suc place) ≡ suc (turn place)
  unfolding filled
  turn-erases place k =
      let at : suc place ≡ suc (turn place) * (m + 1) + 0 = omega (arith, div-add-mod' place (m + 1), suc-mul (turn place) (m + 1)) in
      ap turn at ∙ slot-div (m + 1) (suc (turn place)) 0 (omega arith)

  -- Where a move that stands at a place goes on after a mend: a block that is being filled is begun anew.
  unfoldable pub resumes_at : (place : ℕ) → ℕ
  resumes_at place = cond (ltb (filled Z place) m) (turn place * (m + 1)) place

  pub resumes-start : (place : ℕ) → filled Z place < m → resumes_at place ≡ turn place * (m + 1)
  unfolding resumes_at
  resumes-start place k = rw (lt-ltb (filled Z place) m k)

  pub resumes-there : (place : ℕ) → filled Z place ≡ m → resumes_at place ≡ place
  unfolding resumes_at
  resumes-there place k = rw (le-ltb (filled Z place) m (omega arith))

  pub resumes-begun : (place : ℕ) → filled Z place ≡ 0 → resumes_at place ≡ place
  unfolding filled
  resumes-begun place z =
      ⊎_elim
      (λ k. resumes-start place k ∙ omega (arith, div-add-mod' place (m + 1)))
      (λ k. resumes-there place k)
      (page-cases Z place)

  pub resumes-last : resumes_at (last_place Z) ≡ last_place Z
  resumes-last = resumes-begun (last_place Z) (last-stands Z).pages-is

  pub turn-resumes : (place : ℕ) → turn (resumes_at place) ≡ turn place
  turn-resumes place =
      ⊎_elim
      (λ k. ap turn (resumes-start place k ∙ sym (add-zero (turn place * (m + 1)))) ∙ slot-div (m + 1) (turn place) 0 (omega arith))
      (λ k. ap turn (resumes-there place k))
      (page-cases Z place)

  -- the start of a turn
  pub start-stands : (place : ℕ) → place ≤ last_place Z → Stands Z (turn place * (m + 1)) (pass_at Z place) (filling Z place) 0
  start-stands place h =
      let t : ℕ = turn_of Z (pass_at Z place) (filling Z place) in
      let at : t * (m + 1) + 0 ≡ turn place * (m + 1) = add-zero (t * (m + 1)) ∙ ap (λ (x : ℕ). x * (m + 1)) (sym (turn_is place h)) in
      subst (λ (p : ℕ). Stands Z p (pass_at Z place) (filling Z place) 0) at
      (stands_at Z (pass_at Z place) (filling Z place) 0 (located Z place h).fills (omega arith))
