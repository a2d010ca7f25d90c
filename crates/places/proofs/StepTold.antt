-- What the answer of `Place::operation` tells of the step at a place.
use Rattle.flash.proofs.Kit.{◌≡◌, refl, ap, ◌∙◌, ⊎_elim, Bool, true, false, ℕ, ◌+◌, ◌≤◌, ◌<◌, arith}
use Rattle.flash.specs.declared.sizes.Sizes.{Sizes}
use Rattle.flash.proofs.Comparisons.{lt-cases}
use Rattle.method.specs.Place.{Pass, forward, backward, Operation, write, erase, done, mark_of, last_place, operation_at, pass_at, filling, filled}
use Rattle.method.proofs.basics.Indexes.{clash}
use Rattle.method.proofs.places.StepsAtPlaces.{next_block, backward-low, forward-high, operation-done}
use Rattle.method.proofs.places.PagesHeld.{Change, by-write, by-erase, change}
use Rattle.std.specs.Prelude.{Ok}
use Rattle.places.specs.declared.place.Op.{Op}
use Rattle.places.specs.declared.place.Op.TheVariants.{Write, Erase, Done}
use Rattle.places.specs.Operation.{told_of, told_in, IsWithin}
use Rattle.places.specs.inner.Place.{is_backward, op_of, pass_of}
use Rattle.places.proofs.PlaceLaws.{pass-told}

module _ (Z : Sizes) where
  open Z use {n, m}

  pub record IsWrite (at : ℕ) (is_backward : Bool) (block page mark : ℕ) : Type 0 where
    pub is : operation_at Z at ≡ write (pass_of is_backward) block page
    pub mark-is : mark ≡ mark_of Z (pass_of is_backward)
    pub page-in : page < m
    pub block_in : block ≤ n
    pub low : is_backward ≡ true → 1 ≤ block
    pub high : is_backward ≡ false → block + 1 ≤ n

  pub record IsErase (at block : ℕ) : Type 0 where
    pub is : operation_at Z at ≡ erase block
    pub block_in : block ≤ n

  told-write : (op : Operation) (t : Bool) (b q mark : ℕ) → Write t b q mark ≡ op_of Z op → (op ≡ write (pass_of t) b q) × (mark ≡ mark_of Z (pass_of t))
  told-write (write pass block page) t b q mark e =
      let f : t ≡ is_backward pass = cc in
      let g : b ≡ block = cc in
      let h : q ≡ page = cc in
      let i : mark ≡ mark_of Z pass = cc in
      rw (← pass-told pass t f, g, h) (refl, i)
  told-write (erase block) t b q mark e = let z : ◌≡◌ {A = ℕ} 0 1 = cc in absurd (clash z)
  told-write done t b q mark e = let z : ◌≡◌ {A = ℕ} 0 1 = cc in absurd (clash z)

  told-erase : (op : Operation) (b : ℕ) → Erase b ≡ op_of Z op → op ≡ erase b
  told-erase (write pass block page) b e = let z : ◌≡◌ {A = ℕ} 0 1 = cc in absurd (clash z)
  told-erase (erase block) b e = let f : b ≡ block = cc in rw f refl
  told-erase done b e = let z : ◌≡◌ {A = ℕ} 0 1 = cc in absurd (clash z)

  pub told-done : (op : Operation) → Done ≡ op_of Z op → op ≡ done
  told-done (write pass block page) e = let z : ◌≡◌ {A = ℕ} 0 1 = cc in absurd (clash z)
  told-done (erase block) e = let z : ◌≡◌ {A = ℕ} 0 1 = cc in absurd (clash z)
  told-done done e = refl

  -- and its numbers
  pub told-step : (op : Operation) → told_in (Ok (op_of Z op)) ≡ told_of Z op
  unfolding told_of
  told-step (write pass block page) = refl
  told-step (erase block) = refl
  told-step done = refl

  -- the step at a place: its answer, and where the block and the page lie
  module _ (at : ℕ) where
    bounds-write : (pass : Pass) (b q : ℕ) → operation_at Z at ≡ write pass b q → (q < m) × (b ≤ n) × (pass ≡ backward → 1 ≤ b) × (pass ≡ forward → b + 1 ≤ n)
    bounds-write pass b q e = ⊎_elim (λ h. by-change h (change Z at h)) (λ h. absurd (clash (let f = operation-done Z at h in (cc)))) (lt-cases at (last_place Z))
      where
        by-change : at < last_place Z → Change Z at → (q < m) × (b ≤ n) × (pass ≡ backward → 1 ≤ b) × (pass ≡ forward → b + 1 ≤ n)
        by-change h (by-write k f W) =
            let p : pass_at Z at ≡ pass = cc in
            let x : filling Z at ≡ b = cc in
            let y : filled Z at ≡ q = cc in
            (rw (← y) k, rw (← x) W.block_in, λ i. rw (← x) (backward-low Z at h (p ∙ i)), λ i. omega (arith, forward-high Z at (omega arith) (p ∙ i)))
        by-change h (by-erase k f E) = let z : ◌≡◌ {A = ℕ} 0 1 = cc in absurd (clash z)

    pub bounds-erase : (b : ℕ) → operation_at Z at ≡ erase b → b ≤ n
    bounds-erase b e = ⊎_elim (λ h. by-change (change Z at h)) (λ h. absurd (clash (let f = operation-done Z at h in (cc)))) (lt-cases at (last_place Z))
      where
        by-change : Change Z at → b ≤ n
        by-change (by-write k f W) = let z : ◌≡◌ {A = ℕ} 0 1 = cc in absurd (clash z)
        by-change (by-erase k f E) = let x : next_block (pass_at Z at) (filling Z at) ≡ b = cc in rw (← x) E.block_in

    pub is-write : (t : Bool) (b q mark : ℕ) → Write t b q mark ≡ op_of Z (operation_at Z at) → IsWrite at t b q mark
    is-write t b q mark e =
        let w = told-write (operation_at Z at) t b q mark e in
        let in_bounds = bounds-write (pass_of t) b q w.0 in
        record {
          is = w.0;
          mark-is = w.1;
          page-in = in_bounds.0;
          block_in = in_bounds.1;
          low = λ i. in_bounds.2 (ap pass_of i);
          high = λ i. in_bounds.3 (ap pass_of i);
        }

    pub is-erase : (b : ℕ) → Erase b ≡ op_of Z (operation_at Z at) → IsErase at b
    is-erase b e = let w = told-erase (operation_at Z at) b e in record { is = w; block_in = bounds-erase b w }

  pub step-within : (op : Op) (at : ℕ) → op ≡ op_of Z (operation_at Z at) → IsWithin Z op
  step-within (Write t b q mark) at e = let W = is-write at t b q mark e in (W.block_in, W.page-in)
  step-within (Erase b) at e = (is-erase at b e).block_in
  step-within Done at e = tt
