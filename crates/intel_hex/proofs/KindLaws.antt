-- The byte of a type that a case is, or is not.
use Rattle.flash.proofs.Kit.{◌≡◌, refl, ap, ◌⊎◌, ⊎_elim, true, ℕ, arith, eqb, ne_eqb, eqb-true, ◌&&◌}
use Rattle.flash.proofs.Bools.{and_left}
use Rattle.intel_hex.specs.Reading.{is_type}
use Rattle.intel_hex.specs.inner.Kinds.{code_of}
use Rattle.intel_hex.specs.declared.kind.Kind.{Kind}
use Rattle.intel_hex.specs.declared.kind.Kind.TheVariants.{Data, End, Upper}

pub not-upper : (k : Kind) → (k ≡ Data) ⊎ (k ≡ End) → code_of k ≡ 4 → ⊥
not-upper k o e =
    ⊎_elim (λ (q : k ≡ Data). omega (arith, e, ap code_of q)) (λ (q : k ≡ End). omega (arith, e, ap code_of q)) o

pub not-end : (k : Kind) → (k ≡ End → ⊥) → code_of k ≡ 1 → ⊥
not-end Data n e = omega (arith, e)
not-end End n e = n refl
not-end Upper n e = omega (arith, e)

pub type-last : (kind address size : ℕ) → is_type kind address size ≡ true → (kind ≡ 0 → ⊥) → (kind ≡ 1 → ⊥) → kind ≡ 4
unfolding is_type
type-last kind address size e f g =
    let t = rw (ne_eqb kind 0 f, ne_eqb kind 1 g) at e in
    eqb-true kind 4 (and_left (eqb kind 4) (eqb address 0) (and_left (eqb kind 4 && eqb address 0) (eqb size 2) t))
