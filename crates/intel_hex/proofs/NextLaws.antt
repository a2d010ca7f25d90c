-- What is known of the position behind a line, once it is told whether the line ends.
use Rattle.flash.proofs.Kit.{◌≡◌, refl, true, false, ℕ, ◌≤◌, arith}
use Rattle.flash.proofs.Bools.{never_both}
use Rattle.std.specs.Prelude.{IsSome, MatchOption, is_some}
use Rattle.std.specs.declared.option.Option.{Option}
use Rattle.std.specs.declared.option.Option.TheVariants.{None, Some}

abbrev pub NextIs : (next : ℕ) → (r : Option ℕ) → Type 0
NextIs next r = MatchOption r (next ≡ 0) (λ at. (at ≡ next) × (1 ≤ at))

pub ends-not : (next : ℕ) (r : Option ℕ) → NextIs next r → is_some r ≡ false → next ≡ 0
ends-not next None N e = N
ends-not next (Some at) N e = absurd (never_both refl e)

pub ends-there : (next : ℕ) (r : Option ℕ) → NextIs next r → is_some r ≡ true → next ≡ 0 → ⊥
ends-there next None N e z = never_both e refl
ends-there next (Some at) N e z = omega (arith, N.0, N.1)

pub ends-some : (next : ℕ) (r : Option ℕ) → NextIs next r → (next ≡ 0 → ⊥) → IsSome r
ends-some next None N f = absurd (f N)
ends-some next (Some at) N f = refl

pub ends-at : (next at : ℕ) (r : Option ℕ) → NextIs next r → r ≡ Some at → at ≡ next
ends-at next at r N e = (rw e at N).0
