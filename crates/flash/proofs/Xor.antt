-- Exclusive-or of numbers, by bits: what the logic's own laws of it lack.
use Rattle.flash.proofs.Kit.{◌≡◌, refl, sym, ◌∙◌, ℕ, ◌+◌, ◌/◌, ◌%◌, arith, bin_ind, bit_xor, xor_shr, xor_self, xor_zero_l, xor_zero_r}
use Rattle.flash.proofs.Kit.{xor_add_and}

xor-odd : (a b : ℕ) → bit_xor a b % 2 ≡ (a + b) % 2
xor-odd a b = omega (arith, xor_add_and a b)

-- the halves are equal, and both are odd or both even
pub xor_assoc : (a b c : ℕ) → bit_xor (bit_xor a b) c ≡ bit_xor a (bit_xor b c)
xor_assoc =
    bin_ind (λ (a : ℕ). (b c : ℕ) → bit_xor (bit_xor a b) c ≡ bit_xor a (bit_xor b c)) (λ b c. refl)
    (λ a ih b c.
    let half : bit_xor (bit_xor a b) c / 2 ≡ bit_xor a (bit_xor b c) / 2 =
    rw (xor_shr (bit_xor a b) c 1, xor_shr a b 1, ih (b / 2) (c / 2), ← xor_shr b c 1) (sym (xor_shr a (bit_xor b c) 1)) in
    omega (arith, xor-odd a b, xor-odd (bit_xor a b) c, xor-odd b c, xor-odd a (bit_xor b c)))

-- what is added twice cancels
pub xor-cancel : (a b : ℕ) → bit_xor (bit_xor a b) b ≡ a
xor-cancel a b = xor_assoc a b b ∙ rw (xor_self, xor_zero_r)

-- only equal numbers add to nothing
pub xor-zero-eq : (a b : ℕ) → bit_xor a b ≡ 0 → a ≡ b
xor-zero-eq a b e = sym (xor-cancel a b) ∙ rw e (xor_zero_l b)
