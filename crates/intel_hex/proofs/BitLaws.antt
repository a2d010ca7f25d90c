-- Laws of bits in words of 64.
use Rattle.flash.proofs.Kit.{◌≡◌, refl, ap, sym, ◌∙◌, true, false, ◌⊎◌, inl, inr, ⊎_elim, List, ℕ, suc, ◌+◌, ◌-◌, ◌/◌, ◌%◌, ◌^◌, ◌≤◌, ◌<◌, max}
use Rattle.flash.proofs.Kit.{pow-suc, div-eq_of_lt, div_self, mod-lt, arith, eqb, length, get_or, set, replicate, get_or-replicate, get_or-set_same}
use Rattle.flash.proofs.Kit.{get_or-set_other, pow_pos, pow-lt, pow-add, shl-shr, bit_or, or_step, or_shr, eq-eqb}
use native.Mathlib.Decide.{dec_lt}
use Rattle.flash.specs.Lists.{any, range}
use Rattle.flash.proofs.Bools.{never_both}
use Rattle.flash.proofs.Comparisons.{eq-cases}
use Rattle.flash.proofs.Ranges.{any-is}
use Rattle.intel_hex.proofs.RangeLaws.{any-more}
use Rattle.intel_hex.specs.inner.Bits.{is_set, SetIs, MarkIs}

abbrev bit_at : ℕ → ℕ → ℕ
bit_at n k = n / 2 ^ k % 2

or-bit : (a b j : ℕ) → bit_at (bit_or a b) j ≡ max (bit_at a j) (bit_at b j)
or-bit a b j =
    let s = or_step (a / 2 ^ j) (b / 2 ^ j) in
    rw or_shr (omega arith)

pow_self : (k : ℕ) → bit_at (2 ^ k) k ≡ 1
pow_self k = ap (λ (x : ℕ). x % 2) (div_self (pow_pos k))

pow-above : (k j : ℕ) → k < j → bit_at (2 ^ k) j ≡ 0
pow-above k j l = rw (div-eq_of_lt (pow-lt l))

pow_below : (k j : ℕ) → j < k → bit_at (2 ^ k) j ≡ 0
pow_below k j l =
    let e : k ≡ suc (k - suc j) + j = omega arith in
    rw (e, pow-add, shl-shr, pow-suc) (omega arith)

pow-other : (k j : ℕ) → (j ≡ k → ⊥) → bit_at (2 ^ k) j ≡ 0
pow-other k j ne = go (dec_lt j k)
  where
    go : Dec (j < k) → bit_at (2 ^ k) j ≡ 0
    go (yes l) = pow_below k j l
    go (no n) = pow-above k j (omega arith)

with-set : (n k : ℕ) → bit_at (bit_or n (2 ^ k)) k ≡ 1
with-set n k =
    let a = pow_self k in
    let b = mod-lt (n / 2 ^ k) {m = 2} (omega arith) in
    rw or-bit (omega arith)

with-same : (n k j : ℕ) → (j ≡ k → ⊥) → bit_at (bit_or n (2 ^ k)) j ≡ bit_at n j
with-same n k j ne =
    let a = pow-other k j ne in
    rw or-bit (omega arith)

pub word_set : (words : List ℕ) (b : ℕ) → length words ≡ 1024 → b < 65536 → SetIs words b (set words (b / 64) (bit_or (get_or words (b / 64) 0) (2 ^ (b % 64))))
word_set words b n h =
    let word : ℕ = bit_or (get_or words (b / 64) 0) (2 ^ (b % 64)) in
    record {
      set = eq-eqb _ 1 (ap (λ (x : ℕ). bit_at x (b % 64)) (get_or-set_same words (b / 64) word 0 (omega arith)) ∙ with-set (get_or words (b / 64) 0) (b % 64));
      same = λ j ne.
          ⊎_elim
          (λ (e : j / 64 ≡ b / 64).
          let o : j % 64 ≡ b % 64 → ⊥ = λ q. ne (omega arith) in
          let there : get_or (set words (b / 64) word) (j / 64) 0 ≡ word = ap (λ (x : ℕ). get_or (set words (b / 64) word) x 0) e ∙ get_or-set_same words (b / 64) word 0 (omega arith) in
          ap (λ (x : ℕ). eqb x 1) (ap (λ (x : ℕ). bit_at x (j % 64)) there ∙ with-same (get_or words (b / 64) 0) (b % 64) (j % 64) o ∙ ap (λ (x : ℕ). bit_at (get_or words x 0) (j % 64)) (sym e)))
          (λ (e : j / 64 ≡ b / 64 → ⊥).
          ap (λ (x : ℕ). eqb (bit_at x (j % 64)) 1) (get_or-set_other words (b / 64) (j / 64) word 0 e))
          (eq-cases (j / 64) (b / 64));
    }

-- no bit of zeros is set
pub none-set : (b : ℕ) → b < 65536 → is_set (replicate 1024 0) b ≡ false
none-set b h =
    let z : 0 / 2 ^ (b % 64) ≡ 0 = div-eq_of_lt (pow_pos (b % 64)) in
    ap (λ (x : ℕ). eqb (bit_at x (b % 64)) 1) (get_or-replicate 1024 (b / 64) 0 0 (omega arith)) ∙ rw z

-- ---- a loop that sets bits from `from` on, and has come to i
pub record Marking (words : List ℕ) (from i : ℕ) (after : List ℕ) : Type 0 where
  pub fresh : any (is_set words) (range from (i - from)) ≡ false
  pub set : (b : ℕ) → from ≤ b → b < i → is_set after b ≡ true
  pub same : (b : ℕ) → (b < from) ⊎ (i ≤ b) → is_set after b ≡ is_set words b

pub marking-none : (words : List ℕ) (from : ℕ) → Marking words from from words
unfolding any range
marking-none words from =
    let z : from - from ≡ 0 = omega arith in
    record { fresh = rw z; set = λ b l h. absurd (omega arith); same = λ b o. refl }

module _ (words : List ℕ) (from i : ℕ) (after : List ℕ) (M : Marking words from i after) (l : from ≤ i) where
  pub marking-more : (next : List ℕ) → is_set after i ≡ false → SetIs after i next → Marking words from (i + 1) next
  marking-more next off S =
      let k : i + 1 - from ≡ i - from + 1 = omega arith in
      let x : from + (i - from) ≡ i = omega arith in
      record {
        fresh = rw (k, any-more (is_set words) from (i - from), M.fresh, x) (sym (M.same i (inr (omega arith))) ∙ off);
        set = λ b a h.
            ⊎_elim
            (λ (e : b ≡ i). ap (is_set next) e ∙ S.set)
            (λ (e : b ≡ i → ⊥). S.same b e ∙ M.set b a (omega arith))
            (eq-cases b i);
        same = λ b o.
            let ne : b ≡ i → ⊥ = λ e. ⊎_elim (λ (q : b < from). omega arith) (λ (q : i + 1 ≤ b). omega arith) o in
            S.same b ne ∙ M.same b (⊎_elim (λ (q : b < from). inl q) (λ (q : i + 1 ≤ b). inr (omega arith)) o);
      }

  pub mark-found : (count : ℕ) (last : List ℕ) → i < from + count → is_set after i ≡ true → MarkIs words from count last true
  mark-found count last h on = record {
    found = sym (any-is (is_set words) from count i l h (sym (M.same i (inr (omega arith))) ∙ on));
    set = λ e. absurd (never_both refl e);
    same = λ e. absurd (never_both refl e);
  }

  pub mark-done : (count : ℕ) → i ≡ from + count → MarkIs words from count after false
  mark-done count e =
      let k : i - from ≡ count = omega arith in
      record {
        found = sym (rw k at M.fresh);
        set = λ _ b a h. M.set b a (omega arith);
        same = λ _ b o. M.same b (⊎_elim (λ (q : b < from). inl q) (λ (q : from + count ≤ b). inr (omega arith)) o);
      }
