-- Laws of the page sum. `⊕` fills the shorter page up with zeros, so most of them ask nothing of lengths.
use Rattle.flash.proofs.Kit.{◌≡◌, refl, sym, ap, ap₂, ◌∙◌, List, [], ◌∷◌, ◌++◌, map, ℕ, zero, suc, ◌≤◌, ◌<◌, max, not-suc-le-zero, le_of_suc-le-suc}
use Rattle.flash.proofs.Kit.{arith, length, get_or, take, drop, replicate, bit_xor, xor_comm, xor_self, xor_zero_l, xor_zero_r}
use Rattle.flash.specs.PageSum.{◌⊕◌, sum}
use Rattle.flash.proofs.Xor.{xor_assoc, xor-cancel}

pub ⊕-nil : (a : List ℕ) → a ⊕ [] ≡ a
unfolding ◌⊕◌
⊕-nil [] = refl
⊕-nil (x ∷ xs) = refl

pub ⊕-comm : (a b : List ℕ) → a ⊕ b ≡ b ⊕ a
unfolding ◌⊕◌
⊕-comm [] b = sym (⊕-nil b)
⊕-comm (x ∷ xs) [] = refl
⊕-comm (x ∷ xs) (y ∷ ys) = ap₂ (λ (h : ℕ) (t : List ℕ). h ∷ t) (xor_comm x y) (⊕-comm xs ys)

pub ⊕-assoc : (a b c : List ℕ) → a ⊕ b ⊕ c ≡ a ⊕ (b ⊕ c)
unfolding ◌⊕◌
⊕-assoc [] b c = refl
⊕-assoc (x ∷ xs) [] c = refl
⊕-assoc (x ∷ xs) (y ∷ ys) [] = refl
⊕-assoc (x ∷ xs) (y ∷ ys) (z ∷ zs) = ap₂ (λ (h : ℕ) (t : List ℕ). h ∷ t) (xor_assoc x y z) (⊕-assoc xs ys zs)

-- a page added twice cancels
pub ⊕-cancel : (a b : List ℕ) → length b ≤ length a → a ⊕ b ⊕ b ≡ a
unfolding ◌⊕◌
⊕-cancel [] [] h = refl
⊕-cancel [] (y ∷ ys) h = absurd (not-suc-le-zero h)
⊕-cancel (x ∷ xs) [] h = refl
⊕-cancel (x ∷ xs) (y ∷ ys) h =
    ap₂ (λ (h : ℕ) (t : List ℕ). h ∷ t) (xor-cancel x y) (⊕-cancel xs ys (le_of_suc-le-suc h))

pub length-⊕ : (a b : List ℕ) → length (a ⊕ b) ≡ max (length a) (length b)
unfolding ◌⊕◌
length-⊕ [] b = omega arith
length-⊕ (x ∷ xs) [] = omega arith
length-⊕ (x ∷ xs) (y ∷ ys) = omega (arith, length-⊕ xs ys)

-- zeros add nothing to a page of as many bytes
pub ⊕-zeros : (P : ℕ) (a : List ℕ) → P ≤ length a → replicate P 0 ⊕ a ≡ a
unfolding ◌⊕◌
⊕-zeros zero a h = refl
⊕-zeros (suc P) [] h = absurd (not-suc-le-zero h)
⊕-zeros (suc P) (x ∷ xs) h = ap₂ (λ (h : ℕ) (t : List ℕ). h ∷ t) (xor_zero_l x) (⊕-zeros P xs (le_of_suc-le-suc h))

-- a page added to itself leaves zeros
pub ⊕-self : (P byte : ℕ) → replicate P byte ⊕ replicate P byte ≡ replicate P 0
unfolding ◌⊕◌
⊕-self zero byte = refl
⊕-self (suc P) byte = ap₂ (λ (h : ℕ) (t : List ℕ). h ∷ t) (xor_self byte) (⊕-self P byte)

pub ⊕-at : (a b : List ℕ) (i : ℕ) → get_or (a ⊕ b) i 0 ≡ bit_xor (get_or a i 0) (get_or b i 0)
unfolding ◌⊕◌
⊕-at [] b i = refl
⊕-at (x ∷ xs) [] i = sym (xor_zero_r (get_or (x ∷ xs) i 0))
⊕-at (x ∷ xs) (y ∷ ys) zero = refl
⊕-at (x ∷ xs) (y ∷ ys) (suc i) = ⊕-at xs ys i

-- a part of a sum is the sum of the parts
pub take-⊕ : (n : ℕ) (a b : List ℕ) → take n (a ⊕ b) ≡ take n a ⊕ take n b
unfolding ◌⊕◌
take-⊕ zero a b = refl
take-⊕ (suc n) [] b = refl
take-⊕ (suc n) (x ∷ xs) [] = refl
take-⊕ (suc n) (x ∷ xs) (y ∷ ys) = ap (λ (t : List ℕ). bit_xor x y ∷ t) (take-⊕ n xs ys)

pub drop-⊕ : (n : ℕ) (a b : List ℕ) → drop n (a ⊕ b) ≡ drop n a ⊕ drop n b
unfolding ◌⊕◌
drop-⊕ zero a b = refl
drop-⊕ (suc n) [] b = refl
drop-⊕ (suc n) (x ∷ xs) [] = sym (⊕-nil (drop n xs))
drop-⊕ (suc n) (x ∷ xs) (y ∷ ys) = drop-⊕ n xs ys

module _ {A : Type 0} (page : A → List ℕ) where
  pub sum-append : (xs ys : List A) → sum page (xs ++ ys) ≡ sum page xs ⊕ sum page ys
  unfolding sum ◌⊕◌
  sum-append [] ys = refl
  sum-append (t ∷ ts) ys =
      ap (λ (s : List ℕ). page t ⊕ s) (sum-append ts ys) ∙ sym (⊕-assoc (page t) (sum page ts) (sum page ys))

  pub sum_one : (t : A) → sum page (t ∷ []) ≡ page t
  unfolding sum
  sum_one t = ⊕-nil (page t)

  -- pages added one after another from the left: one page more
  pub sum_more : (ts : List A) (t : A) → sum page (ts ++ (t ∷ [])) ≡ sum page ts ⊕ page t
  sum_more ts t = sum-append ts (t ∷ []) ∙ ap (λ (s : List ℕ). sum page ts ⊕ s) (sum_one t)

  pub sum-map : {B : Type 0} (f : B → A) (ts : List B) → sum page (map f ts) ≡ sum (λ t. page (f t)) ts
  unfolding sum
  sum-map f [] = refl
  sum-map f (t ∷ ts) = ap (λ (s : List ℕ). page (f t) ⊕ s) (sum-map f ts)

-- sums of the same pages are equal
pub sum_same : (page other : ℕ → List ℕ) (ts : List ℕ)
    → ((i : ℕ) → i < length ts → page (get_or ts i 0) ≡ other (get_or ts i 0)) → sum page ts ≡ sum other ts
unfolding sum
sum_same page other [] f = refl
sum_same page other (t ∷ ts) f = ap₂ (λ (p s : List ℕ). p ⊕ s) (f 0 (omega arith)) (sum_same page other ts (λ i h. f (suc i) (omega arith)))

-- the length of a sum of pages of one size, of which there is at least one
pub length-sum : (page : ℕ → List ℕ) (size : ℕ) (ts : List ℕ)
    → ((i : ℕ) → i < length ts → length (page (get_or ts i 0)) ≡ size) → 0 < length ts → length (sum page ts) ≡ size
unfolding sum
length-sum page size [] f h = absurd (not-suc-le-zero h)
length-sum page size (t ∷ []) f h = ap length (⊕-nil (page t)) ∙ f 0 (omega arith)
length-sum page size (t ∷ u ∷ ts) f h =
    length-⊕ (page t) (sum page (u ∷ ts))
    ∙ omega (arith, f 0 (omega arith), length-sum page size (u ∷ ts) (λ i l. f (suc i) (omega arith)) (omega arith))
