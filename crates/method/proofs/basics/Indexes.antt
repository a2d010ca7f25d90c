-- Numbers as indexes: two in order, one taken apart into block and page or into turn and step, and elements of lists by index.
use Rattle.flash.proofs.Kit.{◌≡◌, sym, ap, ◌∙◌, subst, ◌≢◌, ⊎_elim, List, [], ◌∷◌, map, ℕ, zero, suc, ◌+◌, ◌-◌, ◌*◌, ◌/◌, ◌%◌, ◌<◌, not-suc-le-zero}
use Rattle.flash.proofs.Kit.{le_of_suc-le-suc, mul-add-div_right, div-eq_of_lt, mul-add-mod_self_right, mod-eq_of_lt, add-zero, mul-le-mul_right}
use Rattle.flash.proofs.Kit.{suc-mul, div-add-mod', mod-lt, div-lt_iff_lt-mul, arith, length, get_or, List·getD-append, get_or-append-add}
use Rattle.flash.specs.Lists.{range, down_from, concat_map}
use Rattle.flash.proofs.Comparisons.{ne-lt, eq-cases}

-- what two different values would prove if they were equal
pub clash : ◌≡◌ {A = ℕ} 0 1 → ⊥
clash e = omega arith

-- two numbers in order
pub data Order (a b : ℕ) : Type 0 where
  less : a < b → Order a b
  same : a ≡ b → Order a b
  more : b < a → Order a b

pub order : (a b : ℕ) → Order a b
order a b = ⊎_elim same (λ (ne : a ≢ b). ⊎_elim less more (ne-lt a b ne)) (eq-cases a b)

pub slot-div : (size b j : ℕ) → j < size → (b * size + j) / size ≡ b
slot-div size b j h = mul-add-div_right (omega arith) b j ∙ ap (λ (x : ℕ). b + x) (div-eq_of_lt h) ∙ add-zero b

pub slot-mod : (size b j : ℕ) → j < size → (b * size + j) % size ≡ j
slot-mod size b j h = mul-add-mod_self_right b size j ∙ mod-eq_of_lt h

pub slot_lt : (size b j count : ℕ) → b < count → j < size → b * size + j < count * size
slot_lt size b j count h l = omega (arith, mul-le-mul_right size h, suc-mul b size)

-- what holds of one number, and of each other, holds of all
pub this-or-other : (P : ℕ → Type 0) (a b : ℕ) → P a → (b ≢ a → P b) → P b
this-or-other P a b here there = ⊎_elim (λ (e : b ≡ a). subst P (sym e) here) there (eq-cases b a)

-- what holds of page j of block b, for each of them, holds of each slot
pub each-slot : (size count : ℕ) (P : ℕ → Type 0) → ((b j : ℕ) → b < count → j < size → P (b * size + j)) → (t : ℕ) → t < count * size → P t
each-slot zero count P f t h = absurd (omega arith)
each-slot (suc s) count P f t h =
    let pages : 0 < suc s = omega arith in
    subst P (div-add-mod' t (suc s)) (f (t / suc s) (t % suc s) ((div-lt_iff_lt-mul pages).1 h) (mod-lt t pages))

pub map-range-at : {A : Type 0} (f : ℕ → A) (start count i : ℕ) (d : A) → i < count → get_or (map f (range start count)) i d ≡ f (start + i)
unfolding range
map-range-at f start zero i d h = absurd (not-suc-le-zero h)
map-range-at f start (suc count) zero d h = ap f (omega arith)
map-range-at f start (suc count) (suc i) d h = map-range-at f (suc start) count i d (le_of_suc-le-suc h) ∙ ap f (omega arith)

pub down_from-at : (n i d : ℕ) → i < n → get_or (down_from n) i d ≡ n - i
unfolding down_from
down_from-at zero i d h = absurd (not-suc-le-zero h)
down_from-at (suc n) zero d h = omega arith
down_from-at (suc n) (suc i) d h = down_from-at n i d (le_of_suc-le-suc h) ∙ omega arith

-- lists of one size, one after the other: element j of list i
pub concat_map-at : {A B : Type 0} (f : A → List B) (size : ℕ) → ((x : A) → length (f x) ≡ size)
    → (xs : List A) (i j : ℕ) (d : B) (e : A) → i < length xs → j < size → get_or (concat_map f xs) (i * size + j) d ≡ get_or (f (get_or xs i e)) j d
unfolding concat_map
concat_map-at f size each [] i j d e h k = absurd (not-suc-le-zero h)
concat_map-at f size each (x ∷ xs) zero j d e h k =
    let at : 0 * size + j ≡ j = omega arith in
    rw at (List·getD-append (f x) (concat_map f xs) d j (omega (arith, each x)))
concat_map-at f size each (x ∷ xs) (suc i) j d e h k =
    let at : suc i * size + j ≡ length (f x) + (i * size + j) = omega (arith, each x, suc-mul i size) in
    rw at (get_or-append-add (f x) (concat_map f xs) (i * size + j) d ∙ concat_map-at f size each xs i j d e (le_of_suc-le-suc h) k)
