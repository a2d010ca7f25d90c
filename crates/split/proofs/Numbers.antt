-- The bytes of the source blocks while the rule works, one for each set: which page has it, by its number within the block.
use Rattle.flash.proofs.Kit.{◌≡◌, sym, ap, ◌∙◌, ◌≢◌, ⊎_elim, Bool, true, false, List, ℕ, zero, suc, ◌+◌, ◌*◌, ◌/◌, ◌%◌, ◌≤◌, ◌<◌, div-add-mod'}
use Rattle.flash.proofs.Kit.{arith, eqb, length, get_or}
use Rattle.flash.specs.Lists.{range, count}
use Rattle.split.specs.Split.{source_block, set_of}
use Rattle.split.specs.Rule.{source, swapped, block_at}
use Rattle.split.specs.inner.Cells.{row_of, Numbered, swapped_at}
use Rattle.flash.proofs.Bools.{bool_cases}
use Rattle.flash.proofs.Comparisons.{eq-cases, ne-lt}
use Rattle.flash.proofs.Parts.{part-fits}
use Rattle.split.proofs.CellsLaws.{swapped-lt, swapped-twice, swapped_here, swapped-beside}

pub source_row : (m : ℕ) (list : List ℕ) (x : ℕ) → row_of m list source x ≡ x / m
unfolding block_at source_block
source_row m list x = omega arith

-- the page of a source block with a number there
pub source-page : (m : ℕ) (list : List ℕ) (x : ℕ) → row_of m list source x * m + x % m ≡ x
source-page m list x = ap (λ (row : ℕ). row * m + x % m) (source_row m list x) ∙ div-add-mod' x m

-- a block and a number within it are told by where they lie
pub digits : (m i j x y : ℕ) → j < m → y < m → i * m + j ≡ x * m + y → (i ≡ x) × (j ≡ y)
digits m i j x y h l e = (same, omega (arith, ap (λ (z : ℕ). z * m) same))
  where
    same : i ≡ x
    same = ⊎_elim
        (λ (q : i ≡ x). q)
        (λ (q : i ≢ x). ⊎_elim
        (λ (o : i < x). absurd (omega (arith, part-fits i x m o)))
        (λ (o : x < i). absurd (omega (arith, part-fits x i m o)))
        (ne-lt i x q))
        (eq-cases i x)

-- the bytes of a source block, as its pages exchange two sets
module _ (m pages : ℕ) (sets sets' numbers : List ℕ) (N : Numbered m pages sets numbers) (row a b : ℕ) (differ : a ≢ b)
    (a_lt : a < m) (b_lt : b < m) (beside : (x : ℕ) → x < pages → x / m ≢ row → set_of sets' x ≡ set_of sets x)
    (here : (x : ℕ) → x < pages → x / m ≡ row → set_of sets' x ≡ swapped a b (set_of sets x)) (room : row * m + m ≤ length numbers) where
  abbrev after : List ℕ
  after = swapped_at numbers (row * m + a) (row * m + b)

  pub numbers-exchanged : Numbered m pages sets' after
  numbers-exchanged x h = ⊎_elim
      (λ (e : x / m ≡ row).
      let s = here x h e in (
        rw s (swapped-lt a b m differ a_lt b_lt (set_of sets x) (N x h).0),
        rw (s, e) (
            swapped_here numbers (λ c. row * m + c) (λ c d ne e. ne (omega arith)) a b differ (omega arith) (omega arith) (swapped a b (set_of sets x))
            ∙ ap (λ (c : ℕ). get_or numbers (row * m + c) 0) (swapped-twice a b differ (set_of sets x))
            ∙ ap (λ (r : ℕ). get_or numbers (r * m + set_of sets x) 0) (sym e) ∙ (N x h).1),
      ))
      (λ (ne : x / m ≢ row).
      let s = beside x h ne in
      let small = (N x h).0 in (
        rw s small,
        rw s (swapped-beside numbers (row * m + a) (row * m + b) (x / m * m + set_of sets x)
            (λ e. ne (digits m (x / m) (set_of sets x) row a small a_lt e).0)
            (λ e. ne (digits m (x / m) (set_of sets x) row b small b_lt e).0) ∙ (N x h).1),
      ))
      (eq-cases (x / m) row)

-- how many of the first k bytes are as they were at the start
abbrev pub unchanged : (start numbers : List ℕ) → (k : ℕ) → ℕ
unchanged start numbers k = count (λ at. eqb (get_or numbers at 0) (get_or start at 0)) (range 0 k)

count-le : (f g : ℕ → Bool) → ((x : ℕ) → g x ≡ true → f x ≡ true) → (start n : ℕ) → count g (range start n) ≤ count f (range start n)
unfolding count range
count-le f g le start zero = omega arith
count-le f g le start (suc n) = ⊎_elim
    (λ (q : g start ≡ true). rw (q, le start q) (omega (arith, count-le f g le (suc start) n)))
    (λ (q : g start ≡ false). rw q (⊎_elim
    (λ (r : f start ≡ true). rw r (omega (arith, count-le f g le (suc start) n)))
    (λ (r : f start ≡ false). rw r (count-le f g le (suc start) n))
    (bool_cases (f start))))
    (bool_cases (g start))

pub count_less : (f g : ℕ → Bool) → ((x : ℕ) → g x ≡ true → f x ≡ true) → (p : ℕ) → f p ≡ true → g p ≡ false
    → (start n : ℕ) → start ≤ p → p < start + n → count g (range start n) < count f (range start n)
unfolding count range
count_less f g le p held lost start zero l h = absurd (omega arith)
count_less f g le p held lost start (suc n) l h = ⊎_elim
    (λ (e : start ≡ p). rw (e, held, lost) (omega (arith, count-le f g le (suc p) n)))
    (λ (ne : start ≢ p).
    let r = count_less f g le p held lost (suc start) n (omega arith) (omega arith) in
    ⊎_elim
    (λ (q : g start ≡ true). rw (q, le start q) (omega arith))
    (λ (q : g start ≡ false). rw q (⊎_elim (λ (t : f start ≡ true). rw t (omega arith)) (λ (t : f start ≡ false). rw t r) (bool_cases (f start))))
    (bool_cases (g start)))
    (eq-cases start p)
