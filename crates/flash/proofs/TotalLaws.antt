-- Laws of pages that stored pages, or none, and perhaps 255s add up to.
use Rattle.flash.proofs.Kit.{◌≡◌, sym, ap, ◌∙◌, ⊎_elim, Bool, true, false, cond, List, [], ◌∷◌, ◌++◌, ℕ, ◌+◌, ◌-◌, ◌*◌, ◌≤◌, ◌<◌, arith, length, get_or, take, drop, replicate}
use Rattle.flash.proofs.Kit.{length-replicate, length-take-le, get_or-take}
use Rattle.flash.specs.Lists.{part, set_part}
use Rattle.flash.specs.PageSum.{◌⊕◌, sum, written_bytes}
use Rattle.flash.specs.inner.Totals.{total_page}
use Rattle.flash.proofs.Comparisons.{lt-cases}
use Rattle.flash.proofs.Parts.{length_part, part-set_part, lent-part, lent_back}
use Rattle.flash.proofs.SlotLaws.{set_part-twice}
use Rattle.flash.proofs.Sums.{⊕-nil, ⊕-comm, ⊕-assoc, ⊕-zeros, length-⊕, length-sum}

-- zeros where there is no slot
pub total-none : (p : ℕ) (store : List ℕ) → total_page p false store [] ≡ replicate p 0
unfolding sum
total-none p store = ⊕-nil (replicate p 0)

pub total-empty : (p : ℕ) (store slots : List ℕ) → length slots ≡ 0 → total_page p false store slots ≡ replicate p 0
total-empty p store [] e = total-none p store
total-empty p store (x ∷ xs) e = absurd (omega arith)

module _ (p : ℕ) (store slots : List ℕ) where
  pub total-inverted : replicate p 255 ⊕ total_page p false store slots ≡ total_page p true store slots
  total-inverted =
      let nothing : replicate p 255 ⊕ replicate p 0 ≡ replicate p 255 =
      ⊕-comm (replicate p 255) (replicate p 0) ∙ ⊕-zeros p (replicate p 255) (omega (arith, length-replicate {A = ℕ} p 255)) in
      sym (⊕-assoc (replicate p 255) (replicate p 0) (sum (λ t. part p t store) slots))
      ∙ ap (λ (a : List ℕ). a ⊕ sum (λ t. part p t store) slots) nothing

  -- a sum of no page is empty
  short_sum : (xs : List ℕ) → (1 ≤ length xs → length (sum (λ t. part p t store) xs) ≤ p) → length (sum (λ t. part p t store) xs) ≤ p
  unfolding sum
  short_sum [] h = omega arith
  short_sum (x ∷ xs) h = h (omega arith)

  module _ (each : (j : ℕ) → j < length slots → get_or slots j 0 * p + p ≤ length store) where
    sum-length : 1 ≤ length slots → length (sum (λ t. part p t store) slots) ≡ p
    sum-length some =
        length-sum (λ t. part p t store) p slots (λ i h. length_part p (get_or slots i 0) store (each i h)) some

    pub total-sum : 1 ≤ length slots → total_page p false store slots ≡ sum (λ t. part p t store) slots
    total-sum some = ⊕-zeros p (sum (λ t. part p t store) slots) (omega (arith, sum-length some))

    pub total-length : (filler : Bool) → length (total_page p filler store slots) ≡ p
    unfolding sum
    total-length filler =
        let short : length (sum (λ t. part p t store) slots) ≤ p = short_sum slots (λ some. omega (arith, sum-length some)) in
        length-⊕ (replicate p (cond filler 255 0)) (sum (λ t. part p t store) slots) ∙ omega (arith, length-replicate {A = ℕ} p (cond filler 255 0), short)

    -- a page that was lent and came back with 255s added
    pub inverted-page : (page now : List ℕ) → page ≡ total_page p false store slots → now ≡ replicate (length page) 255 ⊕ page
        → now ≡ total_page p true store slots
    inverted-page page now e f = f ∙ rw (e, total-length false) total-inverted

-- a slot's page that was lent and came back with 255s added
pub inverted-back : (p to : ℕ) (store page now back : List ℕ) → to * p + p ≤ length store → length page ≡ p → now ≡ set_part p to store page
    → (let lent = take (to * p + p - to * p) (drop (to * p) now) in
    back ≡ replicate (length lent) 255 ⊕ lent
    → take (to * p) now ++ (back ++ drop (to * p + p - to * p) (drop (to * p) now)) ≡ set_part p to store (replicate p 255 ⊕ page))
inverted-back p to store page now back fits whole e f =
    let there : part p to now ≡ page = rw e (part-set_part p to store page fits whole) in
    let back_is : back ≡ replicate p 255 ⊕ page = f ∙ rw (lent-part p to now, there, whole) in
    lent_back p to now back ∙ set_part-twice p to store page now fits whole e back ∙ ap (set_part p to store) back_is

-- the bytes of a slot's page, cut out by its first and last
pub counted : (p to : ℕ) (store : List ℕ) → written_bytes (take (to * p + p - to * p) (drop (to * p) store)) ≡ written_bytes (part p to store)
unfolding part
counted p to store = (let all : to * p + p - to * p ≡ p = omega arith in rw all)
