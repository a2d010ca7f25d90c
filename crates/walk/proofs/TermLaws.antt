-- Terms of a sum against the slots that are left of them: which are stored, and what they add up to.
use Rattle.flash.proofs.Kit.{◌≡◌, refl, sym, ap, ◌∙◌, subst, ⊎_elim, Bool, true, false, cond, not, List, [], ◌∷◌, ◌++◌, map, append-nil, ℕ, zero}
use Rattle.flash.proofs.Kit.{suc, ◌+◌, ◌-◌, ◌*◌, ◌≤◌, ◌<◌, arith, length, get_or, take, drop, replicate, length-take-le, take-suc, drop-append-le}
use Rattle.flash.proofs.Kit.{length-append}
use Rattle.flash.specs.declared.sizes.Sizes.{Sizes}
use Rattle.flash.specs.Geometry.{slot_count, store_len}
use Rattle.flash.specs.PageSum.{◌⊕◌, sum}
use Rattle.flash.specs.Chip.{Chip, page_at}
use Rattle.flash.specs.Lists.{part}
use Rattle.flash.specs.inner.Totals.{total_page}
use Rattle.flash.proofs.Bounds.{slot-in-store}
use Rattle.flash.proofs.Parts.{length_part}
use Rattle.flash.proofs.Sums.{⊕-comm, ⊕-assoc, ⊕-zeros, ⊕-self, length-⊕, sum-append, sum_one, sum_more}
use Rattle.method.specs.Move.{Plan}
use Rattle.method.specs.Read.{Term, stored, filler, filler_page, term_page, stored_slots, term_at}
use Rattle.method.proofs.basics.EachNumber.{Each}
use Rattle.method.proofs.basics.MoveShape.{filler-length}
use Rattle.method.proofs.walks.Terms.{term-cases}
use Rattle.walk.specs.declared.terms.Addends.{Addends}
use Rattle.walk.specs.inner.Slots.{SumsAs}
use Rattle.walk.specs.inner.Terms.{AddsUp, first_out}

-- ---- terms, and slots and 255s that stand for them; zeros are added so that nothing is asked of the pages
pub record Stands (terms : List Term) (slots : List ℕ) (is_filled : Bool) : Type 0 where
  pub number : length (stored_slots terms) ≡ length slots
  pub adds : (P : ℕ) (chip : Chip) → replicate P 0 ⊕ sum (term_page P chip) terms ≡ total_page P is_filled chip.store slots

swap : (a b c : List ℕ) → a ⊕ (b ⊕ c) ≡ b ⊕ (a ⊕ c)
swap a b c = sym (⊕-assoc a b c) ∙ ap (λ (x : List ℕ). x ⊕ c) (⊕-comm a b) ∙ ⊕-assoc b a c

-- 255s added to 255s, or to none
flipped : (P : ℕ) (is_filled : Bool) → filler_page P ⊕ replicate P (cond is_filled 255 0) ≡ replicate P (cond (not is_filled) 255 0)
unfolding filler_page
flipped P true = ⊕-self P 255
flipped P false = ⊕-comm (filler_page P) (replicate P 0) ∙ ⊕-zeros P (filler_page P) (omega (arith, filler-length P))

pub stands-none : Stands [] [] false
unfolding stored_slots sum
stands-none = record { number = refl; adds = λ P chip. refl }

module _ {terms : List Term} {slots : List ℕ} {is_filled : Bool} (S : Stands terms slots is_filled) where
  pub stands-stored : (t : ℕ) → Stands (stored t ∷ terms) (t ∷ slots) is_filled
  unfolding stored_slots sum term_page page_at
  stands-stored t = record {
    number = ap suc S.number;
    adds = λ P chip.
        swap (replicate P 0) (page_at P chip t) (sum (term_page P chip) terms)
        ∙ ap (λ (x : List ℕ). page_at P chip t ⊕ x) (S.adds P chip)
        ∙ swap (page_at P chip t) (replicate P (cond is_filled 255 0)) (sum (page_at P chip) slots);
  }

  pub stands-filler : Stands (filler ∷ terms) slots (not is_filled)
  unfolding stored_slots sum term_page
  stands-filler = record {
    number = S.number;
    adds = λ P chip.
        swap (replicate P 0) (filler_page P) (sum (term_page P chip) terms)
        ∙ ap (λ (x : List ℕ). filler_page P ⊕ x) (S.adds P chip)
        ∙ sym (⊕-assoc (filler_page P) (replicate P (cond is_filled 255 0)) (sum (λ t. part P t chip.store) slots))
        ∙ ap (λ (x : List ℕ). x ⊕ sum (λ t. part P t chip.store) slots) (flipped P is_filled);
  }

  pub stands_same : {other : List ℕ} → SumsAs other slots → Stands terms other is_filled
  stands_same E = record {
    number = S.number ∙ sym E.number;
    adds = λ P chip. S.adds P chip ∙ ap (λ (x : List ℕ). replicate P (cond is_filled 255 0) ⊕ x) (sym (E.sums (λ t. part P t chip.store)));
  }

-- all but perhaps the last are stored
stands-last : (term : ℕ → Term) (ts : List ℕ) (last : ℕ) (is_out : Bool) → Each (λ t. term t ≡ stored t) ts → term last ≡ cond is_out filler (stored last)
    → Stands (map term (ts ++ (last ∷ []))) (ts ++ cond is_out [] (last ∷ [])) is_out
stands-last term [] last true each e = rw e (stands-filler stands-none)
stands-last term [] last false each e = rw e (stands-stored stands-none last)
stands-last term (t ∷ ts) last is_out each e = rw (each 0 (omega arith)) (stands-stored (stands-last term ts last is_out (λ i h. each (suc i) (omega arith)) e) t)

pub stands-all : (term : ℕ → Term) (ts : List ℕ) → Each (λ t. term t ≡ stored t) ts → Stands (map term ts) ts false
stands-all term [] each = stands-none
stands-all term (t ∷ ts) each = rw (each 0 (omega arith)) (stands-stored (stands-all term ts (λ i h. each (suc i) (omega arith))) t)

-- the same of slots in an array, from the one at `from` on: of the first `count`, the last is left out or not
module _ (slots : List ℕ) (from count : ℕ) (low : from < count) (high : count ≤ length slots) where
  abbrev pub last_of : ℕ
  last_of = get_or slots (count - 1) 0

  abbrev pub before_last : List ℕ
  before_last = drop from (take (count - 1) slots)

  pub taken-all : drop from (take count slots) ≡ before_last ++ (last_of ∷ [])
  taken-all =
      let next : count ≡ suc (count - 1) = omega arith in
      ap (λ (x : ℕ). drop from (take x slots)) next
      ∙ ap (drop from) (take-suc slots (count - 1) 0 (omega arith))
      ∙ drop-append-le from (take (count - 1) slots) (last_of ∷ []) (omega (arith, length-take-le (count - 1) slots (omega arith)))

  pub stands-taken : (term : ℕ → Term) (is_out : Bool) → Each (λ t. term t ≡ stored t) before_last → term last_of ≡ cond is_out filler (stored last_of)
      → (let r : Addends = cond is_out (record { count = count - 1; filler = true }) (record { count = count; filler = false }) in
      Stands (map term (drop from (take count slots))) (drop from (take r.count slots)) r.filler)
  stands-taken term true each e =
      rw taken-all (subst (λ (left : List ℕ). Stands (map term (before_last ++ (last_of ∷ []))) left true) (append-nil before_last) (stands-last term before_last last_of true each e))
  stands-taken term false each e = rw taken-all (stands-last term before_last last_of false each e)

pub last-few : (is_out : Bool) (count : ℕ) → (let r : Addends = cond is_out (record { count = count - 1; filler = true }) (record { count = count; filler = false }) in
    (count - 1 ≤ r.count) × (r.count ≤ count))
last-few true count = (omega arith, omega arith)
last-few false count = (omega arith, omega arith)

-- the last slot in place of the first
pub swapped : (slots : List ℕ) (count : ℕ) → 1 ≤ count → count ≤ length slots → SumsAs (take (count - 1) (first_out slots count)) (drop 1 (take count slots))
unfolding sum
swapped [] count h l = absurd (omega arith)
swapped (x ∷ xs) zero h l = absurd (omega arith)
swapped (x ∷ xs) (suc zero) h l = record { number = refl; sums = λ page. refl }
swapped (x ∷ xs) (suc (suc c)) h l =
    let one : suc (suc c) - 1 ≡ suc c = omega arith in
    let last : ℕ = get_or xs c 0 in
    rw (one, take-suc xs c 0 (omega arith))
    (record {
      number = sym (length-append (take c xs) (last ∷ []) ∙ omega arith);
      sums = λ page. ⊕-comm (page last) (sum page (take c xs)) ∙ sym (sum_more page (take c xs) last);
    })

-- ---- the page that they add up to has all bytes
abbrev pub Long : Sizes → List Term → Type 0
Long Z terms = (chip : Chip) → length chip.store ≡ store_len Z → Z.p ≤ length (sum (term_page Z.p chip) terms)

pub adds-up : (Z : Sizes) (terms : List Term) (slots : List ℕ) (r : Addends) → r.count ≤ length slots → Stands terms (take r.count slots) r.filler → Long Z terms
    → AddsUp Z terms slots r
adds-up Z terms slots r h S long = record {
  number = S.number ∙ length-take-le r.count slots h;
  page = λ chip size. sym (⊕-zeros Z.p (sum (term_page Z.p chip) terms) (long chip size)) ∙ S.adds Z.p chip;
}

pub long-more : (Z : Sizes) (terms more : List Term) → Long Z terms → Long Z (terms ++ more)
long-more Z terms more long chip size =
    let page = term_page Z.p chip in
    omega (arith, long chip size, ap length (sum-append page terms more) ∙ length-⊕ (sum page terms) (sum page more))

pub long-filler : (Z : Sizes) → Long Z (filler ∷ [])
unfolding term_page
long-filler Z chip size = omega (arith, ap length (sum_one (term_page Z.p chip) filler) ∙ filler-length Z.p)

long-term : (Z : Sizes) (t : ℕ) → t < slot_count Z → Long Z (stored t ∷ [])
unfolding term_page page_at
long-term Z t h chip size =
    let fits : t * Z.p + Z.p ≤ length chip.store = rw size (slot-in-store Z t h) in
    omega (arith, ap length (sum_one (term_page Z.p chip) (stored t)) ∙ length_part Z.p t chip.store fits)

pub long-slots : (X : Plan) (marks ts : List ℕ) → 1 ≤ length ts → Each (λ t. t < slot_count X.move.sizes) ts → Long X.move.sizes (map (term_at X marks) ts)
long-slots X marks [] h each = absurd (omega arith)
long-slots X marks (t ∷ ts) h each =
    let Z = X.move.sizes in
    let rest : List Term = map (term_at X marks) ts in
    ⊎_elim
    (λ (e : term_at X marks t ≡ stored t). rw e (long-more Z (stored t ∷ []) rest (long-term Z t (each 0 (omega arith)))))
    (λ (e : term_at X marks t ≡ filler). rw e (long-more Z (filler ∷ []) rest (long-filler Z)))
    (term-cases X marks t)
