-- Numbers that are taken from the front of a text, one after the other.
use Rattle.flash.proofs.Kit.{◌≡◌, refl, sym, ◌∙◌, Bool, true, false, List, [], ◌∷◌, ◌++◌, append_assoc, append-nil, Option, none, some}
use Rattle.flash.proofs.Kit.{ℕ, zero, suc, ◌+◌, ◌-◌, ◌≤◌, ◌<◌, add-one, arith, eqb, length, take, drop, set, take-append-drop, take-suc-set}
use Rattle.flash.proofs.Kit.{length-take-le, ne_eqb}
use Rattle.listing.specs.declared.number.Word.{Word}
use Rattle.listing.specs.declared.number.Word.TheVariants.{Number, Malformed, End}
use Rattle.listing.specs.Numbers.{numbers_in, Next, number, malformed, end, next, taken, numbers_met}
use Rattle.listing.specs.Area.{over}
use Rattle.listing.specs.ReaderAnswers.{told_as}

-- the code found a number
pub went_on : (text : List ℕ) (value at : ℕ) (words : List (Option ℕ)) → number value (numbers_in (drop at text)) ≡ next words → words ≡ some value ∷ numbers_in (drop at text)
unfolding next
went_on text value at [] e = absurd (let z : ◌≡◌ {A = ℕ} 0 1 = cc in omega arith)
went_on text value at (none ∷ words) e = absurd (let z : ◌≡◌ {A = ℕ} 0 1 = cc in omega arith)
went_on text value at (some x ∷ words) e = cc

-- the code found none
pub stopped : (text : List ℕ) (r : Word) (words : List (Option ℕ)) (values : List ℕ) (count : ℕ) → ((value at : ℕ) → r ≡ Number value at → ⊥) → told_as text r ≡ next words
    → (taken values (suc count) words ≡ none) × (numbers_met (suc count) words ≡ [])
unfolding taken numbers_met next
stopped text r [] values count t e = (refl, refl)
stopped text r (none ∷ words) values count t e = (refl, refl)
stopped text (Number value at) (some x ∷ words) values count t e = absurd (t value at refl)
stopped text Malformed (some x ∷ words) values count t e = absurd (let z : ◌≡◌ {A = ℕ} 0 1 = cc in omega arith)
stopped text End (some x ∷ words) values count t e = absurd (let z : ◌≡◌ {A = ℕ} 0 1 = cc in omega arith)

-- one number more is taken, and met
pub taken_more : (values : List ℕ) (count value : ℕ) (words rest : List (Option ℕ)) → 1 ≤ count → words ≡ some value ∷ rest
    → (taken values count words ≡ taken (values ++ (value ∷ [])) (count - 1) rest) × (numbers_met count words ≡ value ∷ numbers_met (count - 1) rest)
unfolding taken numbers_met
taken_more values zero value words rest h e = absurd (omega arith)
taken_more values (suc count) value words rest h e =
    let k : suc count - 1 ≡ count = omega arith in
    (rw (e, k), rw (e, k))

-- ---- the numbers met, as the code puts them down
pub met-short : (count : ℕ) (words : List (Option ℕ)) → length (numbers_met count words) ≤ count
unfolding numbers_met
met-short zero words = omega arith
met-short (suc count) [] = omega arith
met-short (suc count) (none ∷ words) = omega arith
met-short (suc count) (some value ∷ words) = let h = met-short count words in omega arith

-- one number more is put down
pub met-more : (met area : List ℕ) (i left value : ℕ) (words rest : List (Option ℕ)) → i < length area → 1 ≤ left → met ≡ take i area ++ numbers_met left words → words ≡ some value ∷ rest → met ≡ take (i + 1) (set area i value) ++ numbers_met (left - 1) rest
met-more met area i left value words rest l h e w = e ∙ rw (add-one i, take-suc-set area i value l, append_assoc, (taken_more [] left value words rest h w).1)

pub met_all : (met area old : List ℕ) (i : ℕ) → i ≤ length area → met ≡ take i area ++ [] → drop i area ≡ drop i old → area ≡ over met old
met_all met area old i l e d =
    let front = e ∙ append-nil (take i area) in
    rw (front, length-take-le i area l, ← d) (sym (take-append-drop i area))

-- whether nothing is left is told by what is found next
abbrev pub is_end : Next → Bool
is_end (number value rest) = false
is_end malformed = false
is_end end = true

pub none_left : (words : List (Option ℕ)) → eqb (length words) 0 ≡ is_end (next words)
unfolding next
none_left [] = refl
none_left (none ∷ words) = ne_eqb (suc (length words)) 0 (λ e. omega arith)
none_left (some value ∷ words) = ne_eqb (suc (length words)) 0 (λ e. omega arith)
