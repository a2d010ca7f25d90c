-- The areas of a rebuild are filled one original a turn.
use Rattle.flash.proofs.Kit.{◌≡◌, refl, sym, ap, ap₂, ◌∙◌, List, [], ◌∷◌, ◌++◌, append_assoc, append-nil, map, ℕ, zero, suc, ◌+◌, ◌*◌, ◌≤◌, ◌<◌, suc-mul, suc-add, add-suc, add-zero, add-one, zero-add, arith}
use Rattle.flash.proofs.Kit.{length, take, drop, set, length-append, length-take-le, take_at, take_all, take-suc-set}
use Rattle.flash.specs.Lists.{range, concat_map, set_part}

-- the first originals have their pages and their flags
pub record Made (P : ℕ) (page : ℕ → List ℕ) (flag : ℕ → ℕ) (area flags : List ℕ) (count : ℕ) : Type 0 where
  pub pages-are : take (count * P) area ≡ concat_map page (range 0 count)
  pub flags-are : take count flags ≡ map flag (range 0 count)

pages-more : (page : ℕ → List ℕ) (start count : ℕ) → concat_map page (range start (suc count)) ≡ concat_map page (range start count) ++ page (start + count)
unfolding concat_map range
pages-more page start zero = append-nil (page start) ∙ ap page (sym (add-zero start))
pages-more page start (suc count) =
    ap (λ (xs : List ℕ). page start ++ xs)
    (pages-more page (suc start) count ∙ ap (λ (x : ℕ). concat_map page (range (suc start) count) ++ page x) (suc-add start count ∙ sym (add-suc start count)))
    ∙ sym (append_assoc (page start) (concat_map page (range (suc start) count)) (page (start + suc count)))

flags-more : (flag : ℕ → ℕ) (start count : ℕ) → map flag (range start (suc count)) ≡ map flag (range start count) ++ (flag (start + count) ∷ [])
unfolding range
flags-more flag start zero = ap (λ (x : ℕ). flag x ∷ []) (sym (add-zero start))
flags-more flag start (suc count) =
    ap (λ (xs : List ℕ). flag start ∷ xs)
    (flags-more flag (suc start) count ∙ ap (λ (x : ℕ). map flag (range (suc start) count) ++ (flag x ∷ [])) (suc-add start count ∙ sym (add-suc start count)))

pub none_made : (P : ℕ) (page : ℕ → List ℕ) (flag : ℕ → ℕ) (area flags : List ℕ) → Made P page flag area flags 0
unfolding concat_map range
none_made P page flag area flags = (let z : 0 * P ≡ 0 = omega arith in record { pages-are = ap (λ (x : ℕ). take x area) z; flags-are = refl })

module _ (P : ℕ) (page : ℕ → List ℕ) (flag : ℕ → ℕ) (area flags : List ℕ) (count : ℕ) (made : Made P page flag area flags count) where
  module _ (new : List ℕ) (v : ℕ) (fits : count * P + P ≤ length area) (more : count < length flags) (whole : length new ≡ P) where
    front : take (count * P + P) (set_part P count area new) ≡ take (count * P) area ++ new
    unfolding set_part
    front =
        ap (take (count * P + P)) (sym (append_assoc (take (count * P) area) new (drop (count * P + P) area)))
        ∙ take_at (take (count * P) area ++ new) (drop (count * P + P) area) (count * P + P)
        (simp length-append (omega (arith, length-take-le (count * P) area (omega (arith, fits)), whole)))

    pub one-made : new ≡ page count → v ≡ flag count → Made P page flag (set_part P count area new) (set flags count v) (count + 1)
    one-made e f =
        let size : (count + 1) * P ≡ count * P + P = rw (add-one count, suc-mul) in
        record {
          pages-are =
              ap (λ (x : ℕ). take x (set_part P count area new)) size ∙ front ∙ ap₂ ◌++◌ made.pages-are e
              ∙ sym (ap (λ (x : ℕ). concat_map page (range 0 x)) (add-one count) ∙ pages-more page 0 count ∙ ap (λ (x : ℕ). concat_map page (range 0 count) ++ page x) (zero-add count));
          flags-are =
              ap (λ (x : ℕ). take x (set flags count v)) (add-one count) ∙ take-suc-set flags count v more
              ∙ ap₂ (λ (xs : List ℕ) (x : ℕ). xs ++ (x ∷ [])) made.flags-are f
              ∙ sym (ap (λ (x : ℕ). map flag (range 0 x)) (add-one count) ∙ flags-more flag 0 count ∙ ap (λ (x : ℕ). map flag (range 0 count) ++ (flag x ∷ [])) (zero-add count));
        }

  pub all_made : length area ≡ count * P → length flags ≡ count → (area ≡ concat_map page (range 0 count)) × (flags ≡ map flag (range 0 count))
  all_made e f =
      (sym (take_all (count * P) area (omega (arith, e))) ∙ made.pages-are, sym (take_all count flags (omega (arith, f))) ∙ made.flags-are)
