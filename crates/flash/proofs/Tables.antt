-- In a table whose numbers stand in the order in which they are looked for, the first row that fits has the first number that applies.
use Rattle.flash.proofs.Kit.{Bool, true, false, ◌&&◌, true≢false, ◌≡◌, refl, sym, ap, ◌∙◌, subst, ⊎_elim, List, [], ◌∷◌, List-as-Memᴰ}
use Rattle.flash.proofs.Kit.{List·Memᴰ·head, List·Memᴰ·tail, List·Memᴰ·not-nil, List·Memᴰ·cases-cons, ℕ, suc, ◌≤◌, ◌<◌, arith, ltb, leb, ltb-true, leb-true}
use Rattle.flash.proofs.Bools.{bool_cases, both, fails}
use Rattle.flash.specs.Tables.{Row, first_fit, number_or0, refusal, before, First}

-- the numbers are none 0, and each stands in the order behind the one before it, the first behind as many as `from`
abbrev pub ordered : (order : List ℕ) → (from : ℕ) → List (Row ℕ) → Bool
ordered order from [] = true
ordered order from (row ∷ rows) = ltb 0 row.gives && (leb from (before row.gives order) && ordered order (suc (before row.gives order)) rows)

-- each number of such a table has as many before it
behind : (order : List ℕ) (rows : List (Row ℕ)) (from : ℕ) → ordered order from rows ≡ true → (row : Row ℕ) → List-as-Memᴰ row rows → from ≤ before row.gives order
behind order [] from r row m = absurd (List·Memᴰ·not-nil m)
behind order (top ∷ rows) from r row m =
    let h = both (leb from (before top.gives order)) (ordered order (suc (before top.gives order)) rows) (both (ltb 0 top.gives) _ r).1 in
    let low = leb-true from (before top.gives order) h.0 in
    ⊎_elim
    (λ (e : row ≡ top). subst (λ (x : Row ℕ). from ≤ before x.gives order) (sym e) low)
    (λ (t : List-as-Memᴰ row rows). let up = behind order rows (suc (before top.gives order)) h.1 row t in omega arith)
    (List·Memᴰ·cases-cons m)

pub refusal-hit : (row : Row ℕ) (rows : List (Row ℕ)) → row.fits ≡ true → refusal (row ∷ rows) ≡ row.gives
unfolding refusal first_fit number_or0
refusal-hit row rows e = rw e

pub refusal-miss : (row : Row ℕ) (rows : List (Row ℕ)) → row.fits ≡ false → refusal (row ∷ rows) ≡ refusal rows
unfolding refusal first_fit
refusal-miss row rows e = rw e

pub first-returned : (order : List ℕ) (rows : List (Row ℕ)) (from : ℕ) → ordered order from rows ≡ true → First order rows (refusal rows)
unfolding refusal first_fit number_or0
first-returned order [] from r = record { applies = λ h. absurd (omega arith); first = λ row m e. absurd (List·Memᴰ·not-nil m) }
first-returned order (top ∷ rows) from r = ⊎_elim hit (miss (first-returned order rows (suc (before top.gives order)) rest)) (bool_cases top.fits)
  where
    some : 0 < top.gives
    some = ltb-true 0 top.gives (both (ltb 0 top.gives) _ r).0

    rest : ordered order (suc (before top.gives order)) rows ≡ true
    rest = (both (leb from (before top.gives order)) _ (both (ltb 0 top.gives) _ r).1).1

    hit : top.fits ≡ true → First order (top ∷ rows) (refusal (top ∷ rows))
    hit e = subst (First order (top ∷ rows)) (sym (refusal-hit top rows e)) (record {
      applies = λ h. (top, List·Memᴰ·head refl, e, refl);
      first = λ row m f. ⊎_elim
          (λ (q : row ≡ top). (omega (arith, some), subst (λ (x : Row ℕ). before top.gives order ≤ before x.gives order) (sym q) (omega arith)))
          (λ (t : List-as-Memᴰ row rows). (omega (arith, some), omega (arith, behind order rows (suc (before top.gives order)) rest row t)))
          (List·Memᴰ·cases-cons m);
    })

    miss : First order rows (refusal rows) → top.fits ≡ false → First order (top ∷ rows) (refusal (top ∷ rows))
    miss L e = subst (First order (top ∷ rows)) (sym (refusal-miss top rows e)) (record {
      applies = λ h. (let a = L.applies h in (a.0, List·Memᴰ·tail a.1, a.2, a.3));
      first = λ row m f. ⊎_elim
          (λ (q : row ≡ top). absurd (true≢false (sym f ∙ ap (λ (x : Row ℕ). x.fits) q ∙ e)))
          (λ (t : List-as-Memᴰ row rows). L.first row t f)
          (List·Memᴰ·cases-cons m);
    })

-- ---- a table of which no row fits
-- the first row does not fit, and the rest gives 0
pub refusal-zero : (top : Row ℕ) (rows : List (Row ℕ)) → 1 ≤ top.gives → refusal (top ∷ rows) ≡ 0 → (top.fits ≡ false) × (refusal rows ≡ 0)
refusal-zero top rows low e =
    let miss : top.fits ≡ false = fails (λ f. let g = refusal-hit top rows f in omega arith) in
    (miss, sym (refusal-miss top rows miss) ∙ e)

pub refusal-nil : refusal [] ≡ 0
unfolding refusal first_fit number_or0
refusal-nil = refl

pub refusal-skip : (top : Row ℕ) (rows : List (Row ℕ)) → top.fits ≡ false → refusal rows ≡ 0 → refusal (top ∷ rows) ≡ 0
refusal-skip top rows miss e = refusal-miss top rows miss ∙ e
