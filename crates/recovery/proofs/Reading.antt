-- What `reading` gives: the answer of any line that fits, or none where marks of that kind cannot be.
use Rattle.flash.proofs.Kit.{◌≡◌, refl, sym, ap, ◌∙◌, ⊎_elim, ◌≢◌, Bool, true, false, cond, ◌&&◌, List, [], ◌∷◌, map, List-as-Memᴰ, List·Memᴰ·head}
use Rattle.flash.proofs.Kit.{List·Memᴰ·tail, List·Memᴰ·not-nil, List·Memᴰ·cases-cons, Memᴰ·append-left, Memᴰ·append-right, Option, none, some, ℕ}
use Rattle.flash.proofs.Kit.{zero, suc, ◌+◌, ◌-◌, ◌*◌, ◌%◌, add-zero, ◌≤◌, ◌<◌, arith, eqb, eqb-true, eqb-false}
use Rattle.flash.specs.Geometry.{letter}
use Rattle.flash.specs.Lists.{range}
use Rattle.flash.specs.Tables.{Row, first_fit}
use Rattle.flash.specs.declared.sizes.Sizes.{Sizes}
use Rattle.flash.specs.Chip.{is_full, is_unfinished}
use Rattle.flash.proofs.Bools.{bool_cases, never_both}
use Rattle.flash.proofs.Ranges.{all-is}
use Rattle.flash.proofs.Blocks.{full-same}
use Rattle.flash.proofs.Comparisons.{lt-cases}
use Rattle.method.specs.Mend.{Reading, full_from, forward_torn, backward_torn, forward_full, backward_full, lines, reading}
use Rattle.method.specs.inner.Shape.{Shape}
use Rattle.method.proofs.recovery.MarksSeen.{reading-is}
use Rattle.method.proofs.recovery.FittingMarks.{first-fit, torn-shape, filled-shape}
use Rattle.method.proofs.recovery.LinesAgree.{full, Torn, Filled, Fit, torn-forth, torn-back, full-forth, full_back, finished, fit, agree}
use Rattle.recovery.specs.MarksRead.{place_in_turn}

-- where a row fits, one is found
none-fits : (rows : List (Row Reading)) (row : Row Reading) → List-as-Memᴰ row rows → row.fits ≡ true → first_fit rows ≡ none → ⊥
unfolding first_fit
none-fits [] row member e f = List·Memᴰ·not-nil member
none-fits (top ∷ rows) row member e f =
    ⊎_elim
    (λ (g : top.fits ≡ true). (let q : some top.gives ≡ none = rw g at f in let z : ◌≡◌ {A = ℕ} 0 1 = cc in omega arith))
    (λ (g : top.fits ≡ false).
    ⊎_elim
    (λ (q : row ≡ top). never_both e (ap (λ (r : Row Reading). r.fits) q ∙ g))
    (λ (t : List-as-Memᴰ row rows). none-fits rows row t e (rw g at f))
    (List·Memᴰ·cases-cons member))
    (bool_cases top.fits)

-- a map over a range has in it what comes from each number of the range
mem-map : {A : Type 0} (f : ℕ → A) (start count x : ℕ) → start ≤ x → x < start + count → List-as-Memᴰ (f x) (map f (range start count))
unfolding range
mem-map f start zero x h k = absurd (omega arith)
mem-map f start (suc count) x h k =
    ⊎_elim
    (λ (e : eqb x start ≡ true). List·Memᴰ·head (ap f (eqb-true x start e)))
    (λ (e : eqb x start ≡ false).
    let ne : x ≡ start → ⊥ = eqb-false x start e in
    List·Memᴰ·tail (mem-map f (suc start) count x (omega arith) (omega arith)))
    (bool_cases (eqb x start))

-- a block is full of a letter other than s + 1
abbrev pub FullOfOther : Sizes → (marks : List ℕ) → (block letter : ℕ) → Type 0
FullOfOther Z marks block x = (is_full Z.m marks block x ≡ true) × (x < 3) × (x ≢ letter Z 1)

module _ (Z : Sizes) (pages : 0 < Z.m) (marks : List ℕ) where
  open Z use {n, m}

  -- ---- a line that fits
  hit : (row : Row Reading) → List-as-Memᴰ row (lines Z marks) → row.fits ≡ true → reading Z marks ≡ some row.gives
  hit row member e = reading-is marks Z ∙ told (first_fit (lines Z marks)) refl
    where
      told : (found : Option Reading) → first_fit (lines Z marks) ≡ found → found ≡ some row.gives
      told none f = absurd (none-fits (lines Z marks) row member e f)
      told (some found) f =
          let r = first-fit (lines Z marks) found f in
          ap some (sym r.3 ∙ agree Z pages marks r.0 row (fit Z pages marks r.0 r.1 r.2) (fit Z pages marks row member e))

  all-full : (i start count : ℕ) → ((j : ℕ) → start ≤ j → j < start + count → full Z pages marks i j ≡ true) → full_from Z marks i start count ≡ true
  unfolding full_from
  all-full i start count f = all-is (full Z pages marks i) start count f

  torn-test : (i b : ℕ) → Torn Z pages marks i b → (is_unfinished m marks b && full_from Z marks 1 0 b && full_from Z marks i (b + 1) (n - b)) ≡ true
  torn-test i b T = rw (
    T.open_block,
    all-full 1 0 b (λ j h k. T.under j (omega arith)),
    all-full i (b + 1) (n - b) (λ j h k. T.over j (omega arith) (omega arith)),
  )

  full-test : (i b : ℕ) → Filled Z pages marks i b → (full_from Z marks 1 0 b && full_from Z marks i b (n + 1 - b)) ≡ true
  full-test i b F = rw (all-full 1 0 b (λ j h k. F.under j (omega arith)), all-full i b (n + 1 - b) (λ j h k. F.over j h (omega arith)))

  -- the lines in their groups, but for the last
  abbrev line1 : List (Row Reading)
  line1 = map (forward_torn Z marks) (range 0 (n + 1))

  abbrev line2 : List (Row Reading)
  line2 = map (backward_torn Z marks) (range 0 (n + 1))

  abbrev line3 : List (Row Reading)
  line3 = map (forward_full Z marks) (range 1 n)

  module _ (b : ℕ) where
    pub reads-torn : (is_backward : Bool) → Torn Z pages marks (cond is_backward 2 0) b
        → reading Z marks ≡ some (record { place = place_in_turn Z is_backward b 0; to_erase = some b })
    unfolding lines forward_torn backward_torn place_in_turn
    reads-torn false T =
        rw (add-zero (b * (m + 1)))
        (hit (forward_torn Z marks b)
        (Memᴰ·append-left _ (mem-map (forward_torn Z marks) 0 (n + 1) b (omega arith) (omega (arith, T.low)))) (torn-test 0 b T))
    reads-torn true T =
        rw (add-zero ((2 * n - b) * (m + 1)))
        (hit (backward_torn Z marks b)
        (Memᴰ·append-right line1 (Memᴰ·append-left _ (mem-map (backward_torn Z marks) 0 (n + 1) b (omega arith) (omega (arith, T.low))))) (torn-test 2 b T))

    pub reads-full : (is_backward : Bool) → Filled Z pages marks (cond is_backward 2 0) b
        → reading Z marks ≡ some (record { place = place_in_turn Z is_backward (cond is_backward b (b - 1)) m; to_erase = none })
    unfolding lines forward_full backward_full place_in_turn
    reads-full false F =
        hit (forward_full Z marks b)
        (Memᴰ·append-right line1 (Memᴰ·append-right line2 (Memᴰ·append-left _ (mem-map (forward_full Z marks) 1 n b F.low (omega (arith, F.high))))))
        (full-test 0 b F)
    reads-full true F =
        hit (backward_full Z marks b)
        (Memᴰ·append-right line1 (Memᴰ·append-right line2 (Memᴰ·append-right line3 (mem-map (backward_full Z marks) 1 n b F.low (omega (arith, F.high))))))
        (full-test 2 b F)

  -- ---- no line fits
  -- What the four lines have in common: the shape, with another letter above than below, and a block below if none is unfinished.
  pub record Fitting (i low high : ℕ) : Type 0 where
    pub shape : Shape Z marks low high i
    pub other : letter Z i ≢ letter Z 1
    pub begun : low ≡ high → 1 ≤ low

  pub reads_none : ((i low high : ℕ) → Fitting i low high → ⊥) → reading Z marks ≡ none
  unfolding letter
  reads_none refute = reading-is marks Z ∙ told (first_fit (lines Z marks)) refl
    where
      torn : (i b : ℕ) → letter Z i ≢ letter Z 1 → Torn Z pages marks i b → ⊥
      torn i b ne T = refute i b (suc b) (record { shape = torn-shape Z pages marks i b T; other = ne; begun = λ e. absurd (omega arith) })

      filled : (i b : ℕ) → letter Z i ≢ letter Z 1 → Filled Z pages marks i b → ⊥
      filled i b ne F = refute i b b (record { shape = filled-shape Z pages marks i b F; other = ne; begun = λ e. F.low })

      refuted : (row : Row Reading) → Fit Z pages marks row → ⊥
      refuted row (torn-forth b T e) = torn 0 b (omega arith) T
      refuted row (torn-back b T e) = torn 2 b (omega arith) T
      refuted row (full-forth b F e) = filled 0 b (omega arith) F
      refuted row (full_back b F e) = filled 2 b (omega arith) F

      told : (found : Option Reading) → first_fit (lines Z marks) ≡ found → found ≡ none
      told none f = refl
      told (some found) f = let r = first-fit (lines Z marks) found f in absurd (refuted r.0 (fit Z pages marks r.0 r.1 r.2))

  -- where a block lies is told by what it holds
  module _ (i low high : ℕ) (F : Fitting i low high) (j : ℕ) (h : j ≤ n) where
    pub torn-between : is_unfinished m marks j ≡ true → (low ≤ j) × (j < high)
    torn-between u =
        let not-below : j < low → ⊥ = λ k. finished Z pages marks 1 j (F.shape.below j k) u in
        let not-above : high ≤ j → ⊥ = λ k. finished Z pages marks i j (F.shape.above j k h) u in
        omega arith

    pub under-below : full Z pages marks 1 j ≡ true → j < low
    under-below e = ⊎_elim
        (λ (k : j < high). (let not-between : low ≤ j → ⊥ = λ l. never_both e (F.shape.between j l k 1) in omega arith))
        (λ (k : high ≤ j). absurd (F.other (full-same m marks j (letter Z i) (letter Z 1) pages (F.shape.above j k h) e)))
        (lt-cases j high)

    pub other-above : (x : ℕ) → FullOfOther Z marks j x → (high ≤ j) × (letter Z i ≡ x)
    unfolding letter
    other-above x (e, l, ne) =
        let not-below : j < low → ⊥ = λ k. ne (full-same m marks j x (letter Z 1) pages e (F.shape.below j k)) in
        let at : high ≤ j = ⊎_elim
        (λ (k : j < high).
        let known : (Z.s + (x + 2 * Z.s)) % 3 ≡ x = omega arith in
        absurd (never_both e (rw known at (F.shape.between j (omega arith) k (x + 2 * Z.s)))))
        (λ (k : high ≤ j). k)
        (lt-cases j high) in
        (at, full-same m marks j (letter Z i) x pages (F.shape.above j at h) e)
