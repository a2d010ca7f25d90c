-- What mend reads at a moment: the place by which it goes, so marks are moments of one place only.
use Rattle.flash.proofs.Kit.{◌≡◌, refl, sym, ap, ◌∙◌, subst, ◌≢◌, ⊎_elim, true, false, ◌&&◌, Option, none, some, List, [], ◌∷◌, map, List-as-Memᴰ}
use Rattle.flash.proofs.Kit.{List·Memᴰ·head, List·Memᴰ·tail, List·Memᴰ·not-nil, List·Memᴰ·cases-cons, Memᴰ·append-left, Memᴰ·append-right, ℕ, zero}
use Rattle.flash.proofs.Kit.{suc, ◌+◌, ◌-◌, ◌*◌, ◌≤◌, ◌<◌, arith}
use Rattle.flash.specs.Geometry.{Bounds, letter}
use Rattle.flash.specs.Lists.{range}
use Rattle.flash.specs.Tables.{Row, first_fit}
use Rattle.flash.specs.declared.sizes.Sizes.{Sizes}
use Rattle.flash.specs.Chip.{is_full, is_unfinished}
use Rattle.flash.proofs.Bools.{bool_cases, never_both}
use Rattle.flash.proofs.Comparisons.{eq-cases}
use Rattle.flash.proofs.Ranges.{all-is}
use Rattle.flash.proofs.Blocks.{unfinished-of}
use Rattle.flash.proofs.Bounds.{range-in}
use Rattle.method.specs.Place.{Pass, forward, backward, last_place, pass_at, filling, filled}
use Rattle.method.specs.Mend.{Reading, full_from, forward_torn, backward_torn, forward_full, backward_full, lines, reading}
use Rattle.method.specs.Answers.{marks_answer, fits_none}
use Rattle.method.specs.Claims.{LinesAgree}
use Rattle.method.specs.inner.Shape.{Shape}
use Rattle.method.proofs.recovery.MarksSeen.{reading-is}
use Rattle.method.proofs.recovery.LinesAgree.{lines-agree}
use Rattle.method.proofs.places.StepsAtPlaces.{turn_of, located, filled-early, backward-low}
use Rattle.method.proofs.places.PagesHeld.{edge, MarksAt}
use Rattle.method.proofs.places.PlaceShape.{letter_above, shape-around, shape-full}
use Rattle.method.proofs.recovery.Moments.{Moment, Block, unfinished, whole, moment-marks}

-- the first row that fits is as good as any, where all that fit give the same
first_fit-any : {A : Type 0} (rows : List (Row A)) (row : Row A) → List-as-Memᴰ row rows → row.fits ≡ true
    → ((other : Row A) → List-as-Memᴰ other rows → other.fits ≡ true → other.gives ≡ row.gives) → first_fit rows ≡ some row.gives
unfolding first_fit
first_fit-any [] row m e agree = absurd (List·Memᴰ·not-nil m)
first_fit-any {A} (top ∷ rows) row m e agree =
    ⊎_elim
    (λ (f : top.fits ≡ true). rw f (ap some (agree top (List·Memᴰ·head refl) f)))
    (λ (f : top.fits ≡ false).
    ⊎_elim
    (λ (q : row ≡ top). absurd (never_both e (ap (λ (r : Row A). r.fits) q ∙ f)))
    (λ (t : List-as-Memᴰ row rows). rw f (first_fit-any rows row t e (λ other s. agree other (List·Memᴰ·tail s))))
    (List·Memᴰ·cases-cons m))
    (bool_cases top.fits)

in_map : {A : Type 0} (f : ℕ → A) (start count x : ℕ) → start ≤ x → x < start + count → List-as-Memᴰ (f x) (map f (range start count))
unfolding range
in_map f start zero x h k = absurd (omega arith)
in_map f start (suc count) x h k = ⊎_elim
    (λ (e : x ≡ start). List·Memᴰ·head (ap f e))
    (λ (ne : x ≢ start). List·Memᴰ·tail (in_map f (suc start) count x (omega arith) (omega arith)))
    (eq-cases x start)

module _ (Z : Sizes) (marks : List ℕ) where
  open Z use {n, m}

  full_from_lem : (i start count : ℕ) → ((b : ℕ) → start ≤ b → b < start + count → is_full m marks b (letter Z i) ≡ true) → full_from Z marks i start count ≡ true
  unfolding full_from
  full_from_lem i start count f = all-is (λ b. is_full m marks b (letter Z i)) start count f

  torn-test : (i b : ℕ) → Shape Z marks b (suc b) i → (is_unfinished m marks b && full_from Z marks 1 0 b && full_from Z marks i (b + 1) (n - b)) ≡ true
  unfolding letter
  torn-test i b S =
      let between : (x : ℕ) → x < 3 → is_full m marks b x ≡ false =
      λ x h. subst (λ (y : ℕ). is_full m marks b y ≡ false) (omega arith) (S.between b (omega arith) (omega arith) (x + 2 * Z.s)) in
      rw (
        unfinished-of m marks b between,
        full_from_lem 1 0 b (λ c h k. S.below c (omega arith)),
        full_from_lem i (b + 1) (n - b) (λ c h k. S.above c (omega arith) (omega arith)),
      )

  full-test : (i at : ℕ) → Shape Z marks at at i → (full_from Z marks 1 0 at && full_from Z marks i at (n + 1 - at)) ≡ true
  full-test i at S = rw (full_from_lem 1 0 at (λ c h k. S.below c (omega arith)), full_from_lem i at (n + 1 - at) (λ c h k. S.above c h (omega arith)))

  module _ (B : Bounds Z) where
    -- a line that fits is what mend reads
    reads : (row : Row Reading) → List-as-Memᴰ row (lines Z marks) → row.fits ≡ true → reading Z marks ≡ some row.gives
    unfolding LinesAgree
    reads row inside fits =
        reading-is marks Z
        ∙ first_fit-any (lines Z marks) row inside fits (λ other o f. lines-agree Z (range-in Z B) marks other row o inside f fits)

    -- a block that a pass is filling, and one that it has filled
    reads-torn : (pass : Pass) (b : ℕ) → Shape Z marks b (suc b) (letter_above pass) → reading Z marks ≡ some (record { place = turn_of Z pass b * (m + 1); to_erase = some b })
    unfolding lines forward_torn backward_torn
    reads-torn forward b S =
        reads (forward_torn Z marks b) (Memᴰ·append-left _ (in_map (forward_torn Z marks) 0 (n + 1) b (omega arith) (omega (arith, S.inside)))) (torn-test 0 b S)
    reads-torn backward b S =
        reads (backward_torn Z marks b) (Memᴰ·append-right (map (forward_torn Z marks) (range 0 (n + 1)))
        (Memᴰ·append-left _ (in_map (backward_torn Z marks) 0 (n + 1) b (omega arith) (omega (arith, S.inside))))) (torn-test 2 b S)

    reads-full : (pass : Pass) (b : ℕ) → 1 ≤ edge pass b → Shape Z marks (edge pass b) (edge pass b) (letter_above pass)
        → reading Z marks ≡ some (record { place = turn_of Z pass b * (m + 1) + m; to_erase = none })
    unfolding lines forward_full backward_full
    reads-full forward b h S =
        reads (forward_full Z marks (suc b)) (Memᴰ·append-right (map (forward_torn Z marks) (range 0 (n + 1))) (Memᴰ·append-right (map (backward_torn Z marks) (range 0 (n + 1)))
        (Memᴰ·append-left _ (in_map (forward_full Z marks) 1 n (suc b) (omega arith) (omega (arith, S.inside)))))) (full-test 0 (suc b) S)
        ∙ ap (λ (t : ℕ). some (record { place = t * (m + 1) + m; to_erase = none })) (omega arith)
    reads-full backward b h S =
        reads (backward_full Z marks b) (Memᴰ·append-right (map (forward_torn Z marks) (range 0 (n + 1))) (Memᴰ·append-right (map (backward_torn Z marks) (range 0 (n + 1)))
        (Memᴰ·append-right (map (forward_full Z marks) (range 1 n)) (in_map (backward_full Z marks) 1 n b h (omega (arith, S.inside)))))) (full-test 2 b S)

-- what mend finds: a block to erase, or none
pub data Finds (Z : Sizes) (marks : List ℕ) (place : ℕ) : Type 0 where
  torn : filled Z place ≡ 0 → Shape Z marks (filling Z place) (suc (filling Z place)) (letter_above (pass_at Z place))
      → reading Z marks ≡ some (record { place = place; to_erase = some (filling Z place) }) → Finds Z marks place
  full : filled Z place ≡ Z.m → MarksAt Z place marks → reading Z marks ≡ some (record { place = place; to_erase = none }) → Finds Z marks place

place_read : Option Reading → ℕ
place_read none = 0
place_read (some found) = found.place

module _ (Z : Sizes) (B : Bounds Z) where
  open Z use {m}

  -- in the backward pass block 0 is never written
  edge-low : (place : ℕ) → place < last_place Z → (pass : Pass) → pass_at Z place ≡ pass → 1 ≤ edge pass (filling Z place)
  edge-low place h forward e = omega arith
  edge-low place h backward e = backward-low Z place h e

  module _ (marks : List ℕ) where
    pub finds : (place : ℕ) → Moment Z marks place → Finds Z marks place
    finds place M = go M.own
      where
        pass : Pass
        pass = pass_at Z place

        b : ℕ
        b = filling Z place

        number : place ≡ turn_of Z pass b * (m + 1) + filled Z place
        number = (located Z place M.in-move).number

        go : Block Z marks place → Finds Z marks place
        go (unfinished z q k hole) =
            let S = shape-around Z place M.in-move marks M.others q k hole in
            let at : turn_of Z pass b * (m + 1) ≡ place = omega (arith, number) in
            torn z S (reads-torn Z marks B pass b S ∙ ap (λ (p : ℕ). some (record { place = p; to_erase = some b })) at)
        go (whole k f) =
            let A = moment-marks Z marks place M f in
            let S = shape-full Z place M.in-move marks A k in
            let low = edge-low place (filled-early Z place M.in-move (omega (arith, B.m-low))) pass refl in
            let at : turn_of Z pass b * (m + 1) + m ≡ place = omega (arith, number) in
            full k A (reads-full Z marks B pass b low S ∙ ap (λ (p : ℕ). some (record { place = p; to_erase = none })) at)

    finds-place : (place : ℕ) → Finds Z marks place → place_read (reading Z marks) ≡ place
    unfolding place_read
    finds-place place (torn z S e) = ap place_read e
    finds-place place (full k A e) = ap place_read e

    -- so neither mend nor read is refused for the marks
    pub moment-fits : (place : ℕ) → Moment Z marks place → fits_none (reading Z marks) ≡ false
    unfolding fits_none marks_answer
    moment-fits place M = go (finds place M)
      where
        go : Finds Z marks place → fits_none (reading Z marks) ≡ false
        go (torn z S e) = ap fits_none e
        go (full k A e) = ap fits_none e

    pub moment-unique : (one other : ℕ) → Moment Z marks one → Moment Z marks other → one ≡ other
    moment-unique one other M N = sym (finds-place one (finds one M)) ∙ finds-place other (finds other N)
