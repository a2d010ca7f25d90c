-- What the search of the marks tells when it ends.
use Rattle.flash.proofs.Kit.{◌≡◌, refl, sym, ap, ◌∙◌, ◌⊎◌, inl, inr, ⊎_elim, ◌≢◌, Bool, true, false, cond, ◌||◌, List, Option, none, some, ℕ, ◌+◌}
use Rattle.flash.proofs.Kit.{◌≤◌, ◌<◌, add-one, arith, eqb, ltb, eqb-true, eqb-false, ne_eqb, ltb-true, ltb-false}
use Rattle.flash.specs.Geometry.{letter}
use Rattle.flash.specs.declared.sizes.Sizes.{Sizes}
use Rattle.flash.proofs.Bools.{bool_cases, or_cases, or-false-left, or-false-right}
use Rattle.method.specs.Mend.{Reading, reading}
use Rattle.method.specs.Answers.{MarksAnswer, marks_answer}
use Rattle.method.proofs.recovery.LinesAgree as lines
use Rattle.method.proofs.recovery.LinesAgree.{Filled}
use Rattle.method.proofs.recovery.FittingMarks.{torn-shape, filled-shape}
use Rattle.recovery.specs.declared.marks.MarksRead.{MarksRead}
use Rattle.recovery.specs.declared.marks.MarksRead.TheVariants.{NoMoment, Full, Torn}
use Rattle.recovery.specs.MarksRead.{answer_of, reading_of}
use Rattle.recovery.specs.inner.Gathered.{moment_of, Shown}
use Rattle.recovery.proofs.Reading.{reads-torn, reads-full, reads_none, torn-between, under-below, other-above}
use Rattle.recovery.proofs.Search.{Upto, change-in}

module _ (Z : Sizes) where
  -- the number goes by what is told, in both lists of cases
  listed : (told : MarksRead) → answer_of Z told ≡ marks_answer (reading_of Z told)
  unfolding answer_of marks_answer
  listed NoMoment = refl
  listed (Full is_backward change) = refl
  listed (Torn is_backward block) = refl

  told-by : (reading : Option Reading) → (marks_answer reading).told ≡ reading
  unfolding marks_answer
  told-by none = refl
  told-by (some found) = refl

  pub what-is-told : (told : MarksRead) (reading : Option Reading) → answer_of Z told ≡ marks_answer reading → reading_of Z told ≡ reading
  what-is-told told reading e = ap (λ (a : MarksAnswer). a.told) e ∙ told-by reading

module _ (Z : Sizes) (pages : 0 < Z.m) (marks : List ℕ) where
  open Z use {n, m}

  -- what the search promises of its answer
  abbrev pub Tells : MarksRead → Type 0
  Tells told = (answer_of Z told ≡ marks_answer (reading Z marks)) × Shown Z marks told

  reads_as : (told : MarksRead) → reading_of Z told ≡ reading Z marks → answer_of Z told ≡ marks_answer (reading Z marks)
  reads_as told e = listed Z told ∙ ap marks_answer e

  pub tells_none : reading Z marks ≡ none → Tells NoMoment
  unfolding answer_of
  tells_none e = (reads_as NoMoment (sym e), tt)

  -- the search was left at the second unfinished block
  pub tells-second : (is_backward : Bool) (torn change : ℕ) → reading Z marks ≡ none → Tells (moment_of n is_backward 2 torn change)
  unfolding moment_of
  tells-second is_backward torn change e = tells_none e

  -- ---- the end of the search
  module _ (count torn upper change : ℕ) (U : Upto Z marks (n + 1) count torn upper change) where
    -- the letter above the change tells the pass
    abbrev is_backward : Bool
    is_backward = eqb upper (letter Z 2)

    upper-tells : change ≤ n → upper ≡ letter Z (cond is_backward 2 0)
    unfolding letter
    upper-tells h =
        let other = U.upper_is h in
        ⊎_elim
        (λ (e : is_backward ≡ true). rw e (eqb-true _ _ e))
        (λ (e : is_backward ≡ false). rw e (let ne : upper ≢ letter Z 2 = eqb-false _ _ e in omega arith))
        (bool_cases is_backward)

    torn-lies : count ≡ 1 → torn + 1 ≡ change → lines.Torn Z pages marks (cond is_backward 2 0) torn
    torn-lies e at =
        let t = U.torn-is e in
        record {
          low = omega arith;
          open_block = t.1;
          under = λ j l. U.below j (omega arith) (omega arith) (λ q. omega arith);
          over = λ j l h. rw (← upper-tells (omega arith)) (U.above j (omega arith) (omega arith) (λ q. omega arith));
        }

    filled-lies : count ≡ 0 → 1 ≤ change → change ≤ n → Filled Z pages marks (cond is_backward 2 0) change
    filled-lies e l h = record {
      low = l;
      high = h;
      under = λ j k. U.below j (omega arith) k (λ q. absurd (omega arith));
      over = λ j k r. rw (← upper-tells h) (U.above j (omega arith) k (λ q. absurd (omega arith)));
    }

    -- the unfinished block does not lie where the letter changes
    torn-astray : count ≡ 1 → torn + 1 ≢ change → reading Z marks ≡ none
    torn-astray e ne =
        let t = U.torn-is e in
        reads_none Z pages marks (λ i low high F.
        let one = torn-between Z pages marks i low high F torn (omega arith) t.1 in
        let early : change ≤ torn → ⊥ = λ k.
        omega (arith, F.shape.near, other-above Z pages marks i low high F change (omega arith) upper (U.upper_is (omega arith))) in
        let in_blocks = change-in Z marks (n + 1) count torn upper change U in
        let late : torn + 1 < change → ⊥ = λ k.
        omega (arith, under-below Z pages marks i low high F (torn + 1) (omega (arith, in_blocks)) (U.below (torn + 1) (omega (arith, in_blocks)) k (λ q. omega arith))) in
        omega arith)

    -- all blocks are full, and the letter does not change between two of them
    full-astray : count ≡ 0 → (eqb change 0 ≡ true) ⊎ (ltb n change ≡ true) → reading Z marks ≡ none
    full-astray e (inl q) =
        let z : change ≡ 0 = eqb-true change 0 q in
        reads_none Z pages marks (λ i low high F.
        let one = other-above Z pages marks i low high F change (omega arith) upper (U.upper_is (omega arith)) in
        let at : low ≡ high = omega (arith, F.shape.order) in
        omega (arith, F.begun at, F.shape.order))
    full-astray e (inr q) =
        let far : n < change = ltb-true n change q in
        reads_none Z pages marks (λ i low high F.
        omega (arith, F.shape.inside, under-below Z pages marks i low high F n (omega arith) (U.below n (omega arith) far (λ q. absurd (omega arith)))))

    -- the answer to what was gathered is the reading
    pub tells : Tells (moment_of n is_backward count torn change)
    unfolding moment_of answer_of
    tells =
        ⊎_elim
        (λ (z : eqb count 0 ≡ true).
        ⊎_elim
        (λ (q : (eqb change 0 || ltb n change) ≡ true). rw (z, q) (tells_none (full-astray (eqb-true count 0 z) (or_cases (eqb change 0) (ltb n change) q))))
        (λ (q : (eqb change 0 || ltb n change) ≡ false).
        let low : change ≡ 0 → ⊥ = eqb-false change 0 (or-false-left (eqb change 0) (ltb n change) q) in
        let F = filled-lies (eqb-true count 0 z) (omega arith) (ltb-false n change (or-false-right (eqb change 0) (ltb n change) q)) in
        rw (z, q) (
          reads_as (Full is_backward change) (sym (reads-full Z pages marks change is_backward F)),
          (F.low, filled-shape Z pages marks (cond is_backward 2 0) change F),
        ))
        (bool_cases (eqb change 0 || ltb n change)))
        (λ (z : eqb count 0 ≡ false).
        let some-torn : count ≡ 0 → ⊥ = eqb-false count 0 z in
        let one : count ≡ 1 = omega (arith, U.few) in
        let two : eqb count 2 ≡ false = ne_eqb count 2 (omega arith) in
        ⊎_elim
        (λ (q : eqb (torn + 1) change ≡ true).
        let T = torn-lies one (eqb-true (torn + 1) change q) in
        rw (z, two, q) (
          reads_as (Torn is_backward torn) (sym (reads-torn Z pages marks torn is_backward T)),
          rw (add-one torn) (torn-shape Z pages marks (cond is_backward 2 0) torn T),
        ))
        (λ (q : eqb (torn + 1) change ≡ false). rw (z, two, q) (tells_none (torn-astray one (eqb-false (torn + 1) change q))))
        (bool_cases (eqb (torn + 1) change)))
        (bool_cases (eqb count 0))
