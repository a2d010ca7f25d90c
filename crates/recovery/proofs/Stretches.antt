-- What the search of the marks knows of blocks that it looks at in one stretch: those below its start, and those above the change.
use Rattle.flash.proofs.Kit.{◌≡◌, refl, sym, ap, ◌∙◌, ⊎_elim, true, List, ℕ, ◌+◌, ◌-◌, ◌*◌, ◌/◌, ◌%◌, ◌≤◌, ◌<◌, mul-le-mul_right, div-add-mod'}
use Rattle.flash.proofs.Kit.{mod-lt, arith, div-lt_iff_lt-mul, le-div_iff_mul-le, eqb, length, get_or, take, drop, length-take, length-drop, get_or-take}
use Rattle.flash.proofs.Kit.{get_or-drop, eqb-true, eq-eqb}
use Rattle.flash.specs.Lists.{all, range}
use Rattle.flash.specs.declared.sizes.Sizes.{Sizes}
use Rattle.flash.specs.Geometry.{letter}
use Rattle.flash.specs.Chip.{is_full}
use Rattle.flash.proofs.Bools.{bool_eq}
use Rattle.flash.proofs.Comparisons.{lt-cases}
use Rattle.flash.proofs.Searches.{all-at, all_of}
use Rattle.flash.proofs.Ranges.{all_in, all-is}
use Rattle.flash.proofs.Parts.{part-fits}
use Rattle.flash.proofs.Blocks.{mark-is, full_at, full-of}
use Rattle.recovery.proofs.Search.{Upto}

module _ (m : ℕ) (marks : List ℕ) (pages : 0 < m) where
  -- a stretch of marks that are all one letter is blocks full of it
  pub full-stretch : (from to letter : ℕ) → from ≤ to → to * m ≤ length marks
      → all (λ mark. eqb mark letter) (take (to * m - from * m) (drop (from * m) marks)) ≡ all (λ block. is_full m marks block letter)
      (range from (to - from))
  full-stretch from to letter h fits = bool_eq _ _
      (λ e. all-is (λ block. is_full m marks block letter) from (to - from) (λ b low high. full-of m marks b letter (λ page l.
      let f = part-fits b to m (omega arith) in
      let g = mul-le-mul_right m low in
      let i : b * m + page - from * m < to * m - from * m = omega arith in
      let back : from * m + (b * m + page - from * m) ≡ b * m + page = omega arith in
      mark-is marks (b * m + page) (omega arith) ∙ ap (λ (t : ℕ). get_or marks t 0) (sym back) ∙ sym (there (b * m + page - from * m) i)
      ∙ eqb-true _ letter (all-at (λ mark. eqb mark letter) stretch (b * m + page - from * m) 0 e (omega (arith, long))))))
      (λ e. all_of (λ mark. eqb mark letter) stretch 0 (λ i l.
      let j : i < to * m - from * m = omega (arith, long) in
      let t = from * m + i in
      let low : from ≤ t / m = (le-div_iff_mul-le pages).1 (omega arith) in
      let high : t / m < to = (div-lt_iff_lt-mul pages).1 (omega arith) in
      let full = all_in (λ block. is_full m marks block letter) from (to - from) e (t / m) low (omega arith) in
      let at : get_or marks t 0 ≡ letter = sym (mark-is marks t (omega arith))
      ∙ (rw (div-add-mod' t m) at (full_at m marks (t / m) letter (t % m) full (mod-lt t pages))) in
      eq-eqb _ letter (there i j ∙ at)))
    where
      stretch : List ℕ
      stretch = take (to * m - from * m) (drop (from * m) marks)

      long : length stretch ≡ to * m - from * m
      long = simp (length-take, length-drop) (omega arith)

      there : (i : ℕ) → i < to * m - from * m → get_or stretch i 0 ≡ get_or marks (from * m + i) 0
      there i l = get_or-take (to * m - from * m) (drop (from * m) marks) i 0 l ∙ get_or-drop (from * m) marks i 0

module _ (Z : Sizes) (pages : 0 < Z.m) (marks : List ℕ) where
  open Z use {n, m}

  -- the blocks that the search passes over
  pub upto-passed : (torn start : ℕ) → start ≤ n + 1 → ((j : ℕ) → j < start → is_full m marks j (letter Z 1) ≡ true) → Upto Z marks start 0 torn
      (letter Z 1) (n + 1)
  upto-passed torn start h full = record {
    few = omega arith;
    torn-is = λ e. absurd (omega arith);
    below = λ j k l ne. full j k;
    above = λ j k l ne. absurd (omega arith);
    same = λ k. (refl, refl);
    changed = λ k. absurd (omega arith);
    upper_is = λ k. absurd (omega arith);
  }

  -- the rest above the change
  pub upto_rest : (b count torn upper change : ℕ) → Upto Z marks b count torn upper change → b ≤ n + 1 → change ≤ n
      → ((j : ℕ) → b ≤ j → j < n + 1 → is_full m marks j upper ≡ true) → Upto Z marks (n + 1) count torn upper change
  upto_rest b count torn upper change U h k full = record {
    few = U.few;
    torn-is = λ e. (let t = U.torn-is e in (omega (arith, t.0), t.1));
    below = λ j l o ne. U.below j (omega (arith, U.changed k)) o ne;
    above = λ j l o ne. ⊎_elim (λ (q : j < b). U.above j q o ne) (λ (q : b ≤ j). full j q l) (lt-cases j b);
    same = U.same;
    changed = λ l. omega arith;
    upper_is = U.upper_is;
  }
