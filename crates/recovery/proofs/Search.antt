-- What the search of the marks knows after some blocks, and after some pages of the next one.
use Rattle.flash.proofs.Kit.{◌≡◌, refl, sym, ◌∙◌, ◌⊎◌, inl, inr, ⊎_elim, ◌≢◌, Bool, true, false, ◌&&◌, ◌||◌, not, List, none, ℕ, ◌+◌, ◌*◌, ◌≤◌}
use Rattle.flash.proofs.Kit.{◌<◌, arith, below_more, eqb, leb, length, get_or, eqb-true, eqb-false, leb-true, leb-false, not-true, not-false}
use Rattle.flash.specs.declared.sizes.Sizes.{Sizes}
use Rattle.flash.specs.Geometry.{slot, letter}
use Rattle.flash.specs.Chip.{mark_at, is_full, is_unfinished}
use Rattle.flash.proofs.Bools.{never_both, or_cases, or-false-left, or-false-right}
use Rattle.flash.proofs.Comparisons.{lt-cases}
use Rattle.flash.proofs.Blocks.{mark-is, first-mark, full_at, full-same, full-of, not_full, unfinished-first}
use Rattle.method.specs.Mend.{reading}
use Rattle.recovery.proofs.Reading.{FullOfOther, reads_none, torn-between, other-above}

module _ (Z : Sizes) (marks : List ℕ) where
  open Z use {n, m}

  -- The first `b` blocks: `count` of them are unfinished, block `torn` if there is one. The others are full of s + 1 below
  -- `change` and full of `upper` from there on; `change` is n + 1 as long as there was none.
  pub record Upto (b count torn upper change : ℕ) : Type 0 where
    pub few : count ≤ 1
    pub torn-is : count ≡ 1 → (torn < b) × (is_unfinished m marks torn ≡ true)
    pub below : (j : ℕ) → j < b → j < change → (count ≡ 1 → j ≢ torn) → is_full m marks j (letter Z 1) ≡ true
    pub above : (j : ℕ) → j < b → change ≤ j → (count ≡ 1 → j ≢ torn) → is_full m marks j upper ≡ true
    pub same : n < change → (change ≡ n + 1) × (upper ≡ letter Z 1)
    pub changed : change ≤ n → change < b
    pub upper_is : change ≤ n → FullOfOther Z marks change upper

  -- Block `b` up to `page`: all its marks so far are the letter `x` and nothing has changed since the block before it; or it is
  -- unfinished, is the first, and has been counted.
  pub data Block (b page x count₀ torn₀ : ℕ) : (count torn : ℕ) (whole : Bool) → Type 0 where
    unbroken : ((q : ℕ) → q < page → mark_at marks (slot m b q) ≡ x) → (0 < page → x < 3) → Block b page x count₀ torn₀ count₀ torn₀ true
    opened : is_unfinished m marks b ≡ true → count₀ ≡ 0 → Block b page x count₀ torn₀ 1 b false

  pub change-in : (b count torn upper change : ℕ) → Upto b count torn upper change → change ≤ n + 1
  change-in b count torn upper change U = ⊎_elim (λ (q : n < change). omega (arith, U.same q)) (λ (q : change ≤ n). omega arith) (lt-cases n change)

  pub torn-in : {b page x count₀ torn₀ count torn : ℕ} {whole : Bool} → Block b page x count₀ torn₀ count torn whole → b ≤ n → torn₀ ≤ n → torn ≤ n
  torn-in (unbroken f g) h k = k
  torn-in (opened u z) h k = h

module _ (Z : Sizes) (pages : 0 < Z.m) (marks : List ℕ) where
  open Z use {n, m}

  module _ (b count torn upper change : ℕ) (U : Upto Z marks b count torn upper change) (h : b ≤ n) where
    -- one more block: full of the same letter
    pub upto-same : is_full m marks b upper ≡ true → Upto Z marks (b + 1) count torn upper change
    upto-same e = record {
      few = U.few;
      torn-is = λ q. (let t = U.torn-is q in (omega arith, t.1));
      below = below_more _ b U.below (λ l ne.
          let far : change ≤ n → ⊥ = λ r. omega (arith, U.changed r) in
          rw (← (U.same (omega arith)).1) e);
      above = below_more _ b U.above (λ l ne. e);
      same = U.same;
      changed = λ q. omega (arith, U.changed q);
      upper_is = U.upper_is;
    }

    -- full of another letter, for the first time
    pub upto-change : (x : ℕ) → n < change → x < 3 → x ≢ upper → is_full m marks b x ≡ true → Upto Z marks (b + 1) count torn x b
    upto-change x far l ne e =
        let s = U.same far in
        record {
          few = U.few;
          torn-is = λ q. (let t = U.torn-is q in (omega arith, t.1));
          below = λ j k r d. U.below j r (omega arith) d;
          above = λ j k r d. let at : j ≡ b = omega arith in rw at e;
          same = λ r. absurd (omega arith);
          changed = λ r. omega arith;
          upper_is = λ r. (e, l, λ q. ne (q ∙ sym s.1));
        }

    -- unfinished, for the first time
    pub upto-torn : count ≡ 0 → is_unfinished m marks b ≡ true → Upto Z marks (b + 1) 1 b upper change
    upto-torn z u = record {
      few = omega arith;
      torn-is = λ q. (omega arith, u);
      below = λ j k l ne. let d = ne refl in U.below j (omega arith) l (λ q. absurd (omega arith));
      above = λ j k l ne. let d = ne refl in U.above j (omega arith) l (λ q. absurd (omega arith));
      same = U.same;
      changed = λ q. omega (arith, U.changed q);
      upper_is = U.upper_is;
    }

    -- unfinished, for the second time: no moment of the move
    pub second-torn : count ≡ 1 → is_unfinished m marks b ≡ true → reading Z marks ≡ none
    second-torn e u =
        let t = U.torn-is e in
        reads_none Z pages marks (λ i low high F.
        let one = torn-between Z pages marks i low high F torn (omega arith) t.1 in
        let two = torn-between Z pages marks i low high F b h u in
        omega (arith, F.shape.near))

    -- full of another letter, for the second time: no moment of the move
    pub second-change : (x : ℕ) → change ≤ n → x ≢ upper → is_full m marks b x ≡ true → reading Z marks ≡ none
    second-change x k ne e =
        reads_none Z pages marks (λ i low high F.
        let one = other-above Z pages marks i low high F change k upper (U.upper_is k) in
        let up = F.shape.above b (omega (arith, U.changed k)) h in
        ne (full-same m marks b x (letter Z i) pages e up ∙ one.1))

  -- ---- the pages of a block
  -- how many pages of a block are known at once to bear the letter `x`: all, or none
  abbrev pub Known : (b x known : ℕ) → Type 0
  Known b x known = ((x < 3) × (is_full m marks b x ≡ true) × (known ≡ m)) ⊎ (known ≡ 0)

  pub known_in : (b x known : ℕ) → Known b x known → known ≤ m
  known_in b x known K = ⊎_elim (λ w. omega (arith, w.2)) (λ w. omega (arith, w)) K

  pub block-known : (b x known count torn : ℕ) → Known b x known → Block Z marks b known x count torn count torn true
  block-known b x known count torn K =
      ⊎_elim
      (λ w. unbroken (λ q h. full_at m marks b x q w.1 (omega (arith, w.2))) (λ h. w.0))
      (λ w. unbroken (λ q h. absurd (omega (arith, w))) (λ h. absurd (omega (arith, w))))
      K

  -- the test of a page: it shows that the block is unfinished
  abbrev pub differs : (mark x : ℕ) → Bool
  differs mark x = not (eqb mark x) || leb 3 mark

  module _ (b page count₀ torn₀ : ℕ) (fits : b * m + m ≤ length marks) (h : page < m) where
    abbrev x : ℕ
    x = get_or marks (b * m) 0

    abbrev mark : ℕ
    mark = get_or marks (b * m + page) 0

    mark-at : mark_at marks (slot m b page) ≡ mark
    mark-at = mark-is marks (b * m + page) (omega arith)

    unfinished-here : differs mark x ≡ true → is_unfinished m marks b ≡ true
    unfinished-here e =
        unfinished-first m marks b x pages (first-mark m marks b pages fits)
        (λ l. not_full m marks b x page h (λ q. other l (sym mark-at ∙ q) (or_cases (not (eqb mark x)) (leb 3 mark) e)))
      where
        other : x < 3 → mark ≡ x → (not (eqb mark x) ≡ true) ⊎ (leb 3 mark ≡ true) → ⊥
        other l q (inl d) = eqb-false mark x (not-true (eqb mark x) d) q
        other l q (inr d) = omega (arith, leb-true 3 mark d)

    -- the block up to this page
    abbrev Upto-page : (count torn : ℕ) (whole : Bool) → Type 0
    Upto-page = Block Z marks b page x count₀ torn₀

    pub page-same : {count torn : ℕ} {whole : Bool} → Upto-page count torn whole → (whole && differs mark x) ≡ false
        → Block Z marks b (page + 1) x count₀ torn₀ count torn whole
    page-same (unbroken f g) e =
        let same : mark ≡ x = eqb-true mark x (not-false (eqb mark x) (or-false-left (not (eqb mark x)) (leb 3 mark) e)) in
        let low : mark < 3 = leb-false 3 mark (or-false-right (not (eqb mark x)) (leb 3 mark) e) in
        unbroken (below_more _ page f (mark-at ∙ same)) (λ l. rw (← same) low)
    page-same (opened u z) e = opened u z

    pub page-opens : {count torn : ℕ} {whole : Bool} → Upto-page count torn whole → (whole && differs mark x) ≡ true
        → (count₀ ≡ count) × (is_unfinished m marks b ≡ true)
    page-opens (unbroken f g) e = (refl, unfinished-here e)
    page-opens (opened u z) e = absurd (never_both e refl)

    pub page-first : {count torn : ℕ} {whole : Bool} → Upto-page count torn whole → count₀ ≤ 1 → count + 1 ≢ 2 → (whole && differs mark x) ≡ true
        → Block Z marks b (page + 1) x count₀ torn₀ (count + 1) b false
    page-first {count} B few ne e =
        let w = page-opens B e in
        let one : count + 1 ≡ 1 = omega arith in
        rw one (opened w.1 (omega arith))

    pub page-second : {count torn : ℕ} {whole : Bool} → Upto-page count torn whole → {upper change : ℕ} → Upto Z marks b count₀ torn₀ upper change → b ≤ n
        → count + 1 ≡ 2 → (whole && differs mark x) ≡ true → reading Z marks ≡ none
    page-second B {upper} {change} U k two e =
        let w = page-opens B e in
        second-torn b count₀ torn₀ upper change U k (omega arith) w.1

  -- ---- the end of a block
  module _ (b page x count₀ torn₀ upper change : ℕ) (h : b ≤ n) (end : m ≤ page) (U : Upto Z marks b count₀ torn₀ upper change) where
    abbrev Ended : (count torn : ℕ) (whole : Bool) → Type 0
    Ended = Block Z marks b page x count₀ torn₀

    all-marked : ((q : ℕ) → q < page → mark_at marks (slot m b q) ≡ x) → is_full m marks b x ≡ true
    all-marked f = full-of m marks b x (λ q l. f q (omega arith))

    pub block-changes : {count torn : ℕ} {whole : Bool} → Ended count torn whole → n < change → (whole && not (eqb x upper)) ≡ true
        → Upto Z marks (b + 1) count torn x b
    block-changes (unbroken f g) far e =
        upto-change b count₀ torn₀ upper change U h x far (g (omega arith)) (eqb-false x upper (not-true (eqb x upper) e)) (all-marked f)
    block-changes (opened u z) far e = absurd (never_both e refl)

    pub block-astray : {count torn : ℕ} {whole : Bool} → Ended count torn whole → change ≤ n → (whole && not (eqb x upper)) ≡ true → reading Z marks ≡ none
    block-astray (unbroken f g) k e = second-change b count₀ torn₀ upper change U h x k (eqb-false x upper (not-true (eqb x upper) e)) (all-marked f)
    block-astray (opened u z) k e = absurd (never_both e refl)

    pub block-kept : {count torn : ℕ} {whole : Bool} → Ended count torn whole → (whole && not (eqb x upper)) ≡ false
        → Upto Z marks (b + 1) count torn upper change
    block-kept (unbroken f g) e =
        let at : x ≡ upper = eqb-true x upper (not-false (eqb x upper) e) in
        upto-same b count₀ torn₀ upper change U h (rw at at (all-marked f))
    block-kept (opened u z) e = upto-torn b count₀ torn₀ upper change U h z u
