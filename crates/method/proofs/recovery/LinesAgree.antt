-- Two of mend's four lines that fit give the same answer.
use Rattle.flash.proofs.Kit.{◌≡◌, sym, ap, ap₂, ◌∙◌, subst, ⊎_elim, ◌≢◌, Bool, true, ◌&&◌, some, List, map, List-as-Memᴰ, List·Memᴰ·not-nil}
use Rattle.flash.proofs.Kit.{List·Memᴰ·cases-cons, List·Memᴰ·append-cases, ℕ, zero, suc, ◌+◌, ◌-◌, ◌*◌, ◌≤◌, ◌<◌, arith}
use Rattle.flash.specs.Geometry.{letter}
use Rattle.flash.specs.Lists.{range}
use Rattle.flash.specs.Tables.{Row}
use Rattle.flash.specs.declared.sizes.Sizes.{Sizes}
use Rattle.flash.specs.Chip.{is_full, is_unfinished}
use Rattle.flash.proofs.Bools.{never_both, both}
use Rattle.flash.proofs.Ranges.{all_in}
use Rattle.flash.proofs.Blocks.{full-same, full-finished}
use Rattle.flash.proofs.Bounds.{in-range}
use Rattle.method.specs.Mend.{Reading, full_from, forward_torn, backward_torn, forward_full, backward_full, lines}
use Rattle.method.specs.Claims.{LinesAgree}

-- what a map over a range has in it comes from a number of the range
mem-range : {A : Type 0} (f : ℕ → A) (start count : ℕ) (y : A) → List-as-Memᴰ y (map f (range start count)) → (x : ℕ) × (start ≤ x) × (x < start + count) × (y ≡ f x)
unfolding range
mem-range f start zero y h = absurd (List·Memᴰ·not-nil h)
mem-range {A} f start (suc count) y h = ⊎_elim
    (λ (e : y ≡ f start). (start, omega arith, omega arith, e))
    (λ (t : List-as-Memᴰ y (map f (range (suc start) count))). (let r = mem-range f (suc start) count y t in (r.0, omega arith, omega arith, r.3)))
    (List·Memᴰ·cases-cons h)

module _ (Z : Sizes) (pages : 0 < Z.m) (marks : List ℕ) where
  open Z use {n, m}

  abbrev pub full : (i b : ℕ) → Bool
  full i b = is_full m marks b (letter Z i)

  -- a block is not full of two letters
  one-letter : (i j b : ℕ) → full i b ≡ true → full j b ≡ true → letter Z i ≡ letter Z j
  one-letter i j b e f = full-same m marks b (letter Z i) (letter Z j) pages e f

  -- nor is it full and unfinished
  pub finished : (i b : ℕ) → full i b ≡ true → is_unfinished m marks b ≡ true → ⊥
  unfolding letter
  finished i b e u = never_both u (full-finished m marks b (letter Z i) (omega arith) e)

  -- A block b is torn, or none is, between blocks full of s + 1 and blocks full of s + i.
  pub record Torn (i b : ℕ) : Type 0 where
    pub low : b ≤ n
    pub open_block : is_unfinished m marks b ≡ true
    pub under : (j : ℕ) → j < b → full 1 j ≡ true
    pub over : (j : ℕ) → b < j → j ≤ n → full i j ≡ true

  pub record Filled (i b : ℕ) : Type 0 where
    pub low : 1 ≤ b
    pub high : b ≤ n
    pub under : (j : ℕ) → j < b → full 1 j ≡ true
    pub over : (j : ℕ) → b ≤ j → j ≤ n → full i j ≡ true

  -- whatever else is read from the marks, it is the same block that is torn
  torn-same : (i j b c : ℕ) → Torn i b → Torn j c → b ≡ c
  torn-same i j b c x y =
      let not-below : b < c → ⊥ = λ l. finished 1 b (y.under b l) x.open_block in
      let not-above : c < b → ⊥ = λ l. finished j b (y.over b l x.low) x.open_block in
      omega arith

  torn-filled : (i j b c : ℕ) → Torn i b → Filled j c → ⊥
  torn-filled i j b c x y =
      let not-below : b < c → ⊥ = λ l. finished 1 b (y.under b l) x.open_block in
      let not-above : c ≤ b → ⊥ = λ l. finished j b (y.over b l x.low) x.open_block in
      omega arith

  filled-same : (i b c : ℕ) → letter Z 1 ≢ letter Z i → Filled i b → Filled i c → b ≡ c
  filled-same i b c ne x y =
      let not-below : b < c → ⊥ = λ l. ne (one-letter 1 i b (y.under b l) (x.over b (omega arith) x.high)) in
      let not-above : c < b → ⊥ = λ l. ne (one-letter 1 i c (x.under c l) (y.over c (omega arith) y.high)) in
      omega arith

  -- where all blocks are full, the top one tells the pass
  one-pass : (b c : ℕ) → b ≤ n → c ≤ n → ((j : ℕ) → b ≤ j → j ≤ n → full 0 j ≡ true) → ((j : ℕ) → c ≤ j → j ≤ n → full 2 j ≡ true) → ⊥
  unfolding letter
  one-pass b c h k x y =
      let e = one-letter 0 2 n (x n h (omega arith)) (y n k (omega arith)) in
      omega arith

  -- what each of the four lines says of a row that fits
  pub data Fit (row : Row Reading) : Type 0 where
    torn-forth : (b : ℕ) → Torn 0 b → row.gives ≡ (forward_torn Z marks b).gives → Fit row
    torn-back : (b : ℕ) → Torn 2 b → row.gives ≡ (backward_torn Z marks b).gives → Fit row
    full-forth : (b : ℕ) → Filled 0 b → row.gives ≡ (forward_full Z marks b).gives → Fit row
    full_back : (b : ℕ) → Filled 2 b → row.gives ≡ (backward_full Z marks b).gives → Fit row

  -- only where block n itself is torn do both passes fit, and then they give one place
  torn-both : (b c : ℕ) → Torn 0 b → Torn 2 c → (forward_torn Z marks b).gives ≡ (backward_torn Z marks c).gives
  unfolding forward_torn backward_torn
  torn-both b c x y =
      let same = torn-same 0 2 b c x y in
      let top : b < n → ⊥ = λ l. one-pass (suc b) (suc c) l (omega arith) x.over y.over in
      let at : b ≡ 2 * n - c = omega (arith, x.low) in
      ap₂ (λ (p q : ℕ). record { place = p * (m + 1); to_erase = some q }) at same

  pub agree : (one other : Row Reading) → Fit one → Fit other → one.gives ≡ other.gives
  unfolding letter
  agree one other (torn-forth b x e) (torn-forth c y f) = e ∙ ap (λ (z : ℕ). (forward_torn Z marks z).gives) (torn-same 0 0 b c x y) ∙ sym f
  agree one other (torn-forth b x e) (torn-back c y f) = e ∙ torn-both b c x y ∙ sym f
  agree one other (torn-forth b x e) (full-forth c y f) = absurd (torn-filled 0 0 b c x y)
  agree one other (torn-forth b x e) (full_back c y f) = absurd (torn-filled 0 2 b c x y)
  agree one other (torn-back b x e) (torn-forth c y f) = e ∙ sym (torn-both c b y x) ∙ sym f
  agree one other (torn-back b x e) (torn-back c y f) = e ∙ ap (λ (z : ℕ). (backward_torn Z marks z).gives) (torn-same 2 2 b c x y) ∙ sym f
  agree one other (torn-back b x e) (full-forth c y f) = absurd (torn-filled 2 0 b c x y)
  agree one other (torn-back b x e) (full_back c y f) = absurd (torn-filled 2 2 b c x y)
  agree one other (full-forth b x e) (torn-forth c y f) = absurd (torn-filled 0 0 c b y x)
  agree one other (full-forth b x e) (torn-back c y f) = absurd (torn-filled 2 0 c b y x)
  agree one other (full-forth b x e) (full-forth c y f) = e ∙ ap (λ (z : ℕ). (forward_full Z marks z).gives) (filled-same 0 b c (omega arith) x y) ∙ sym f
  agree one other (full-forth b x e) (full_back c y f) = absurd (one-pass b c x.high y.high x.over y.over)
  agree one other (full_back b x e) (torn-forth c y f) = absurd (torn-filled 0 2 c b y x)
  agree one other (full_back b x e) (torn-back c y f) = absurd (torn-filled 2 2 c b y x)
  agree one other (full_back b x e) (full-forth c y f) = absurd (one-pass c b y.high x.high y.over x.over)
  agree one other (full_back b x e) (full_back c y f) = e ∙ ap (λ (z : ℕ). (backward_full Z marks z).gives) (filled-same 2 b c (omega arith) x y) ∙ sym f

  -- blocks of a range are full of a letter
  full-range : (i start count : ℕ) → full_from Z marks i start count ≡ true → (j : ℕ) → start ≤ j → j < start + count → full i j ≡ true
  unfolding full_from
  full-range i start count e = all_in (full i) start count e

  torn-of : (i b : ℕ) → b < 0 + (n + 1) → (is_unfinished m marks b && full_from Z marks 1 0 b && full_from Z marks i (b + 1) (n - b)) ≡ true → Torn i b
  torn-of i b h e =
      let x = both (is_unfinished m marks b && full_from Z marks 1 0 b) (full_from Z marks i (b + 1) (n - b)) e in
      let y = both (is_unfinished m marks b) (full_from Z marks 1 0 b) x.0 in
      record {
        low = omega arith;
        open_block = y.0;
        under = λ j l. full-range 1 0 b y.1 j (omega arith) (omega arith);
        over = λ j l r. full-range i (b + 1) (n - b) x.1 j (omega arith) (omega arith);
      }

  filled_of : (i b : ℕ) → 1 ≤ b → b < 1 + n → (full_from Z marks 1 0 b && full_from Z marks i b (n + 1 - b)) ≡ true → Filled i b
  filled_of i b h k e =
      let x = both (full_from Z marks 1 0 b) (full_from Z marks i b (n + 1 - b)) e in
      record {
        low = h;
        high = omega arith;
        under = λ j l. full-range 1 0 b x.0 j (omega arith) (omega arith);
        over = λ j l r. full-range i b (n + 1 - b) x.1 j l (omega arith);
      }

  -- a row of the table that fits is one of the four
  pub fit : (row : Row Reading) → List-as-Memᴰ row (lines Z marks) → row.fits ≡ true → Fit row
  unfolding lines
  fit row mem e = ⊎_elim
      (λ h. (let r = line (forward_torn Z marks) 0 (n + 1) h in torn-forth r.0 (torn-of 0 r.0 r.2 (unfold forward_torn in r.3)) r.4))
      (λ t. ⊎_elim
      (λ h. (let r = line (backward_torn Z marks) 0 (n + 1) h in torn-back r.0 (torn-of 2 r.0 r.2 (unfold backward_torn in r.3)) r.4))
      (λ t. ⊎_elim
      (λ h. (let r = line (forward_full Z marks) 1 n h in full-forth r.0 (filled_of 0 r.0 r.1 r.2 (unfold forward_full in r.3)) r.4))
      (λ h. (let r = line (backward_full Z marks) 1 n h in full_back r.0 (filled_of 2 r.0 r.1 r.2 (unfold backward_full in r.3)) r.4))
      (List·Memᴰ·append-cases (map (forward_full Z marks) (range 1 n)) t))
      (List·Memᴰ·append-cases (map (backward_torn Z marks) (range 0 (n + 1))) t))
      (List·Memᴰ·append-cases (map (forward_torn Z marks) (range 0 (n + 1))) mem)
    where
      -- the block of a row in one of the lines
      line : (f : ℕ → Row Reading) (start count : ℕ) → List-as-Memᴰ row (map f (range start count))
          → (b : ℕ) × (start ≤ b) × (b < start + count) × ((f b).fits ≡ true) × (row.gives ≡ (f b).gives)
      line f start count h =
          let r = mem-range f start count row h in
          (r.0, r.1, r.2, subst (λ (r : Row Reading). r.fits ≡ true) r.3 e, ap (λ (r : Row Reading). r.gives) r.3)

pub lines-agree : LinesAgree
unfolding LinesAgree
lines-agree Z h marks one other x y e f =
    let pages = (in-range Z h).m-low in
    agree Z pages marks one other (fit Z pages marks one x e) (fit Z pages marks other y f)
