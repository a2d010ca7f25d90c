-- The pair of the highest count: what becomes of it where a count is looked at.
use Rattle.flash.proofs.Kit.{List, ◌≡◌, refl, sym, ap, ◌∙◌, subst, ◌⊎◌, inl, inr, ◌≢◌, ⊎_elim, true, false, ◌&&◌, ℕ, zero, suc, ◌+◌, ◌≤◌, ◌<◌, max, add-one, arith}
use Rattle.flash.proofs.Kit.{eqb, ltb, length, get_or, set, length-set, get_or-set_same, get_or-set_other, eqb-true, eq-eqb, ltb-true, ltb-false, lt-ltb, le-ltb}
use Rattle.flash.specs.declared.wear.Wear.{Wear}
use Rattle.flash.specs.Wear.{counter_count, counter_end, counter_at, raised, replaces, noted, risen, noted_up_to, refreshed, CorrectFor, PairCorrect}
use Rattle.flash.specs.inner.Unpaired.{unpaired}
use Rattle.flash.proofs.Bools.{bool_cases, and_left, and_right, or-false-left, or-false-right, or_cases}
use Rattle.flash.proofs.Comparisons.{eq-cases, lt-cases}

module _ (block count : ℕ) (wear : Wear) where
  pub noted-new : replaces wear.highest wear.block count block ≡ true
      → noted block count wear ≡ record { counters = wear.counters; highest = count; block = block }
  unfolding noted
  noted-new e = rw e

  pub noted-old : replaces wear.highest wear.block count block ≡ false → noted block count wear ≡ wear
  unfolding noted
  noted-old e = rw e

-- one erase more
module _ (wear : Wear) (block count : ℕ) (is : count ≡ raised (counter_at wear block)) where
  pub rose-new : replaces wear.highest wear.block count block ≡ true
      → ◌≡◌ {A = Wear} (record { counters = set wear.counters block count; highest = count; block = block }) (risen block wear)
  unfolding risen
  rose-new e = rw (← is, noted-new block count (record { counters = set wear.counters block count; highest = wear.highest; block = wear.block }) e)

  pub rose-old : replaces wear.highest wear.block count block ≡ false
      → ◌≡◌ {A = Wear} (record { counters = set wear.counters block count; highest = wear.highest; block = wear.block }) (risen block wear)
  unfolding risen
  rose-old e = rw (← is, noted-old block count (record { counters = set wear.counters block count; highest = wear.highest; block = wear.block }) e)

-- ---- when a count takes the pair's place
module _ (highest kept count block : ℕ) where
  pub replaces-when : replaces highest kept count block ≡ true → (highest < count) ⊎ ((count ≡ highest) × (block < kept))
  unfolding replaces
  replaces-when e = ⊎_elim
      (λ (q : ltb highest count ≡ true). inl (ltb-true highest count q))
      (λ (q : (eqb count highest && ltb block kept) ≡ true). inr (
        eqb-true count highest (and_left (eqb count highest) (ltb block kept) q),
        ltb-true block kept (and_right (eqb count highest) (ltb block kept) q),
      ))
      (or_cases (ltb highest count) (eqb count highest && ltb block kept) e)

  pub stays-when : replaces highest kept count block ≡ false → (count ≤ highest) × (count ≡ highest → kept ≤ block)
  unfolding replaces
  stays-when e =
      let a = or-false-left (ltb highest count) (eqb count highest && ltb block kept) e in
      let b = or-false-right (ltb highest count) (eqb count highest && ltb block kept) e in
      (ltb-false highest count a, λ q. ltb-false block kept (rw (eq-eqb count highest q) at b))

-- the highest of so many counters, once one more is looked at
noted-highest : (block count : ℕ) (wear : Wear) → ((wear.highest < count) × ((noted block count wear).highest ≡ count)) ⊎ ((count ≤ wear.highest) × ((noted block count wear).highest ≡ wear.highest))
noted-highest block count wear = ⊎_elim
    (λ (e : replaces wear.highest wear.block count block ≡ true).
    let new = ap (λ (w : Wear). w.highest) (noted-new block count wear e) in
    ⊎_elim (λ l. inl (l, new)) (λ l. inr (omega (arith, l.0), new ∙ l.0)) (replaces-when _ _ _ _ e))
    (λ (e : replaces wear.highest wear.block count block ≡ false).
    inr ((stays-when _ _ _ _ e).0, ap (λ (w : Wear). w.highest) (noted-old block count wear e)))
    (bool_cases (replaces wear.highest wear.block count block))

module _ (wear : Wear) (block highest : ℕ) (so_far : highest ≡ (noted_up_to block wear).highest) where
  higher-next : highest < counter_at wear block → counter_at wear block ≡ (noted_up_to (block + 1) wear).highest
  unfolding noted_up_to
  higher-next h = rw (add-one block) (⊎_elim (λ l. sym l.1) (λ l. absurd (omega (arith, l.0))) (noted-highest block (counter_at wear block) (noted_up_to block wear)))

  lower-next : counter_at wear block ≤ highest → highest ≡ (noted_up_to (block + 1) wear).highest
  unfolding noted_up_to
  lower-next h = rw (add-one block) (⊎_elim (λ l. absurd (omega (arith, l.0))) (λ l. so_far ∙ sym l.1) (noted-highest block (counter_at wear block) (noted_up_to block wear)))

  pub highest-next : max highest (counter_at wear block) ≡ (noted_up_to (block + 1) wear).highest
  highest-next = ⊎_elim
      (λ (h : highest < counter_at wear block). omega (arith, higher-next h))
      (λ (h : counter_at wear block ≤ highest). omega (arith, lower-next h))
      (lt-cases highest (counter_at wear block))

-- ---- the counters are as they were, but for the one that rises
pub noted-counters : (block count : ℕ) (wear : Wear) → (noted block count wear).counters ≡ wear.counters
noted-counters block count wear = ⊎_elim
    (λ (e : replaces wear.highest wear.block count block ≡ true). ap (λ (w : Wear). w.counters) (noted-new block count wear e))
    (λ (e : replaces wear.highest wear.block count block ≡ false). ap (λ (w : Wear). w.counters) (noted-old block count wear e))
    (bool_cases (replaces wear.highest wear.block count block))

pub risen-set : (block : ℕ) (wear : Wear) → (risen block wear).counters ≡ set wear.counters block (raised (counter_at wear block))
unfolding risen
risen-set block wear = noted-counters block _ _

pub risen-length : (block : ℕ) (wear : Wear) → length (risen block wear).counters ≡ length wear.counters
risen-length block wear = ap (λ (xs : List ℕ). length xs) (risen-set block wear) ∙ length-set wear.counters block _

noted-up-counters : (blocks : ℕ) (wear : Wear) → (noted_up_to blocks wear).counters ≡ wear.counters
unfolding noted_up_to
noted-up-counters zero wear = refl
noted-up-counters (suc block) wear = noted-counters block _ _ ∙ noted-up-counters block wear

pub refreshed-counters : (wear : Wear) → (refreshed wear).counters ≡ wear.counters
unfolding refreshed
refreshed-counters wear = noted-up-counters counter_count wear

le-raised : (counter : ℕ) → counter ≤ raised counter
unfolding raised
le-raised counter = ⊎_elim
    (λ (l : counter < counter_end). rw (lt-ltb counter counter_end l) (omega arith))
    (λ (l : counter_end ≤ counter). rw (le-ltb counter counter_end l) (omega arith))
    (lt-cases counter counter_end)

-- ---- a pair that is correct but for one block is correct once its count is looked at
module _ (blocks block : ℕ) (wear : Wear) (in_blocks : block < blocks)
    (most : (b : ℕ) → b < blocks → b ≢ block → counter_at wear b ≤ wear.highest)
    (lowest : (b : ℕ) → b < wear.block → b ≢ block → counter_at wear b ≢ wear.highest)
    (has : counter_at wear block ≤ wear.highest → (wear.block < blocks) × (counter_at wear wear.block ≡ wear.highest)) where
  abbrev count : ℕ
  count = counter_at wear block

  new-correct : (wear.highest < count) ⊎ ((count ≡ wear.highest) × (block < wear.block))
      → CorrectFor blocks (record { counters = wear.counters; highest = count; block = block })
  unfolding counter_at
  new-correct how = record {
    inside = in_blocks;
    has = refl;
    most = λ b h. ⊎_elim
        (λ (e : b ≡ block). rw e (omega arith))
        (λ (apart : b ≢ block). ⊎_elim (λ l. omega (arith, l, most b h apart)) (λ l. omega (arith, l, most b h apart)) how)
        (eq-cases b block);
    lowest = λ b h e. ⊎_elim
        (λ l. omega (arith, l, most b (omega arith) (λ q. omega arith)))
        (λ l. lowest b (omega (arith, l)) (λ q. omega arith) (e ∙ l.0))
        how;
  }

  old-correct : (count ≤ wear.highest) × (count ≡ wear.highest → wear.block ≤ block) → CorrectFor blocks wear
  old-correct how =
      let there = has how.0 in
      record {
        inside = there.0;
        has = there.1;
        most = λ b h. ⊎_elim
            (λ (e : b ≡ block). rw e how.0)
            (λ (apart : b ≢ block). most b h apart)
            (eq-cases b block);
        lowest = λ b h e. ⊎_elim
            (λ (q : b ≡ block). omega (arith, how.1 (sym (ap (counter_at wear) q) ∙ e)))
            (λ (apart : b ≢ block). lowest b h apart e)
            (eq-cases b block);
      }

  noted-correct : CorrectFor blocks (noted block count wear)
  noted-correct = ⊎_elim
      (λ (e : replaces wear.highest wear.block count block ≡ true).
      subst (CorrectFor blocks) (sym (noted-new block count wear e)) (new-correct (replaces-when _ _ _ _ e)))
      (λ (e : replaces wear.highest wear.block count block ≡ false).
      subst (CorrectFor blocks) (sym (noted-old block count wear e)) (old-correct (stays-when _ _ _ _ e)))
      (bool_cases (replaces wear.highest wear.block count block))

-- ---- an erase keeps a correct pair
pub risen-correct : (block : ℕ) (wear : Wear) → length wear.counters ≡ counter_count → block < counter_count → PairCorrect wear → PairCorrect (risen block wear)
unfolding risen counter_at
risen-correct block wear long h C =
    let new : ℕ = raised (counter_at wear block) in
    let up = le-raised (counter_at wear block) in
    let next : Wear = record { counters = set wear.counters block new; highest = wear.highest; block = wear.block } in
    let same : counter_at next block ≡ new = get_or-set_same wear.counters block new 0 (omega arith) in
    let other : (b : ℕ) → b ≢ block → counter_at next b ≡ counter_at wear b = λ b apart. get_or-set_other wear.counters block b new 0 apart in
    subst (λ (x : ℕ). CorrectFor counter_count (noted block x next)) same
    (noted-correct counter_count block next h
    (λ b l apart. omega (arith, other b apart, C.most b l))
    (λ b l apart e. C.lowest b l (sym (other b apart) ∙ e))
    (λ l. (
      C.inside,
      ⊎_elim
          (λ (e : wear.block ≡ block). ap (counter_at next) e ∙ omega (arith, same, l, up, C.has, ap (counter_at wear) e))
          (λ (apart : wear.block ≢ block). other wear.block apart ∙ C.has)
          (eq-cases wear.block block),
    )))

-- ---- and a fresh one is correct
up-correct : (blocks : ℕ) (wear : Wear) → CorrectFor (suc blocks) (noted_up_to (suc blocks) wear)
unfolding noted_up_to counter_at
up-correct zero wear =
    noted-correct 1 0 (noted_up_to 0 wear) (omega arith) (λ b h apart. absurd (apart (omega arith))) (λ b h apart e. omega arith)
    (λ l. (omega arith, omega (arith, l)))
up-correct (suc block) wear =
    let before = noted_up_to (suc block) wear in
    let C : CorrectFor (suc block) before = up-correct block wear in
    let same : counter_at before (suc block) ≡ counter_at wear (suc block) = ap (λ (xs : List ℕ). get_or xs (suc block) 0) (noted-up-counters (suc block) wear) in
    subst (λ (x : ℕ). CorrectFor (suc (suc block)) (noted (suc block) x before)) same
    (noted-correct (suc (suc block)) (suc block) before (omega arith)
    (λ b h apart. C.most b (omega arith))
    (λ b h apart e. C.lowest b h e)
    (λ l. (omega (arith, C.inside), C.has)))

pub refreshed-correct : (wear : Wear) → PairCorrect (refreshed wear)
unfolding refreshed
refreshed-correct wear = up-correct 64 wear

-- ---- the counters have one correct pair
pub correct-once : (blocks : ℕ) (one other : Wear) → one.counters ≡ other.counters → CorrectFor blocks one → CorrectFor blocks other → one ≡ other
unfolding counter_at
correct-once blocks one other e C D =
    let at : (b : ℕ) → counter_at one b ≡ counter_at other b = λ b. ap (λ (xs : List ℕ). get_or xs b 0) e in
    let high : one.highest ≡ other.highest =
    omega (arith, C.has, D.has, at one.block, at other.block, C.most other.block D.inside, D.most one.block C.inside) in
    let not-below : one.block < other.block → ⊥ = λ l. D.lowest one.block l (sym (at one.block) ∙ C.has ∙ high) in
    let not-above : other.block < one.block → ⊥ = λ l. C.lowest other.block l (at other.block ∙ D.has ∙ sym high) in
    let low : one.block ≡ other.block = omega arith in
    λ i. record { counters = e i; highest = high i; block = low i }

-- and it does not matter what the pair was
pub refreshed-from : (wear : Wear) (highest block : ℕ) → highest ≡ (refreshed (unpaired wear.counters)).highest → block ≡ (refreshed (unpaired wear.counters)).block
    → ◌≡◌ {A = Wear} (record { counters = wear.counters; highest = highest; block = block }) (refreshed wear)
refreshed-from wear highest block high low =
    let other : Wear = unpaired wear.counters in
    let same = correct-once counter_count (refreshed other) (refreshed wear) (refreshed-counters other ∙ sym (refreshed-counters wear)) (refreshed-correct other) (refreshed-correct wear) in
    let back = sym (refreshed-counters other) in
    (λ i. record { counters = back i; highest = high i; block = low i }) ∙ same
