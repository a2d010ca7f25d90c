-- A one-to-one map of the data blocks, followed from a block on: it comes back within n steps.
use Rattle.flash.proofs.Kit.{◌≡◌, refl, sym, ap, ◌∙◌, ⊎_elim, ℕ, zero, suc, ◌+◌, ◌-◌, ◌≤◌, ◌<◌, not-suc-le-zero, zero-add, suc-add, arith, length}
use Rattle.flash.proofs.Kit.{get_or}
use Rattle.flash.specs.Lists.{iterates}
use Rattle.flash.proofs.Comparisons.{lt-cases}
use Rattle.split.proofs.Pigeon.{pigeon}

-- rule 1.2
pub record DataBlock (n b : ℕ) : Type 0 where
  pub low : 1 ≤ b
  pub high : b ≤ n

pub record OneToOne (n : ℕ) (f : ℕ → ℕ) : Type 0 where
  pub into : (b : ℕ) → DataBlock n b → DataBlock n (f b)
  pub same : (a b : ℕ) → DataBlock n a → DataBlock n b → f a ≡ f b → a ≡ b

-- f applied `steps` times
unfoldable pub iterate : (f : ℕ → ℕ) → (steps b : ℕ) → ℕ
iterate f zero b = b
iterate f (suc steps) b = iterate f steps (f b)

module _ (f : ℕ → ℕ) where
  -- the last step apart, and not the first
  pub iterate-last : (steps b : ℕ) → iterate f (suc steps) b ≡ f (iterate f steps b)
  unfolding iterate
  iterate-last zero b = refl
  iterate-last (suc steps) b = iterate-last steps (f b)

  pub iterate-add : (more steps b : ℕ) → iterate f (steps + more) b ≡ iterate f more (iterate f steps b)
  unfolding iterate
  iterate-add more zero b = rw (zero-add more)
  iterate-add more (suc steps) b = rw (suc-add steps more) (iterate-add more steps (f b))

  pub length-iterates : (count b : ℕ) → length (iterates f count b) ≡ count
  unfolding iterates
  length-iterates zero b = refl
  length-iterates (suc count) b = ap suc (length-iterates count (f b))

  pub iterates-at : (count b i : ℕ) → i < count → get_or (iterates f count b) i 0 ≡ iterate f i b
  unfolding iterates iterate
  iterates-at zero b i h = absurd (not-suc-le-zero h)
  iterates-at (suc count) b zero h = refl
  iterates-at (suc count) b (suc i) h = iterates-at count (f b) i (omega arith)

-- g takes back what f did
pub undone : (n : ℕ) (f g : ℕ → ℕ) → OneToOne n f → ((b : ℕ) → DataBlock n b → g (f b) ≡ b) → (steps b : ℕ) → DataBlock n b → iterate g steps (iterate f steps b) ≡ b
unfolding iterate
undone n f g F back zero b h = refl
undone n f g F back (suc steps) b h =
    iterate-last g steps (iterate f steps (f b)) ∙ ap g (undone n f g F back steps (f b) (F.into b h)) ∙ back b h

-- where a map comes back to b
pub record Round (n : ℕ) (f : ℕ → ℕ) (b : ℕ) : Type 0 where
  pub steps : ℕ
  pub some : 1 ≤ steps
  pub few : steps ≤ n
  pub home : iterate f steps b ≡ b

module _ (n : ℕ) (f : ℕ → ℕ) (F : OneToOne n f) where
  pub iterate-in : (steps b : ℕ) → DataBlock n b → DataBlock n (iterate f steps b)
  unfolding iterate
  iterate-in zero b h = h
  iterate-in (suc steps) b h = iterate-in steps (f b) (F.into b h)

  -- where the way meets itself, it does so at its start
  unwind : (i more b : ℕ) → DataBlock n b → iterate f i b ≡ iterate f (i + more) b → b ≡ iterate f more b
  unfolding iterate
  unwind zero more b h e = rw (zero-add more) at e
  unwind (suc i) more b h e =
      let e' : iterate f (suc i) b ≡ iterate f (suc (i + more)) b = rw (suc-add i more) at e in
      unwind i more b h
      (F.same (iterate f i b) (iterate f (i + more) b) (iterate-in i b h) (iterate-in (i + more) b h)
      (sym (iterate-last f i b) ∙ e' ∙ iterate-last f (i + more) b))

  pub round : (b : ℕ) → DataBlock n b → Round n f b
  round b h =
      let t = pigeon n (λ i. iterate f i b - 1) (λ i l. (let at = iterate-in i b h in omega arith)) in
      let more : ℕ = t.two - t.one in
      let one_in = iterate-in t.one b h in
      let two_in = iterate-in t.two b h in
      let met : iterate f t.one b ≡ iterate f t.two b = omega (arith, t.same) in
      let two_is : t.two ≡ t.one + more = omega arith in
      record {
        steps = more;
        some = omega arith;
        few = omega arith;
        home = sym (unwind t.one more b h (met ∙ ap (λ (i : ℕ). iterate f i b) two_is));
      }

  -- n steps meet every block that is ever met
  pub among : (steps b : ℕ) → DataBlock n b → (i : ℕ) × (i < n) × (iterate f steps b ≡ iterate f i b)
  unfolding iterate
  among zero b h = (0, omega arith, refl)
  among (suc steps) b h =
      let r = among steps (f b) (F.into b h) in
      let o = round b h in
      ⊎_elim
      (λ (l : suc r.0 < n). (suc r.0, l, r.2))
      (λ (l : n ≤ suc r.0).
      let at : suc r.0 ≡ o.steps + (n - o.steps) = omega (arith, r.1) in (
        n - o.steps,
        omega arith,
        r.2 ∙ ap (λ (i : ℕ). iterate f i b) at ∙ iterate-add f (n - o.steps) o.steps b ∙ ap (iterate f (n - o.steps)) o.home,
      ))
      (lt-cases (suc r.0) n)

  -- each block that is met leads back to the start
  pub leads-back : (steps b : ℕ) → DataBlock n b → (i : ℕ) × (i < n) × (iterate f i (iterate f steps b) ≡ b)
  unfolding iterate
  leads-back zero b h = (0, omega arith, refl)
  leads-back (suc steps) b h =
      let w : ℕ = iterate f steps (f b) in
      let r = leads-back steps (f b) (F.into b h) in
      let o = round b h in
      let at : suc (o.steps - 1) ≡ o.steps = omega arith in
      let s = among (r.0 + (o.steps - 1)) w (iterate-in steps (f b) (F.into b h)) in (
        s.0,
        s.1,
        sym s.2
            ∙ iterate-add f (o.steps - 1) r.0 w
            ∙ ap (iterate f (o.steps - 1)) r.2
            ∙ ap (λ (i : ℕ). iterate f i b) at
            ∙ o.home,
      )
