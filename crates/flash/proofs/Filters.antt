-- Laws of `filter`, and of counts that are put together.
use Rattle.flash.proofs.Kit.{◌≡◌, refl, ap, ◌∙◌, ⊎_elim, Bool, true, false, ◌&&◌, ◌||◌, not, List, [], ◌∷◌, ℕ, zero, suc, ◌+◌, ◌-◌, ◌≤◌, ◌<◌}
use Rattle.flash.proofs.Kit.{not-suc-le-zero, arith, length, get_or}
use Rattle.flash.specs.Lists.{range, all, any, count, filter, first}
use Rattle.flash.proofs.Bools.{bool_cases, and_left, and_right}

module _ {A : Type 0} (test : A → Bool) where
  pub length-filter : (xs : List A) → length (filter test xs) ≡ count test xs
  unfolding filter count
  length-filter [] = refl
  length-filter (x ∷ xs) = ⊎_elim
      (λ (e : test x ≡ true). rw e (ap suc (length-filter xs)))
      (λ (e : test x ≡ false). rw e (length-filter xs))
      (bool_cases (test x))

  pub filter_passes : (xs : List A) (i : ℕ) (d : A) → i < length (filter test xs) → test (get_or (filter test xs) i d) ≡ true
  unfolding filter
  filter_passes [] i d h = absurd (not-suc-le-zero h)
  filter_passes (x ∷ xs) zero d h = ⊎_elim
      (λ (e : test x ≡ true). rw (e, e))
      (λ (e : test x ≡ false). rw e (filter_passes xs 0 d (rw e at h)))
      (bool_cases (test x))
  filter_passes (x ∷ xs) (suc i) d h = ⊎_elim
      (λ (e : test x ≡ true). let l : suc i < suc (length (filter test xs)) = rw e at h in rw e (filter_passes xs i d (omega arith)))
      (λ (e : test x ≡ false). rw e (filter_passes xs (suc i) d (rw e at h)))
      (bool_cases (test x))

  pub filter-all : (xs : List A) → all test xs ≡ true → filter test xs ≡ xs
  unfolding filter all
  filter-all [] e = refl
  filter-all (x ∷ xs) e = rw (and_left (test x) (all test xs) e) (ap (λ (t : List A). x ∷ t) (filter-all xs (and_right (test x) (all test xs) e)))

  pub any-filter : (other : A → Bool) (xs : List A) → any other (filter test xs) ≡ any (λ x. test x && other x) xs
  unfolding filter any
  any-filter other [] = refl
  any-filter other (x ∷ xs) = ⊎_elim
      (λ (e : test x ≡ true). rw e (ap (λ (t : Bool). other x || t) (any-filter other xs)))
      (λ (e : test x ≡ false). rw e (any-filter other xs))
      (bool_cases (test x))

  pub count-not : (xs : List A) → count (λ x. not (test x)) xs + count test xs ≡ length xs
  unfolding count
  count-not [] = refl
  count-not (x ∷ xs) = ⊎_elim
      (λ (e : test x ≡ true). rw e (omega (arith, count-not xs)))
      (λ (e : test x ≡ false). rw e (omega (arith, count-not xs)))
      (bool_cases (test x))

  -- two tests of which no element passes both
  pub count-or : (other : A → Bool) (xs : List A) → ((x : A) → test x ≡ true → other x ≡ false)
      → count (λ x. test x || other x) xs ≡ count test xs + count other xs
  unfolding count
  count-or other [] apart = refl
  count-or other (x ∷ xs) apart = ⊎_elim
      (λ (e : test x ≡ true). rw (e, apart x e) (omega (arith, count-or other xs apart)))
      (λ (e : test x ≡ false). rw e (⊎_elim
      (λ (f : other x ≡ true). rw f (omega (arith, count-or other xs apart)))
      (λ (f : other x ≡ false). rw f (count-or other xs apart))
      (bool_cases (other x))))
      (bool_cases (test x))

-- the numbers of a range that pass
module _ (test : ℕ → Bool) where
  pub filter-in : (start size i : ℕ) → i < length (filter test (range start size))
      → (start ≤ get_or (filter test (range start size)) i 0) × (get_or (filter test (range start size)) i 0 < start + size)
  unfolding filter range
  filter-in start zero i h = absurd (not-suc-le-zero h)
  filter-in start (suc size) zero h = ⊎_elim
      (λ (e : test start ≡ true). rw e (omega arith, omega arith))
      (λ (e : test start ≡ false). rw e (let r = filter-in (suc start) size 0 (rw e at h) in (omega (arith, r.0), omega (arith, r.1))))
      (bool_cases (test start))
  filter-in start (suc size) (suc i) h = ⊎_elim
      (λ (e : test start ≡ true).
      let l : suc i < suc (length (filter test (range (suc start) size))) = rw e at h in
      rw e (let r = filter-in (suc start) size i (omega arith) in (omega (arith, r.0), omega (arith, r.1))))
      (λ (e : test start ≡ false). rw e (let r = filter-in (suc start) size (suc i) (rw e at h) in (omega (arith, r.0), omega (arith, r.1))))
      (bool_cases (test start))

  pub filter-ascends : (start size i j : ℕ) → i < j → j < length (filter test (range start size))
      → get_or (filter test (range start size)) i 0 < get_or (filter test (range start size)) j 0
  unfolding filter range
  filter-ascends start zero i j o h = absurd (not-suc-le-zero h)
  filter-ascends start (suc size) i zero o h = absurd (not-suc-le-zero o)
  filter-ascends start (suc size) zero (suc j) o h = ⊎_elim
      (λ (e : test start ≡ true).
      let l : suc j < suc (length (filter test (range (suc start) size))) = rw e at h in
      rw e (let r = filter-in (suc start) size j (omega arith) in omega (arith, r.0)))
      (λ (e : test start ≡ false). rw e (filter-ascends (suc start) size 0 (suc j) o (rw e at h)))
      (bool_cases (test start))
  filter-ascends start (suc size) (suc i) (suc j) o h = ⊎_elim
      (λ (e : test start ≡ true).
      let l : suc j < suc (length (filter test (range (suc start) size))) = rw e at h in
      rw e (filter-ascends (suc start) size i j (omega arith) (omega arith)))
      (λ (e : test start ≡ false). rw e (filter-ascends (suc start) size (suc i) (suc j) o (rw e at h)))
      (bool_cases (test start))

  -- the first of them, and those behind it
  pub filter-next : (start size more otherwise : ℕ) → size ≤ more → 0 < length (filter test (range start size))
      → (let next = first test (range start more) otherwise in
      (start ≤ next) × (next < start + size) × (filter test (range start size) ≡ next ∷ filter test (range (suc next) ((start + size) - suc next))))
  unfolding filter range first
  filter-next start zero more otherwise l h = absurd (not-suc-le-zero h)
  filter-next start (suc size) zero otherwise l h = absurd (not-suc-le-zero l)
  filter-next start (suc size) (suc more) otherwise l h = ⊎_elim
      (λ (e : test start ≡ true).
      let rest : size ≡ (start + suc size) - suc start = omega arith in
      rw e (omega arith, omega arith, ap (λ (k : ℕ). start ∷ filter test (range (suc start) k)) rest))
      (λ (e : test start ≡ false).
      let r = filter-next (suc start) size more otherwise (omega arith) (rw e at h) in
      let next = first test (range (suc start) more) otherwise in
      let rest : (suc start + size) - suc next ≡ (start + suc size) - suc next = omega arith in
      rw e (omega (arith, r.0), omega (arith, r.1), r.2 ∙ ap (λ (k : ℕ). next ∷ filter test (range (suc next) k)) rest))
      (bool_cases (test start))

  pub filter_same : (other : ℕ → Bool) (start size : ℕ) → ((i : ℕ) → start ≤ i → i < start + size → test i ≡ other i)
      → filter test (range start size) ≡ filter other (range start size)
  unfolding filter range
  filter_same other start zero e = refl
  filter_same other start (suc size) e =
      rw (e start (omega arith) (omega arith), filter_same other (suc start) size (λ i l h. e i (omega arith) (omega arith)))
