-- Lists of slots without repeats, the slots of either list but not of both, and sums over them byte by byte.
use Rattle.flash.proofs.Kit.{◌≡◌, refl, sym, ap, ap₂, ◌∙◌, ⊎_elim, ◌≢◌, Bool, true, false, cond, ◌&&◌, ◌||◌, not, List, [], ◌∷◌, ◌++◌, map, ℕ, suc, ◌<◌}
use Rattle.flash.proofs.Kit.{append-nil, arith, eqb, eqb-true, eq-eqb, ne_eqb, length, get_or, bit_xor, xor_comm, xor_self, xor_zero_l, xor_zero_r, and-false}
use Rattle.flash.specs.Lists.{any, filter}
use Rattle.flash.specs.PageSum.{sum}
use Rattle.flash.proofs.Bools.{bool_cases, never_both, fails}
use Rattle.flash.proofs.Comparisons.{eqb_swap}
use Rattle.flash.proofs.Searches.{any_append, none_of, none-at}
use Rattle.flash.proofs.Sums.{⊕-at}
use Rattle.flash.proofs.Xor.{xor_assoc}
use Rattle.split.proofs.OneToOneLaws.{Distinct}
use Rattle.method.specs.Rebuild.{apart, added}
use Rattle.method.proofs.basics.EachNumber.{distinct_cons}

-- ---- which slots a list has
abbrev pub has : (t : ℕ) → List ℕ → Bool
has t slots = any (eqb t) slots

pub fresh : (t : ℕ) (ts : List ℕ) → Distinct (t ∷ ts) → has t ts ≡ false
fresh t ts d = none_of (eqb t) ts 0 (λ i h. ne_eqb t (get_or ts i 0) (λ e.
    let z : 0 ≡ suc i = d 0 (suc i) (omega arith) (omega arith) e in
    absurd (omega arith)))

pub later : (t : ℕ) (ts : List ℕ) → Distinct (t ∷ ts) → Distinct ts
later t ts d i j h l e = (let z : suc i ≡ suc j = d (suc i) (suc j) (omega arith) (omega arith) e in omega arith)

has-later : (u t : ℕ) (ts : List ℕ) → has u ts ≡ true → has u (t ∷ ts) ≡ true
unfolding any
has-later u t ts h = ⊎_elim
    (λ (q : eqb u t ≡ true). rw q)
    (λ (q : eqb u t ≡ false). rw q h)
    (bool_cases (eqb u t))

distinct_more : (t : ℕ) (ts : List ℕ) → has t ts ≡ false → Distinct ts → Distinct (t ∷ ts)
distinct_more t ts none d =
    distinct_cons t ts (λ i h e. never_both (eq-eqb t (get_or ts i 0) (sym e)) (none-at (eqb t) ts i 0 none h)) d

-- what holds of each element
has-filter : (test : ℕ → Bool) (t : ℕ) (ts : List ℕ) → has t (filter test ts) ≡ (test t && has t ts)
unfolding filter any
has-filter test t [] = sym (and-false (test t))
has-filter test t (x ∷ xs) = ⊎_elim
    (λ (e : eqb t x ≡ true).
    let q : t ≡ x = eqb-true t x e in
    ⊎_elim
    (λ (f : test x ≡ true). rw (f, e, ap test q ∙ f))
    (λ (f : test x ≡ false). rw (f, ap test q ∙ f) (has-filter test t xs ∙ rw (ap test q ∙ f)))
    (bool_cases (test x)))
    (λ (e : eqb t x ≡ false). ⊎_elim
    (λ (f : test x ≡ true). rw (f, e) (has-filter test t xs))
    (λ (f : test x ≡ false). rw (f, e) (has-filter test t xs))
    (bool_cases (test x)))
    (bool_cases (eqb t x))

-- one of two, but not both
unfoldable pub either : Bool → Bool → Bool
either a b = cond a (not b) b

pub has-apart : (t : ℕ) (one other : List ℕ) → has t (apart one other) ≡ either (has t one) (has t other)
unfolding apart either
has-apart t one other =
    any_append (eqb t) (filter (λ u. not (has u other)) one) (filter (λ u. not (has u one)) other)
    ∙ ap₂ ◌||◌ (has-filter (λ u. not (has u other)) t one) (has-filter (λ u. not (has u one)) t other)
    ∙ table (has t one) (has t other)
  where
    table : (a b : Bool) → ((not b && a) || (not a && b)) ≡ cond a (not b) b
    table true true = refl
    table true false = refl
    table false true = refl
    table false false = refl

filter-distinct : (test : ℕ → Bool) (ts more : List ℕ) → Distinct ts → Distinct more → ((t : ℕ) → has t ts ≡ true → test t ≡ true → has t more ≡ false)
    → Distinct (filter test ts ++ more)
unfolding filter any
filter-distinct test [] more d e f = e
filter-distinct test (t ∷ ts) more d e f =
    let rest = filter-distinct test ts more (later t ts d) e (λ u h p. f u (has-later u t ts h) p) in
    ⊎_elim
    (λ (p : test t ≡ true). rw p (distinct_more t (filter test ts ++ more) (none p) rest))
    (λ (p : test t ≡ false). rw p rest)
    (bool_cases (test t))
  where
    here : has t (t ∷ ts) ≡ true
    here = rw (eq-eqb t t refl)

    none : test t ≡ true → has t (filter test ts ++ more) ≡ false
    none p =
        let front : has t (filter test ts) ≡ false = has-filter test t ts ∙ rw (p, fresh t ts d) in
        any_append (eqb t) (filter test ts) more ∙ rw (front, f t here p)

pub apart_distinct : (one other : List ℕ) → Distinct one → Distinct other → Distinct (apart one other)
unfolding apart any
apart_distinct one other d e =
    filter-distinct (λ t. not (has t other)) one (filter (λ t. not (has t one)) other) d
    (alone (filter-distinct (λ t. not (has t one)) other [] e none (λ t h p. nowhere t)))
    (λ t h p. has-filter (λ u. not (has u one)) t other ∙ rw h)
  where
    none : Distinct []
    none i j h l q = absurd (omega arith)

    nowhere : (t : ℕ) → has t [] ≡ false
    nowhere t = refl

    alone : Distinct (filter (λ t. not (has t one)) other ++ []) → Distinct (filter (λ t. not (has t one)) other)
    alone h = rw append-nil at h

-- ---- sums byte by byte
unfoldable pub mix : (g : ℕ → ℕ) → List ℕ → ℕ
mix g [] = 0
mix g (t ∷ ts) = bit_xor (g t) (mix g ts)

pub sum-byte : (page : ℕ → List ℕ) (i : ℕ) (ts : List ℕ) → get_or (sum page ts) i 0 ≡ mix (λ t. get_or (page t) i 0) ts
unfolding sum mix
sum-byte page i [] = refl
sum-byte page i (t ∷ ts) = ⊕-at (page t) (sum page ts) i ∙ ap (bit_xor (get_or (page t) i 0)) (sum-byte page i ts)

xor-swap : (x a b : ℕ) → bit_xor x (bit_xor a b) ≡ bit_xor a (bit_xor x b)
xor-swap x a b = sym (xor_assoc x a b) ∙ ap (λ (y : ℕ). bit_xor y b) (xor_comm x a) ∙ xor_assoc a x b

module _ (g : ℕ → ℕ) where
  mix-append : (xs ys : List ℕ) → mix g (xs ++ ys) ≡ bit_xor (mix g xs) (mix g ys)
  unfolding mix
  mix-append [] ys = sym (xor_zero_l (mix g ys))
  mix-append (t ∷ ts) ys = ap (bit_xor (g t)) (mix-append ts ys) ∙ sym (xor_assoc (g t) (mix g ts) (mix g ys))

  -- two tests of which no element passes both
  mix-or : (a b : ℕ → Bool) (ts : List ℕ) → ((t : ℕ) → a t ≡ true → b t ≡ false)
      → mix g (filter (λ t. a t || b t) ts) ≡ bit_xor (mix g (filter a ts)) (mix g (filter b ts))
  unfolding mix filter
  mix-or a b [] f = sym (xor_zero_l 0)
  mix-or a b (t ∷ ts) f = ⊎_elim
      (λ (p : a t ≡ true). rw (p, f t p) (ap (bit_xor (g t)) (mix-or a b ts f) ∙ sym (xor_assoc (g t) (mix g (filter a ts)) (mix g (filter b ts)))))
      (λ (p : a t ≡ false). ⊎_elim
      (λ (q : b t ≡ true). rw (p, q) (ap (bit_xor (g t)) (mix-or a b ts f) ∙ xor-swap (g t) (mix g (filter a ts)) (mix g (filter b ts))))
      (λ (q : b t ≡ false). rw (p, q) (mix-or a b ts f))
      (bool_cases (b t)))
      (bool_cases (a t))

  mix-none : (test : ℕ → Bool) (ts : List ℕ) → ((t : ℕ) → has t ts ≡ true → test t ≡ false) → mix g (filter test ts) ≡ 0
  unfolding mix filter any
  mix-none test [] f = refl
  mix-none test (t ∷ ts) f =
      rw (f t (rw (eq-eqb t t refl))) (mix-none test ts (λ u h. f u (has-later u t ts h)))

  -- one element of a list without repeats
  mix-one : (x : ℕ) (ts : List ℕ) → Distinct ts → mix g (filter (λ t. eqb t x) ts) ≡ cond (has x ts) (g x) 0
  unfolding mix filter any
  mix-one x [] d = refl
  mix-one x (t ∷ ts) d = ⊎_elim
      (λ (e : eqb t x ≡ true).
      let is : t ≡ x = eqb-true t x e in
      let back : eqb x t ≡ true = eqb_swap x t ∙ e in
      rw (e, back)
      (ap₂ bit_xor (ap g is) (mix-none (λ u. eqb u x) ts (λ u h. fails (λ q. never_both h (ap (λ (y : ℕ). has y ts) (eqb-true u x q ∙ sym is) ∙ fresh t ts d))))
      ∙ xor_zero_r (g x)))
      (λ (e : eqb t x ≡ false).
      let back : eqb x t ≡ false = eqb_swap x t ∙ e in
      rw (e, back) (mix-one x ts (later t ts d)))
      (bool_cases (eqb t x))

  -- all others add nothing
  pub mix-alone : (x : ℕ) (ts : List ℕ) → Distinct ts → ((t : ℕ) → has t ts ≡ true → t ≢ x → g t ≡ 0) → mix g ts ≡ cond (has x ts) (g x) 0
  unfolding mix any
  mix-alone x [] d f = refl
  mix-alone x (t ∷ ts) d f =
      let rest : mix g ts ≡ cond (has x ts) (g x) 0 = mix-alone x ts (later t ts d) (λ u h ne. f u (has-later u t ts h) ne) in
      ⊎_elim
      (λ (e : eqb x t ≡ true).
      let is : x ≡ t = eqb-true x t e in
      rw e (ap₂ bit_xor (ap g (sym is)) (rest ∙ ap (λ (b : Bool). cond b (g x) 0) (ap (λ (y : ℕ). has y ts) is ∙ fresh t ts d)) ∙ xor_zero_r (g x)))
      (λ (e : eqb x t ≡ false).
      rw e (ap₂ bit_xor (f t (rw (eq-eqb t t refl)) (λ q. never_both (eq-eqb x t (sym q)) e)) rest ∙ xor_zero_l (cond (has x ts) (g x) 0)))
      (bool_cases (eqb x t))

  -- what two lists have in common
  mix-common : (one other : List ℕ) → Distinct one → Distinct other → mix g (filter (λ t. has t other) one) ≡ mix g (filter (λ t. has t one) other)
  unfolding any filter mix
  mix-common [] other d e = refl-nil ∙ sym (mix-none (λ t. false) other (λ t h. refl))
    where
      refl-nil : mix g (filter (λ t. has t other) []) ≡ 0
      refl-nil = refl
  mix-common (x ∷ xs) other d e =
      front
      ∙ sym (mix-or (λ t. eqb t x) (λ t. has t xs) other (λ t q. ap (λ (y : ℕ). has y xs) (eqb-true t x q) ∙ fresh x xs d)
      ∙ ap₂ bit_xor (mix-one x other e) (sym (mix-common xs other (later x xs d) e)))
    where
      front : mix g (filter (λ t. has t other) (x ∷ xs)) ≡ bit_xor (cond (has x other) (g x) 0) (mix g (filter (λ t. has t other) xs))
      front = ⊎_elim
          (λ (q : has x other ≡ true). rw q)
          (λ (q : has x other ≡ false). rw q (sym (xor_zero_l (mix g (filter (λ t. has t other) xs)))))
          (bool_cases (has x other))

  -- a test parts a sum
  mix-parts : (test : ℕ → Bool) (ts : List ℕ) → mix g ts ≡ bit_xor (mix g (filter test ts)) (mix g (filter (λ t. not (test t)) ts))
  unfolding mix filter
  mix-parts test [] = sym (xor_zero_l 0)
  mix-parts test (t ∷ ts) = ⊎_elim
      (λ (e : test t ≡ true).
      rw e (ap (bit_xor (g t)) (mix-parts test ts) ∙ sym (xor_assoc (g t) (mix g (filter test ts)) (mix g (filter (λ u. not (test u)) ts)))))
      (λ (e : test t ≡ false).
      rw e (ap (bit_xor (g t)) (mix-parts test ts) ∙ xor-swap (g t) (mix g (filter test ts)) (mix g (filter (λ u. not (test u)) ts))))
      (bool_cases (test t))

  -- what both have cancels
  pub mix-apart : (one other : List ℕ) → Distinct one → Distinct other → mix g (apart one other) ≡ bit_xor (mix g one) (mix g other)
  unfolding apart
  mix-apart one other d e =
      mix-append (filter (λ t. not (has t other)) one) (filter (λ t. not (has t one)) other)
      ∙ sym (ap₂ bit_xor (mix-parts (λ t. has t other) one) (mix-parts (λ t. has t one) other)
      ∙ ap (λ (y : ℕ). bit_xor (bit_xor y (mix g (filter (λ t. not (has t other)) one))) (bit_xor (mix g (filter (λ t. has t one) other)) (mix g (filter (λ t. not (has t one)) other))))
      (mix-common one other d e)
      ∙ both (mix g (filter (λ t. has t one) other)) (mix g (filter (λ t. not (has t other)) one)) (mix g (filter (λ t. not (has t one)) other)))
    where
      both : (c a b : ℕ) → bit_xor (bit_xor c a) (bit_xor c b) ≡ bit_xor a b
      both c a b =
          ap (λ (y : ℕ). bit_xor y (bit_xor c b)) (xor_comm c a) ∙ xor_assoc a c (bit_xor c b)
          ∙ ap (bit_xor a) (sym (xor_assoc c c b) ∙ rw (xor_self, xor_zero_l))

-- several sums together
module _ (f : ℕ → List ℕ) (page : ℕ → List ℕ) (i : ℕ) where
  abbrev byte : ℕ → ℕ
  byte t = get_or (page t) i 0

  pub record AddedUp (xs : List ℕ) : Type 0 where
    pub distinct : Distinct (added (map f xs))
    pub bytes : mix byte (added (map f xs)) ≡ get_or (sum (λ x. sum page (f x)) xs) i 0

  pub added-up : (xs : List ℕ) → ((j : ℕ) → j < length xs → Distinct (f (get_or xs j 0))) → AddedUp xs
  unfolding added sum mix
  added-up [] d = record { distinct = λ a b h l q. absurd (omega arith); bytes = refl }
  added-up (x ∷ xs) d =
      let r = added-up xs (λ j h. d (suc j) (omega arith)) in
      let own : Distinct (f x) = d 0 (omega arith) in
      record {
        distinct = apart_distinct (f x) (added (map f xs)) own r.distinct;
        bytes = mix-apart byte (f x) (added (map f xs)) own r.distinct
            ∙ ap₂ bit_xor (sym (sum-byte page i (f x))) r.bytes
            ∙ sym (⊕-at (sum page (f x)) (sum (λ y. sum page (f y)) xs) i);
      }
