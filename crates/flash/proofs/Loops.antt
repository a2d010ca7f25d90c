-- What one turn of a loop over bytes does.
use Rattle.flash.proofs.Kit.{[], ◌≡◌, sym, ap, ◌∙◌, ◌≢◌, ⊎_elim, Bool, false, cond, ◌&&◌, ◌||◌, and-true, or-false, List, ◌∷◌, ◌++◌, ℕ, suc, ◌+◌, ◌≤◌, ◌<◌}
use Rattle.flash.proofs.Kit.{add-one, arith, bit_and, bit_or, bit_xor, or_add_and, or_lt, or_zero_l, or_zero_r, and_le_l, and_le_r, xor_self, eqb, ltb, length}
use Rattle.flash.proofs.Kit.{get_or, set, take, drop, take-suc, drop-cons, append_snoc, get_or_at, length-take-le, drop-set-lt, drop-drop}
use Rattle.flash.proofs.Kit.{eqb-true, eq-eqb, ne_eqb, ltb-true, lt-ltb, le-ltb, ◌^◌, set_at, append_assoc, append-nil, take_at, drop_at, take-add, take_all, drop_of_length-le}
use Rattle.flash.specs.Lists.{all, any}
use Rattle.flash.proofs.Bools.{bool_eq, both, and_both}
use Rattle.flash.proofs.Comparisons.{eq-cases, lt-cases}
use Rattle.flash.proofs.Searches.{all_append, any_append}
use Rattle.flash.proofs.Xor.{xor-zero-eq}

-- one more element written behind a front that lies over an area
pub over-more : (front area : List ℕ) (i v : ℕ) → length front ≡ i → i < length area
    → set (front ++ drop i area) i v ≡ (front ++ (v ∷ [])) ++ drop (i + 1) area
over-more front area i v e l = rw (add-one i, append_snoc, drop-cons area i 0 l) (set_at front (get_or area i 0) (drop (suc i) area) v i e)

-- A loop that makes a list `old` into a list `new` of its length, one element a turn: after i turns it is `take i new ++ drop i old`.
module _ (new old : List ℕ) (i : ℕ) (e : length new ≡ length old) (l : i < length old) where
  pub front_at : get_or (take i new ++ drop i old) i 0 ≡ get_or old i 0
  front_at = rw (drop-cons old i 0 l) (get_or_at (take i new) (get_or old i 0) (drop (suc i) old) 0 i (length-take-le i new (omega arith)))

  pub front-more : set (take i new ++ drop i old) i (get_or new i 0) ≡ take (i + 1) new ++ drop (i + 1) old
  front-more = over-more (take i new) old i (get_or new i 0) (length-take-le i new (omega arith)) l ∙ rw (add-one i, take-suc new i 0 (omega arith))

pub front-all : (new old : List ℕ) (i : ℕ) → length new ≡ length old → length old ≤ i → take i new ++ drop i old ≡ new
front-all new old i e l = rw (take_all i new (omega arith), drop_of_length-le old {i = i} l, append-nil)

-- The same, a piece of n elements a turn: what stands at the piece, and the list once the piece is put there.
module _ (new old area : List ℕ) (i n : ℕ) (e : length new ≡ length old) (l : i ≤ length old) (is : area ≡ take i new ++ drop i old) where
  from : drop i area ≡ drop i old
  from = rw is (drop_at (take i new) (drop i old) i (length-take-le i new (omega arith)))

  pub piece-at : take n (drop i area) ≡ take n (drop i old)
  piece-at = rw from

  pub piece-put : take i area ++ (take n (drop i new) ++ drop n (drop i area)) ≡ take (i + n) new ++ drop (i + n) old
  piece-put =
      rw (from, is, take_at (take i new) (drop i old) i (length-take-le i new (omega arith)), take-add i n new, append_assoc, drop-drop)

-- what lies behind the element that is written stays
pub rest_more : (area old : List ℕ) (i value : ℕ) → drop i area ≡ drop i old → drop (i + 1) (set area i value) ≡ drop (i + 1) old
rest_more area old i value e = drop-set-lt (i + 1) area i value (omega arith) ∙ sym (drop-drop 1 i area) ∙ ap (drop 1) e ∙ drop-drop 1 i old

-- A loop that gathers whether a test holds of each element.
pub all_more : (test : ℕ → Bool) (xs : List ℕ) (i : ℕ) → i < length xs → all test (take (i + 1) xs) ≡ (all test (take i xs) && test (get_or xs i 0))
unfolding all
all_more test xs i h = rw (add-one i, take-suc xs i 0, all_append test (take i xs), and-true)

-- A loop that gathers whether it holds of some element.
pub any-more : (test : ℕ → Bool) (xs : List ℕ) (i : ℕ) → i < length xs → any test (take (i + 1) xs) ≡ (any test (take i xs) || test (get_or xs i 0))
unfolding any
any-more test xs i h = rw (add-one i, take-suc xs i 0, any_append test (take i xs), or-false)

-- A loop that gathers the bits of bytes: they are below a power of two while each byte is.
or-below : (k limit a b : ℕ) → limit ≡ 2 ^ k → ltb (bit_or a b) limit ≡ (ltb a limit && ltb b limit)
or-below k limit a b e =
    bool_eq _ _
    (λ q.
    let small : bit_or a b < limit = ltb-true (bit_or a b) limit q in
    let sum = or_add_and a b in
    and_both _ _ (lt-ltb a limit (omega (arith, and_le_r a b))) (lt-ltb b limit (omega (arith, and_le_l a b))))
    (λ q.
    let h = both _ _ q in
    lt-ltb (bit_or a b) limit (rw e (or_lt k a b (rw e at (ltb-true a limit h.0)) (rw e at (ltb-true b limit h.1)))))

pub bits-more : (k limit : ℕ) (bytes : List ℕ) (bits i : ℕ) → limit ≡ 2 ^ k → i < length bytes
    → ltb bits limit ≡ all (λ byte. ltb byte limit) (take i bytes)
    → ltb (bit_or bits (get_or bytes i 0)) limit ≡ all (λ byte. ltb byte limit) (take (i + 1) bytes)
bits-more k limit bytes bits i e h f =
    or-below k limit bits (get_or bytes i 0) e ∙ rw f (sym (all_more (λ byte. ltb byte limit) bytes i h))

-- A loop that gathers the bits in which bytes differ from a value: they are none while each byte is that value.
or-none : (a b : ℕ) → eqb (bit_or a b) 0 ≡ (eqb a 0 && eqb b 0)
or-none a b =
    bool_eq _ _
    (λ e.
    let none = eqb-true (bit_or a b) 0 e in
    let sum = or_add_and a b in
    and_both _ _ (eq-eqb a 0 (omega (arith, and_le_r a b))) (eq-eqb b 0 (omega (arith, and_le_l a b))))
    (λ e. let h = both _ _ e in rw (eqb-true a 0 h.0, eqb-true b 0 h.1))

xor-none : (a b : ℕ) → eqb (bit_xor a b) 0 ≡ eqb a b
xor-none a b =
    bool_eq _ _
    (λ e. eq-eqb a b (xor-zero-eq a b (eqb-true _ _ e)))
    (λ e. eq-eqb (bit_xor a b) 0 (rw (eqb-true a b e) (xor_self b)))

pub filled_more : (part : List ℕ) (value different i : ℕ) → i < length part
    → eqb different 0 ≡ all (λ byte. eqb byte value) (take i part)
    → eqb (bit_or different (bit_xor (get_or part i 0) value)) 0 ≡ all (λ byte. eqb byte value) (take (i + 1) part)
filled_more part value different i h e =
    or-none different (bit_xor (get_or part i 0) value)
    ∙ rw (e, xor-none (get_or part i 0) value) (sym (all_more (λ byte. eqb byte value) part i h))

-- A loop that gathers the bits that all bytes have: these are 8 while each byte is 255.
and-erased : (a b : ℕ) → a < 256 → b < 256 → eqb (bit_and a b) 255 ≡ (eqb a 255 && eqb b 255)
and-erased a b p q =
    bool_eq _ _
    (λ e.
    let all = eqb-true (bit_and a b) 255 e in
    and_both _ _ (eq-eqb a 255 (omega (arith, and_le_l a b))) (eq-eqb b 255 (omega (arith, and_le_r a b))))
    (λ e. let h = both _ _ e in rw (eqb-true a 255 h.0, eqb-true b 255 h.1))

pub erased-more : (part : List ℕ) (common i : ℕ) → i < length part → common < 256 → get_or part i 0 < 256
    → eqb common 255 ≡ all (λ byte. eqb byte 255) (take i part)
    → eqb (bit_and common (get_or part i 0)) 255 ≡ all (λ byte. eqb byte 255) (take (i + 1) part)
erased-more part common i h p q e =
    and-erased common (get_or part i 0) p q ∙ rw e (sym (all_more (λ byte. eqb byte 255) part i h))

-- A loop that gathers the positions of a value as bits: there is none before the one position is met, and that one after.
pub record Placed (bytes : List ℕ) (value found i : ℕ) : Type 0 where
  pub told : (at : ℕ) → at < length bytes → get_or bytes at 0 ≡ value → ((j : ℕ) → j < length bytes → get_or bytes j 0 ≡ value → j ≡ at)
      → found ≡ cond (ltb at i) at 0

pub placed-none : (bytes : List ℕ) (value : ℕ) → Placed bytes value 0 0
placed-none bytes value = record { told = λ at h e only. rw (le-ltb at 0 (omega arith)) }

pub placed-more : (bytes : List ℕ) (value found i number : ℕ) → i < length bytes → number ≡ i → Placed bytes value found i
    → Placed bytes value (bit_or found (cond (eqb (get_or bytes i 0) value) number 0)) (i + 1)
placed-more bytes value found i number h is P = record {
  told = λ at l e only. ⊎_elim
      (λ (q : at ≡ i). here at l e only q)
      (λ (q : at ≢ i).
      let other : eqb (get_or bytes i 0) value ≡ false = ne_eqb _ _ (λ w. q (sym (only i h w))) in
      rw other (or_zero_r found ∙ P.told at l e only ∙ ap (λ (t : Bool). cond t at 0) (past at q)))
      (eq-cases at i);
}
  where
    past : (at : ℕ) → at ≢ i → ltb at i ≡ ltb at (i + 1)
    past at q = ⊎_elim
        (λ (l : at < i). lt-ltb at i l ∙ sym (lt-ltb at (i + 1) (omega arith)))
        (λ (l : i ≤ at). le-ltb at i l ∙ sym (le-ltb at (i + 1) (omega arith)))
        (lt-cases at i)

    here : (at : ℕ) → at < length bytes → get_or bytes at 0 ≡ value → ((j : ℕ) → j < length bytes → get_or bytes j 0 ≡ value → j ≡ at) → at ≡ i
        → bit_or found (cond (eqb (get_or bytes i 0) value) number 0) ≡ cond (ltb at (i + 1)) at 0
    here at l e only q =
        let none : found ≡ 0 = P.told at l e only ∙ rw (le-ltb at i (omega arith)) in
        rw (none, eq-eqb (get_or bytes i 0) value (rw (← q) e), lt-ltb at (i + 1) (omega arith)) (or_zero_l number ∙ is ∙ sym q)
