-- A sum taken four pages a pass: what a pass makes of a page, and what is left to sum after it.
use Rattle.flash.proofs.Kit.{◌≡◌, ◌≢◌, refl, sym, ap, ◌∙◌, ⊎_elim, Bool, true, false, cond, List, [], ◌∷◌, ◌++◌, map, ℕ, suc, ◌+◌, ◌-◌}
use Rattle.flash.proofs.Kit.{◌*◌, ◌≤◌, ◌<◌, not-suc-le-zero, zero-add, arith, bit_xor, length, get_or, take, drop, length-map, length-take, length-drop, get_or-take}
use Rattle.flash.proofs.Kit.{get_or-drop, take-add, take_all, le-ltb, ext_get_or, List·getD-eq-default, List·getD-map}
use Rattle.flash.specs.Lists.{part, range, set_part}
use Rattle.flash.specs.PageSum.{◌⊕◌, sum, written_bytes}
use Rattle.flash.specs.declared.slots.Terms.{Terms}
use Rattle.flash.specs.inner.Terms.{slot_at, terms_of, EachTerm, byte_sum, sum_at, sum_of, passed}
use Rattle.flash.proofs.Blocks.{get_d_any}
use Rattle.flash.proofs.Comparisons.{lt-cases}
use Rattle.flash.proofs.Loops.{piece-at, piece-put}
use Rattle.flash.proofs.Parts.{length_part, part_at, part-set_part-other, drop-take}
use Rattle.flash.proofs.Ranges.{length-range, range_at}
use Rattle.flash.proofs.Sums.{⊕-at, ⊕-nil, take-⊕, drop-⊕, length-⊕, length-sum, sum-append}
use Rattle.flash.proofs.Written.{written-part}
use Rattle.flash.proofs.Xor.{xor_assoc}

-- what holds of each slot of a list holds of the slot that stands for a missing one
at_each : (P : ℕ → Type 0) (slots : List ℕ) (at : ℕ) → 1 ≤ length slots → ((j : ℕ) → j < length slots → P (get_or slots j 0)) → P (slot_at slots at)
at_each P slots at some each =
    ⊎_elim
    (λ (h : at < length slots). rw (← get_d_any slots at 0 (get_or slots 0 0) h) (each at h))
    (λ (h : length slots ≤ at). rw (List·getD-eq-default slots (get_or slots 0 0) h) (each 0 some))
    (lt-cases at (length slots))

pub each-term : (P : ℕ → Type 0) (slots : List ℕ) (terms : Terms) → 1 ≤ length slots → ((j : ℕ) → j < length slots → P (get_or slots j 0))
    → terms ≡ terms_of slots → EachTerm P terms
each-term P slots terms some each e =
    let holds : (at : ℕ) → P (slot_at slots at) = λ at. at_each P slots at some each in
    rw e (record { first = holds 0; second = holds 1; third = holds 2; fourth = holds 3 })

-- byte i of the sum of the first four pages, or of as many as there are
four-at : (page : ℕ → List ℕ) (i : ℕ) (slots : List ℕ) → 1 ≤ length slots
    → byte_sum (length slots) (get_or (page (slot_at slots 0)) i 0) (get_or (page (slot_at slots 1)) i 0) (get_or (page (slot_at slots 2)) i 0)
    (get_or (page (slot_at slots 3)) i 0)
    ≡ get_or (sum page (take 4 slots)) i 0
unfolding sum
four-at page i [] h = absurd (not-suc-le-zero h)
four-at page i (x ∷ []) h = rw ⊕-nil
four-at page i (x ∷ y ∷ []) h = rw (⊕-nil, ⊕-at)
four-at page i (x ∷ y ∷ z ∷ []) h = rw (⊕-nil, ⊕-at, ⊕-at, xor_assoc)
four-at page i (x ∷ y ∷ z ∷ w ∷ ws) h =
    let n : ℕ = suc (suc (suc (suc (length ws)))) in
    rw (le-ltb n 2 (omega arith), le-ltb n 3 (omega arith), le-ltb n 4 (omega arith), ⊕-nil, ⊕-at, ⊕-at, ⊕-at, xor_assoc, xor_assoc)

-- a page with a sum of its length added or not
pub length-summed : (add : Bool) (page sum : List ℕ) → length sum ≡ length page → length (cond add page [] ⊕ sum) ≡ length page
length-summed true page sum e = omega (arith, length-⊕ page sum)
length-summed false page sum e = omega (arith, length-⊕ [] sum)

module _ (store : List ℕ) (p : ℕ) (terms : Terms) where
  pub length-sum_of : length (sum_of store p terms) ≡ p
  unfolding sum_of
  length-sum_of = length-map (range 0 p) (λ i. sum_at store p terms i) ∙ length-range 0 p

  pub sum_of-at : (i : ℕ) → i < p → get_or (sum_of store p terms) i 0 ≡ sum_at store p terms i
  unfolding sum_of
  sum_of-at i h =
      let f : ℕ → ℕ = λ k. sum_at store p terms k in
      get_d_any (map f (range 0 p)) i 0 (f 0) (omega (arith, length-map (range 0 p) f, length-range 0 p))
      ∙ List·getD-map f (range 0 p) i 0
      ∙ ap f (range_at 0 p i 0 h ∙ zero-add i)

  pub length-passed : (add : Bool) (page : List ℕ) → length page ≡ p → length (passed store p terms add page) ≡ length page
  length-passed add page whole = length-summed add page (sum_of store p terms) (length-sum_of ∙ sym whole)

-- the sum of the terms of a list of slots is that of the pages of the first four
pub sum-of-four : (store : List ℕ) (p : ℕ) (slots : List ℕ) (terms : Terms) → 1 ≤ length slots
    → ((j : ℕ) → j < length slots → get_or slots j 0 * p + p ≤ length store)
    → terms ≡ terms_of slots
    → sum_of store p terms ≡ sum (λ t. part p t store) (take 4 slots)
sum-of-four store p slots terms some each e =
    let pages : ℕ → List ℕ = λ t. part p t store in
    let count = length-take 4 slots in
    let size = length-sum pages p (take 4 slots)
    (λ j h. rw (get_or-take 4 slots j 0 (omega arith)) (length_part p (get_or slots j 0) store (each j (omega arith)))) (omega arith) in
    ext_get_or 0 _ _ (length-sum_of store p terms ∙ sym size)
    (λ i h.
    let inside : i < p = omega (arith, length-sum_of store p terms) in
    let at : (slot : ℕ) → get_or store (slot * p + i) 0 ≡ get_or (pages slot) i 0 = λ slot. sym (part_at p slot store i 0 inside) in
    sum_of-at store p terms i inside
    ∙ rw (e, at (slot_at slots 0), at (slot_at slots 1), at (slot_at slots 2), at (slot_at slots 3)) (four-at pages i slots some))

-- the terms' pages stay whatever stands in a slot that is none of theirs
pub sum_of-kept : (p to : ℕ) (store new now : List ℕ) (terms : Terms) → to * p + p ≤ length store → length new ≡ p → now ≡ set_part p to store new
    → EachTerm (λ t. t ≢ to) terms → sum_of now p terms ≡ sum_of store p terms
sum_of-kept p to store new now terms fits whole e apart =
    ext_get_or 0 _ _ (length-sum_of now p terms ∙ sym (length-sum_of store p terms))
    (λ i h.
    let inside : i < p = omega (arith, length-sum_of now p terms) in
    let same : (t : ℕ) → t ≢ to → get_or now (t * p + i) 0 ≡ get_or store (t * p + i) 0 = λ t other.
    sym (part_at p t now i 0 inside)
    ∙ ap (λ (page : List ℕ). get_or page i 0) (ap (part p t) e ∙ part-set_part-other p to store new fits whole t other)
    ∙ part_at p t store i 0 inside in
    sum_of-at now p terms i inside
    ∙ rw (same terms.one apart.first, same terms.two apart.second, same terms.three apart.third, same terms.four apart.fourth)
    (sym (sum_of-at store p terms i inside)))

-- a piece of what a pass makes, and all from an index on
pub passed-piece : (add : Bool) (page sum : List ℕ) (i n : ℕ)
    → take n (drop i (cond add page [] ⊕ sum)) ≡ cond add (take n (drop i page)) [] ⊕ take n (drop i sum)
unfolding ◌⊕◌
passed-piece true page sum i n = rw (drop-⊕ i page sum, take-⊕ n (drop i page) (drop i sum))
passed-piece false page sum i n = refl

pub passed-rest : (add : Bool) (page sum : List ℕ) (i : ℕ) → drop i (cond add page [] ⊕ sum) ≡ cond add (drop i page) [] ⊕ drop i sum
unfolding ◌⊕◌
passed-rest true page sum i = drop-⊕ i page sum
passed-rest false page sum i = refl

-- a byte of it, from the bytes that are read in one turn
pub passed-at : (add : Bool) (page sum : List ℕ) (i old added byte : ℕ) → old ≡ get_or page i 0 → added ≡ get_or sum i 0 → byte ≡ bit_xor (cond add old 0) added
    → byte ≡ get_or (cond add page [] ⊕ sum) i 0
passed-at true page sum i old added byte e f g = g ∙ rw (e, f, ⊕-at)
passed-at false page sum i old added byte e f g = g ∙ rw (f, ⊕-at)

-- A pass that makes a page piece by piece: the piece of n bytes from i on, the page with it, and what is counted by then.
pub record Made (add : Bool) (page sum area piece : List ℕ) (i n : ℕ) : Type 0 where
  pub put : take i area ++ (piece ++ drop n (drop i area)) ≡ take (i + n) (cond add page [] ⊕ sum) ++ drop (i + n) page
  pub counted : written_bytes (take i (cond add page [] ⊕ sum)) + written_bytes piece ≡ written_bytes (take (i + n) (cond add page [] ⊕ sum))

pub made : (add : Bool) (page sum area piece : List ℕ) (i n : ℕ) → length sum ≡ length page → i + n ≤ length page
    → area ≡ take i (cond add page [] ⊕ sum) ++ drop i page
    → piece ≡ cond add (take n (drop i area)) [] ⊕ take n (drop i sum)
    → Made add page sum area piece i n
made add page sum area piece i n e h is f =
    let new : List ℕ = cond add page [] ⊕ sum in
    let size : length new ≡ length page = length-summed add page sum e in
    let piece_is : piece ≡ take n (drop i new) = f
    ∙ ap (λ (old : List ℕ). cond add old [] ⊕ take n (drop i sum)) (piece-at new page area i n size (omega arith) is)
    ∙ sym (passed-piece add page sum i n) in
    let n-is : i + n - i ≡ n = omega arith in
    record {
      put = rw piece_is (piece-put new page area i n size (omega arith) is);
      counted = rw piece_is (rw n-is at (written-part new i (i + n) (omega arith)));
    }

-- the count of a page whose bytes from i on are counted last
pub rest-counted : (new page : List ℕ) (i p written rest : ℕ) → page ≡ new → length new ≡ p → i ≤ p → written ≡ written_bytes (take i new)
    → rest ≡ written_bytes (take (p - i) (drop i page))
    → written + rest ≡ written_bytes new
rest-counted new page i p written rest is size h e f =
    rw (e, f, is) (written-part new i p h ∙ ap written_bytes (take_all p new (omega arith)))

-- what holds of each element of a list holds of those from i on
rest-each : (P : ℕ → Type 0) (i : ℕ) (xs : List ℕ) → ((j : ℕ) → j < length xs → P (get_or xs j 0))
    → (j : ℕ) → j < length (drop i xs) → P (get_or (drop i xs) j 0)
rest-each P i xs each j h = rw get_or-drop (each (i + j) (omega (arith, length-drop i xs)))

-- A pass over the slots from i on: what holds of its terms, and the sum with theirs.
module _ (p : ℕ) (slots : List ℕ) (i : ℕ) (terms : Terms) (more : i < length slots) (is : terms ≡ terms_of (take (length slots - i) (drop i slots))) where
  e : terms ≡ terms_of (drop i slots)
  e = is ∙ ap terms_of (take_all (length slots - i) (drop i slots) (omega (arith, length-drop i slots)))

  some : 1 ≤ length (drop i slots)
  some = simp length-drop (omega arith)

  pub pass-terms : (P : ℕ → Type 0) → ((j : ℕ) → j < length slots → P (get_or slots j 0)) → EachTerm P terms
  pass-terms P each = each-term P (drop i slots) terms some (rest-each P i slots each) e

  pub pass-more : (store : List ℕ) → ((j : ℕ) → j < length slots → get_or slots j 0 * p + p ≤ length store)
      → sum (λ t. part p t store) (take i slots) ⊕ sum_of store p terms ≡ sum (λ t. part p t store) (take (i + 4) slots)
  pass-more store each =
      let pages : ℕ → List ℕ = λ t. part p t store in
      let fit = rest-each (λ t. t * p + p ≤ length store) i slots each in
      rw (sum-of-four store p (drop i slots) terms some fit e, take-add i 4 slots) (sym (sum-append pages (take i slots) (take 4 (drop i slots))))
