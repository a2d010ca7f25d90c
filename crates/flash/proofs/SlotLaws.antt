-- A sum that goes into a slot of the store that its pages lie in.
use Rattle.flash.proofs.Kit.{◌≡◌, ◌≢◌, sym, ap, ◌∙◌, Bool, cond, List, [], ◌++◌, ℕ, ◌+◌, ◌*◌, ◌≤◌, ◌<◌, arith, length, set, take, drop, length-append}
use Rattle.flash.proofs.Kit.{length-take, length-drop, length-take-le, drop-drop, take-append-drop, take_at, drop_at, take-set-le, drop-set-add}
use Rattle.flash.proofs.Kit.{set-append_left}
use Rattle.flash.specs.Lists.{part, set_part}
use Rattle.flash.specs.PageSum.{◌⊕◌}
use Rattle.flash.specs.declared.slots.Terms.{Terms}
use Rattle.flash.specs.inner.Terms.{EachTerm, sum_of, passed}
use Rattle.flash.proofs.Parts.{length_part, part-set_part, lent-piece, piece_back}
use Rattle.flash.proofs.PassLaws.{length-sum_of, length-passed, sum_of-kept, passed-rest, Made, made}

-- a part written over by itself
pub set_part-self : (size i : ℕ) (xs : List ℕ) → set_part size i xs (part size i xs) ≡ xs
unfolding set_part part
set_part-self size i xs = rw (← drop-drop size (i * size) xs, take-append-drop, take-append-drop)

-- A list with a part written over: an element of the part is set, and the part is written over again.
module _ (size i : ℕ) (xs new now : List ℕ) (fits : i * size + size ≤ length xs) (whole : length new ≡ size) (e : now ≡ set_part size i xs new) where
  front : take (i * size) now ≡ take (i * size) xs
  unfolding set_part
  front = rw e (take_at (take (i * size) xs) (new ++ drop (i * size + size) xs) (i * size) (length-take-le (i * size) xs (omega arith)))

  behind : drop (i * size) now ≡ new ++ drop (i * size + size) xs
  unfolding set_part
  behind = rw e (drop_at (take (i * size) xs) (new ++ drop (i * size + size) xs) (i * size) (length-take-le (i * size) xs (omega arith)))

  pub set-set_part : (j value : ℕ) → j < size → set now (i * size + j) value ≡ set_part size i xs (set new j value)
  unfolding set_part
  set-set_part j value h =
      sym (take-append-drop (i * size) (set now (i * size + j) value))
      ∙ rw (take-set-le (i * size) now (i * size + j) value (omega arith), drop-set-add (i * size) now j value, front, behind)
      (rw (set-append_left new (drop (i * size + size) xs) j value (omega arith)))

  pub set_part-twice : (other : List ℕ) → set_part size i now other ≡ set_part size i xs other
  unfolding set_part
  set_part-twice other = rw (← drop-drop size (i * size) now, front, behind, drop_at new (drop (i * size + size) xs) size whole)

-- A whole pass into a slot, of a store in which only that slot has changed.
module _ (p to : ℕ) (store now : List ℕ) (terms : Terms) (add : Bool) (fits : to * p + p ≤ length store) (same : length now ≡ length store)
    (apart : EachTerm (λ t. t ≢ to) terms) (is : now ≡ set_part p to store (part p to now)) where
  own : length (part p to now) ≡ p
  own = length_part p to now (omega arith)

  pub slot-passed : passed now p terms add (part p to now) ≡ cond add (part p to now) [] ⊕ sum_of store p terms
  slot-passed = ap (λ (s : List ℕ). cond add (part p to now) [] ⊕ s) (sum_of-kept p to store (part p to now) now terms fits own is apart)

  pub slot-part : part p to (set_part p to now (passed now p terms add (part p to now))) ≡ passed now p terms add (part p to now)
  slot-part = part-set_part p to now (passed now p terms add (part p to now)) (omega arith) (length-passed now p terms add (part p to now) own ∙ own)

  pub slot-over : set_part p to now (passed now p terms add (part p to now)) ≡ set_part p to store (passed now p terms add (part p to now))
  slot-over = set_part-twice p to store (part p to now) now fits own is (passed now p terms add (part p to now))

-- A pass into a slot after i bytes of its page are made: the next piece, and the rest at once.
module _ (p to : ℕ) (store now : List ℕ) (terms : Terms) (add : Bool) (i : ℕ) (fits : to * p + p ≤ length store) (apart : EachTerm (λ t. t ≢ to) terms)
    (inside : i ≤ p)
    (is : now ≡ set_part p to store (take i (passed store p terms add (part p to store)) ++ drop i (part p to store))) where
  abbrev page : List ℕ
  page = part p to store

  abbrev new : List ℕ
  new = passed store p terms add page

  abbrev mid : List ℕ
  mid = take i new ++ drop i page

  abbrev sum : List ℕ
  sum = sum_of store p terms

  whole : length page ≡ p
  whole = length_part p to store fits

  size : length mid ≡ p
  size = simp (length-append, length-take, length-drop) (omega (arith, whole, length-passed store p terms add page whole))

  mid-is : part p to now ≡ mid
  mid-is = ap (part p to) is ∙ part-set_part p to store mid fits size

  kept : sum_of now p terms ≡ sum
  kept = sum_of-kept p to store mid now terms fits size is apart

  pub slot-piece : (n : ℕ) (piece : List ℕ) → i + n ≤ p
      → piece ≡ cond add (take n (drop (to * p + i) now)) [] ⊕ take n (drop i (sum_of now p terms))
      → Made add page sum (part p to now) piece i n
  slot-piece n piece h e = made add page sum (part p to now) piece i n (length-sum_of store p terms ∙ sym whole) (omega (arith, whole)) mid-is
      (e ∙ rw (lent-piece p to i n now h, kept))

  pub slot-put : (n : ℕ) (piece : List ℕ) → i + n ≤ p → Made add page sum (part p to now) piece i n
      → take (to * p + i) now ++ (piece ++ drop n (drop (to * p + i) now)) ≡ set_part p to store (take (i + n) new ++ drop (i + n) page)
  slot-put n piece h m =
      piece_back p to i n now h piece
      ∙ ap (set_part p to now) m.put
      ∙ set_part-twice p to store mid now fits size is (take (i + n) new ++ drop (i + n) page)

  pub slot-rest : set_part p to now (take i (part p to now) ++ drop i (passed now p terms add (part p to now))) ≡ set_part p to store new
  slot-rest =
      let before : length (take i new) ≡ i = length-take-le i new (omega (arith, whole, length-passed store p terms add page whole)) in
      let behind : drop i (passed now p terms add mid) ≡ drop i new = passed-rest add mid (sum_of now p terms) i
      ∙ rw (kept, drop_at (take i new) (drop i page) i before) (sym (passed-rest add page sum i)) in
      rw (mid-is, behind, take_at (take i new) (drop i page) i before, take-append-drop)
      (set_part-twice p to store mid now fits size is new)
