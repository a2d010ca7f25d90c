-- Slots that are gathered one after the other: what each that is put behind the others leaves.
use Rattle.flash.proofs.Kit.{◌≡◌, refl, sym, ap, ◌∙◌, List, [], ◌∷◌, ◌++◌, append_assoc, append-nil, ℕ, zero, suc, ◌+◌, ◌-◌, ◌≤◌, ◌<◌, add-one, arith}
use Rattle.flash.proofs.Kit.{length, get_or, set, take, drop, length-set, take-suc-set, get_or-take, length-take-le}
use Rattle.flash.proofs.Loops.{rest_more}
use Rattle.method.proofs.basics.EachNumber.{Each}
use Rattle.walk.specs.inner.Slots.{slots_length, StartsWith}

-- the array with `count` slots, of all that are to be gathered but for those that are left
pub record Gathered (before all after : List ℕ) (count : ℕ) (left : List ℕ) : Type 0 where
  pub slots-are : take count after ++ left ≡ all
  pub rest-is : drop count after ≡ drop count before
  pub room : length after ≡ slots_length

pub gather_none : {before all : List ℕ} → length before ≡ slots_length → Gathered before all before 0 all
gather_none h = record { slots-are = refl; rest-is = refl; room = h }

module _ {before all after : List ℕ} {count : ℕ} {left : List ℕ} (G : Gathered before all after count left) where
  pub gather-more : {t : ℕ} {more : List ℕ} → left ≡ t ∷ more → count < slots_length → Gathered before all (set after count t) (count + 1) more
  gather-more {t} e h = record {
    slots-are = rw (add-one count, take-suc-set after count t (omega (arith, G.room)), append_assoc) (rw e at G.slots-are);
    rest-is = rest_more after before count t G.rest-is;
    room = rw length-set G.room;
  }

  pub gather-all : {spare : ℕ} → left ≡ [] → count + spare ≤ slots_length → StartsWith before spare all after count
  gather-all e few = record {
    slots-are = sym (append-nil (take count after)) ∙ rw e at G.slots-are;
    rest-is = G.rest-is;
    few = few;
    room = G.room;
  }

  pub gather-end : {spare end : ℕ} → end ≡ count → left ≡ [] → end + spare ≤ slots_length → StartsWith before spare all after end
  gather-end at e few = rw at (gather-all e (rw at at few))

-- a slot in place of the first
put_first : (slots : List ℕ) (own count : ℕ) → 1 ≤ count → count ≤ length slots
    → (let rest = drop 1 (take count slots) in (take 1 (set slots 0 own) ≡ own ∷ []) × (take count (set slots 0 own) ≡ own ∷ rest) × (get_or (set slots 0 own) (count - 1) 0 ≡ get_or (own ∷ rest) (length rest) 0))
put_first [] own count h l = absurd (omega arith)
put_first (x ∷ xs) own zero h l = absurd (omega arith)
put_first (x ∷ xs) own (suc count) h l =
    let at : suc count - 1 ≡ count = omega arith in
    (refl, refl, rw (at, length-take-le count xs (omega arith)) (sym (get_or-take (suc count) (own ∷ xs) count 0 (omega arith))))

module _ (before slots after : List ℕ) (count : ℕ) {spare : ℕ} (G : StartsWith before spare slots after count) where
  -- how many there are
  pub count-is : count ≡ length slots
  count-is = sym (length-take-le count after (omega (arith, G.few, G.room))) ∙ ap length G.slots-are

  pub with-room : {ts : List ℕ} (more : ℕ) → ts ≡ slots → length ts + more ≤ slots_length → StartsWith before more ts after count
  with-room more e h = record { slots-are = G.slots-are ∙ sym e; rest-is = G.rest-is; few = omega (arith, count-is, ap length e); room = G.room }

  pub first-put : (own : ℕ) → 1 ≤ count
      → (take 1 (set after 0 own) ≡ own ∷ []) × (take count (set after 0 own) ≡ own ∷ drop 1 slots) × (get_or (set after 0 own) (count - 1) 0 ≡ get_or (own ∷ drop 1 slots) (length (drop 1 slots)) 0)
  first-put own h = rw G.slots-are at (put_first after own count h (omega (arith, G.few, G.room)))

-- what holds of each slot holds of those that the array starts with
pub among : (Q : ℕ → Type 0) (slots ts : List ℕ) (count : ℕ) → count ≤ length slots → take count slots ≡ ts → Each Q ts → (j : ℕ) → j < count → Q (get_or slots j 0)
among Q slots ts count fits e each j h =
    let size : length ts ≡ count = rw (← e) (length-take-le count slots fits) in
    rw (← get_or-take count slots j 0 h, e) (each j (omega arith))
