-- While a block is unfinished: the originals whose read has a slot are made ones, all others zeros. Then no page but that of the slot is other than zeros.
use Rattle.flash.proofs.Kit.{◌≡◌, refl, sym, ap, ap₂, ◌∙◌, subst, ⊎_elim, ◌≢◌, Bool, true, false, cond, ◌&&◌, ◌||◌, or-false, and-false, List, [], ◌∷◌, ℕ, suc, ◌+◌, ◌-◌, ◌≤◌, ◌<◌, arith, eqb}
use Rattle.flash.proofs.Kit.{eqb-true, ne_eqb, lt-ltb, le-ltb, length, get_or, replicate, get_or-replicate, length-replicate}
use Rattle.split.proofs.OneToOneLaws.{Distinct}
use Rattle.flash.specs.Lists.{any}
use Rattle.flash.specs.Geometry.{slot, slot_of, block_of, number_at, original_count, letter}
use Rattle.flash.specs.PageSum.{◌⊕◌, sum}
use Rattle.flash.specs.Chip.{mark_at}
use Rattle.flash.proofs.Blocks.{full_at}
use Rattle.flash.proofs.Comparisons.{ne-lt}
use Rattle.flash.proofs.Sums.{⊕-nil, ⊕-comm, ⊕-zeros, ⊕-self, sum_one}
use Rattle.split.specs.Split.{dest_block, set_of}
use Rattle.method.specs.Move.{Move, AcceptedMove}
use Rattle.method.specs.Cycle.{D, dest, pred, coded, sent_to}
use Rattle.method.specs.Place.{Pass, forward, backward, Held, plain, code, final, above}
use Rattle.method.specs.Read.{full_of, coded_slot, plain_slot, final_slot, read_slots}
use Rattle.method.specs.inner.Shape.{Shape}
use Rattle.method.proofs.basics.Indexes.{slot-div}
use Rattle.method.proofs.basics.MoveShape.{Shows}
use Rattle.method.proofs.cycles.Orbits.{DataBlock}
use Rattle.method.proofs.cycles.SetCycles.{block_in, D-page, pred_in, dest-is, sent-in, entry-sent}
use Rattle.method.proofs.places.PlaceShape.{letter_above, which-pass}
use Rattle.method.proofs.states.PagesWritten.{number_in}
use Rattle.method.proofs.states.StatesOfPlaces.{slot-number}
use Rattle.method.proofs.walks.ReadsOriginals.{reads, not_full}
use Rattle.method.proofs.rebuild.Lists.{has, either, fresh}
use Rattle.method.proofs.rebuild.PageSets.{set_at, held_beside}
use Rattle.method.proofs.rebuild.CodedSteps.{Coded, alone, from-pred, to-pred, coded-steps}

unfoldable pub bit_page : (P : ℕ) → Bool → List ℕ
bit_page P b = replicate P (cond b 1 0)

pub bit_length : (P : ℕ) (b : Bool) → length (bit_page P b) ≡ P
unfolding bit_page
bit_length P b = length-replicate P _

pub bit_byte : (P : ℕ) (b : Bool) → 1 ≤ P → get_or (bit_page P b) 0 0 ≡ cond b 1 0
unfolding bit_page
bit_byte P b h = get_or-replicate P 0 (cond b 1 0) 0 h

pub bit-same : (a b : Bool) → ◌≡◌ {A = ℕ} (cond a 1 0) (cond b 1 0) → a ≡ b
bit-same true true e = refl
bit-same true false e = absurd (omega (arith, e))
bit-same false true e = absurd (omega (arith, e))
bit-same false false e = refl

pub bit-add : (P : ℕ) (a b : Bool) → bit_page P a ⊕ bit_page P b ≡ bit_page P (either a b)
unfolding bit_page either
bit-add P true true = ⊕-self P 1
bit-add P true false = ⊕-comm (replicate P 1) (replicate P 0) ∙ ⊕-zeros P (replicate P 1) (omega (arith, length-replicate {A = ℕ} P 1))
bit-add P false b = ⊕-zeros P (replicate P (cond b 1 0)) (omega (arith, length-replicate {A = ℕ} P (cond b 1 0)))

-- what is counted twice cancels
either_left : (g a h : Bool) → (a ≡ true → h ≡ false) → either (g && (a || h)) (g && h) ≡ (g && a)
unfolding either
either_left true true true f = sym (f refl)
either_left true true false f = refl
either_left true false true f = refl
either_left true false false f = refl
either_left false a h f = refl

either-right : (g a h : Bool) → (a ≡ true → h ≡ false) → either (g && h) (g && (a || h)) ≡ (g && a)
unfolding either
either-right true true true f = sym (f refl)
either-right true true false f = refl
either-right true false true f = refl
either-right true false false f = refl
either-right false a h f = refl

-- only originals of the sets that pass a test
module _ (M : Move) (A : AcceptedMove M) (marks : List ℕ) (low : ℕ) (pass : Pass) (S : Shape M.sizes marks low (suc low) (letter_above pass)) (u : ℕ) (test : ℕ → Bool) where
  open M.sizes use {n, m, p as P}

  -- what an original is
  abbrev pub bit_of : (k : ℕ) → Bool
  bit_of k = test (set_of M.sets k) && has u (read_slots M marks k)

  module _ (value : ℕ → List ℕ) (is : (k : ℕ) → k < original_count M.sizes → value k ≡ bit_page P (bit_of k)) where
    coded-bit : (set : ℕ) (set-ok : set < m) (v : ℕ) → DataBlock n v → v ≤ low → sum value (coded M set v) ≡ bit_page P (test set && eqb u (coded_slot M marks set v))
    unfolding coded sum any
    coded-bit set set-ok v v-in under = go (coded-steps M A marks set set-ok low pass S v v-in under)
      where
        u-in : DataBlock n (pred M set v)
        u-in = pred_in M A set set-ok v v-in

        k-in : D M set v < original_count M.sizes
        k-in = (D-page M A set set-ok v v-in).inside

        j-in : D M set (pred M set v) < original_count M.sizes
        j-in = (D-page M A set set-ok (pred M set v) u-in).inside

        -- the slot of the coded page is not among the others
        apart : (ts : List ℕ) (k : ℕ) → k < original_count M.sizes → read_slots M marks k ≡ coded_slot M marks set v ∷ ts → eqb u (coded_slot M marks set v) ≡ true → has u ts ≡ false
        apart ts k h e q =
            ap (λ (t : ℕ). has t ts) (eqb-true u (coded_slot M marks set v) q)
            ∙ fresh (coded_slot M marks set v) ts (subst Distinct e (reads M A marks low (suc low) k h (letter_above pass) (which-pass pass) S).distinct)

        own : (ts : List ℕ) → read_slots M marks (D M set v) ≡ ts → value (D M set v) ≡ bit_page P (test set && has u ts)
        own ts e = is (D M set v) k-in ∙ ap₂ (λ (q : ℕ) (us : List ℕ). bit_page P (test q && has u us)) (D-page M A set set-ok v v-in).in-set e

        theirs : (ts : List ℕ) → read_slots M marks (D M set (pred M set v)) ≡ ts → value (D M set (pred M set v)) ≡ bit_page P (test set && has u ts)
        theirs ts e =
            is (D M set (pred M set v)) j-in
            ∙ ap₂ (λ (q : ℕ) (us : List ℕ). bit_page P (test q && has u us)) (D-page M A set set-ok (pred M set v) u-in).in-set e

        go : Coded M A marks set set-ok v → sum value (coded M set v) ≡ bit_page P (test set && eqb u (coded_slot M marks set v))
        go (alone t e) =
            rw t (sum_one value (D M set v) ∙ own (coded_slot M marks set v ∷ []) e ∙ ap (λ (b : Bool). bit_page P (test set && b)) (or-false (eqb u (coded_slot M marks set v))))
        go (from-pred t e) =
            let rest = read_slots M marks (D M set (pred M set v)) in
            rw t (ap₂ ◌⊕◌ (own (coded_slot M marks set v ∷ rest) e) (⊕-nil (value (D M set (pred M set v))) ∙ theirs rest refl)
            ∙ bit-add P (test set && (eqb u (coded_slot M marks set v) || has u rest)) (test set && has u rest)
            ∙ ap (bit_page P) (either_left (test set) (eqb u (coded_slot M marks set v)) (has u rest) (apart rest (D M set v) k-in e)))
        go (to-pred t e) =
            let rest = read_slots M marks (D M set v) in
            rw t (ap₂ ◌⊕◌ (own rest refl) (⊕-nil (value (D M set (pred M set v))) ∙ theirs (coded_slot M marks set v ∷ rest) e)
            ∙ bit-add P (test set && has u rest) (test set && (eqb u (coded_slot M marks set v) || has u rest))
            ∙ ap (bit_page P) (either-right (test set) (eqb u (coded_slot M marks set v)) (has u rest) (apart rest (D M set (pred M set v)) j-in e)))

    module _ (page : ℕ → List ℕ) (H : Shows M marks value page) where
      -- what the page of a slot is, by the set that it belongs to
      unfoldable pub UnitPage : Held → (b q : ℕ) → Type 0
      UnitPage held b q = page (slot m b q) ≡ bit_page P (test (set_at M held b q) && eqb u (slot m b q))

      code-unit : (b q : ℕ) → b < low → q < m → UnitPage code b q
      unfolding coded_slot UnitPage set_at
      code-unit b q h k =
          let inside = S.inside in
          let v-in : DataBlock n (b + 1) = record { low = omega arith; high = omega arith } in
          let down : b + 1 - 1 ≡ b = omega arith in
          ap (λ (x : ℕ). page (slot m x q)) (sym down)
          ∙ H.code q (b + 1) k (omega arith) (omega arith) (ap (λ (x : ℕ). mark_at marks (slot m x q)) down ∙ full_at m marks b (letter M.sizes 1) q (S.below b h) k)
          ∙ coded-bit q k (b + 1) v-in (omega arith)
          ∙ ap (λ (x : ℕ). bit_page P (test q && eqb u (slot m x q))) down

      one-slot : (k t : ℕ) → k < original_count M.sizes → read_slots M marks k ≡ t ∷ [] → value k ≡ bit_page P (test (set_of M.sets k) && eqb u t)
      unfolding any
      one-slot k t h e = is k h ∙ ap (λ (b : Bool). bit_page P (test (set_of M.sets k) && b)) (ap (has u) e ∙ or-false (eqb u t))

      plain-unit : letter_above pass ≡ 0 → (b q : ℕ) → suc low ≤ b → b ≤ n → q < m → UnitPage plain b q
      unfolding read_slots plain_slot full_of UnitPage set_at
      plain-unit none b q h l k =
          let j : ℕ = number_at m b q in
          let j-in = number_in M A b q (omega arith) l k in
          let at = slot-number m b q (omega arith) k in
          let full = rw none at (S.above b h l) in
          let block : block_of m j ≡ b = ap (λ (x : ℕ). x + 1) (slot-div m (b - 1) q k) ∙ omega arith in
          ap page (sym at) ∙ H.plain j j-in (ap (mark_at marks) at ∙ full_at m marks b (letter M.sizes 0) q full k)
          ∙ one-slot j (slot_of m j) j-in (rw (block, full)) ∙ ap (λ (t : ℕ). bit_page P (test (set_of M.sets j) && eqb u t)) at

      final-unit : letter_above pass ≡ 2 → (b q : ℕ) → suc low ≤ b → b ≤ n → q < m → UnitPage final b q
      unfolding read_slots final_slot letter dest_block full_of UnitPage set_at
      final-unit two b q h l k =
          let number : ℕ = number_at m b q in
          let inside = number_in M A b q (omega arith) l k in
          let j : ℕ = sent_to M number in
          let j-in = sent-in M A number inside in
          let to = entry-sent M A number inside in
          let at : slot_of m (get_or M.list j 0) ≡ slot m b q = ap (slot_of m) to ∙ slot-number m b q (omega arith) k in
          let full = rw two at (S.above b h l) in
          let up : b - 1 + 1 ≡ b = omega arith in
          let there : full_of M marks 2 (dest M (set_of M.sets j) (block_of m j)) ≡ true =
          ap (full_of M marks 2) (dest-is M A j j-in ∙ ap (block_of m) to ∙ ap (λ (x : ℕ). x + 1) (slot-div m (b - 1) q k) ∙ up) ∙ full in
          let gone : full_of M marks 0 (block_of m j) ≡ false = not_full M A marks low (suc low) 2 (rw two at S) 0 (block_of m j) (block_in M A j j-in).high (λ x. omega arith) (λ x. omega arith) in
          ap page (sym at) ∙ H.final j j-in (ap (mark_at marks) at ∙ full_at m marks b (letter M.sizes 2) q full k)
          ∙ one-slot j (slot_of m (get_or M.list j 0)) j-in (rw (gone, there)) ∙ ap (λ (t : ℕ). bit_page P (test (set_of M.sets j) && eqb u t)) at

      above-unit : (it : Pass) → pass ≡ it → (b q : ℕ) → suc low ≤ b → b ≤ n → q < m → UnitPage (above it) b q
      unfolding above
      above-unit forward e b q h l k = plain-unit (ap letter_above e) b q h l k
      above-unit backward e b q h l k = final-unit (ap letter_above e) b q h l k

      pub unit-page : (b q : ℕ) → b ≤ n → q < m → b ≢ low → UnitPage (held_beside pass low b) b q
      unit-page b q l k ne = ⊎_elim
          (λ (h : b < low). rw (lt-ltb b low h) (code-unit b q h k))
          (λ (h : low < b). rw (le-ltb b low (omega arith)) (above-unit pass refl b q h l k))
          (ne-lt b low ne)

      -- all but that of the slot are zeros
      pub zero-page : (b q : ℕ) → b ≤ n → q < m → b ≢ low → slot m b q ≢ u → page (slot m b q) ≡ bit_page P false
      unfolding UnitPage
      zero-page b q l k ne other =
          let set : ℕ = set_at M (held_beside pass low b) b q in
          unit-page b q l k ne ∙ ap (bit_page P) (ap (λ (x : Bool). test set && x) (ne_eqb u (slot m b q) (λ e. other (sym e))) ∙ and-false (test set))
