-- Marks of the same shape: read sums the same slots.
use Rattle.flash.proofs.Kit.{◌≡◌, refl, sym, ◌∙◌, subst, ⊎_elim, true, List, ℕ, zero, suc, ◌+◌, ◌-◌, ◌≤◌, ◌<◌, arith}
use Rattle.flash.specs.Lists.{range, any}
use Rattle.flash.specs.Geometry.{block_of, original_count, letter}
use Rattle.flash.specs.Chip.{is_full}
use Rattle.flash.proofs.Bools.{bool_eq}
use Rattle.flash.proofs.Blocks.{full-same}
use Rattle.flash.proofs.Ranges.{any-is, any-range-find}
use Rattle.split.specs.Split.{set_of}
use Rattle.method.specs.Move.{Move, AcceptedMove}
use Rattle.method.specs.Cycle.{dest, pred, top}
use Rattle.method.specs.Read.{full_of, coded_slot, plain_slot, final_slot, go_back, go_on, read_slots}
use Rattle.method.specs.inner.Shape.{Shape}
use Rattle.method.proofs.cycles.Orbits.{DataBlock}
use Rattle.method.proofs.cycles.SetCycles.{set-in, block_in, dest-in, pred_in}
use Rattle.method.proofs.cycles.Tops.{top_in}
use Rattle.method.proofs.walks.StoredPages.{full-clear}

module _ (M : Move) (A : AcceptedMove M) (low high i : ℕ) where
  open M.sizes use {n, m}

  full-there : (one other : List ℕ) → Shape M.sizes one low high i → Shape M.sizes other low high i → (j b : ℕ) → b ≤ n
      → full_of M one j b ≡ true → full_of M other j b ≡ true
  unfolding full_of
  full-there one other S T j b h e = ⊎_elim
      (λ (l : b < low).
      subst (λ (x : ℕ). is_full m other b x ≡ true) (full-same m one b (letter M.sizes 1) (letter M.sizes j) A.ranges.m-low (S.below b l) e) (T.below b l))
      (λ (l : high ≤ b).
      subst (λ (x : ℕ). is_full m other b x ≡ true) (full-same m one b (letter M.sizes i) (letter M.sizes j) A.ranges.m-low (S.above b l h) e) (T.above b l h))
      (full-clear M one low high A i S j b e)

  module _ (one other : List ℕ) (S : Shape M.sizes one low high i) (T : Shape M.sizes other low high i) where
    pub full-agrees : (j b : ℕ) → b ≤ n → full_of M one j b ≡ full_of M other j b
    full-agrees j b h = bool_eq (full_of M one j b) (full_of M other j b) (full-there one other S T j b h) (full-there other one T S j b h)

    any-there : (j : ℕ) → any (full_of M one j) (range 0 (n + 1)) ≡ any (full_of M other j) (range 0 (n + 1))
    any-there j =
        bool_eq (any (full_of M one j) (range 0 (n + 1))) (any (full_of M other j) (range 0 (n + 1)))
        (λ e.
        let r = any-range-find (full_of M one j) 0 (n + 1) e in
        let r-in : r.0 ≤ n = omega (arith, r.2) in
        any-is (full_of M other j) 0 (n + 1) r.0 r.1 r.2 (sym (full-agrees j r.0 r-in) ∙ r.3))
        (λ e.
        let r = any-range-find (full_of M other j) 0 (n + 1) e in
        let r-in : r.0 ≤ n = omega (arith, r.2) in
        any-is (full_of M one j) 0 (n + 1) r.0 r.1 r.2 (full-agrees j r.0 r-in ∙ r.3))

    module _ (set : ℕ) (set-ok : set < m) where
      back-same : (bound v : ℕ) → DataBlock n v → go_back M one set bound v ≡ go_back M other set bound v
      unfolding go_back coded_slot plain_slot
      back-same zero v v-in = refl
      back-same (suc bound) v v-in =
          let u-in = pred_in M A set set-ok v v-in in
          rw (full-agrees 0 (pred M set v) u-in.high, back-same bound (pred M set v) u-in)

      on_same : (bound v : ℕ) → DataBlock n v → go_on M one set bound v ≡ go_on M other set bound v
      unfolding go_on coded_slot final_slot
      on_same zero v v-in = refl
      on_same (suc bound) v v-in =
          let u-in = dest-in M A set set-ok v v-in in
          rw (full-agrees 2 (dest M set (dest M set v)) (dest-in M A set set-ok (dest M set v) u-in).high, on_same bound (dest M set v) u-in)

    pub slots_same : (k : ℕ) → k < original_count M.sizes → read_slots M one k ≡ read_slots M other k
    unfolding read_slots plain_slot final_slot
    slots_same k k-in =
        let v : ℕ = block_of m k in
        let set : ℕ = set_of M.sets k in
        let set-ok = set-in M A k k-in in
        let v-in = block_in M A k k-in in
        let t-in = top_in M A set set-ok v v-in in
        let top-le : top M set v - 1 ≤ n = omega arith in
        rw (
          full-agrees 0 v v-in.high,
          full-agrees 2 (dest M set v) (dest-in M A set set-ok v v-in).high,
          full-agrees 1 (top M set v - 1) top-le,
          any-there 0,
          back-same set set-ok n v v-in,
          on_same set set-ok n v v-in,
        )
