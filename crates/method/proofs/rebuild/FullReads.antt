-- Where no block is unfinished, every slot that read sums is one that it summed when the block was begun, or that of the block's own page.
use Rattle.flash.proofs.Kit.{◌≡◌, refl, sym, ap, ◌∙◌, ◌⊎◌, inl, inr, ⊎_elim, ◌≢◌, Bool, true, false, cond, ◌||◌, or-true, or-false, List, [], ◌∷◌, ℕ, zero, suc, ◌+◌, ◌-◌, ◌≤◌, ◌<◌, arith, eqb}
use Rattle.flash.proofs.Kit.{eqb-true, get_or}
use Rattle.flash.specs.Lists.{range, any}
use Rattle.flash.specs.Geometry.{slot, slot_of, block_of, page_of, original_count, letter}
use Rattle.flash.proofs.Bools.{bool_cases, never_both, or_cases}
use Rattle.flash.proofs.Comparisons.{eq-cases, lt-cases}
use Rattle.flash.proofs.Ranges.{any-is, none_is}
use Rattle.split.specs.Split.{dest_block, set_of}
use Rattle.method.specs.Move.{Move, AcceptedMove}
use Rattle.method.specs.Cycle.{D, dest, pred, top}
use Rattle.method.specs.Place.{Pass, forward, backward}
use Rattle.method.specs.Read.{full_of, coded_slot, plain_slot, final_slot, go_back, go_on, read_slots}
use Rattle.method.specs.Rebuild.{set_page}
use Rattle.method.specs.inner.Shape.{Shape}
use Rattle.method.proofs.cycles.Orbits.{DataBlock}
use Rattle.method.proofs.cycles.SetCycles.{set-in, block_in, D-is, dest-in, pred_in, pred-dest}
use Rattle.method.proofs.cycles.Tops.{top_in}
use Rattle.method.proofs.walks.ReadsOriginals.{not_full}
use Rattle.method.proofs.rebuild.Lists.{has}
use Rattle.method.proofs.rebuild.BlockFilled.{JustFilled, marks_begun}

or_right : (a b : Bool) → b ≡ true → (a || b) ≡ true
or_right a b e = rw (e, or-true)

-- what two marks have in common: `last` is the slot that only the one may sum
module _ (M : Move) (A : AcceptedMove M) (one other : List ℕ) (last : ℕ → ℕ) where
  open M.sizes use {n, m}

  abbrev is_back : (marks : List ℕ) (set v : ℕ) → Bool
  is_back marks set v = full_of M marks 1 (top M set v - 1) || any (full_of M marks 0) (range 0 (n + 1))

  pub record Alike : Type 0 where
    pub plain : (b : ℕ) → b ≤ n → full_of M one 0 b ≡ full_of M other 0 b
    pub back : (set v : ℕ) → set < m → DataBlock n v → is_back one set v ≡ is_back other set v
    pub final-in : (set v : ℕ) → set < m → DataBlock n v → full_of M one 2 (dest M set v) ≡ true
        → (slot_of m (get_or M.list (D M set v) 0) ≡ last set) ⊎ (full_of M other 2 (dest M set v) ≡ true)
    pub final-out : (b : ℕ) → b ≤ n → full_of M one 2 b ≡ false → full_of M other 2 b ≡ false

  module _ (L : Alike) (set : ℕ) (set-ok : set < m) where
    back-same : (bound v : ℕ) → DataBlock n v → go_back M one set bound v ≡ go_back M other set bound v
    unfolding go_back coded_slot plain_slot
    back-same zero v v-in = refl
    back-same (suc bound) v v-in =
        let u-in = pred_in M A set set-ok v v-in in
        rw (L.plain (pred M set v) u-in.high, back-same bound (pred M set v) u-in)

    on_in : (bound v : ℕ) → DataBlock n v → (t : ℕ) → has t (go_on M one set bound v) ≡ true → (has t (go_on M other set bound v) ≡ true) ⊎ (t ≡ last set)
    unfolding go_on any coded_slot final_slot
    on_in zero v v-in t e = absurd (never_both e refl)
    on_in (suc bound) v v-in t e =
        let u : ℕ = dest M set v in
        let u-in = dest-in M A set set-ok v v-in in
        let c : ℕ = slot m (u - 1) set in
        let f : ℕ = slot_of m (get_or M.list (D M set u) 0) in
        ⊎_elim
        (λ (q : eqb t c ≡ true). inl (rw q))
        (λ (q : has t (cond (full_of M one 2 (dest M set u)) (f ∷ []) (go_on M one set bound u)) ≡ true). ⊎_elim
        (λ (g : full_of M one 2 (dest M set u) ≡ true).
        let is : eqb t f ≡ true = sym (or-false (eqb t f)) ∙ rw g at q in
        ⊎_elim
        (λ (s : f ≡ last set). inr (eqb-true t f is ∙ s))
        (λ (s : full_of M other 2 (dest M set u) ≡ true). inl (rw (s, is) (or-true (eqb t c))))
        (L.final-in set u set-ok u-in g))
        (λ (g : full_of M one 2 (dest M set u) ≡ false). ⊎_elim
        (λ (r : has t (go_on M other set bound u) ≡ true).
        inl (rw (L.final-out (dest M set u) (dest-in M A set set-ok u u-in).high g) (or_right (eqb t c) (has t (go_on M other set bound u)) r)))
        inr
        (on_in bound u u-in t (rw g at q)))
        (bool_cases (full_of M one 2 (dest M set u))))
        (or_cases (eqb t c) (has t (cond (full_of M one 2 (dest M set u)) (f ∷ []) (go_on M one set bound u))) e)

  pub slots-in : Alike → (k : ℕ) → k < original_count M.sizes → (t : ℕ) → has t (read_slots M one k) ≡ true → (has t (read_slots M other k) ≡ true) ⊎ (t ≡ last (set_of M.sets k))
  unfolding read_slots any plain_slot final_slot
  slots-in L k k-in t e =
      let v : ℕ = block_of m k in
      let set : ℕ = set_of M.sets k in
      let set-ok = set-in M A k k-in in
      let v-in = block_in M A k k-in in
      let f : ℕ = slot_of m (get_or M.list k 0) in
      ⊎_elim
      (λ (p : full_of M one 0 v ≡ true). inl (rw (sym (L.plain v v-in.high) ∙ p) (rw p at e)))
      (λ (p : full_of M one 0 v ≡ false).
      let p' : full_of M other 0 v ≡ false = sym (L.plain v v-in.high) ∙ p in
      ⊎_elim
      (λ (g : full_of M one 2 (dest M set v) ≡ true).
      let is : eqb t f ≡ true = sym (or-false (eqb t f)) ∙ rw (p, g) at e in
      ⊎_elim
      (λ (s : slot_of m (get_or M.list (D M set v) 0) ≡ last set). inr (eqb-true t f is ∙ ap (λ (j : ℕ). slot_of m (get_or M.list j 0)) (sym (D-is M A k k-in)) ∙ s))
      (λ (s : full_of M other 2 (dest M set v) ≡ true). inl (rw (p', s, is)))
      (L.final-in set v set-ok v-in g))
      (λ (g : full_of M one 2 (dest M set v) ≡ false).
      let g' = L.final-out (dest M set v) (dest-in M A set set-ok v v-in).high g in
      ⊎_elim
      (λ (b : is_back one set v ≡ true). inl (rw (p', g', sym (L.back set v set-ok v-in) ∙ b, ← back-same L set set-ok n v v-in) (rw (p, g, b) at e)))
      (λ (b : is_back one set v ≡ false). ⊎_elim
      (λ (r : has t (go_on M other set n v) ≡ true). inl (rw (p', g', sym (L.back set v set-ok v-in) ∙ b) r))
      inr
      (on_in L set set-ok n v v-in t (rw (p, g, b) at e)))
      (bool_cases (is_back one set v)))
      (bool_cases (full_of M one 2 (dest M set v))))
      (bool_cases (full_of M one 0 v))

-- ---- the marks where a block is filled, and those with which it was begun
module _ (M : Move) (A : AcceptedMove M) (marks : List ℕ) (place : ℕ) (J : JustFilled M.sizes marks place) where
  open M.sizes use {n, m}

  abbrev begun : List ℕ
  begun = marks_begun M A marks place J

  abbrev last_of : (set : ℕ) → ℕ
  last_of set = slot m J.block (set_page M J.pass J.block set)

  forth-alike : J.pass ≡ forward → Alike M A marks begun last_of
  unfolding letter full_of
  forth-alike is =
      let f : ℕ = J.block in
      let S : Shape M.sizes marks (suc f) (suc f) 0 = rw is at J.full in
      let T : Shape M.sizes begun f (suc f) 0 = rw is at J.begun.shape in
      let high : suc f ≤ n = rw is at J.high in
      let gone : (b : ℕ) → b ≤ n → b ≤ f → full_of M marks 0 b ≡ false = λ b h l. not_full M A marks (suc f) (suc f) 0 S 0 b h (λ x. omega arith) (λ x. absurd (omega arith)) in
      let gone' : (b : ℕ) → b ≤ n → b ≤ f → full_of M begun 0 b ≡ false = λ b h l. not_full M A begun f (suc f) 0 T 0 b h (λ x. omega arith) (λ x. absurd (omega arith)) in
      let never : (b : ℕ) → b ≤ n → full_of M marks 2 b ≡ false = λ b h. not_full M A marks (suc f) (suc f) 0 S 2 b h (λ x. omega arith) (λ x. omega arith) in
      record {
        plain = λ b h. ⊎_elim
            (λ (l : b < suc f). gone b h (omega arith) ∙ sym (gone' b h (omega arith)))
            (λ (l : suc f ≤ b). S.above b l h ∙ sym (T.above b l h))
            (lt-cases b (suc f));
        back = λ set v set-ok v-in.
            let here : any (full_of M marks 0) (range 0 (n + 1)) ≡ true = any-is (full_of M marks 0) 0 (n + 1) n (omega arith) (omega arith) (S.above n high (omega arith)) in
            let there : any (full_of M begun 0) (range 0 (n + 1)) ≡ true = any-is (full_of M begun 0) 0 (n + 1) n (omega arith) (omega arith) (T.above n high (omega arith)) in
            rw (here, there, or-true, or-true);
        final-in = λ set v set-ok v-in g. absurd (never_both g (never (dest M set v) (dest-in M A set set-ok v v-in).high));
        final-out = λ b h g. not_full M A begun f (suc f) 0 T 2 b h (λ x. omega arith) (λ x. omega arith);
      }

  back-alike : J.pass ≡ backward → Alike M A marks begun last_of
  unfolding letter full_of set_page dest dest_block
  back-alike is =
      let f : ℕ = J.block in
      let S : Shape M.sizes marks f f 2 = rw is at J.full in
      let T : Shape M.sizes begun f (suc f) 2 = rw is at J.begun.shape in
      let none : (b : ℕ) → b ≤ n → full_of M marks 0 b ≡ false = λ b h. not_full M A marks f f 2 S 0 b h (λ x. omega arith) (λ x. omega arith) in
      let none' : (b : ℕ) → b ≤ n → full_of M begun 0 b ≡ false = λ b h. not_full M A begun f (suc f) 2 T 0 b h (λ x. omega arith) (λ x. omega arith) in
      let coded : (b : ℕ) → b ≤ n → full_of M marks 1 b ≡ full_of M begun 1 b = λ b h. ⊎_elim
      (λ (l : b < f). S.below b l ∙ sym (T.below b l))
      (λ (l : f ≤ b). not_full M A marks f f 2 S 1 b h (λ x. absurd (omega arith)) (λ x. omega arith) ∙ sym (not_full M A begun f (suc f) 2 T 1 b h (λ x. absurd (omega arith)) (λ x. omega arith)))
      (lt-cases b f) in
      record {
        plain = λ b h. none b h ∙ sym (none' b h);
        back = λ set v set-ok v-in.
            let t-in = top_in M A set set-ok v v-in in
            let low : top M set v - 1 ≤ n = omega arith in
            let here : any (full_of M marks 0) (range 0 (n + 1)) ≡ false = none_is (full_of M marks 0) 0 (n + 1) (λ b a h. none b (omega arith)) in
            let there : any (full_of M begun 0) (range 0 (n + 1)) ≡ false = none_is (full_of M begun 0) 0 (n + 1) (λ b a h. none' b (omega arith)) in
            rw (here, there, coded (top M set v - 1) low);
        final-in = λ set v set-ok v-in g. ⊎_elim
            (λ (e : dest M set v ≡ f).
            let back : pred M set f ≡ v = ap (pred M set) (sym e) ∙ pred-dest M A set set-ok v v-in in
            inl (rw (is, back) (ap (λ (b : ℕ). slot m b (page_of m (get_or M.list (D M set v) 0))) (to_block set v e))))
            (λ (ne : dest M set v ≢ f).
            let w-in = dest-in M A set set-ok v v-in in
            let far : f ≤ dest M set v = ⊎_elim
            (λ (l : dest M set v < f). absurd (never_both g (not_full M A marks f f 2 S 2 (dest M set v) w-in.high (λ x. omega arith) (λ x. absurd (omega arith)))))
            (λ (l : f ≤ dest M set v). l)
            (lt-cases (dest M set v) f) in
            inr (T.above (dest M set v) (omega arith) w-in.high))
            (eq-cases (dest M set v) f);
        final-out = λ b h g. ⊎_elim
            (λ (l : b < f). not_full M A begun f (suc f) 2 T 2 b h (λ x. omega arith) (λ x. absurd (omega arith)))
            (λ (l : f ≤ b). absurd (never_both (S.above b l h) g))
            (lt-cases b f);
      }
    where
      to_block : (set v : ℕ) → dest M set v ≡ J.block → block_of m (get_or M.list (D M set v) 0) ≡ J.block
      to_block set v e = e

  alike : (pass : Pass) → J.pass ≡ pass → Alike M A marks begun last_of
  alike forward is = forth-alike is
  alike backward is = back-alike is

  pub full-reads : (k : ℕ) → k < original_count M.sizes → (t : ℕ) → has t (read_slots M marks k) ≡ true
      → (has t (read_slots M begun k) ≡ true) ⊎ (t ≡ last_of (set_of M.sets k))
  full-reads = slots-in M A marks begun last_of (alike J.pass refl)
