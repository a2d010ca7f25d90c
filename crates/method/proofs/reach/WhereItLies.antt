-- A slot is where an original lies exactly if that is one of the originals whose sum the slot holds, and then it is so once.
use Rattle.flash.proofs.Kit.{◌≡◌, refl, sym, ap, ap₂, ◌∙◌, ◌≢◌, ◌⊎◌, inl, inr, ⊎_elim, Bool, true, false, cond, [], ◌∷◌, ℕ, zero, suc, ◌+◌, ◌-◌, ◌/◌, ◌%◌, ◌≤◌, ◌<◌}
use Rattle.flash.proofs.Kit.{arith, eqb, get_or, eqb-true, eq-eqb, ne_eqb}
use Rattle.flash.specs.Lists.{any, count}
use Rattle.flash.specs.Geometry.{slot, block_of, slot_of, number_at, original_count}
use Rattle.flash.proofs.Bools.{bool_cases, bool_eq, never_both, or_cases}
use Rattle.split.specs.Split.{source_block, set_of}
use Rattle.method.specs.Move.{Move, AcceptedMove}
use Rattle.method.specs.Cycle.{D, dest, pred, is_top, coded, sent_to}
use Rattle.method.specs.Place.{Held, blank, plain, code, final}
use Rattle.method.specs.State.{held_originals}
use Rattle.method.specs.Reach.{lies}
use Rattle.method.proofs.basics.Indexes.{slot-div, slot-mod}
use Rattle.method.proofs.basics.MoveShape.{slot-back}
use Rattle.method.proofs.cycles.Orbits.{DataBlock, iterate}
use Rattle.method.proofs.cycles.SetCycles.{set-in, block_in, D-page, D-is, dest-in, pred_in, dest-pred, pred-dest, sent-entry, entry-sent}
use Rattle.method.proofs.cycles.Tops.{top-is, top-is_top}
use Rattle.method.proofs.states.PagesWritten.{number_in}
use Rattle.method.proofs.states.StatesOfPlaces.{slot-number}

-- ---- lists of one number, and of two unless the second is left out
module _ (x y : ℕ) where
  one_of : any (eqb x) (y ∷ []) ≡ true → x ≡ y
  unfolding any
  one_of e = ⊎_elim (eqb-true x y) (λ f. absurd (never_both f refl)) (or_cases (eqb x y) false e)

  of_one : x ≡ y → any (eqb x) (y ∷ []) ≡ true
  unfolding any
  of_one e = rw (eq-eqb x y e)

one_same : (x y z w : ℕ) → (x ≡ y → z ≡ w) → (z ≡ w → x ≡ y) → any (eqb x) (y ∷ []) ≡ any (eqb z) (w ∷ [])
one_same x y z w f g = bool_eq _ _ (λ e. of_one z w (f (one_of x y e))) (λ e. of_one x y (g (one_of z w e)))

module _ (x y z : ℕ) (left_out : Bool) where
  abbrev Second : Type 0
  Second = (left_out ≡ false) × (x ≡ z)

  two-of : any (eqb x) (y ∷ cond left_out [] (z ∷ [])) ≡ true → (x ≡ y) ⊎ Second
  unfolding any
  two-of e = ⊎_elim
      (λ (f : eqb x y ≡ true). inl (eqb-true x y f))
      (λ (f : any (eqb x) (cond left_out [] (z ∷ [])) ≡ true). ⊎_elim
      (λ (o : left_out ≡ true). absurd (never_both (rw o at f) refl))
      (λ (o : left_out ≡ false). inr (o, one_of x z (rw o at f)))
      (bool_cases left_out))
      (or_cases (eqb x y) (any (eqb x) (cond left_out [] (z ∷ []))) e)

  of-first : x ≡ y → any (eqb x) (y ∷ cond left_out [] (z ∷ [])) ≡ true
  unfolding any
  of-first e = rw (eq-eqb x y e)

  of-second : left_out ≡ false → x ≡ z → any (eqb x) (y ∷ cond left_out [] (z ∷ [])) ≡ true
  unfolding any
  of-second o e = ⊎_elim
      (λ (f : eqb x y ≡ true). rw f)
      (λ (f : eqb x y ≡ false). rw (f, o) (of_one x z e))
      (bool_cases (eqb x y))

  -- where the two differ, what is among them is so once
  once : (left_out ≡ false → y ≢ z) → any (eqb x) (y ∷ cond left_out [] (z ∷ [])) ≡ true → count (eqb x) (y ∷ cond left_out [] (z ∷ [])) ≡ 1
  unfolding any count
  once apart e = ⊎_elim
      (λ (o : left_out ≡ true). ⊎_elim
      (λ (f : eqb x y ≡ true). rw (f, o))
      (λ (f : eqb x y ≡ false). absurd (never_both (rw (f, o) at e) refl))
      (bool_cases (eqb x y)))
      (λ (o : left_out ≡ false). ⊎_elim
      (λ (f : eqb x y ≡ true). rw (f, o) (rw (ne_eqb x z (λ (s : x ≡ z). apart o (sym (eqb-true x y f) ∙ s)))))
      (λ (f : eqb x y ≡ false). rw (f, o) (rw (eq-eqb x z (one_of x z (rw (f, o) at e)))))
      (bool_cases (eqb x y)))
      (bool_cases left_out)

once-one : (x y : ℕ) → any (eqb x) (y ∷ []) ≡ true → count (eqb x) (y ∷ []) ≡ 1
unfolding count
once-one x y e = rw (eq-eqb x y (one_of x y e))

-- what block b can hold, of 0 to n
pub data Fits (n b : ℕ) : Held → Type 0 where
  nothing : Fits n b blank
  own : 1 ≤ b → Fits n b plain
  coding : b < n → Fits n b code
  last : 1 ≤ b → b ≤ n → Fits n b final

module _ (M : Move) (A : AcceptedMove M) where
  open M.sizes use {n, m}

  -- ---- the two originals of a coded page
  coded-is : (set i : ℕ) → coded M set i ≡ D M set i ∷ cond (is_top M set i) [] (D M set (pred M set i) ∷ [])
  unfolding coded
  coded-is set i = ⊎_elim
      (λ (e : is_top M set i ≡ true). rw e)
      (λ (e : is_top M set i ≡ false). rw e)
      (bool_cases (is_top M set i))

  -- a block that its own page comes back to is a top
  fixed : (set i : ℕ) → dest M set i ≡ i → (steps : ℕ) → iterate (dest M set) steps i ≡ i
  unfolding iterate
  fixed set i e zero = refl
  fixed set i e (suc steps) = ap (iterate (dest M set) steps) e ∙ fixed set i e steps

  pred-apart : (set i : ℕ) → set < m → DataBlock n i → is_top M set i ≡ false → D M set i ≢ D M set (pred M set i)
  pred-apart set i s b e same =
      let p = pred_in M A set s i b in
      let at : i ≡ pred M set i = sym (D-page M A set s i b).at_block ∙ ap (source_block m) same ∙ (D-page M A set s (pred M set i) p).at_block in
      let home : dest M set i ≡ i = ap (dest M set) at ∙ dest-pred M A set s i b in
      let r = top-is M A set s i b in
      never_both (top-is_top M set i (r.2 ∙ fixed set i home r.0)) e

  module _ (k : ℕ) (k-in : k < original_count M.sizes) where
    abbrev set : ℕ
    set = set_of M.sets k

    abbrev v : ℕ
    v = block_of m k

    abbrev u : ℕ
    u = dest M set v

    source : v ≡ source_block m k
    unfolding source_block
    source = refl

    set-ok : set < m
    set-ok = set-in M A k k-in

    v-in : DataBlock n v
    v-in = block_in M A k k-in

    module _ (b q : ℕ) (q-in : q < m) where
      -- two slots are one where block and page are
      block-is : (i s : ℕ) → s < m → slot m b q ≡ slot m i s → b ≡ i
      block-is i s h e = sym (slot-div m b q q-in) ∙ ap (λ (x : ℕ). x / m) e ∙ slot-div m i s h

      page-is : (i s : ℕ) → s < m → slot m b q ≡ slot m i s → q ≡ s
      page-is i s h e = sym (slot-mod m b q q-in) ∙ ap (λ (x : ℕ). x % m) e ∙ slot-mod m i s h

      plain-is : 1 ≤ b → any (eqb (slot m b q)) (lies M plain k) ≡ any (eqb k) (held_originals M plain b q)
      unfolding lies held_originals
      plain-is l = one_same (slot m b q) (slot_of m k) k (number_at m b q)
          (λ e. sym (slot-back m k) ∙ ap (λ (t : ℕ). t - m) (sym e ∙ sym (slot-number m b q l q-in)) ∙ slot-back m (number_at m b q))
          (λ e. sym (slot-number m b q l q-in) ∙ ap (slot_of m) (sym e))

      final-is : 1 ≤ b → b ≤ n → any (eqb (slot m b q)) (lies M final k) ≡ any (eqb k) (held_originals M final b q)
      unfolding lies held_originals
      final-is l h =
          let number = number_at m b q in
          let to = get_or M.list k 0 in
          one_same (slot m b q) (slot_of m to) k (sent_to M number)
          (λ e.
          let at : to ≡ number = sym (slot-back m to) ∙ ap (λ (t : ℕ). t - m) (sym e ∙ sym (slot-number m b q l q-in)) ∙ slot-back m number in
          sym (sent-entry M A k k-in) ∙ ap (sent_to M) at)
          (λ e.
          let at : to ≡ number = ap (λ (x : ℕ). get_or M.list x 0) e ∙ entry-sent M A number (number_in M A b q l h q-in) in
          sym (slot-number m b q l q-in) ∙ ap (slot_of m) (sym at))

      abbrev i : ℕ
      i = b + 1

      code_is : b < n → any (eqb (slot m b q)) (lies M code k) ≡ any (eqb k) (held_originals M code b q)
      unfolding lies held_originals
      code_is h = bool_eq _ _ there back ∙ ap (any (eqb k)) (sym (coded-is q i))
        where
          i-in : DataBlock n i
          i-in = record { low = omega arith; high = omega arith }

          u-in : DataBlock n u
          u-in = dest-in M A set set-ok v v-in

          there : any (eqb (slot m b q)) (slot m (v - 1) set ∷ cond (is_top M set u) [] (slot m (u - 1) set ∷ [])) ≡ true
              → any (eqb k) (D M q i ∷ cond (is_top M q i) [] (D M q (pred M q i) ∷ [])) ≡ true
          there e = ⊎_elim
              (λ (f : slot m b q ≡ slot m (v - 1) set).
              let at_b : b ≡ v - 1 = block-is (v - 1) set set-ok f in
              let at_i : v ≡ i = omega arith in
              of-first k (D M q i) (D M q (pred M q i)) (is_top M q i)
              (sym (D-is M A k k-in) ∙ ap₂ (D M) (sym (page-is (v - 1) set set-ok f)) at_i))
              (λ (f : (is_top M set u ≡ false) × (slot m b q ≡ slot m (u - 1) set)).
              let at_b : b ≡ u - 1 = block-is (u - 1) set set-ok f.1 in
              let low = u-in.low in
              let at_i : i ≡ u = omega arith in
              let at-q : q ≡ set = page-is (u - 1) set set-ok f.1 in
              of-second k (D M q i) (D M q (pred M q i)) (is_top M q i)
              (ap₂ (is_top M) at-q at_i ∙ f.0)
              (sym (D-is M A k k-in) ∙ ap₂ (D M) (sym at-q) (sym (pred-dest M A set set-ok v v-in) ∙ sym (ap₂ (pred M) at-q at_i))))
              (two-of (slot m b q) (slot m (v - 1) set) (slot m (u - 1) set) (is_top M set u) e)

          back : any (eqb k) (D M q i ∷ cond (is_top M q i) [] (D M q (pred M q i) ∷ [])) ≡ true
              → any (eqb (slot m b q)) (slot m (v - 1) set ∷ cond (is_top M set u) [] (slot m (u - 1) set ∷ [])) ≡ true
          back e = ⊎_elim
              (λ (f : k ≡ D M q i).
              let P = D-page M A q q-in i i-in in
              let at_set : set ≡ q = ap (set_of M.sets) f ∙ P.in-set in
              let at-v : v ≡ i = source ∙ ap (source_block m) f ∙ P.at_block in
              let at_b : b ≡ v - 1 = omega arith in
              of-first (slot m b q) (slot m (v - 1) set) (slot m (u - 1) set) (is_top M set u) (ap₂ (slot m) at_b (sym at_set)))
              (λ (f : (is_top M q i ≡ false) × (k ≡ D M q (pred M q i))).
              let P = D-page M A q q-in (pred M q i) (pred_in M A q q-in i i-in) in
              let at_set : set ≡ q = ap (set_of M.sets) f.1 ∙ P.in-set in
              let at-v : v ≡ pred M q i = source ∙ ap (source_block m) f.1 ∙ P.at_block in
              let at-u : u ≡ i = ap₂ (dest M) at_set at-v ∙ dest-pred M A q q-in i i-in in
              let at_b : b ≡ u - 1 = omega arith in
              of-second (slot m b q) (slot m (v - 1) set) (slot m (u - 1) set) (is_top M set u)
              (ap₂ (is_top M) at_set at-u ∙ f.0) (ap₂ (slot m) at_b (sym at_set)))
              (two-of k (D M q i) (D M q (pred M q i)) (is_top M q i) e)

      pub lies_where : (h : Held) → Fits n b h → any (eqb (slot m b q)) (lies M h k) ≡ any (eqb k) (held_originals M h b q)
      unfolding lies held_originals any
      lies_where blank nothing = refl
      lies_where plain (own l) = plain-is l
      lies_where code (coding l) = code_is l
      lies_where final (last l h) = final-is l h

      pub lies-once : (h : Held) → Fits n b h → any (eqb k) (held_originals M h b q) ≡ true → count (eqb k) (held_originals M h b q) ≡ 1
      unfolding held_originals any
      lies-once blank nothing e = absurd (never_both e refl)
      lies-once plain (own l) e = once-one k (number_at m b q) e
      lies-once code (coding l) e =
          let two = coded-is q i in
          let in_two : any (eqb k) (D M q i ∷ cond (is_top M q i) [] (D M q (pred M q i) ∷ [])) ≡ true = ap (any (eqb k)) (sym two) ∙ e in
          ap (count (eqb k)) two
          ∙ once k (D M q i) (D M q (pred M q i)) (is_top M q i) (pred-apart q i q-in (record { low = omega arith; high = omega arith })) in_two
      lies-once final (last l h) e = once-one k (sent_to M (number_at m b q)) e
