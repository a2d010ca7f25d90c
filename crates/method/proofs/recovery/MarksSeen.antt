-- Counting marks that are no letter as 255 changes no block that is full of a letter, so neither what mend reads nor what read sums.
use Rattle.flash.proofs.Kit.{◌≡◌, ap, fun_ext, refl, ⊎_elim, Bool, true, false, cond, List, ℕ, zero, suc, ◌+◌, ◌-◌, ◌<◌, arith, eqb, ltb, ltb-false}
use Rattle.flash.proofs.Kit.{get_or, List·getD-map, ne_eqb}
use Rattle.flash.specs.Lists.{range, all}
use Rattle.flash.specs.Tables.{first_fit}
use Rattle.flash.specs.declared.sizes.Sizes.{Sizes}
use Rattle.flash.specs.Geometry.{is_letter, slot, block_of, letter}
use Rattle.flash.specs.Chip.{Chip, erased, page_at, mark_at, is_full, is_unfinished}
use Rattle.flash.proofs.Bools.{bool_cases}
use Rattle.split.specs.Split.{set_of}
use Rattle.method.specs.Move.{Move, Plan}
use Rattle.method.specs.Cycle.{dest, pred, top}
use Rattle.method.specs.Read.{full_of, coded_slot, plain_slot, final_slot, go_back, go_on, read_slots, Term, stored, filler, term_page, term_at, read_terms, read_page}
use Rattle.method.specs.Mend.{full_from, forward_torn, backward_torn, forward_full, backward_full, lines, seen, reading}

module _ (marks : List ℕ) where
  mark-seen : (t x : ℕ) → x < 3 → eqb (mark_at (seen marks) t) x ≡ eqb (mark_at marks t) x
  unfolding mark_at seen is_letter
  mark-seen t x h =
      let mark : ℕ = get_or marks t erased in
      rw (List·getD-map (λ mark. cond (ltb mark 3) mark erased) marks t erased)
      (⊎_elim
      (λ (e : ltb mark 3 ≡ true). rw e)
      (λ (e : ltb mark 3 ≡ false).
      let none : eqb mark x ≡ false = ne_eqb mark x (omega (arith, ltb-false mark 3 e)) in
      rw (e, none) (ne_eqb erased x (omega arith)))
      (bool_cases (ltb mark 3)))

  full-seen : (m b x : ℕ) → x < 3 → is_full m (seen marks) b x ≡ is_full m marks b x
  unfolding is_full
  full-seen m b x h = ap (λ (f : ℕ → Bool). all f (range 0 m)) (fun_ext (λ page. mark-seen (slot m b page) x h))

  unfinished-seen : (m b : ℕ) → is_unfinished m (seen marks) b ≡ is_unfinished m marks b
  unfolding is_unfinished
  unfinished-seen m b = rw (full-seen m b 0 (omega arith), full-seen m b 1 (omega arith), full-seen m b 2 (omega arith))

  -- ---- mend's lines
  module _ (Z : Sizes) where
    full-from-seen : (i block count : ℕ) → full_from Z (seen marks) i block count ≡ full_from Z marks i block count
    unfolding full_from letter
    full-from-seen i block count = ap (λ (f : ℕ → Bool). all f (range block count)) (fun_ext (λ b. full-seen Z.m b (letter Z i) (omega arith)))

    torn-forth : (b : ℕ) → forward_torn Z (seen marks) b ≡ forward_torn Z marks b
    unfolding forward_torn
    torn-forth b = rw (unfinished-seen Z.m b, full-from-seen 1 0 b, full-from-seen 0 (b + 1) (Z.n - b))

    torn-back : (b : ℕ) → backward_torn Z (seen marks) b ≡ backward_torn Z marks b
    unfolding backward_torn
    torn-back b = rw (unfinished-seen Z.m b, full-from-seen 1 0 b, full-from-seen 2 (b + 1) (Z.n - b))

    full-forth : (i : ℕ) → forward_full Z (seen marks) i ≡ forward_full Z marks i
    unfolding forward_full
    full-forth i = rw (full-from-seen 1 0 i, full-from-seen 0 i (Z.n + 1 - i))

    full_back : (b : ℕ) → backward_full Z (seen marks) b ≡ backward_full Z marks b
    unfolding backward_full
    full_back b = rw (full-from-seen 1 0 b, full-from-seen 2 b (Z.n + 1 - b))

    lines-seen : lines Z (seen marks) ≡ lines Z marks
    unfolding lines
    lines-seen = rw (
      fun_ext {f = forward_torn Z (seen marks)} {g = forward_torn Z marks} torn-forth,
      fun_ext {f = backward_torn Z (seen marks)} {g = backward_torn Z marks} torn-back,
      fun_ext {f = forward_full Z (seen marks)} {g = forward_full Z marks} full-forth,
      fun_ext {f = backward_full Z (seen marks)} {g = backward_full Z marks} full_back,
    )

    pub reading-is : reading Z marks ≡ first_fit (lines Z marks)
    unfolding reading
    reading-is = ap first_fit lines-seen

  -- ---- the slots that read sums
  module _ (M : Move) where
    full-of-seen : (i b : ℕ) → full_of M (seen marks) i b ≡ full_of M marks i b
    unfolding full_of letter
    full-of-seen i b = full-seen M.sizes.m b (letter M.sizes i) (omega arith)

    back-seen : (set bound v : ℕ) → go_back M (seen marks) set bound v ≡ go_back M marks set bound v
    unfolding go_back coded_slot plain_slot
    back-seen set zero v = refl
    back-seen set (suc bound) v = rw (full-of-seen 0 (pred M set v), back-seen set bound (pred M set v))

    on-seen : (set bound v : ℕ) → go_on M (seen marks) set bound v ≡ go_on M marks set bound v
    unfolding go_on coded_slot final_slot
    on-seen set zero v = refl
    on-seen set (suc bound) v = rw (full-of-seen 2 (dest M set (dest M set v)), on-seen set bound (dest M set v))

    pub slots-seen : (k : ℕ) → read_slots M (seen marks) k ≡ read_slots M marks k
    unfolding read_slots plain_slot final_slot
    slots-seen k =
        let v = block_of M.sizes.m k in
        let set = set_of M.sets k in
        rw (
          fun_ext {f = full_of M (seen marks) 0} {g = full_of M marks 0} (full-of-seen 0),
          full-of-seen 1 (top M set v - 1),
          full-of-seen 2 (dest M set v),
          back-seen set M.sizes.n v,
          on-seen set M.sizes.n v,
        )

-- what is marked s is seen as it is
term-seen : (X : Plan) (marks : List ℕ) (t : ℕ) → term_at X (seen marks) t ≡ term_at X marks t
unfolding term_at letter
term-seen X marks t = rw (mark-seen marks t (letter X.move.sizes 0) (omega arith))

pub terms-seen : (X : Plan) (marks : List ℕ) (k : ℕ) → read_terms X (seen marks) k ≡ read_terms X marks k
unfolding read_terms
terms-seen X marks k = rw (slots-seen marks X.move k, fun_ext {f = term_at X (seen marks)} {g = term_at X marks} (term-seen X marks))

pub page-seen : (X : Plan) (chip : Chip) (k : ℕ) → read_page X (record { store = chip.store; marks = seen chip.marks }) k ≡ read_page X chip k
unfolding read_page term_page page_at
page-seen X chip k = rw (terms-seen X chip.marks k, fun_ext {f = term_page X.move.sizes.p (record { store = chip.store; marks = seen chip.marks })} {g = term_page X.move.sizes.p chip} same)
  where
    same : (x : Term) → term_page X.move.sizes.p (record { store = chip.store; marks = seen chip.marks }) x ≡ term_page X.move.sizes.p chip x
    same (stored t) = refl
    same filler = refl
