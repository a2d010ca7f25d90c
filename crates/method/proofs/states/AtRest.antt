-- A store at rest stands at place 0, and its pages are the originals.
use Rattle.flash.proofs.Kit.{◌≡◌, sym, ap, ◌∙◌, subst, Bool, true, List, ℕ, zero, suc, ◌+◌, ◌-◌, ◌*◌, ◌%◌, ◌≤◌, ◌<◌, add-zero, mod-eq_of_lt, div-add-mod'}
use Rattle.flash.proofs.Kit.{add-mul, arith, length, get_or, take, drop, length-drop, drop-drop}
use Rattle.flash.specs.Lists.{range, all, part}
use Rattle.flash.specs.declared.sizes.Sizes.{Sizes}
use Rattle.flash.specs.Geometry.{Bounds, slot, slot_of, original_count, slot_count, store_len, marks_len, letter}
use Rattle.flash.specs.Chip.{Chip, erased, page_at, mark_at, is_blank, is_full}
use Rattle.flash.proofs.Bools.{and_left, and_right}
use Rattle.flash.proofs.Bounds.{slot-in-marks}
use Rattle.flash.proofs.Ranges.{all_in}
use Rattle.flash.proofs.Blocks.{full_at}
use Rattle.flash.proofs.Chips.{page-is, blank-mark}
use Rattle.method.specs.Move.{Move, AcceptedMove}
use Rattle.method.specs.Place.{forward, above, held_at, held_mark}
use Rattle.method.specs.State.{is_at_rest, originals_in}
use Rattle.method.proofs.basics.MoveShape.{Holding}
use Rattle.method.proofs.basics.AcceptedCalls.{StandsAt}
use Rattle.method.proofs.basics.Indexes.{each-slot}
use Rattle.method.proofs.places.PagesHeld.{held-above, held-blank, marks-eq}
use Rattle.method.proofs.places.StepsAtPlaces.{Stands, stands_at}
use Rattle.method.proofs.cycles.SetCycles.{entry_in, slot-in}

-- a part after a front of whole parts
part-after : (size i t : ℕ) (xs : List ℕ) → part size t (drop (i * size) xs) ≡ part size (i + t) xs
unfolding part
part-after size i t xs = ap (take size) (drop-drop (t * size) (i * size) xs ∙ ap (λ (k : ℕ). drop k xs) (sym (add-mul i t size)))

module _ (M : Move) (A : AcceptedMove M) (chip : Chip) (store_length : length chip.store ≡ store_len M.sizes) (marks-length : length chip.marks ≡ marks_len M.sizes) (rest : is_at_rest M.sizes chip ≡ true) where
  open M.sizes use {n, m, p as P, s}

  abbrev Z : Sizes
  Z = M.sizes

  B : Bounds Z
  B = A.ranges

  start : Stands Z 0 forward 0 0
  start =
      let at : 0 * (m + 1) + 0 ≡ 0 = omega arith in
      subst (λ (p : ℕ). Stands Z p forward 0 0) at (stands_at Z forward 0 0 B.n-low (omega arith))

  letter-0 : letter Z 0 ≡ s
  unfolding letter
  letter-0 = ap (λ (x : ℕ). x % 3) (add-zero s) ∙ mod-eq_of_lt B.s-high

  spare-blank : (q : ℕ) → q < m → is_blank P chip (slot m 0 q) ≡ true
  unfolding is_at_rest
  spare-blank q h = all_in (λ page. is_blank P chip (slot m 0 page)) 0 m (and_right (all (λ block. is_full m chip.marks block s) (range 1 n)) _ rest) q (omega arith) (omega arith)

  data-mark : (b q : ℕ) → 1 ≤ b → b ≤ n → q < m → mark_at chip.marks (slot m b q) ≡ letter Z 0
  unfolding is_at_rest
  data-mark b q l h k =
      full_at m chip.marks b s q (all_in (λ block. is_full m chip.marks block s) 1 n (and_left _ _ rest) b l (omega arith)) k ∙ sym letter-0

  mark-at-0 : (b q : ℕ) → b ≤ n → q < m → mark_at chip.marks (slot m b q) ≡ held_mark Z (held_at Z 0 b q)
  unfolding held_mark above
  mark-at-0 zero q h k =
      blank-mark P chip (slot m 0 q) (spare-blank q k) ∙ sym (ap (held_mark Z) (held-blank Z 0 0 q (sym start.block-is) (omega (arith, start.pages-is))))
  mark-at-0 (suc b) q h k =
      data-mark (suc b) q (omega arith) h k
      ∙ sym (ap (held_mark Z) (held-above Z 0 (suc b) q (omega (arith, start.block-is)) ∙ ap above start.pass-is))

  pub rest-stands : StandsAt Z chip 0
  unfolding letter
  rest-stands = record {
    inside = omega arith;
    marks = marks-eq Z 0 chip.marks B.m-low (record { length-is = marks-length; mark-is = mark-at-0 });
    blank = each-slot m (n + 1) (λ t. mark_at chip.marks t ≡ erased → is_blank P chip t ≡ true) at;
  }
    where
      at : (b q : ℕ) → b < n + 1 → q < m → mark_at chip.marks (slot m b q) ≡ erased → is_blank P chip (slot m b q) ≡ true
      at zero q h k e = spare-blank q k
      at (suc b) q h k e = absurd (omega (arith, sym (data-mark (suc b) q (omega arith) (omega arith) k) ∙ e))

  -- a page marked with a letter is marked s
  only-s : (t : ℕ) → t < slot_count Z → (i : ℕ) → mark_at chip.marks t ≡ letter Z i → letter Z i ≡ letter Z 0
  unfolding letter
  only-s = each-slot m (n + 1) (λ t. (i : ℕ) → mark_at chip.marks t ≡ letter Z i → letter Z i ≡ letter Z 0) at
    where
      at : (b q : ℕ) → b < n + 1 → q < m → (i : ℕ) → mark_at chip.marks (slot m b q) ≡ letter Z i → letter Z i ≡ letter Z 0
      at zero q h k i e = absurd (omega (arith, sym (blank-mark P chip (slot m 0 q) (spare-blank q k)) ∙ e))
      at (suc b) q h k i e = sym e ∙ data-mark (suc b) q (omega arith) (omega arith) k

  -- slot m + k is that of original k
  slot-of : (k : ℕ) → slot_of m k ≡ m + k
  slot-of k = omega (arith, div-add-mod' k m)

  pub rest-page : (k : ℕ) → page_at P chip (slot_of m k) ≡ part P k (originals_in Z chip)
  unfolding originals_in
  rest-page k = page-is P chip (slot_of m k) ∙ ap (λ (t : ℕ). part P t chip.store) (slot-of k) ∙ sym (part-after P m k chip.store)

  pub rest-holds : (is_dropped : ℕ → Bool) → Holding (record { move = M; is_dropped = is_dropped }) (originals_in Z chip) chip
  unfolding letter
  rest-holds is_dropped = record {
    plain = λ k h e. rest-page k;
    code = λ set v q l u e. absurd (omega (arith, only-s (slot m (v - 1) set) (slot-in-marks Z (v - 1) set (omega arith) q) 1 e));
    final = λ k h e. absurd (omega (arith, only-s (slot_of m (get_or M.list k 0)) (slot-in M A (get_or M.list k 0) (entry_in M A k h)) 2 e));
  }

  pub rest-length : length (originals_in Z chip) ≡ original_count Z * P
  unfolding originals_in
  rest-length = length-drop (m * P) chip.store ∙ omega (arith, store_length, add-mul n 1 m, add-mul (n * m) m P)
