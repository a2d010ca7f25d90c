-- Store and marks as a place has them, with whole pages that hold what they should, are the state of that place.
use Rattle.flash.proofs.Kit.{◌≡◌, sym, ap, ap₂, ◌∙◌, List, ◌++◌, ℕ, zero, suc, ◌+◌, ◌-◌, ◌*◌, ◌/◌, ◌%◌, ◌≤◌, ◌<◌, suc-mul, not-suc-le-zero}
use Rattle.flash.proofs.Kit.{le_of_suc-le-suc, arith, length, get_or, take, drop, length-append, take_at, drop_at, drop-drop}
use Rattle.flash.specs.Lists.{range, part, concat_map}
use Rattle.flash.specs.declared.sizes.Sizes.{Sizes}
use Rattle.flash.specs.Geometry.{slot, slot_of, number_at, slot_count, store_len}
use Rattle.flash.specs.Chip.{Chip, page_at, mark_at}
use Rattle.flash.proofs.Bounds.{slot-in-marks, slot-in-store}
use Rattle.flash.proofs.Parts.{length_part, parts-ext}
use Rattle.flash.proofs.Sums.{sum_one}
use Rattle.flash.proofs.Chips.{page-is, blank-page}
use Rattle.method.specs.Move.{Plan, AcceptedMove}
use Rattle.method.specs.Cycle.{sent_to}
use Rattle.method.specs.Place.{Held, blank, plain, code, final, held_at, held_mark}
use Rattle.method.specs.State.{held_originals, counts_as, held_page, state_of}
use Rattle.method.proofs.basics.MoveShape.{Holding}
use Rattle.method.proofs.basics.AcceptedCalls.{StandsAt}
use Rattle.method.proofs.basics.Indexes.{each-slot, slot-div, slot-mod}
use Rattle.method.proofs.cycles.SetCycles.{sent-in, entry-sent}
use Rattle.method.proofs.places.PagesHeld.{HeldCases, coded, ended, resting, empty, held-cases, stands-marks}
use Rattle.method.proofs.states.PagesWritten.{number_in}

-- pages of one size, one after the other
pub length-pages : (size : ℕ) (page : ℕ → List ℕ) (start count : ℕ) → ((t : ℕ) → start ≤ t → t < start + count → length (page t) ≡ size) → length (concat_map page (range start count)) ≡ count * size
unfolding concat_map range
length-pages size page start zero each = omega arith
length-pages size page start (suc count) each =
    length-append (page start) (concat_map page (range (suc start) count))
    ∙ omega (arith, each start (omega arith) (omega arith), length-pages size page (suc start) count (λ t a b. each t (omega arith) (omega arith)), suc-mul count size)

pub page-of : (size : ℕ) (page : ℕ → List ℕ) (start count i : ℕ) → ((t : ℕ) → start ≤ t → t < start + count → length (page t) ≡ size) → i < count
    → part size i (concat_map page (range start count)) ≡ page (start + i)
unfolding concat_map range part
page-of size page start zero i each h = absurd (not-suc-le-zero h)
page-of size page start (suc count) zero each h =
    let none : 0 * size ≡ 0 = omega arith in
    let s : start + 0 ≡ start = omega arith in
    rw (none, s) (take_at (page start) (concat_map page (range (suc start) count)) size (each start (omega arith) (omega arith)))
page-of size page start (suc count) (suc i) each h =
    let rest = concat_map page (range (suc start) count) in
    let split : suc i * size ≡ size + i * size = omega (arith, suc-mul i size) in
    let s : suc start + i ≡ start + suc i = omega arith in
    ap (λ (k : ℕ). take size (drop k (page start ++ rest))) split
    ∙ ap (take size) (sym (drop-drop (i * size) size (page start ++ rest)))
    ∙ ap (λ (l : List ℕ). take size (drop (i * size) l)) (drop_at (page start) rest size (each start (omega arith) (omega arith)))
    ∙ page-of size page (suc start) count i (λ t a b. each t (omega arith) (omega arith)) (le_of_suc-le-suc h)
    ∙ ap page s

-- a page number and its block and page
pub slot-number : (m b q : ℕ) → 1 ≤ b → q < m → slot_of m (number_at m b q) ≡ slot m b q
slot-number m b q l h =
    let block : (b - 1) + 1 ≡ b = omega arith in
    ap₂ (slot m) (ap (λ (x : ℕ). x + 1) (slot-div m (b - 1) q h) ∙ block) (slot-mod m (b - 1) q h)

module _ (X : Plan) (A : AcceptedMove X.move) (originals : List ℕ) (chip : Chip) (place : ℕ) (S : StandsAt X.move.sizes chip place)
    (size : length chip.store ≡ store_len X.move.sizes) (H : Holding X originals chip) where
  open X use {move as M}
  open M.sizes use {n, m, p as P}

  abbrev Z : Sizes
  Z = M.sizes

  abbrev original : ℕ → List ℕ
  original k = part P k originals

  module _ (b q : ℕ) (b-in : b ≤ n) (q-in : q < m) where
    abbrev page : List ℕ
    page = page_at P chip (slot m b q)

    marked : (h : Held) → held_at Z place b q ≡ h → mark_at chip.marks (slot m b q) ≡ held_mark Z h
    marked h e = (stands-marks Z S).mark-is b q b-in q-in ∙ ap (held_mark Z) e

    is-blank : held_at Z place b q ≡ blank → page ≡ held_page X originals blank b q
    unfolding held_mark held_page
    is-blank e =
        let inside = slot-in-marks Z b q b-in q-in in
        blank-page P chip (slot m b q) (rw size (slot-in-store Z (slot m b q) inside)) (S.blank (slot m b q) inside (marked blank e))

    is_plain : 1 ≤ b → held_at Z place b q ≡ plain → page ≡ held_page X originals plain b q
    unfolding held_mark held_page held_originals
    is_plain l e =
        let at = slot-number m b q l q-in in
        ap (page_at P chip) (sym at) ∙ H.plain (number_at m b q) (number_in M A b q l b-in q-in) (ap (mark_at chip.marks) at ∙ marked plain e)
        ∙ sym (sum_one original (number_at m b q))

    is_code : b < n → held_at Z place b q ≡ code → page ≡ held_page X originals code b q
    unfolding held_mark held_page held_originals
    is_code l e =
        let down : b + 1 - 1 ≡ b = omega arith in
        ap (λ (x : ℕ). page_at P chip (slot m x q)) (sym down)
        ∙ H.code q (b + 1) q-in (omega arith) (omega arith) (ap (λ (x : ℕ). mark_at chip.marks (slot m x q)) down ∙ marked code e)

    is-final : 1 ≤ b → held_at Z place b q ≡ final → page ≡ held_page X originals final b q
    unfolding held_mark held_page held_originals
    is-final l e =
        let number = number_at m b q in
        let inside = number_in M A b q l b-in q-in in
        let at : slot_of m (get_or M.list (sent_to M number) 0) ≡ slot m b q = ap (slot_of m) (entry-sent M A number inside) ∙ slot-number m b q l q-in in
        ap (page_at P chip) (sym at) ∙ H.final (sent_to M number) (sent-in M A number inside) (ap (mark_at chip.marks) at ∙ marked final e)
        ∙ sym (sum_one (counts_as X originals) (sent_to M number))

    held-as : (h : Held) → held_at Z place b q ≡ h → page ≡ held_page X originals h b q → page ≡ held_page X originals (held_at Z place b q) b q
    held-as h e p = p ∙ ap (λ (x : Held). held_page X originals x b q) (sym e)

    pub page-held : page ≡ held_page X originals (held_at Z place b q) b q
    page-held = go (held-cases Z place b q S.inside b-in)
      where
        go : HeldCases Z place b q → page ≡ held_page X originals (held_at Z place b q) b q
        go (coded l e) = held-as code e (is_code l e)
        go (ended l e) = held-as final e (is-final l e)
        go (resting f l e) = held-as plain e (is_plain l e)
        go (empty f k e) = held-as blank e (is-blank e)

  abbrev stored : ℕ → List ℕ
  stored t = held_page X originals (held_at Z place (t / m) (t % m)) (t / m) (t % m)

  page-stored : (t : ℕ) → t < slot_count Z → page_at P chip t ≡ stored t
  page-stored = each-slot m (n + 1) (λ t. page_at P chip t ≡ stored t) (λ b q h k.
      page-held b q (omega arith) k ∙ ap₂ (λ (x y : ℕ). held_page X originals (held_at Z place x y) x y) (sym (slot-div m b q k)) (sym (slot-mod m b q k)))

  stored-length : (t : ℕ) → t < slot_count Z → length (stored t) ≡ P
  stored-length t h = ap length (sym (page-stored t h) ∙ page-is P chip t) ∙ length_part P t chip.store (rw size (slot-in-store Z t h))

  pub is_state : chip ≡ state_of X originals place
  unfolding state_of
  is_state =
      let each : (t : ℕ) → 0 ≤ t → t < 0 + slot_count Z → length (stored t) ≡ P = λ t a b. stored-length t (omega arith) in
      ap₂ {C = Chip} (λ (s t : List ℕ). record { store = s; marks = t })
      (parts-ext P (slot_count Z) chip.store (concat_map stored (range 0 (slot_count Z))) size (length-pages P stored 0 (slot_count Z) each)
      (λ t h. let zero-first : 0 + t ≡ t = omega arith in
      sym (page-is P chip t) ∙ page-stored t h ∙ ap stored (sym zero-first) ∙ sym (page-of P stored 0 (slot_count Z) t each h)))
      S.marks
