-- What stands after a turn, and what a line that was told leads to.
use Rattle.flash.proofs.Kit.{◌≡◌, sym, ap, ◌∙◌, subst, ⊎_elim, Bool, true, false, cond, not, ◌&&◌, List, ℕ, ◌+◌, ◌*◌, ◌^◌, ◌≤◌, ◌<◌, arith, length, drop, length-set, length-drop, length-replicate}
use Rattle.flash.proofs.Kit.{replicate, eqb, ltb, ltb-true, ltb-false}
use Rattle.flash.proofs.Bools.{bool_cases}
use Rattle.flash.specs.Geometry.{slot}
use Rattle.flash.proofs.Parts.{length-set_part}
use Rattle.checker.specs.Pages.{is_bad_write, page_written, block_erased, are_determined, is_requested}
use Rattle.checker.specs.Lines.{Read, read_line}
use Rattle.checker.specs.Answer.{Progress, on, turn}
use Rattle.checker.specs.inner.Pages.{Masks}
use Rattle.checker.specs.inner.Told.{cap, wrote, erased, ended, unread, said_of}
use Rattle.std.proofs.Common.{Result, Ok, Err}
use Rattle.flash.specs.declared.refusal.Refusal.TheVariants.{BadLine, BadWrite, LostOriginal}
use Rattle.checker.specs.declared.fault.Fault.{Fault}
use Rattle.checker.specs.declared.fault.Fault.TheVariants.{Line}
use Rattle.checker.specs.declared.turn.Turn as code
use Rattle.checker.specs.declared.turn.Turn.TheVariants.{On, End}
use Rattle.checker.specs.inner.Turns.{Standing, fault_at, on_if, ended_if, turn_as, GoesOn}
use Rattle.checker.proofs.PageLaws.{written-determined}
use Rattle.checker.proofs.MasksLaws.{said-small, masks-written, masks-erased}
use Rattle.checker.proofs.TurnLaws.{said-write, said-erase, turn-bad, turn-write, turn-lost, turn-erase, turn-after-end, turn_end, turn-other}

module _ (n m : ℕ) (pages text : List ℕ) (writes erases at next : ℕ) (S : Standing n m pages text writes erases at) (ahead : at < next) (within : next ≤ length text) where
  module _ (b q mask : ℕ) (back : List ℕ) (is : back ≡ cond (is_bad_write m pages b q) pages (page_written m pages b q mask)) (good : is_bad_write m pages b q ≡ false) (inside : q < m) where
    pages-written : back ≡ page_written m pages b q mask
    pages-written = is ∙ ap (λ (t : Bool). cond t pages (page_written m pages b q mask)) good

    stands-written : mask < 2 ^ (n * m) → Standing n m back text (writes + 1) erases next
    unfolding page_written
    stands-written small = record {
      size = ap length pages-written ∙ length-set pages (slot m b q) mask ∙ S.size;
      masks = subst (Masks (n * m)) (sym pages-written) (masks-written (n * m) m pages b q mask S.masks small);
      determined = ap (are_determined (n * m)) pages-written ∙ written-determined m pages b q inside good (n * m) mask S.determined;
      few = omega (arith, S.few);
      within = within;
    }

  stands-erased : (b : ℕ) (back : List ℕ) → back ≡ block_erased m pages b → b * m + m ≤ length pages → are_determined (n * m) (block_erased m pages b) ≡ true
      → Standing n m back text writes (erases + 1) next
  unfolding block_erased
  stands-erased b back is fits d = record {
    size = ap length is ∙ length-set_part m b pages (replicate m 0) fits (length-replicate m 0) ∙ S.size;
    masks = subst (Masks (n * m)) (sym is) (masks-erased (n * m) m pages b S.masks);
    determined = ap (are_determined (n * m)) is ∙ d;
    few = omega (arith, S.few);
    within = within;
  }

-- ---- a line that was told, and what the code makes of it
module _ (n m : ℕ) (list text pages : List ℕ) (writes erases at : ℕ) (S : Standing n m pages text writes erases at) where
  abbrev before : Progress
  before = record { writes = writes; erases = erases; pages = pages }

  abbrev read : Read
  read = read_line n m (writes + erases) (drop at text)

  abbrev pub Taken : Result code.Turn Fault → (back : List ℕ) → Type 0
  Taken r back = (turn_as r back ≡ turn n m list read.line read.rest before) × GoesOn n m back text (writes + erases) read.rest r

  module _ (b q mask next : ℕ) (s : wrote b q mask (drop next text) ≡ said_of read) (ahead : at < next) (within : next ≤ length text) (inside : q < m) where
    pub write-taken : (back : List ℕ) (r : Result code.Turn Fault) → r ≡ on_if (not (is_bad_write m pages b q)) (writes + 1) erases next BadWrite (writes + erases + 1)
        → back ≡ cond (is_bad_write m pages b q) pages (page_written m pages b q mask) → Taken r back
    write-taken back r e is = ⊎_elim
        (λ (bad : is_bad_write m pages b q ≡ true).
        let f : r ≡ Err (Line BadWrite (writes + erases + 1)) = e ∙ rw bad in
        rw f (turn-bad n m list read.line read.rest before b q mask (drop next text) s inside bad, tt))
        (λ (fine : is_bad_write m pages b q ≡ false).
        let f : r ≡ Ok (On (record { writes = writes + 1; erases = erases; at = next })) = e ∙ rw fine in
        let back_is = pages-written n m pages text writes erases at next S ahead within b q mask back is fine inside in
        rw f (
          ap (λ (l : List ℕ). on (record { writes = writes + 1; erases = erases; pages = l })) back_is
              ∙ turn-write n m list read.line read.rest before b q mask (drop next text) s inside fine S.determined,
          (
            stands-written n m pages text writes erases at next S ahead within b q mask back is fine inside
                (said-small n m (writes + erases) (drop at text) b q mask (drop next text) s),
            (said-write read.line read.rest b q mask (drop next text) s).3,
            omega arith,
          ),
        ))
        (bool_cases (is_bad_write m pages b q))

  module _ (b next : ℕ) (s : erased b (drop next text) ≡ said_of read) (ahead : at < next) (within : next ≤ length text) (fits : b * m + m ≤ length pages) where
    pub erase-taken : (back : List ℕ) (r : Result code.Turn Fault)
        → r ≡ on_if (are_determined (n * m) (block_erased m pages b)) writes (erases + 1) next LostOriginal (writes + erases + 1)
        → back ≡ block_erased m pages b → Taken r back
    erase-taken back r e is = ⊎_elim
        (λ (kept : are_determined (n * m) (block_erased m pages b) ≡ true).
        let f : r ≡ Ok (On (record { writes = writes; erases = erases + 1; at = next })) = e ∙ rw kept in
        rw f (
          ap (λ (l : List ℕ). on (record { writes = writes; erases = erases + 1; pages = l })) is
              ∙ turn-erase n m list read.line read.rest before b (drop next text) s fits kept,
          (
            stands-erased n m pages text writes erases at next S ahead within b back is fits kept,
            (said-erase read.line read.rest b (drop next text) s).1,
            omega arith,
          ),
        ))
        (λ (lost : are_determined (n * m) (block_erased m pages b) ≡ false).
        let f : r ≡ Err (Line LostOriginal (writes + erases + 1)) = e ∙ rw lost in
        rw f (turn-lost n m list read.line read.rest before b (drop next text) s fits lost, tt))
        (bool_cases (are_determined (n * m) (block_erased m pages b)))

  pub end-taken : (w r next : ℕ) → ended w r (drop next text) ≡ said_of read → writes + erases < cap → (back : List ℕ) (given : Result code.Turn Fault)
      → given ≡ ended_if (ltb next (length text)) (writes + erases) (eqb w writes && eqb r erases && is_requested m list pages) → Taken given back
  end-taken w r next s small back given e = ⊎_elim
      (λ (more : ltb next (length text) ≡ true).
      let h = ltb-true next (length text) more in
      let f : given ≡ Err (Line BadLine (writes + erases + 2)) = e ∙ rw more in
      rw f (turn-after-end n m list read.line read.rest before w r (drop next text) s (omega (arith, length-drop next text)), tt))
      (λ (none : ltb next (length text) ≡ false).
      let h = ltb-false next (length text) none in
      let f : given ≡ Ok (End (eqb w writes && eqb r erases && is_requested m list pages)) = e ∙ rw none in
      rw f (
        turn_end n m list read.line read.rest before w r (drop next text) s (omega (arith, length-drop next text)) (omega arith) (omega arith),
        tt,
      ))
      (bool_cases (ltb next (length text)))

  pub other-taken : unread ≡ said_of read → (back : List ℕ) (r : Result code.Turn Fault) → r ≡ fault_at BadLine (writes + erases + 1) → Taken r back
  other-taken s back r e = rw e (turn-other n m list read.line read.rest before s, tt)
