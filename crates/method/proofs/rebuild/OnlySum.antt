-- Where no block is unfinished, a sum of pages of its set that gives an original is fixed by whether it has the page of the block that was filled last.
use Rattle.flash.proofs.Kit.{◌≡◌, refl, sym, ap, ap₂, ◌∙◌, subst, ⊎_elim, ◌≢◌, Bool, true, false, ◌&&◌, and-true, List, ℕ, ◌/◌, ◌<◌, get_or, bit_xor, xor_zero_r}
use Rattle.flash.specs.declared.sizes.Sizes.{Sizes}
use Rattle.flash.specs.Geometry.{original_count, slot_count}
use Rattle.flash.specs.Chip.{Chip}
use Rattle.flash.proofs.Bools.{bool_cases, never_both}
use Rattle.split.specs.Split.{set_of}
use Rattle.split.specs.Request.{Request}
use Rattle.method.specs.Move.{Move, AcceptedMove}
use Rattle.method.specs.Place.{marks_of}
use Rattle.method.specs.Read.{read_slots}
use Rattle.method.specs.Rebuild.{apart, whole_move}
use Rattle.method.specs.Unreadable.{SumOf}
use Rattle.method.proofs.cycles.SetCycles.{set-in}
use Rattle.method.proofs.states.RunsAddUp.{start-page}
use Rattle.method.proofs.rebuild.Lists.{has, either, has-apart, apart_distinct, mix, sum-byte, mix-apart}
use Rattle.method.proofs.rebuild.BlockFilled.{JustFilled, filled-there}
use Rattle.method.proofs.rebuild.ZeroSum.{zero-distinct, zero-bytes}
use Rattle.method.proofs.rebuild.OtherSum.{EachHas, each-apart, zero_of, zero-inside}
use Rattle.method.proofs.rebuild.LastPages.{last-in-zero}
use Rattle.method.proofs.rebuild.Taken.{RebuildTaken}
use Rattle.method.proofs.rebuild.UnitStores.{ButOne, but_last, value_in, unit_store, unit-starts, unit_pages, unit-shows, unit-sum}
use Rattle.method.proofs.rebuild.OwnSets.{last_of, only-last, zero-of-set}

-- what is added twice cancels
either-none : (a : Bool) → either a false ≡ a
unfolding either
either-none true = refl
either-none false = refl

either-back : (a z r : Bool) → either a z ≡ r → a ≡ either r z
unfolding either
either-back true true r e = ap (λ (b : Bool). either b true) e
either-back true false r e = e ∙ sym (either-none r)
either-back false true r e = ap (λ (b : Bool). either b true) e
either-back false false r e = e ∙ sym (either-none r)

either-left-out : (r b : Bool) → false ≡ either r b → b ≡ r
unfolding either
either-left-out true true e = refl
either-left-out true false e = e
either-left-out false b e = sym e

module _ (R : Request) (chip : Chip) (area flags : List ℕ) (bad : ℕ) (T : RebuildTaken R chip area flags bad) (k : ℕ) (k-in : k < original_count R.sizes)
    (J : JustFilled R.sizes chip.marks T.found.place) where
  open R.sizes use {m}

  abbrev Z : Sizes
  Z = R.sizes

  abbrev M : Move
  M = whole_move R

  abbrev A : AcceptedMove M
  A = T.accepted

  abbrev place : ℕ
  place = T.found.place

  abbrev O : ButOne R chip area flags bad T
  O = but_last R chip area flags bad T J

  abbrev last : ℕ
  last = last_of R chip area flags bad T J k k-in

  abbrev zeros : List ℕ
  zeros = zero_of M A chip.marks place J k k-in

  set-ok : set_of M.sets k < m
  set-ok = set-in M A k k-in

  abbrev begun : List ℕ
  begun = read_slots M O.begun k

  Beside : ℕ → Type 0
  Beside t = (t < slot_count Z) × (t / m ≢ J.block)

  zero-last : (t : ℕ) → has t zeros ≡ true → t / m ≡ J.block → t ≡ last
  zero-last t h e =
      only-last R chip area flags bad T J k k-in t (zero-inside M A chip.marks place J (set_of M.sets k) set-ok t h) e (zero-of-set R chip area flags bad T J k k-in t h)

  -- ---- one sum
  module _ (slots : List ℕ) (X : SumOf R place chip.marks bad k slots) where
    on-last : (t : ℕ) → has t slots ≡ true → t / m ≡ J.block → t ≡ last
    on-last t h e = only-last R chip area flags bad T J k k-in t (X.inside t h) e (X.own-set t h)

    -- with ones for slot u
    module _ (u : ℕ) where
      abbrev every : ℕ → Bool
      every q = true

      abbrev byte : (t : ℕ) → ℕ
      byte t = get_or (unit_pages R chip area flags bad T O u every t) 0 0

      abbrev value : ℕ
      value = get_or (value_in R chip area flags bad T O u every k) 0 0

      gives : mix byte slots ≡ value
      gives =
          let store : Chip = unit_store R chip area flags bad T O u every in
          let starts = unit-starts R chip area flags bad T O u every in
          sym (sum-byte (unit_pages R chip area flags bad T O u every) 0 slots)
          ∙ ap (λ (p : List ℕ). get_or p 0 0) (X.gives store starts ∙ sym (start-page R store starts k))

      without : has last slots ≡ false → has u slots ≡ has u begun
      without out = unit-sum R chip area flags bad T O u every slots X.once
          (λ t h. (X.inside t h, λ e. never_both (subst (λ (x : ℕ). has x slots ≡ true) (on-last t h e) h) out)) k k-in gives

      -- the zero sum takes the last page away
      abbrev less : List ℕ
      less = apart slots zeros

      less-gives : mix byte less ≡ value
      less-gives =
          mix-apart byte slots zeros X.once (zero-distinct M A chip.marks place J (set_of M.sets k) set-ok)
          ∙ ap₂ bit_xor gives
          (zero-bytes M A (marks_of Z place) place (filled-there Z chip.marks place J) (set_of M.sets k) set-ok (value_in R chip area flags bad T O u every)
          (unit_pages R chip area flags bad T O u every) (unit-shows R chip area flags bad T O u every) 0)
          ∙ xor_zero_r value

      less-beside : has last slots ≡ true → EachHas Beside less
      unfolding Beside either
      less-beside there t h =
          let inside : t < slot_count Z = each-apart (λ t. t < slot_count Z) slots zeros X.inside (zero-inside M A chip.marks place J (set_of M.sets k) set-ok) t h in
          let gone : has last less ≡ false = has-apart last slots zeros ∙ rw (there, last-in-zero M A chip.marks place J (set_of M.sets k) set-ok) in
          (inside, λ e. never_both (subst (λ (x : ℕ). has x less ≡ true) (each-apart (λ t. t / m ≡ J.block → t ≡ last) slots zeros on-last zero-last t h e) h) gone)

      with-last : has last slots ≡ true → has u slots ≡ either (has u begun) (has u zeros)
      unfolding Beside
      with-last there =
          either-back (has u slots) (has u zeros) (has u begun)
          (sym (has-apart u slots zeros)
          ∙ unit-sum R chip area flags bad T O u every less (apart_distinct slots zeros X.once (zero-distinct M A chip.marks place J (set_of M.sets k) set-ok))
          (less-beside there) k k-in less-gives)

      fixed : has u slots ≡ either (has u begun) (has last slots && has u zeros)
      fixed = ⊎_elim
          (λ (e : has last slots ≡ true). rw e (with-last e))
          (λ (e : has last slots ≡ false). rw e (without e ∙ sym (either-none (has u begun))))
          (bool_cases (has last slots))

    -- the slot that is left out tells whether it has that page
    has_last : has bad zeros ≡ true → has last slots ≡ has bad begun
    has_last z =
        let there : (has last slots && has bad zeros) ≡ has last slots = rw (z, and-true) in
        either-left-out (has bad begun) (has last slots) (sym X.left_out ∙ fixed bad ∙ ap (either (has bad begun)) there)

  pub same-slots : has bad zeros ≡ true → (one other : List ℕ) → SumOf R place chip.marks bad k one → SumOf R place chip.marks bad k other
      → (t : ℕ) → has t one ≡ has t other
  same-slots z one other X Y t =
      fixed one X t ∙ ap (λ (b : Bool). either (has t begun) (b && has t zeros)) (has_last one X z ∙ sym (has_last other Y z)) ∙ sym (fixed other Y t)
