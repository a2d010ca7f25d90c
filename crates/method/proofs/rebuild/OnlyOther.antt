-- By which sum each original is rebuilt, and what a slot loses.
use Rattle.flash.proofs.Kit.{◌≡◌, sym, ap, ◌∙◌, subst, true, some, List, ℕ, ◌/◌, ◌<◌, arith}
use Rattle.flash.specs.Lists.{part}
use Rattle.flash.specs.declared.sizes.Sizes.{Sizes}
use Rattle.flash.specs.Geometry.{original_count, letter}
use Rattle.flash.specs.Chip.{Chip, is_full}
use Rattle.flash.proofs.Bools.{never_both}
use Rattle.split.specs.Split.{set_of}
use Rattle.split.specs.Request.{Request}
use Rattle.method.specs.Move.{Move, AcceptedMove}
use Rattle.method.specs.Place.{filling}
use Rattle.method.specs.Read.{read_slots}
use Rattle.method.specs.Mend.{seen}
use Rattle.method.specs.Rebuild.{apart, rebuilt_from, rebuilt_page, rebuilt_flag, rebuilt, rebuild_answer, RebuildAnswer, whole_move}
use Rattle.method.specs.Unreadable.{flag_of, is_of_set, RebuiltBy, OnlyOther, LostFew}
use Rattle.method.proofs.basics.Indexes.{clash}
use Rattle.method.proofs.cycles.SetCycles.{set-in}
use Rattle.method.proofs.recovery.MarksSeen.{slots-seen}
use Rattle.method.proofs.rebuild.Lists.{has}
use Rattle.method.proofs.rebuild.BlockFilled.{JustFilled, block-torn}
use Rattle.method.proofs.rebuild.OtherSum.{each-has, zero_of}
use Rattle.method.proofs.rebuild.LastPages.{last-in-zero}
use Rattle.method.proofs.rebuild.Taken.{RebuildTaken, rebuild-taken, FromCases, by-own, by-other, lost-torn, lost-full, from-cases, reads_now, area-part, flag_is}
use Rattle.method.proofs.rebuild.OwnSets.{only-last, read-of-set}
use Rattle.method.proofs.rebuild.UsedSums.{own-sum, other-sum}
use Rattle.method.proofs.rebuild.Lost.{mend-place}
use Rattle.method.proofs.rebuild.OnlySum.{same-slots}

module _ (R : Request) (chip : Chip) (area flags : List ℕ) (bad : ℕ) (T : RebuildTaken R chip area flags bad) (k : ℕ) (k-in : k < original_count R.sizes) where
  open R.sizes use {m, p as P}

  abbrev Z : Sizes
  Z = R.sizes

  abbrev M : Move
  M = whole_move R

  abbrev A : AcceptedMove M
  A = T.accepted

  abbrev place : ℕ
  place = T.found.place

  abbrev Cases : Type 0
  Cases = FromCases M A chip.marks T.found T.told bad k k-in

  cases : Cases
  cases = from-cases M A chip.marks T.found T.told bad k k-in

  flag : flag_of (rebuild_answer R chip area flags bad) k ≡ rebuilt_flag (rebuilt_from M (seen chip.marks) T.found bad k)
  flag = ap (λ (a : RebuildAnswer). flag_of a k) T.answer ∙ flag_is M chip T.found bad k k-in

  page : part P k (rebuild_answer R chip area flags bad).area ≡ rebuilt_page P chip (rebuilt_from M (seen chip.marks) T.found bad k)
  unfolding rebuilt
  page = ap (λ (a : RebuildAnswer). part P k a.area) T.answer ∙ area-part M A chip.marks T.found T.told bad chip T.store_length k k-in

  seen_same : read_slots M (seen chip.marks) k ≡ read_slots M chip.marks k
  seen_same = slots-seen chip.marks M k

  rebuilt-by : Cases → rebuilt_flag (rebuilt_from M (seen chip.marks) T.found bad k) ≡ 1 → RebuiltBy R chip area flags place bad k
  unfolding rebuilt_flag rebuilt_page
  rebuilt-by (by-own q f) e = record {
    slots = read_slots M chip.marks k;
    page = page ∙ ap (rebuilt_page P chip) f;
    gives = own-sum R chip area flags bad T k k-in q;
    by_read = λ out. sym seen_same;
    only = λ met. absurd (never_both met (ap (has bad) seen_same ∙ q));
  }
  rebuilt-by (by-other q J z f) e = record {
    slots = apart (read_slots M chip.marks k) (zero_of M A chip.marks place J k k-in);
    page = page ∙ ap (rebuilt_page P chip) f;
    gives = other-sum R chip area flags bad T k k-in J q z;
    by_read = λ out. absurd (never_both q (ap (has bad) (sym seen_same) ∙ out));
    only = λ met other Y. same-slots R chip area flags bad T k k-in J z other _ Y (other-sum R chip area flags bad T k k-in J q z);
  }
  rebuilt-by (lost-torn q b t f) e = absurd (clash (rw f at e))
  rebuilt-by (lost-full q J z f) e = absurd (clash (rw f at e))

  -- ---- what is lost
  lost-of-set : Cases → rebuilt_flag (rebuilt_from M (seen chip.marks) T.found bad k) ≡ 0 → is_of_set R place k bad ≡ true
  unfolding rebuilt_flag
  lost-of-set (by-own q f) e = absurd (clash (sym (rw f at e)))
  lost-of-set (by-other q J z f) e = absurd (clash (sym (rw f at e)))
  lost-of-set (lost-torn q b t f) e = read-of-set R chip area flags bad T k k-in bad q
  lost-of-set (lost-full q J z f) e = read-of-set R chip area flags bad T k k-in bad q

  module _ (filled : filling Z place ≡ bad / m) where
    -- read sums no page of a block that is torn
    torn-apart : has bad (read_slots M chip.marks k) ≡ true → (b : ℕ) → T.found.to_erase ≡ some b → ⊥
    torn-apart q b t =
        let B = block-torn Z A.ranges chip.marks T.found T.told b t in
        let off = each-has (λ u. u / m ≡ b → ⊥) (read_slots M chip.marks k) (λ i l e.
        let s = (reads_now M A chip.marks T.found T.told bad k k-in).sited i l in
        never_both (subst (λ (c : ℕ). is_full m chip.marks c (letter Z s.index) ≡ true) e s.full) (B.shape.between b (omega arith) (omega arith) s.index)) in
        off bad q (sym filled ∙ B.begun.stands.block-is)

    -- and the one that it sums of a block just filled is in the zero sum
    in-zero : has bad (read_slots M chip.marks k) ≡ true → (J : JustFilled Z chip.marks place) → has bad (zero_of M A chip.marks place J k k-in) ≡ true
    in-zero q J =
        let is = only-last R chip area flags bad T J k k-in bad T.inside (sym filled ∙ J.stands.block-is) (read-of-set R chip area flags bad T k k-in bad q) in
        ap (λ (u : ℕ). has u (zero_of M A chip.marks place J k k-in)) is ∙ last-in-zero M A chip.marks place J (set_of M.sets k) (set-in M A k k-in)

    kept-last : Cases → rebuilt_flag (rebuilt_from M (seen chip.marks) T.found bad k) ≡ 1
    unfolding rebuilt_flag
    kept-last (by-own q f) = rw f
    kept-last (by-other q J z f) = rw f
    kept-last (lost-torn q b t f) = absurd (torn-apart q b t)
    kept-last (lost-full q J z f) = absurd (never_both (in-zero q J) z)

pub only-other : OnlyOther
unfolding OnlyOther
only-other R chip area flags bad e wear k k-in f =
    let T = rebuild-taken R chip area flags bad e in
    subst (λ (p : ℕ). RebuiltBy R chip area flags p bad k) (sym (mend-place R chip area flags bad T wear))
    (rebuilt-by R chip area flags bad T k k-in (cases R chip area flags bad T k k-in) (sym (flag R chip area flags bad T k k-in) ∙ f))

pub lost-few : LostFew
lost-few = record {
  own-set = λ R chip area flags bad e wear k k-in f.
      let T = rebuild-taken R chip area flags bad e in
      subst (λ (p : ℕ). is_of_set R p k bad ≡ true) (sym (mend-place R chip area flags bad T wear))
      (lost-of-set R chip area flags bad T k k-in (cases R chip area flags bad T k k-in) (sym (flag R chip area flags bad T k k-in) ∙ f));
  filled-last = λ R chip area flags bad e wear filled k k-in.
      let T = rebuild-taken R chip area flags bad e in
      flag R chip area flags bad T k k-in
      ∙ kept-last R chip area flags bad T k k-in (ap (filling R.sizes) (sym (mend-place R chip area flags bad T wear)) ∙ filled) (cases R chip area flags bad T k k-in);
}
