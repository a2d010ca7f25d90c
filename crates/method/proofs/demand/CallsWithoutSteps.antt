-- Calls that take no step, refused ones and reads among them, keep what is kept; cut or not.
use Rattle.flash.proofs.Kit.{◌≡◌, refl, sym, ap, ◌∙◌, subst, ◌⊎◌, inl, inr, ⊎_elim, true, false, cond, List, [], ◌++◌, append-nil, or-false, ℕ, suc}
use Rattle.flash.proofs.Kit.{◌≤◌, arith, length}
use Rattle.flash.specs.Lists.{count}
use Rattle.flash.specs.Chip.{Chip}
use Rattle.flash.proofs.Bools.{bool_cases}
use Rattle.method.specs.Move.{Plan}
use Rattle.method.specs.Place.{Operation}
use Rattle.method.specs.Step.{is_erase}
use Rattle.method.specs.Events.{Call, CutPoint, uncut, between, inside, History, steps_of, chip_after, chip_returned, returns_finished, is_mend, during, returned, cut_short, after_call, steps_finished}
use Rattle.method.specs.Demand3.{CutObeys}
use Rattle.method.proofs.basics.AcceptedCalls.{StandsAt}
use Rattle.method.proofs.recovery.Moments.{Moment}
use Rattle.method.proofs.basics.MoveShape.{Holding}
use Rattle.method.proofs.demand.KeptByHistories.{Bounded, within, once_more, Fresh, Kept}

-- what is kept by an event: inside its call, and after it
pub record EventKept (X : Plan) (originals : List ℕ) (h : History) (call : Call) (cut : CutPoint) : Type 0 where
  pub inside : (i : ℕ) → i ≤ steps_finished h call cut → Kept X originals (during h call i)
  pub after : Kept X originals (after_call h call cut)

-- a history that differs in nothing that matters: the same chip, and no operation begun
pub record Later (h g : History) : Type 0 where
  pub chip : g.chip ≡ h.chip
  pub begun : g.begun ≡ h.begun
  pub mends : h.mends ≤ g.mends
  pub unmended : (suc h.mends ≤ g.mends) ⊎ (h.unmended ≡ true → g.unmended ≡ true)
  pub finished : g.finished ≡ true → h.finished ≡ true
  pub cuts : g.cuts ≡ 0 → h.cuts ≡ 0

module _ (X : Plan) (originals : List ℕ) where
  pub kept-later : (h g : History) → Later h g → Kept X originals h → Kept X originals g
  kept-later h g L K = record {
    place = K.place;
    moment = subst (λ (c : Chip). Moment X.move.sizes c.marks K.place) (sym L.chip) K.moment;
    store_length = ap (λ (c : Chip). length c.store) L.chip ∙ K.store_length;
    holds = subst (Holding X originals) (sym L.chip) K.holds;
    bounded = bounds K.bounded L.unmended;
    ended = λ e. K.ended (L.finished e);
    fresh = λ c m. fresh (K.fresh (L.cuts c) (omega (arith, L.mends)));
  }
    where
      same : count is_erase g.begun ≡ count is_erase h.begun
      same = ap (count is_erase) L.begun

      bounds : Bounded X h K.place → (suc h.mends ≤ g.mends) ⊎ (h.unmended ≡ true → g.unmended ≡ true) → Bounded X g K.place
      bounds (within b) _ = within (omega (arith, same, L.mends))
      bounds (once_more u k b) (inl more) = within (omega (arith, same))
      bounds (once_more u k b) (inr still) = once_more (still u) k (omega (arith, same, L.mends))

      fresh : Fresh X h → Fresh X g
      fresh F = record {
        taken = F.taken;
        stands = subst (λ (c : Chip). StandsAt X.move.sizes c F.taken) (sym L.chip) F.stands;
        done = L.begun ∙ F.done;
      }

  module _ (h : History) (K : Kept X originals h) (call : Call) (none : steps_of call h.chip ≡ []) (same : chip_after call h.chip 0 ≡ h.chip) where
    more-mends : h.mends ≤ cond (is_mend call) (suc h.mends) h.mends
    more-mends = ⊎_elim
        (λ (e : is_mend call ≡ true). rw e (omega arith))
        (λ (e : is_mend call ≡ false). rw e (omega arith))
        (bool_cases (is_mend call))

    idle-during : Kept X originals (during h call 0)
    unfolding during
    idle-during =
        kept-later h (during h call 0)
        (record { chip = same; begun = append-nil h.begun; mends = more-mends; unmended = inr (λ e. e); finished = λ e. e; cuts = λ e. e })
        K

    idle-cut : Kept X originals (cut_short h call 0 (chip_after call h.chip 0))
    unfolding cut_short
    idle-cut =
        kept-later h (cut_short h call 0 (chip_after call h.chip 0))
        (record { chip = same; begun = append-nil h.begun; mends = more-mends; unmended = inr (λ e. refl); finished = λ e. e; cuts = λ e. absurd (omega arith) })
        K

    module _ (same' : chip_returned call h.chip ≡ h.chip) (unfinished : returns_finished call h.chip ≡ false) where
      idle-returned : Kept X originals (returned h call)
      unfolding returned
      idle-returned =
          kept-later h (returned h call)
          (record {
            chip = same';
            begun = ap (λ (l : List Operation). h.begun ++ l) none ∙ append-nil h.begun;
            mends = more-mends;
            unmended = ⊎_elim
                (λ (e : is_mend call ≡ true). inl (rw e (omega arith)))
                (λ (e : is_mend call ≡ false). inr (λ u. rw e u))
                (bool_cases (is_mend call));
            finished = λ e. rw (unfinished, or-false) at e;
            cuts = λ e. e;
          })
          K

      no_steps : length (steps_of call h.chip) ≡ 0
      no_steps = ap length none

      pub idle : (cut : CutPoint) → CutObeys call cut h.chip → EventKept X originals h call cut
      unfolding steps_finished after_call
      idle uncut o = record {
        inside = λ i l. subst (λ (x : ℕ). Kept X originals (during h call x)) (omega (arith, no_steps)) idle-during;
        after = idle-returned;
      }
      idle (between f) o =
          let z : 0 ≡ f = omega (arith, no_steps) in
          record {
            inside = λ i l. subst (λ (x : ℕ). Kept X originals (during h call x)) (omega arith) idle-during;
            after = subst (λ (x : ℕ). Kept X originals (cut_short h call x (chip_after call h.chip x))) z idle-cut;
          }
      idle (inside f left) o = absurd (omega (arith, no_steps, o.0))
