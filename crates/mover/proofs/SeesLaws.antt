-- What a rebuild learns of the marks is what their reading says.
use Rattle.flash.proofs.Kit.{◌≡◌, refl, sym, ap, ◌∙◌, subst, Bool, false, cond, none, some, List, ℕ, ◌+◌, ◌-◌}
use Rattle.flash.specs.declared.sizes.Sizes.{Sizes}
use Rattle.std.specs.Prelude.{Some, None}
use Rattle.method.specs.Move.{move_of}
use Rattle.method.specs.Mend.{Reading, reading}
use Rattle.method.specs.Answers.{marks_answer, fits_none}
use Rattle.recovery.specs.declared.marks.MarksRead.{MarksRead}
use Rattle.recovery.specs.declared.marks.MarksRead.TheVariants.{Full, Torn}
use Rattle.recovery.specs.MarksRead.{answer_of, reading_of, place_in_turn}
use Rattle.recovery.specs.inner.Gathered.{Shown}
use Rattle.recovery.proofs.Tells.{what-is-told}
use Rattle.walk.specs.declared.moment.Moment.{Moment}
use Rattle.walk.specs.inner.Moments.{moment_in}
use Rattle.mover.specs.declared.rebuild.Coded.{Coded}
use Rattle.mover.specs.declared.rebuild.Told.{Told}
use Rattle.mover.specs.inner.Rebuild.{IsCoded, Sees}
use Rattle.mover.proofs.ReadLaws.{full, torn}

some_none : {coded : Coded} → Some coded ≡ None → ⊥
some_none e = cc

some_same : {coded other : Coded} → Some coded ≡ Some other → coded ≡ other
some_same e = cc

module _ (Z : Sizes) (list sets marks : List ℕ) (read : MarksRead) (answer : answer_of Z read ≡ marks_answer (reading Z marks)) (shown : Shown Z marks read) (told : Told) where
  pub record Learnt : Type 0 where
    pub found : Reading
    pub fits_one : fits_none (reading Z marks) ≡ false
    pub sees : Sees (move_of Z list sets) marks found told

  reads_as : (x : MarksRead) → read ≡ x → reading Z marks ≡ reading_of Z x
  reads_as x e = sym (subst (λ (r : MarksRead). reading_of Z r ≡ reading Z marks) e (what-is-told Z read (reading Z marks) answer))

  module _ (is_backward : Bool) (moment : Moment) where
    pub learnt-full : (change : ℕ) → read ≡ Full is_backward change → told ≡ record { moment = moment; coded = Some (record { backward = is_backward; change = change }) }
        → moment ≡ moment_in is_backward Z.n change change → Learnt
    unfolding answer_of
    learnt-full change e is at =
        let S = rw e at shown in
        let R = full Z marks read answer shown is_backward told.moment change e (ap (λ (t : Told). t.moment) is ∙ at) in
        record {
          found = record { place = place_in_turn Z is_backward (cond is_backward change (change - 1)) Z.m; to_erase = none };
          fits_one = R.fits_one;
          sees = record {
            reads = reads_as (Full is_backward change) e;
            has-moment = R.has-moment;
            torn = λ t. absurd (some_none (sym (ap (λ (x : Told). x.coded) is) ∙ t));
            full = λ coded w. subst (IsCoded Z marks _) (some_same (sym (ap (λ (x : Told). x.coded) is) ∙ w)) (record {
              reads = reads_as (Full is_backward change) e;
              none-torn = refl;
              low = S.0;
              high = S.1.inside;
              place-is = refl;
            });
          };
        }

    pub learnt-torn : (block : ℕ) → read ≡ Torn is_backward block → told ≡ record { moment = moment; coded = None }
        → moment ≡ moment_in is_backward Z.n block (block + 1) → Learnt
    unfolding answer_of
    learnt-torn block e is at =
        let R = torn Z marks read answer shown is_backward told.moment block e (ap (λ (t : Told). t.moment) is ∙ at) in
        record {
          found = record { place = place_in_turn Z is_backward block 0; to_erase = some block };
          fits_one = R.fits_one;
          sees = record {
            reads = reads_as (Torn is_backward block) e;
            has-moment = R.has-moment;
            torn = λ t. (block, refl);
            full = λ coded w. absurd (some_none (sym w ∙ ap (λ (x : Told). x.coded) is));
          };
        }
