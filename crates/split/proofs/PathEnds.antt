-- Where the path for page k starts, and that the rule has done with the page where it ends.
use Rattle.flash.proofs.Kit.{◌≡◌, refl, sym, ap, ap₂, ◌∙◌, subst, false, true≢false, List, [], ◌∷◌, ◌++◌, ℕ, ◌+◌, ◌-◌, ◌*◌, ◌<◌, add-one, arith}
use Rattle.flash.proofs.Kit.{length, take, set as put, take-suc, not-true}
use Rattle.split.specs.Split.{set_of}
use Rattle.split.specs.Rule.{source, destination, block_at, sets_given}
use Rattle.split.specs.inner.Mask.{FlippedBoth}
use Rattle.split.specs.inner.Cells.{row_of, cell_of, by_masks, swapped_at}
use Rattle.split.specs.inner.Work.{Working, Blocked}
use Rattle.split.proofs.RuleLaws.{Given, used-page, unused-none}
use Rattle.split.proofs.Walk.{PageAt}
use Rattle.split.proofs.Turns.{first-turn}
use Rattle.split.proofs.CellsLaws.{length-swapped}
use Rattle.split.proofs.PathLaws.{set_here, set_else, Ready, Walking, path-over}
use Rattle.split.proofs.Filling.{row_lt, so_far, lowest-hit, low-lt, same_set, gives-exchanged}

module _ (m : ℕ) (list : List ℕ) (k a b : ℕ) (numbers targets homes destinations : List ℕ)
    (B : Blocked m list k a b numbers targets homes destinations) where
  so-given : Given B.blocks m list B.accepted.listed B.accepted.one-to-one k
  so-given = so_far B.blocks m list B.accepted k B.inside

  ready : Ready m list k a b
  ready =
      let unused : (x : ℕ) → PageAt m list (sets_given m list k) destination (block_at m list destination k) b x → ⊥ =
      unused-none m list (sets_given m list k) destination (block_at m list destination k) b
      (rw B.b-is (not-true _ (lowest-hit B.blocks m list B.accepted k B.inside destination).passes)) in
      let f = used-page m list (sets_given m list k) destination (block_at m list destination k) a B.used in
      record {
        coloured = so-given.coloured;
        counted = so-given.counted;
        fits = B.accepted.m-fits;
        rows = λ end x h. row_lt B.blocks m list B.accepted end x (omega (arith, h, B.inside));
        a_lt = rw B.a-is (low-lt B.blocks m list B.accepted k B.inside source);
        b_lt = rw B.b-is (low-lt B.blocks m list B.accepted k B.inside destination);
        a_own = B.a_own;
        differ = λ e. unused f.0
            (subst (λ (c : ℕ). PageAt m list (sets_given m list k) destination (block_at m list destination k) c f.0) e f.1);
        unused = unused;
      }

  pub begun : (x : ℕ) → x < k → set_of B.sets x ≡ set_of (sets_given m list k) x
  begun = same_set B.blocks m list B.accepted k B.inside B.sets B.given

  -- the tables lead to the first page of the path
  pub path-starts : Walking m list k a b numbers targets homes destinations (row_of m list destination k)
  path-starts =
      let R = ready in
      let row = row_of m list destination k in
      let X = B.at-destinations row a (R.rows destination k (omega arith)) R.a_lt in
      let f = used-page m list (sets_given m list k) destination (block_at m list destination k) a B.used in
      let first = f.0 in
      let l : first < k = rw so-given.counted at f.1.inside in
      let c = begun first l ∙ f.1.in-set in
      let bit = X.marked first (record {
        inside = omega arith;
        at_row = ap (λ (x : ℕ). x - 1) f.1.at_block;
        in-set = set_else B.sets k b first (λ e. absurd (omega arith)) ∙ c;
      }) in
      record {
        ready = R;
        sets = B.sets;
        pages = 0;
        page = first;
        turn = first-turn m list (sets_given m list k) R.coloured a b R.differ (block_at m list destination k) R.unused B.sets first
            (λ x h. begun x (rw so-given.counted at h))
            (record { within = omega (arith, f.1.inside); hit = λ _. (f.1.at_block, c); none = λ e. absurd (omega (arith, f.1.inside)) });
        found = λ _. (l, ap (λ (x : ℕ). x - 1) f.1.at_block);
        over = λ none. absurd (true≢false (sym bit ∙ none));
        hand = k;
        hand_in = omega arith;
        hand-row = refl;
        hand-set = B.its-set;
        hand-was = λ h. absurd (omega arith);
        held = put B.sets k b;
        held-hand = set_here B.sets k b (omega (arith, B.inside, B.sized));
        held-else = set_else B.sets k b;
        its-set = B.its-set;
        room = omega (arith, B.inside, B.sized);
        numbers-sized = B.numbers-sized ∙ sym B.sized;
        targets-sized = B.targets-sized;
        homes-sized = B.homes-sized;
        numbered = B.numbered;
        at-sources = B.at-sources;
        at-destinations = B.at-destinations;
      }

  -- all of the path is exchanged
  pub path-done : (numbers' targets' homes' destinations' : List ℕ) (row : ℕ) → length numbers' ≡ length numbers
      → Walking m list k a b numbers' targets' homes' destinations row
      → by_masks destinations row a ≡ false → FlippedBoth destinations row b a destinations'
      → Working m list (k + 1) numbers' targets' (swapped_at homes' (cell_of b row) (cell_of a row)) destinations'
  unfolding set_of
  path-done numbers' targets' homes' destinations' row len W none flip =
      let o = path-over m list k a b numbers' targets' homes' destinations row W destinations' none flip in
      let sized : length W.sets ≡ B.blocks * m = sym W.numbers-sized ∙ len ∙ B.numbers-sized in
      record {
        blocks = B.blocks;
        accepted = B.accepted;
        within = omega (arith, B.inside);
        sets = W.sets;
        sized = sized;
        given = ap (λ (j : ℕ). take j W.sets) (add-one k) ∙ take-suc W.sets k 0 W.room
            ∙ ap₂ (λ (xs : List ℕ) (x : ℕ). xs ++ (x ∷ [])) o.0 W.its-set
            ∙ gives-exchanged B.blocks m list B.accepted k B.inside a b B.a-is B.b-is B.used
            ∙ ap (sets_given m list) (sym (add-one k));
        numbers-sized = len ∙ B.numbers-sized;
        targets-sized = W.targets-sized;
        homes-sized = length-swapped homes' (cell_of b row) (cell_of a row) ∙ W.homes-sized;
        numbered = W.numbered;
        at-sources = W.at-sources;
        at-destinations = o.1;
      }
