-- Runs one after another from rest lead as far as their budgets together; two such moves of stores that differ in one page.
use Rattle.flash.proofs.Kit.{◌≡◌, refl, sym, ap, ◌∙◌, ⊎_elim, true, false, cond, List, [], ◌∷◌, ℕ, ◌+◌, ◌≤◌, zero-add, arith, eqb, length, get_or, eqb-true, subst}
use Rattle.flash.specs.Lists.{total}
use Rattle.flash.specs.Tables.{refusal}
use Rattle.flash.specs.declared.sizes.Sizes.{Sizes}
use Rattle.flash.specs.Geometry.{slot_of}
use Rattle.flash.specs.Chip.{Chip}
use Rattle.flash.specs.declared.wear.Wear.{Wear}
use Rattle.flash.proofs.Bools.{bool_cases}
use Rattle.split.specs.Request.{Request}
use Rattle.method.specs.Move.{move, plan}
use Rattle.method.specs.Place.{last_place}
use Rattle.method.specs.Step.{Running, steps}
use Rattle.method.specs.Answers.{RunAnswer, run_rows, steps_taken, run_carried_out, run_answer}
use Rattle.method.specs.Runs.{joined, Start}
use Rattle.method.specs.Reach.{reached, slots_apart, Changed, Lends, Lasting, runs_of, moved, Reach, ReachOfOne}
use Rattle.method.proofs.basics.AcceptedCalls.{StandsAt, taken-run}
use Rattle.method.proofs.states.RunsAddUp.{run-answer, taken_in, runs-add-up, start-accepted, start-taken, after-taken, after_holds}
use Rattle.method.proofs.reach.FewReached.{reached-few, reached-last}
use Rattle.method.proofs.reach.PagesApart.{Came, bytes_apart, slots_apart_lem}

-- what the last of several runs leaves and returns, counts apart, is what one run of their budgets together does
record SameEnd (a b : RunAnswer) : Type 0 where
  pub number : a.number ≡ b.number
  pub place : a.place ≡ b.place
  pub finished : a.finished ≡ b.finished
  pub chip : a.chip ≡ b.chip

runs_of_lem : (R : Request) (chip : Chip) (work : List ℕ) (wear : Wear) (place : ℕ) (budgets : List ℕ) (limit : ℕ) → refusal (run_rows R chip work wear place limit) ≡ 0
    → SameEnd (runs_of R chip work wear place budgets limit) (run_answer R chip work wear place (total budgets) limit)
unfolding runs_of total joined
runs_of_lem R chip work wear place [] limit ok = record { number = refl; place = refl; finished = refl; chip = refl }
runs_of_lem R chip work wear place (budget ∷ budgets) limit ok =
    let one = run_answer R chip work wear place budget limit in
    let rest = runs_of_lem R one.chip one.work one.wear one.place budgets limit (runs-add-up.goes_on R chip work wear place budget limit ok) in
    let both = runs-add-up.in_two R chip work wear place budget (total budgets) limit ok in
    record {
      number = rest.number ∙ sym (ap (λ (x : RunAnswer). x.number) both);
      place = rest.place ∙ sym (ap (λ (x : RunAnswer). x.place) both);
      finished = rest.finished ∙ sym (ap (λ (x : RunAnswer). x.finished) both);
      chip = rest.chip ∙ sym (ap (λ (x : RunAnswer). x.chip) both);
    }

-- ---- a move from rest
module _ (R : Request) (chip : Chip) (S : Start R chip) (L : Lends) (G : Lasting R.sizes L) where
  abbrev Z : Sizes
  Z = R.sizes

  abbrev taken : ℕ
  taken = steps_taken Z 0 (total L.budgets)

  abbrev start : Running
  start = record { chip = chip; work = L.work }

  in-move : taken ≤ last_place Z
  in-move = omega (arith, taken_in Z 0 (total L.budgets) (omega arith))

  ended : SameEnd (moved R chip L) (run_carried_out (plan R) chip L.work L.wear 0 taken)
  ended =
      let ok = taken-run R chip L.work L.wear 0 L.limit (start-taken R chip S L.work G.work-length L.wear L.limit G.lasts) in
      subst (SameEnd (moved R chip L)) (run-answer R chip L.work L.wear 0 (total L.budgets) L.limit ok)
      (runs_of_lem R chip L.work L.wear 0 L.budgets L.limit ok)

  number_is : (moved R chip L).number ≡ 0
  unfolding run_carried_out
  number_is = ended.number

  pub place_is : (moved R chip L).place ≡ taken
  unfolding run_carried_out
  place_is = ended.place ∙ zero-add taken

  chip-is : (moved R chip L).chip ≡ (steps (plan R) taken 0 start).chip
  unfolding run_carried_out
  chip-is = ended.chip

  finish-is : (moved R chip L).finished ≡ 1 → taken ≡ last_place Z
  unfolding run_carried_out
  finish-is e = ⊎_elim
      (λ (f : eqb (0 + taken) (last_place Z) ≡ true). sym (zero-add taken) ∙ eqb-true (0 + taken) (last_place Z) f)
      (λ (f : eqb (0 + taken) (last_place Z) ≡ false).
      let none : (moved R chip L).finished ≡ 0 = ended.finished ∙ ap (λ t. cond t 1 0) f in
      absurd (omega arith))
      (bool_cases (eqb (0 + taken) (last_place Z)))

  module _ (one other : Chip) (k : ℕ) (C : Changed R one other k) where
    came : Came R one other k C chip (moved R chip L).chip taken
    came =
        let T = after-taken R chip S L.work G.work-length L.wear L.limit G.lasts taken in-move in
        let H = after_holds R chip S L.work G.work-length L.wear L.limit G.lasts taken in-move in
        rw chip-is
        (record { stands = subst (StandsAt Z (steps (plan R) taken 0 start).chip) (zero-add taken) T.stands; size = T.lent.store_length; holds = H })

-- ---- two of them
module _ (R : Request) (one other : Chip) (k : ℕ) (C : Changed R one other k) (L L' : Lends) (G : Lasting R.sizes L) (G' : Lasting R.sizes L')
    (equal : (moved R one L).place ≡ (moved R other L').place) where
  abbrev a : RunAnswer
  a = moved R one L

  abbrev b : RunAnswer
  b = moved R other L'

  from_one : Came R one other k C one a.chip a.place
  from_one = rw (place_is R one C.one-starts L G) (came R one C.one-starts L G one other k C)

  from-other : Came R one other k C other b.chip a.place
  from-other = rw (equal, place_is R other C.other-starts L' G') (came R other C.other-starts L' G' one other k C)

  slots : slots_apart R.sizes a.chip b.chip ≡ reached (move R) a.place k
  slots = slots_apart_lem R one other k C a.place a.chip b.chip from_one from-other

  at-finish : a.finished ≡ 1 → slots_apart R.sizes a.chip b.chip ≡ slot_of R.sizes.m (get_or (move R).list k 0) ∷ []
  at-finish e =
      slots
      ∙ ap (λ (p : ℕ). reached (move R) p k) (place_is R one C.one-starts L G ∙ finish-is R one C.one-starts L G e)
      ∙ reached-last (move R) (start-accepted R one C.one-starts) k C.inside

  pub runs-apart : Reach R one other k (moved R one L) (moved R other L')
  runs-apart = record {
    carried-out = (number_is R one C.one-starts L G, number_is R other C.other-starts L' G');
    marks = from_one.stands.marks ∙ sym from-other.stands.marks;
    lengths = (from_one.size, from-other.size);
    slots = slots;
    few = omega (arith, ap (λ (ts : List ℕ). length ts) slots, reached-few (move R) a.place k);
    offsets = λ t j h. bytes_apart R one other k C a.place a.chip b.chip from_one from-other t h j;
    at-finish = at-finish;
  }

pub reach-of-one : ReachOfOne
reach-of-one = record { places = place_is; apart = runs-apart }
