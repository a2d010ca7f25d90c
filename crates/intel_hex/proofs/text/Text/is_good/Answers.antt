-- `is_good` judges a record where it stands.
use Rattle.flash.proofs.Kit.{ℕ, ◌+◌, ◌*◌, sym, ◌∙◌, ap, refl, arith, not}
use Rattle.intel_hex.specs.inner.Lines.{next_from}
use Rattle.intel_hex.proofs.NextLaws.{ends-not, ends-there}
use Rattle.intel_hex.proofs.HeadLaws.{not_good, first-is, first-light}
use Rattle.intel_hex.proofs.text.Text.is_good.Goals as goal

pub returns-then-self-at-lt-SHORTEST : goal.returns-then-self-at-lt-SHORTEST
returns-then-self-at-lt-SHORTEST c = not_good _ _ (λ G. omega (arith, G.inside, c.if-self-at-lt-SHORTEST.true))

pub returns-then-first-gt255 : goal.returns-then-first-gt255
returns-then-first-gt255 c =
    let a = c.args in
    not_good a.self.now.codes.now a.at (λ G. omega (arith, c.if-first-gt255.true, c.weight_from-first.ensures, first-light a.self.now.codes.now a.at G))

pub returns-then-self-stop : goal.returns-then-self-stop
returns-then-self-stop c =
    let a = c.args in
    let s = first-is a.self.now.codes.now a.at c.weight_from-first.result c.weight_from-first.result c.weight_from-first.ensures
    (omega (arith, c.if-first-gt255.false)) refl in
    not_good a.self.now.codes.now a.at (λ G. omega (arith, c.if-self-stop.true, s, G.inside))

pub returns-then-is_none : goal.returns-then-is_none
returns-then-is_none c =
    let a = c.args in
    let s = first-is a.self.now.codes.now a.at c.weight_from-first.result c.weight_from-first.result c.weight_from-first.ensures
    (omega (arith, c.if-first-gt255.false)) refl in
    let e = ends-not _ _ c.next_from.ensures (c.is_none.ensures ∙ ap not c.if-is_none.true) in
    not_good a.self.now.codes.now a.at (λ G. G.ends (ap (λ (x : ℕ). next_from a.self.now.codes.now (a.at + 11 + 2 * x)) (sym s) ∙ e))

pub is_sound-requires : goal.is_sound-requires
is_sound-requires c =
    let a = c.args in
    let s = first-is a.self.now.codes.now a.at c.weight_from-first.result c.weight_from-first.result c.weight_from-first.ensures
    (omega (arith, c.if-first-gt255.false)) refl in (
      record {
        colon = c.if-self-at-ne-COLON.false;
        size_is = s;
        inside = omega (arith, c.if-self-stop.false);
        ends = ends-there _ _ c.next_from.ensures (c.is_none.ensures ∙ ap not c.if-is_none.false);
      },
      omega (arith, c.if-first-gt255.false),
    )
