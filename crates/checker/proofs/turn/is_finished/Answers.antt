-- `is_finished` asks for true counts and for the pages.
use Rattle.flash.proofs.Kit.{add-mul, arith}
use Rattle.split.proofs.OneToOneLaws.{entry_lt}
use Rattle.checker.proofs.turn.is_finished.Goals as goal

pub is_requested-requires : goal.is_requested-requires
is_requested-requires c =
    let a = c.args in
    let K = c.requires.0 in
    let slots = add-mul a.n 1 a.m in record {
      le_m = (K.m-low, omega arith, omega (arith, K.size, K.few));
      by_index = λ k h. omega (arith, entry_lt _ a.list.now K.one-to-one k h);
    }
