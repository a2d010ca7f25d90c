-- `count_few` meets its contract: the count is that of the bytes passed, and one of 128 bytes fits a byte.
use Rattle.flash.proofs.Kit.{◌≡◌, refl, ◌∙◌, not, eqb, ◌+◌, sym, arith, length, get_or, take, take-length, length-take-le}
use Rattle.flash.specs.Lists.{count}
use Rattle.flash.specs.PageSum.{written_bytes}
use Rattle.flash.proofs.Bools.{one-or-0, one_at_most}
use Rattle.flash.proofs.Written.{written-more, written-most}
use Rattle.flash.proofs.bytes.count_few.Goals as goal

pub loop-byte-init : goal.loop-byte-init
unfolding written_bytes count
loop-byte-init c = (refl, omega arith)

pub overflow_add-count : goal.overflow_add-count
overflow_add-count c =
    let byte = get_or c.args.bytes.now c.loop-byte.byte-index 0 in
    record { fits = omega (arith, one_at_most (not (eqb byte 255))) }

pub loop-byte-preserved : goal.loop-byte-preserved
loop-byte-preserved c =
    let a = c.args in
    let l = c.loop-byte in
    let more = written-more a.bytes.now l.byte-index (omega arith) in
    let same = one-or-0 (not (eqb (get_or a.bytes.now l.byte-index 0) 255)) in
    (rw (same, l.invariant.0) (sym more), omega (arith, more, same, l.invariant.0, written-most (take (l.byte-index + 1) a.bytes.now), length-take-le (l.byte-index + 1) a.bytes.now (omega arith)))
