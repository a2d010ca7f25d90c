-- `decode` meets its contract: the entries passed are those of the bytes, and behind them the area is as it was.
use Rattle.flash.proofs.Kit.{◌≡◌, ◌++◌, take, drop}
use Rattle.c_api.specs.Bytes.{entries_of}
use Rattle.c_api.proofs.list.decode.Given as goal

abbrev pub invariant-loop-i : goal.invariant-loop-i
invariant-loop-i l = l.list ≡ take l.i (entries_of l.bytes) ++ drop l.i l.initial.list
