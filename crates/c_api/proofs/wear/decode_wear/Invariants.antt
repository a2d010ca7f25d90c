-- `decode_wear` reads a counter a turn, and then the pair.
use Rattle.flash.proofs.Kit.{◌≡◌, ◌++◌, take, drop}
use Rattle.c_api.specs.Wear.{wear_of}
use Rattle.c_api.proofs.wear.decode_wear.Given as goal

abbrev pub invariant-loop-b : goal.invariant-loop-b
invariant-loop-b l = l.counter-items ≡ take l.b (wear_of l.bytes).counters ++ drop l.b l.initial.counter-items
