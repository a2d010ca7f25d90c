-- `encode_counters` writes the bytes of a counter a turn.
use Rattle.flash.proofs.Kit.{◌≡◌, ◌++◌, ◌*◌, take, drop}
use Rattle.c_api.specs.Wear.{counter_bytes}
use Rattle.c_api.proofs.wear.encode_counters.Given as goal

abbrev pub invariant-loop-b : goal.invariant-loop-b
invariant-loop-b l = l.bytes ≡ take (l.b * 4) (counter_bytes l.fn.wear) ++ drop (l.b * 4) l.initial.bytes
