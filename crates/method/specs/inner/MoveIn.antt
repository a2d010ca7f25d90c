-- The move that the code's struct holds.
use Rattle.method.specs.Move.{Move, move_of}
use Rattle.method.specs.declared.accepted.Accepted.{Accepted}

abbrev pub move_in : Accepted → Move
move_in lent = move_of lent.sizes lent.list.now lent.sets.now
