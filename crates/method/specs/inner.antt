-- What proofs and contracts inside share. Nothing here has to be believed.
pub mod Shape
pub mod MoveIn
