-- The laws behind the proofs of this crate.
pub mod ApartLaws
pub mod BackwardLaws
pub mod ForwardLaws
pub mod GatherLaws
pub mod MomentLaws
pub mod ReadLaws
pub mod RoundLaws
pub mod RowLaws
pub mod SetLaws
pub mod TableLaws
pub mod TermLaws
pub mod LeftLaws
pub mod WriteLaws
pub mod ZeroLaws
