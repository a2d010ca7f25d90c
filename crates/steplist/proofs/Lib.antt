-- Laws of the program's definitions, used by the proofs of its functions.
pub mod AskedLaws
pub mod Exampled
pub mod FormLaws
pub mod JudgeLaws
pub mod LengthLaws
pub mod LineLaws
pub mod ListingLaws
pub mod MethodLines
pub mod OriginalsPassed
pub mod RestLaws
pub mod StartLaws
pub mod StepLaws
