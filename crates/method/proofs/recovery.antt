-- What cuts leave, and what mend makes of it.
pub mod MarksSeen
pub mod LinesAgree
pub mod ErasesNext
pub mod FittingMarks
pub mod Moments
pub mod MarksFade
pub mod OldCuts
pub mod MendFinds
pub mod ReadAnswers
pub mod MendAnswers
pub mod CutsLeave
