-- Laws of the exports, used by their proofs.
pub mod BytesLaws
pub mod WearLaws
pub mod ExportLaws
pub mod CheckLaws
pub mod OrderCallLaws
