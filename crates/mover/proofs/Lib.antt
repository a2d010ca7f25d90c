-- Laws of the mover's definitions, used by the proofs of its functions.
pub mod StepLaws
pub mod RunLaws
pub mod PlanLaws
pub mod RefusalLaws
pub mod ReadLaws
pub mod RebuildLaws
pub mod RebuiltLaws
pub mod RebuiltAll
pub mod SeesLaws
