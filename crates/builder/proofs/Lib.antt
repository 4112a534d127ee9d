-- What the proofs of this crate's functions share.
pub mod DeliverLaws
pub mod WholeLaws
pub mod AnswerLaws
