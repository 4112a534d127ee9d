-- What the proofs of this crate share.
pub mod ReplayLaws
pub mod OutcomeLaws
