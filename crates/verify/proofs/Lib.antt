-- What the proofs of this crate's functions share, and what holds of every trial.
pub mod FrontLaws
pub mod OwnLaws
