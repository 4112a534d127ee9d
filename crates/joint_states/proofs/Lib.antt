-- What the proofs of this crate's functions share, and what callers know of joint states.
pub mod TogetherLaws
pub mod SetLaws
pub mod ReachLaws
