-- What the proofs of this crate share.
pub mod LookupLaws
pub mod MoveLaws
