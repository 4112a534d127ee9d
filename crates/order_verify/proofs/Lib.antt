-- What the proofs of this program share.
pub mod VerdictLaws
