-- What is known of written arrows: the proofs of this crate and its callers cite it.
pub mod ArrowLaws
