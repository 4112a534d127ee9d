-- What is known of masks: the proofs of this crate and its callers cite it.
pub mod MaskLaws
