-- What is known of the pairs' states and open sets: the proofs of this crate and its callers cite it.
pub mod StateLaws
pub mod OpenLaws
pub mod OpenPairs
