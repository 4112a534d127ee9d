-- What is known of the rows' states and of the search: the proofs of this crate and its callers cite it.
pub mod SupersetLaws
pub mod FindLaws
