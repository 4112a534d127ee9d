-- What is known of the pairs' words: the proofs of this crate and its callers cite it.
pub mod PairWords
