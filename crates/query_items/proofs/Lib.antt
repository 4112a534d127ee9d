-- What the proofs of this crate share, and that both numbers say their refusal and their value.
pub mod ItemLaws
