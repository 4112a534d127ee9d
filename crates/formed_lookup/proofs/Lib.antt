-- What the proofs of this crate share, and what holds of every ask.
pub mod AskLaws
