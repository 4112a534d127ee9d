-- What the proofs of this crate's functions share.
pub mod HeldLaws
pub mod WordLaws
pub mod PairLaws
