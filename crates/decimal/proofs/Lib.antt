-- What the proofs of this crate share, and that a number as the listing prints it is read back.
pub mod WordLaws
pub mod PrintedLaws
