-- What is known of written pieces and of digits: the proofs of this crate and its callers cite it.
pub mod TextLaws
pub mod DigitLaws
