-- What the functions of this crate promise, beside the theory and an answer's number.
pub mod Codes
