-- What the functions of this crate and of those that answer by such numbers promise.
pub mod Codes
