-- What is known of the numbers for C.
pub mod CodeLaws
