-- What the contract of this crate says of the line, beside the definitions of the crate `theory`.
pub mod Refusal
