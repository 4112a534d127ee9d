-- What the contracts of this crate say of lines, beside the definitions of the crate `theory`.
pub mod Lines
