-- What the contracts of this crate say of a text, beside the definitions of the crate `theory`.
pub mod Text
