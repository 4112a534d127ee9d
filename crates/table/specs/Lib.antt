-- What the contracts of this crate say of a table's bytes, beside the definitions of the crate `theory`.
pub mod Form
