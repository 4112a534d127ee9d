-- What the proofs of this crate's functions share, and what callers know of the rows.
pub mod WordTables
pub mod NumberLaws
pub mod WalkLaws
pub mod TakingLaws
pub mod HeldLaws
pub mod FoundLaws
