-- The answers of the lookups, in document 01's numbers.
pub mod Answers
