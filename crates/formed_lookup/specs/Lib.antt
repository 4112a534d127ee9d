-- The answers of a move and of an ask, in document 01's numbers.
pub mod Answers
