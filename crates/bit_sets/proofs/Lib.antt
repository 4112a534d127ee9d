-- What callers know of a set of numbers as bytes.
pub mod CountLaws
