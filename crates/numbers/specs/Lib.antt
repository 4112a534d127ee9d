-- What the refusals stand for in the terms of the theory.
pub mod Refusals
