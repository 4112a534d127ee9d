-- What the proofs of the crates above share of the refusals.
pub mod RefusalLaws
