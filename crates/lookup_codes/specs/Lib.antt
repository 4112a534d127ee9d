-- What a lookup's number for C stands for.
pub mod Decoded
