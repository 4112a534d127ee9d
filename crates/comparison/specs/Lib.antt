-- What the functions of this crate promise, beside the theory and the joint states.
pub mod Alike
