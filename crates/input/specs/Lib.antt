-- What the function of this crate promises.
pub mod Within
