-- What the functions of this program promise.
pub mod Evidence
