-- What is known of the checks, beside their contracts.
pub mod FrontLaws
