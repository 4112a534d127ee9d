-- What the proofs of this program share.
pub mod TextLaws
pub mod EvidenceLaws
pub mod FrontLaws
