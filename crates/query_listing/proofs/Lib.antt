-- What the proofs of this crate share, and what holds of every listing.
pub mod FrontLaws
pub mod LengthLaws
pub mod ListedLaws
pub mod TableLaws
pub mod RoomLaws
