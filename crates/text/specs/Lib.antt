pub mod Pieces
pub mod Items
pub mod Meaning
pub mod Parts
pub mod Cases
pub mod Told
