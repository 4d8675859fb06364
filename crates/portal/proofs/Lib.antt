pub mod Apart
pub mod Cases
pub mod Demands
pub mod FirstBroken
pub mod Lengths
pub mod Outcomes
pub mod Unique
pub mod Unread
