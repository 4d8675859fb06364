pub mod Text
pub mod Writes
pub mod Page
pub mod Decimal
pub mod Cases
