pub mod Promises
pub mod Lending
pub mod Cases
pub mod Demands
