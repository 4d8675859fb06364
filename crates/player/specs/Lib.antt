pub mod Spoken
pub mod Printed
pub mod Promises
pub mod Parts
pub mod Demands
pub mod Cases
