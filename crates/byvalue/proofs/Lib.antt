pub mod Lent
pub mod GivenBack
pub mod Ready
