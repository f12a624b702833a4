pub mod Does
pub mod Failing
pub mod State
