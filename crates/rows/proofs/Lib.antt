pub mod Order
pub mod Places
pub mod Halves
pub mod Parts
pub mod Shares
pub mod Written
mod Adjacent
pub mod Every
