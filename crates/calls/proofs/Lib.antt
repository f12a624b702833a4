pub mod Same
pub mod Alone
