pub mod Model
pub mod Task
pub mod Turn
pub mod Tidy
pub mod Done
pub mod Going
