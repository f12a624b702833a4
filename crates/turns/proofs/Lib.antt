mod Levels
mod Spills
mod Tasks
pub mod Shown
mod Due
mod Tidied
mod Wanted
mod Going
