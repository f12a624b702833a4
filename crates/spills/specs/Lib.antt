pub mod Model
pub mod Step
pub mod Slots
