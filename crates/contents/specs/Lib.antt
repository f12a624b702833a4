pub mod Flat
pub mod Form
pub mod Model
