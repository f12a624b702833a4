pub mod Model
pub mod Search
pub mod Segments
pub mod Flow
