pub mod Real
pub mod Strange
