pub mod Lines
pub mod Says
