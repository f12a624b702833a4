pub mod Position
pub mod Says
