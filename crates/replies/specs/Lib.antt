pub mod Kinds
pub mod Listing
pub mod Form
