pub mod Form
pub mod Refuse
