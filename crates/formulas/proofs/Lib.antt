pub mod Chains
pub mod Ends
mod Signs
