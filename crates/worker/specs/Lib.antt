pub mod Worker
pub mod Theorems
pub mod Small
pub mod Table
