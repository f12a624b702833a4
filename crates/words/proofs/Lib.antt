pub mod Chunks
pub mod Tables
mod Loans
