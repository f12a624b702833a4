pub mod Ends
pub mod Front
pub mod Hands
pub mod Words
