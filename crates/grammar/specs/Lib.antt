pub mod Reading
pub mod Printing
pub mod Reasons
pub mod Laws
