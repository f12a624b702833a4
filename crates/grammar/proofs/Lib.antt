pub mod Places
pub mod Readers
pub mod Back
pub mod Valid
pub mod Sizes
pub mod Wholes
pub mod Fewest
