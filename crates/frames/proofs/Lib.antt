pub mod Fronts
pub mod Cut
pub mod Again
