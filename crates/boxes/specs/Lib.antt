pub mod Rooms
pub mod Steps
pub mod Store
pub mod Puts
