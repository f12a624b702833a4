pub mod Rows
pub mod Lists
mod Steps
mod Spill
mod Flow
mod Weights
pub mod Due
mod Stands
mod Logs
pub mod Book
pub mod Words
pub mod Numbers
mod Deep
pub mod Ends
mod Table
pub mod Real
mod Parts
mod Safe
pub mod Small
mod Limits
mod Boxes
pub mod Laws
pub mod Room
pub mod Levels
pub mod Work
pub mod Left
pub mod Live
pub mod Lent
