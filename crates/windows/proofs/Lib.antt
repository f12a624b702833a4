mod Slots
mod Loops
mod Merge
mod Stage
mod Table
