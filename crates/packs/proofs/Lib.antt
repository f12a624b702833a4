mod Levels
mod Packing
