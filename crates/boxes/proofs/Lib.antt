mod Fits
mod Narrow
