mod Least
mod Raised
