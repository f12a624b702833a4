mod Joins
mod Places
mod Fronts
