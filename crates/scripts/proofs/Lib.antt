mod Fronts
mod Words
