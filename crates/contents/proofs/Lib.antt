mod Items
mod Readers
mod Fronts
mod Forms
