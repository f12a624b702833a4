mod Allowed
mod Entries
