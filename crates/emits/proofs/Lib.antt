mod Windows
mod Steps
