mod Defaults
mod Stages
