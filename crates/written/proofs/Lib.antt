mod Words
mod Chunks
