mod Strange
mod Together
