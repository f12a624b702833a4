mod Most
mod Cases
