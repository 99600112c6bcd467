mod Tails
mod Counts
mod Found
mod Examples
