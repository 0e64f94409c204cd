pub mod Ways
mod Falls
mod Searches
