pub mod Found
pub mod Chosen
pub mod Stops
pub mod Ends
pub mod Entered
pub mod Ordered
pub mod Told
