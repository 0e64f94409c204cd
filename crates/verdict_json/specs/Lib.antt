pub mod Refused
pub mod Report
pub mod Rules
pub mod Trees
pub mod Writing
pub mod OutcomeTrees
pub mod Outcomes
pub mod Summaries
