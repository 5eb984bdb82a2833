pub mod Labels
pub mod Entries
pub mod Searches
pub mod Answers
pub mod Sums
pub mod Determined
