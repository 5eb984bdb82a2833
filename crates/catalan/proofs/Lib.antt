pub mod Sums
pub mod Binomials
pub mod Counting
pub mod Tables
pub mod Seams
pub mod Rows
