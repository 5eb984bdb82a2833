pub mod Replies
pub mod Parts
pub mod ReadBack
pub mod Determined
