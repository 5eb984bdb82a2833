pub mod Text
pub mod Label
pub mod Input
pub mod Line
