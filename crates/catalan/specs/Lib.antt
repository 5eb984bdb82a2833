pub mod Count
pub mod Table
