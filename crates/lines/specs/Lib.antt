pub mod Sheet
pub mod Calls
pub mod Handing
