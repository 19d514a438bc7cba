pub mod Needs
pub mod Numbers
pub mod Selectors
pub mod Model
