pub mod Table
pub mod Words
pub mod Requests
pub mod Help
