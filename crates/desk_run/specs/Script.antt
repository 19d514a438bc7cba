pub mod Requests
pub mod Forms
pub mod Views
pub mod Acts
pub mod Script
pub mod Examples
