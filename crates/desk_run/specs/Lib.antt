pub mod Ends
pub mod Answering
pub mod Steps
pub mod Serving
pub mod Desk
pub mod Script
