pub mod Points
pub mod Growing
pub mod Table
pub mod Places
