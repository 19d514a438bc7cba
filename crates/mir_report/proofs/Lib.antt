pub mod Claims
pub mod Laws
pub mod Subjects
pub mod Told
pub mod Unasked
pub mod Showing
pub mod Granting
