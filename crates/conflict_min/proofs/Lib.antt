pub mod Claims
mod Courses
mod Flags
mod Passes
