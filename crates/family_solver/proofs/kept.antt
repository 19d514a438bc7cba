pub mod Fewer
mod Telling
mod Denying
