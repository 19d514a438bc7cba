pub mod Deads
