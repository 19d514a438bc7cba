pub mod Contents
pub mod Token
pub mod Printing
