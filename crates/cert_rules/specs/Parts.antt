pub mod Certs
