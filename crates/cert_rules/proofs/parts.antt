pub mod CertNodes
