pub mod PlainStatements
pub mod PlainPairs
pub mod PlainWalk
