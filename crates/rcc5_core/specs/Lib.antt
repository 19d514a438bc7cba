pub mod Relation
pub mod RelationSet
pub mod Region
pub mod Order
pub mod Examples
