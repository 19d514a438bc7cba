pub mod Trees
pub mod AncestorSearch
pub mod Ancestry
pub mod Row
pub mod Undo
