pub mod Sizes
pub mod Selecting
pub mod NeedLists
pub mod Encoding
pub mod Selected
