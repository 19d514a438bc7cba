pub mod AtPlaces
pub mod SeenLits
pub mod UnitHint
pub mod SearchInvariant
pub mod SearchEnds
pub mod Shortened
