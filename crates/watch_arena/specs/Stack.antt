-- Places, and for how many there is room.
use Rattle.std.specs.Prelude.{ℕ, List}
use Rattle.watch_arena.specs.declared.places.Place.{Place}

pub record Stack : Type 0 where
  pub list : List Place
  pub room : ℕ
