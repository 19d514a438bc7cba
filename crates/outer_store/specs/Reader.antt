-- What a reader over a store has left.
use Rattle.std.specs.Prelude.{ℕ, List, drop, Option}
use Rattle.std.specs.Option.{option_map}

-- the told bytes from a place on
abbrev pub unread : Option (List ℕ) → ℕ → Option (List ℕ)
unread told place = option_map (drop place) told
