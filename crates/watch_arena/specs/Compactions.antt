-- What a compaction of the clauses leaves of an engine.
use Rattle.std.specs.Prelude.{◌≡◌, ℕ, ◌≤◌, List, length, Some, Contains}
use Rattle.clause_arena.specs.declared.place.Link.{Link}
use Rattle.clause_arena.specs.Records.{compacted}
use Rattle.clause_arena.specs.Movings.{new_ref, place_after}
use Rattle.watch_arena.specs.declared.engine.Engine.{Engine}
use Rattle.watch_arena.specs.Chains.{SameBodies}
use Rattle.watch_arena.specs.Places.{places_with}

-- what was moved stands in the list under its new name
abbrev pub IsMended : List (ℕ × ℕ) → List ℕ → List ℕ → Type 0
IsMended pairs old new = (at to : ℕ) → Contains old at → new_ref pairs at ≡ Some to → Contains new to

-- the watches of the clauses from one on
abbrev pub IsFrom : ℕ → Link → Type 0
IsFrom at x = at ≤ x.at

-- links and chains are made anew, and nothing else is changed
pub record Relinks (old new : Engine) : Type 0 where
  pub bodies : SameBodies old.arena new.arena
  pub size : length new.chains ≡ length old.chains
  pub same : new ≡ record old { arena = new.arena; chains = new.chains }

-- the live records are left, in their order, and each reason is the same record as before
pub record Compacts (old new : Engine) : Type 0 where
  pub records : SameBodies (compacted old.arena) new.arena
  pub places : new.places.list ≡ places_with (place_after old.arena) old.places.list
  pub variables : new.variables ≡ old.variables
