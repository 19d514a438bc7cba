-- Which state the records of a trail stand for, and which of its clauses are idle.
use Rattle.std.specs.Prelude.{ℕ, ◌+◌, ◌==◌, Bool, false, List, [], ◌∷◌, map, take, drop, if◌then◌else◌}
use Rattle.std.specs.Option.{option_map_or}
use Rattle.std.specs.List.{list_any}
use Rattle.lits_core.specs.Derivation.{State}
use Rattle.clause_arena.specs.Records.{Record}
use Rattle.watch_arena.specs.declared.places.Place.{Place}

-- the first records are the given clauses, and the others the derived ones with their ids
unfoldable pub state_of : List Record → ℕ → State
state_of records given = record {
  given = map (λ r. r.lits) (take given records);
  derived = map (λ r. (r.id, r.lits)) (drop given records);
}

-- whether a record is the reason of a place
abbrev pub is_reason : List Place → ℕ → Bool
is_reason places at = list_any (λ p. option_map_or (λ r. r == at) p.reason false) places

-- the ids of those of some records that don't stay; the first has this number
abbrev pub gone_from : (ℕ → Bool) → ℕ → List Record → List ℕ
gone_from stays at [] = []
gone_from stays at (r ∷ records) =
    if stays at then gone_from stays (at + 1) records else r.id ∷ gone_from stays (at + 1) records

-- the ids of those of some records that are the reason of no place; the first has this number
abbrev pub idle_from : List Place → ℕ → List Record → List ℕ
idle_from places at records = gone_from (is_reason places) at records

-- the ids of the derived clauses that are the reason of no place
unfoldable pub idle_of : List Place → List Record → ℕ → List ℕ
idle_of places records given = idle_from places given (drop given records)
