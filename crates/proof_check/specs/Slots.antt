-- Slots, each with an entry or empty, and the places of the entries by their ids.
use Rattle.std.specs.Prelude.{◌≡◌, ℕ, zero, suc, ◌-◌, ◌&&◌, nat_le, nat_lt, if◌then◌else◌, List, [], ◌∷◌, length, slice_index_or, Option, Some, None}
use Rattle.std.specs.Ordering.{nat_cmp}
use Rattle.std.specs.BTreeMap.{get}
use Rattle.proof_check.specs.declared.places.Places.{Places}

-- the entries in the slots, in order
abbrev pub filled : List (Option (ℕ × List ℕ)) → List (ℕ × List ℕ)
filled [] = []
filled (None ∷ slots) = filled slots
filled (Some entry ∷ slots) = entry ∷ filled slots

-- the entry in the slot at a place
abbrev pub entry_at : List (Option (ℕ × List ℕ)) → ℕ → Option (ℕ × List ℕ)
entry_at [] place = None
entry_at (slot ∷ slots) zero = slot
entry_at (slot ∷ slots) (suc place) = entry_at slots place

-- an entry's id
abbrev pub id_of : Option (ℕ × List ℕ) → Option ℕ
id_of None = None
id_of (Some entry) = Some entry.0

-- where an id stands in a list of so many ids from a first one on
abbrev pub slot_of : ℕ → ℕ → ℕ → Option ℕ
slot_of first count id = if nat_le first id && nat_lt (id - first) count then Some (id - first) else None

-- the place of an id: in the table, or among the others
abbrev pub place_in : Places → ℕ → Option ℕ → Option ℕ
place_in places id (Some slot) = slice_index_or places.table.items slot None
place_in places id None = get nat_cmp places.others id

abbrev pub place_of : Places → ℕ → Option ℕ
place_of places id = place_in places id (slot_of places.first (length places.table.items) id)

-- these are exactly the places of the ids in the slots
pub record PlacesAre (slots : List (Option (ℕ × List ℕ))) (places : Places) : Type 0 where
  pub kept : (id place : ℕ) → place_of places id ≡ Some place → id_of (entry_at slots place) ≡ Some id
  pub found : (id place : ℕ) → id_of (entry_at slots place) ≡ Some id → place_of places id ≡ Some place
