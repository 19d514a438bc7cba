-- Variables that are noted, as those that are to be decided.
use Rattle.std.specs.Prelude.{◌≡◌, ◌≢◌, ℕ, ◌<◌, ◌^◌, Bool, true, false, List, None, slice_index_or}
use Rattle.watch_arena.specs.declared.places.Place.{Place}
use Rattle.watch_arena.specs.Places.{place_of}

-- each noted variable has a place
abbrev pub AreAssigned : List Bool → List Place → Type 0
AreAssigned noted places = (variable : ℕ) → slice_index_or noted variable false ≡ true → place_of places variable ≢ None

-- each noted variable is one that a literal can have
abbrev pub AreSmall : List Bool → Type 0
AreSmall noted = (variable : ℕ) → slice_index_or noted variable false ≡ true → variable < 2 ^ 31

-- each noted variable is below an end
abbrev pub AreBelow : List Bool → ℕ → Type 0
AreBelow noted end = (variable : ℕ) → slice_index_or noted variable false ≡ true → variable < end

-- what an order keeps
pub record IsNotedBelow (noted : List Bool) (end : ℕ) : Type 0 where
  pub small : AreSmall noted
  pub below : AreBelow noted end
