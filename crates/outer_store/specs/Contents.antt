-- What a store holds under each name.
use Rattle.std.specs.Prelude.{◌≡◌, ◌≢◌, ℕ, List, [], Option, ◌⊎◌}
use Rattle.std.specs.Option.{option_map}

-- what each name holds, where the store tells it
abbrev pub Contents : Type 0
Contents = List ℕ → Option (List ℕ)

-- names other than this one hold what they held
abbrev pub OthersKept : List ℕ → Contents → Contents → Type 0
OthersKept name old new = (other : List ℕ) → other ≢ name → new other ≡ old other

-- no bytes, where the bytes are told
abbrev pub emptied : Option (List ℕ) → Option (List ℕ)
emptied told = option_map (λ bytes. []) told

-- what a refused `create` leaves: no bytes, or what there was
abbrev pub EmptiedOrKept : Option (List ℕ) → Option (List ℕ) → Type 0
EmptiedOrKept old new = (new ≡ emptied old) ⊎ (new ≡ old)
