-- How pairs are numbered: where the rows of a concept's pairs begin.
use Rattle.std.specs.Prelude.{◌≡◌, ◌≢◌, ◌+◌, ◌-◌, ◌<◌, ◌≤◌, ℕ, false, List, [], length, map, flat_map, slice_index}
use Rattle.std.specs.List.{range_with_len}
use Rattle.world_model.specs.Problem.{Problem, pairs, cross_pairs}
use Rattle.constraint_set.specs.Shape.{shape_from}

-- a problem that has these owners, and nothing else: pairs depend on the owners alone
abbrev pub with_owners : List ℕ → Problem
with_owners owners = shape_from [] [] owners [] [] [] (record { nonempty = false; sibling = false; coverage = false })

-- owners that ascend from one concept to the next
abbrev pub AscendingOwners : List ℕ → Type 0
AscendingOwners owners = (c d : ℕ) → c ≤ d → d < length owners → slice_index owners c ≤ slice_index owners d

-- the concepts from c on that are of its taxonomy are those before e
pub record IsBlockEnd (owners : List ℕ) (c e : ℕ) : Type 0 where
  pub after : c < e
  pub within : e ≤ length owners
  pub same : (d : ℕ) → c ≤ d → d < e → slice_index owners d ≡ slice_index owners c
  pub other : (d : ℕ) → e ≤ d → d < length owners → slice_index owners d ≢ slice_index owners c

-- the ends of the blocks, one for each concept
pub record AreBlockEnds (owners ends : List ℕ) : Type 0 where
  pub counted : length ends ≡ length owners
  pub each : (c : ℕ) → c < length owners → IsBlockEnd owners c (slice_index ends c)

-- the pairs of a concept with those from one number on and below another
abbrev pub row : ℕ → ℕ → ℕ → List (ℕ × ℕ)
row c from to = map (λ d. (c, d)) (range_with_len from (to - from))

-- the pairs of a concept with those of later taxonomies, and with those of its own that come after it
abbrev pub cross_row : List ℕ → ℕ → List (ℕ × ℕ)
cross_row ends c = row c (slice_index ends c) (length ends)

abbrev pub inside_row : List ℕ → ℕ → List (ℕ × ℕ)
inside_row ends c = row c (c + 1) (slice_index ends c)

-- the rows of the first n concepts
abbrev pub rows : (ℕ → List (ℕ × ℕ)) → ℕ → List (ℕ × ℕ)
rows of n = flat_map of (range_with_len 0 n)

-- a row of each concept begins, after so many pairs, where its start says
pub record AreStarts (of : ℕ → List (ℕ × ℕ)) (before n : ℕ) (starts : List ℕ) : Type 0 where
  pub counted : length starts ≡ n
  pub each : (c : ℕ) → c < n → slice_index starts c ≡ before + length (rows of c)

-- what a numbering keeps
pub record IsNumbering (owners ends crossing inside : List ℕ) (numbered : List (ℕ × ℕ)) (cross : ℕ) : Type 0 where
  pub few : length owners ≤ 1024
  pub ends_hold : AreBlockEnds owners ends
  pub cross_starts : AreStarts (cross_row ends) 0 (length owners) crossing
  pub inside_starts : AreStarts (inside_row ends) cross (length owners) inside
  pub numbered_all : numbered ≡ pairs (with_owners owners)
  pub cross_counted : cross ≡ length (cross_pairs (with_owners owners))
