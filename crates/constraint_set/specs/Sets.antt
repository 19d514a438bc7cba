-- What is said of pairs, kept by their numbers.
use Rattle.std.specs.Prelude.{◌≡◌, ℕ, ◌<◌, ◌/◌, ◌==◌, Bool, false, List, [], ◌++◌, length, filter_map, nat_eq, slice_index_or, IsTrue, if◌then◌else◌}
use Rattle.std.specs.Option.{unwrap_or, option_to_list}
use Rattle.std.specs.List.{list_all, items_where_true}
use Rattle.std.specs.Map.{lookup}
use Rattle.rcc5_core.specs.declared.RelSet.{RelSet}
use Rattle.rcc5_core.specs.RelationSet.{every_rel, both_of}
use Rattle.world_model.specs.Problem.{Problem, Constraint, pair_count, as_constraint, is_about_pair}
use Rattle.world_model.specs.Alive.{said_of}
use Rattle.world_model.specs.Node.{pair_at}
use Rattle.world_model.specs.declared.Articulation.{Articulation}

-- the set of a pair, by its number: all five where none is kept for it
abbrev pub set_at : List (ℕ × RelSet) → ℕ → RelSet
set_at sets k = unwrap_or (lookup (nat_eq k) sets) every_rel

-- whether the block of a pair, by its number, is marked: eight pairs share a mark
abbrev pub mark_of : List Bool → ℕ → Bool
mark_of marks k = slice_index_or marks (k / 8) false

-- of a pair whose block is not marked nothing is said
abbrev pub AreMarked : List (ℕ × RelSet) → List Bool → Type 0
AreMarked sets marks = (k : ℕ) → mark_of marks k ≡ false → set_at sets k ≡ every_rel

-- the set of one pair is met with another set, and the others stay
abbrev pub Narrows : List (ℕ × RelSet) → List (ℕ × RelSet) → ℕ → RelSet → Type 0
Narrows old new pair set = (k : ℕ) → set_at new k ≡ (if k == pair then both_of (set_at old pair) set else set_at old k)

-- the sets kept by number are what the statements say of each pair
pub record AreSets (p : Problem) (statements : List Constraint) (sets : List (ℕ × RelSet)) : Type 0 where
  pub each : (k : ℕ) → k < pair_count p → set_at sets k ≡ said_of (pair_at p k) statements

-- the sets came to be by more statements
pub record Says (p : Problem) (old new : List (ℕ × RelSet)) (more : List Constraint) : Type 0 where
  pub after : (statements : List Constraint) → AreSets p statements old → AreSets p (statements ++ more) new

-- what an articulation says of a pair, if anything
abbrev pub said_by : Articulation → List Constraint
said_by articulation = option_to_list (as_constraint articulation)

-- what an articulation says of a pair where its flag is true
abbrev pub said_if : Bool → Articulation → List Constraint
said_if kept articulation = if kept then said_by articulation else []

-- what the articulations with a true flag say of pairs
abbrev pub kept_statements : List Bool → List Articulation → List Constraint
kept_statements flags articulations = filter_map as_constraint (items_where_true flags articulations)

-- what a problem keeps of flags and narrowings, and of the sets that follow from them
pub record IsState (shape : Problem) (flags : List Bool) (kept_sets : List (ℕ × RelSet)) (narrowings : List Constraint) (narrowed_sets : List (ℕ × RelSet)) : Type 0 where
  pub flags_counted : length flags ≡ length shape.articulations
  pub about_pairs : IsTrue (list_all (is_about_pair shape) narrowings)
  pub kept_said : AreSets shape (kept_statements flags shape.articulations) kept_sets
  pub narrowed_said : AreSets shape narrowings narrowed_sets
