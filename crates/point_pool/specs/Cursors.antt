-- A prefix of a problem each of whose pairs allows its relation, and what is forced of each pair there.
use Rattle.point_encode.specs.Model.Clauses.{first_sum_selector, is_so}
use Rattle.point_encode.specs.Model.Forced.{need_at, pair_selectors, selectors_of}
use Rattle.constraint_set.specs.Readers.{sum_places}
use Rattle.world_model.specs.Points.{forced_at}
use Rattle.rcc5_core.specs.RelationSet.{has, is_empty_set}
use Rattle.rcc5_core.specs.declared.Regions.{Regions}
use Rattle.rcc5_core.specs.declared.Rel.{Rel}
use Rattle.rcc5_core.specs.declared.Rel.TheVariants.{Equals}
use Rattle.std.specs.List.{range_with_len}
use Rattle.std.specs.Prelude.{Bool, Contains, IsTrue, List, MatchOption, Option, [], false, flat_map, if◌then◌else◌, length, not, slice_index, slice_index_or, ℕ, ◌*◌, ◌++◌, ◌+◌, ◌<◌, ◌∷◌, ◌≡◌, ◌≤◌}
use Rattle.world_model.specs.Alive.{all_allow, allowed, is_in_need, is_point, problem_at}
use Rattle.world_model.specs.Node.{pair_at}
use Rattle.world_model.specs.Problem.{Problem, concept_count, pair_count}

-- a pair is the first that allows nothing
pub record IsFirstEmpty (p : Problem) (pair : ℕ) : Type 0 where
  pub within : pair < pair_count p
  pub empty : IsTrue (is_empty_set (allowed p (pair_at p pair)))
  pub first : (k : ℕ) → k < pair → IsTrue (not (is_empty_set (allowed p (pair_at p k))))

-- a problem and a prefix
pub record CursorState : Type 0 where
  pub problem : Problem
  pub path : List Rel

-- the relations of a prefix are allowed by the problem
pub record IsOpen (p : Problem) (m : List Rel) : Type 0 where
  pub within : length m ≤ pair_count p
  pub each : (k : ℕ) → k < length m → IsTrue (has (allowed p (pair_at p k)) (slice_index_or m k Equals))

-- bits are a point of the prefix in the need with a number
abbrev pub IsPointIn : CursorState → ℕ → List Bool → Type 0
IsPointIn s number bits = IsTrue (is_point (problem_at s.problem s.path) bits) × IsTrue (is_in_need (need_at s.problem number) bits)

-- regions are what the problem forces, pair by pair
pub record AreForced (p : Problem) (regions : List Regions) : Type 0 where
  pub counted : length regions ≡ pair_count p
  pub each : (k : ℕ) (d : Regions) → k < pair_count p → slice_index_or regions k d ≡ forced_at p k

-- a pair is the first that allows nothing, or none is
abbrev pub IsEmptyPair : Problem → Option ℕ → Type 0
IsEmptyPair p found = MatchOption found (IsTrue (all_allow p)) (IsFirstEmpty p)

-- the selector of a sum, by its number among all sums, if it is kept
abbrev pub kept_selector : Problem → ℕ → List ℕ
kept_selector p sum = if slice_index_or p.kept (slice_index (sum_places p) sum) false then is_so (first_sum_selector p + sum) ∷ [] else []

-- the selectors that a problem alone makes true, those of its kept sums, and those that a prefix makes true at its own pairs
abbrev pub start_selectors : Problem → List ℕ
start_selectors p = flat_map (λ k. pair_selectors (concept_count p + 3 * k) (forced_at p k)) (range_with_len 0 (pair_count p))

abbrev pub kept_selectors : Problem → List ℕ
kept_selectors p = flat_map (kept_selector p) (range_with_len 0 (length (sum_places p)))

abbrev pub path_selectors : Problem → List Rel → List ℕ
path_selectors p m = flat_map (λ k. pair_selectors (concept_count p + 3 * k) (forced_at (problem_at p m) k)) (range_with_len 0 (length m))

-- what is kept of a prefix
pub record IsCursor (p : Problem) (m : List Rel) (at_start at_path : List Regions) (empty : Option ℕ) (lits : List ℕ) : Type 0 where
  pub allows : IsOpen p m
  pub start_forced : AreForced p at_start
  pub now_forced : AreForced (problem_at p m) at_path
  pub first_empty : IsEmptyPair p empty
  pub selected : lits ≡ start_selectors p ++ kept_selectors p ++ path_selectors p m

-- literals are those of a prefix's selectors, in any order
pub record AreSelectors (p : Problem) (m : List Rel) (lits : List ℕ) : Type 0 where
  pub there : (lit : ℕ) → Contains (selectors_of p m) lit → Contains lits lit
  pub no_others : (lit : ℕ) → Contains lits lit → Contains (selectors_of p m) lit
