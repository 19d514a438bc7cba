-- What is known between the rounds of a search for all minimal conflicts and all maximal consistent sets.
use Rattle.std.specs.Prelude.{◌&&◌, ◌||◌, ◌∷◌, ◌≡◌, ◌<◌, ℕ, Bool, true, false, All, IfSome, IsTrue, List, [], Some, filter, length, map, not, set, slice_get}
use Rattle.std.specs.List.{list_any}
use Rattle.family_solver.specs.Kept.Keeping.{IsClash, IsKeptSolver}
use Rattle.learn_solver.specs.Solving.{SolverState}
use Rattle.lits_core.specs.Literals.{clause_true, meets_all}
use Rattle.set_family.specs.Meeting.{IsMetBy}
use Rattle.world_model.specs.Problem.{Problem, restricted}
use Rattle.world_model.specs.Questions.{HasFlags, IsConsistent}
use Rattle.world_model.specs.Trial.{bit_lists}
use Rattle.conflict_lattice.specs.Lattice.{IsMaximalConsistent, IsMinimalConflict, Subsets, ascend}
use Rattle.conflict_lattice.specs.declared.rounds.Found.{Found}
use Rattle.conflict_lattice.specs.declared.decide.Judge.{Judge}
use Rattle.conflict_lattice.specs.declared.decide.Judged.{Judged}
use Rattle.conflict_lattice.specs.declared.decide.Judged.TheVariants.{Met, Clash}

-- whether one list has all that another has
abbrev pub is_part : List Bool → List Bool → Bool
is_part [] more = true
is_part (b ∷ few) [] = not b && is_part few []
is_part (b ∷ few) (c ∷ more) = (not b || c) && is_part few more

-- whether a list holds one of some conflicts
abbrev pub holds_one : List (List Bool) → List Bool → Bool
holds_one conflicts flags = list_any (λ conflict. is_part conflict flags) conflicts

abbrev pub holds_none : List (List Bool) → List Bool → Bool
holds_none conflicts flags = not (holds_one conflicts flags)

-- whether nothing that was found says of a list of flags whether it is consistent: it holds no conflict, and lies in no consistent set
abbrev pub is_open : Subsets → List Bool → Bool
is_open s flags = holds_none s.conflicts flags && not (list_any (is_part flags) s.consistent)

-- how many lists of flags are open
abbrev pub unexplored : ℕ → Subsets → ℕ
unexplored n s = length (filter (is_open s) (bit_lists n))

-- minimal conflicts and maximal consistent sets, in order
pub record IsFoundSoFar (p : Problem) (s : Subsets) : Type 0 where
  pub conflicts : All (IsMinimalConflict p) s.conflicts
  pub consistent : All (IsMaximalConsistent p) s.consistent
  pub conflicts_ascend : IsTrue (ascend s.conflicts)
  pub consistent_ascend : IsTrue (ascend s.consistent)

-- what is judged of flags
abbrev pub IsJudged : Problem → List Bool → Judged → Type 0
IsJudged p kept (Met f) = IsMetBy (restricted p kept) f
IsJudged p kept (Clash core) = IsClash p kept core.items

-- what judges: a solver over points, if these are few
abbrev pub IsJudge : Problem → Judge → Type 0
IsJudge p judge = IfSome judge.solver (IsKeptSolver p)

-- articulations in conflict, each of the first so many of which is needed
pub record IsShrunk (p : Problem) (count : ℕ) (core : List Bool) : Type 0 where
  pub flags : HasFlags p core
  pub inconsistent : IsConsistent p core → ⊥
  pub needed : (k : ℕ) → k < count → slice_get core k ≡ Some true → IsConsistent p (set core k false)

-- articulations that hold together, though not with any of the first so many besides
pub record IsGrown (p : Problem) (count : ℕ) (kept : List Bool) : Type 0 where
  pub flags : HasFlags p kept
  pub consistent : IsConsistent p kept
  pub full : (k : ℕ) → k < count → slice_get kept k ≡ Some false → IsConsistent p (set kept k true) → ⊥

-- a clause is true of what is left out of so many just where a fact of what is kept is
abbrev pub Says : ℕ → List ℕ → (List Bool → Bool) → Type 0
Says n lits fact = (out : List Bool) → length out ≡ n → clause_true out lits ≡ fact (map not out)

-- a solver that has derived nothing yet, whose given clauses are all true of what is left out of so many just where a fact of what is kept is
pub record IsMap (n : ℕ) (fact : List Bool → Bool) (s : SolverState) : Type 0 where
  pub variables : s.variables ≡ n
  pub derived : s.state.derived ≡ []
  pub waiting : s.waiting ≡ []
  pub says : (out : List Bool) → length out ≡ n → meets_all out s.state.given ≡ fact (map not out)

-- what was found, as lists
abbrev pub subsets_of : Found → Subsets
subsets_of found = record { conflicts = found.conflicts.items; consistent = found.consistent.items }
