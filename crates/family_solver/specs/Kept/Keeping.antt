-- What a solver is told of a problem whose articulations may be kept or not, and what it answers.
use Rattle.std.specs.Prelude.{Bool, Contains, false, IsTrue, List, [], ℕ, length, map, Some, true, slice_get, ◌+◌, ◌^◌, ◌<◌, ◌≡◌}
use Rattle.point_encode.specs.Model.Clauses.{is_not, is_so}
use Rattle.learn_solver.specs.Solving.{SolverState}
use Rattle.lits_core.specs.Literals.{clause_true, meets_all}
use Rattle.set_family.specs.Meeting.{IsMetBy}
use Rattle.world_model.specs.Family.{Family, meets}
use Rattle.world_model.specs.Problem.{Problem, restricted}
use Rattle.world_model.specs.Questions.{HasFlags, IsConsistent}
use Rattle.family_solver.specs.Showing.{IsGround, truths, variable_count}
use Rattle.family_solver.specs.declared.ground.Ground.{Ground}
use Rattle.family_solver.specs.declared.kept.solver.KeptSolver.{KeptSolver}
use Rattle.family_solver.specs.declared.kept.solver.Verdict.{Verdict}
use Rattle.family_solver.specs.declared.kept.solver.Verdict.TheVariants.{Met, Clash, Unclear}

-- each flag that is true in one list is true in another
abbrev pub IsWithin : List Bool → List Bool → Type 0
IsWithin fewer more = (k : ℕ) → slice_get fewer k ≡ Some true → slice_get more k ≡ Some true

-- the problem with no articulation kept
abbrev pub bare : Problem → Problem
bare p = restricted p (map (λ _. false) p.articulations)

-- the variable that says that an articulation is kept
abbrev pub flag_variable : Ground → ℕ → ℕ
flag_variable g place = variable_count g + place

-- each family that meets the problem with some articulations kept makes the given clauses true, together with their flags
abbrev pub IsRuledKept : Problem → Ground → SolverState → Type 0
IsRuledKept p g s = (kept : List Bool) → HasFlags p kept → (f : Family) → IsTrue (meets (restricted p kept) f) → IsTrue (meets_all (truths (bare p) g f kept) s.state.given)

-- each such family makes a clause true
abbrev pub IsSoKept : Problem → Ground → List ℕ → Type 0
IsSoKept p g lits = (kept : List Bool) → HasFlags p kept → (f : Family) → IsTrue (meets (restricted p kept) f) → IsTrue (clause_true (truths (bare p) g f kept) lits)

-- a solver while it is built: it has derived nothing yet
pub record IsBegunKept (p : Problem) (g : Ground) (s : SolverState) : Type 0 where
  pub variables : s.variables ≡ variable_count g + length p.articulations
  pub derived : s.state.derived ≡ []
  pub waiting : s.waiting ≡ []
  pub ruled : IsRuledKept p g s

-- a solver over the points that a problem has where no articulation is kept
pub record IsKeptSolver (p : Problem) (solver : KeptSolver) : Type 0 where
  pub ground : IsGround (bare p) solver.ground
  pub few : variable_count solver.ground + length p.articulations < 2 ^ 31
  pub variables : solver.solver.variables ≡ variable_count solver.ground + length p.articulations
  pub ruled : IsRuledKept p solver.ground solver.solver

-- a literal says that an articulation is kept which some flags keep
pub record IsAssumed (g : Ground) (kept : List Bool) (lit : ℕ) : Type 0 where
  pub place : ℕ
  pub on : slice_get kept place ≡ Some true
  pub is : lit ≡ is_so (flag_variable g place)

-- a literal says that it is not
pub record IsDenied (g : Ground) (kept : List Bool) (lit : ℕ) : Type 0 where
  pub place : ℕ
  pub on : slice_get kept place ≡ Some true
  pub is : lit ≡ is_not (flag_variable g place)

-- each literal of a list is one of these
abbrev pub AreAssumed : Ground → List Bool → List ℕ → Type 0
AreAssumed g kept lits = (lit : ℕ) → Contains lits lit → IsAssumed g kept lit

abbrev pub AreDenied : Ground → List Bool → List ℕ → Type 0
AreDenied g kept lits = (lit : ℕ) → Contains lits lit → IsDenied g kept lit

-- some of the flags, which keep all articulations of which a clause says that they are not kept
pub record IsCore (g : Ground) (kept : List Bool) (clause : List ℕ) (core : List Bool) : Type 0 where
  pub flags : length core ≡ length kept
  pub within : IsWithin core kept
  pub denied : AreDenied g core clause

-- some of the articulations with these flags are in conflict
pub record IsClash (p : Problem) (kept core : List Bool) : Type 0 where
  pub flags : HasFlags p core
  pub within : IsWithin core kept
  pub inconsistent : IsConsistent p core → ⊥

-- what is answered of flags
abbrev pub IsVerdict : Problem → List Bool → Verdict → Type 0
IsVerdict p kept (Met f) = IsMetBy (restricted p kept) f
IsVerdict p kept (Clash core) = IsClash p kept core.items
IsVerdict p kept Unclear = Unit {0}
