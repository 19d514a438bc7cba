-- All minimal conflicts and all maximal consistent sets of a problem's articulations, and what is claimed of them.
use Rattle.std.specs.Prelude.{◌&&◌, ◌++◌, ◌<◌, ◌∷◌, ◌≡◌, ◌↔◌, Bool, true, false, Contains, IsTrue, List, [], ℕ, length, map, Result, Ok, Err, Some, slice_get}
use Rattle.std.specs.List.{list_all}
use Rattle.std.specs.Ordering.{is_lt}
use Rattle.cert_rules.specs.ClaimLists.{Claim}
use Rattle.cert_text.specs.declared.line.Subject.TheVariants.{Kept}
use Rattle.family_solver.specs.Kept.Keeping.{IsWithin}
use Rattle.search_log.specs.declared.fault.StepFault.{StepFault}
use Rattle.search_log.specs.declared.fault.StepFault.TheVariants as step
use Rattle.world_model.specs.Problem.{Problem}
use Rattle.world_model.specs.Questions.{HasFlags, IsConsistent, flags_cmp}
use Rattle.conflict_lattice.specs.declared.lattice.LatticeFault.{LatticeFault}
use Rattle.conflict_lattice.specs.declared.lattice.LatticeFault.TheVariants.{TooMany, LogFailed, NoMemory}
use Rattle.conflict_lattice.specs.declared.lattice.Outcome.{Outcome}
use Rattle.conflict_lattice.specs.declared.lattice.Outcome.TheVariants as found
pub use Rattle.conflict_lattice.specs.Subsets.{Subsets}

-- a list has all that another has, and something besides
pub record IsProperPart (few more : List Bool) : Type 0 where
  pub within : IsWithin few more
  pub place : ℕ
  pub there : slice_get more place ≡ Some true
  pub gone : slice_get few place ≡ Some false

-- articulations that are in conflict, though not without any one of them
pub record IsMinimalConflict (p : Problem) (kept : List Bool) : Type 0 where
  pub flags : HasFlags p kept
  pub inconsistent : IsConsistent p kept → ⊥
  pub minimal : (few : List Bool) → HasFlags p few → IsProperPart few kept → IsConsistent p few

-- articulations that hold together, though not with any one more
pub record IsMaximalConsistent (p : Problem) (kept : List Bool) : Type 0 where
  pub flags : HasFlags p kept
  pub consistent : IsConsistent p kept
  pub maximal : (more : List Bool) → HasFlags p more → IsProperPart kept more → IsConsistent p more → ⊥

-- each list of flags comes before all that stand behind it
abbrev pub ascend : List (List Bool) → Bool
ascend [] = true
ascend (flags ∷ rest) = list_all (λ other. is_lt (flags_cmp flags other)) rest && ascend rest

-- just all of them, in order, each once
pub record IsLattice (p : Problem) (s : Subsets) : Type 0 where
  pub conflicts_ascend : IsTrue (ascend s.conflicts)
  pub consistent_ascend : IsTrue (ascend s.consistent)
  pub conflicts : (kept : List Bool) → Contains s.conflicts kept ↔ IsMinimalConflict p kept
  pub consistent : (kept : List Bool) → Contains s.consistent kept ↔ IsMaximalConsistent p kept

-- there are more articulations than are searched
abbrev pub AreMany : Problem → Type 0
AreMany p = 128 < length p.articulations

-- what is found
abbrev pub IsFound : Problem → Outcome → Type 0
IsFound p (found.Lists s) = IsLattice p s
IsFound p found.Many = AreMany p

-- the claims of some sets of articulations, in order: that each holds, or that none does
abbrev pub claims_of : Bool → List (List Bool) → List Claim
claims_of holds sets = map (λ kept. record { subject = Kept kept; holds = holds }) sets

-- the claims of the lists: that no conflict holds, and that each consistent set does
abbrev pub lattice_claims : Subsets → List Claim
lattice_claims s = claims_of false s.conflicts ++ claims_of true s.consistent

-- what is claimed of what is found
abbrev pub IsClaimedOf : Outcome → List Claim → Type 0
IsClaimedOf (found.Lists s) more = more ≡ lattice_claims s
IsClaimedOf found.Many more = more ≡ []

-- an answer as that of a step
abbrev pub as_step : Result Subsets LatticeFault → Result Outcome StepFault
as_step (Ok s) = Ok (found.Lists s)
as_step (Err TooMany) = Ok found.Many
as_step (Err LogFailed) = Err step.LogFailed
as_step (Err NoMemory) = Err step.NoMemory
