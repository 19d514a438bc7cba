-- The least articulations from which a relation of a pair follows, and what shows that each of them is needed.
use Rattle.std.specs.Prelude.{◌≡◌, Bool, false, IsTrue, List, ℕ, length, not, Result, Ok, Err, Some, set, slice_get}
use Rattle.std.specs.Ordering.{is_lt}
use Rattle.conflict_min.specs.Conflicts.{all_kept, places_from}
use Rattle.rcc5_core.specs.Relation.{relation_of}
use Rattle.rcc5_core.specs.RelationSet.{has}
use Rattle.rcc5_core.specs.declared.RelSet.{RelSet}
use Rattle.search_log.specs.declared.fault.StepFault.{StepFault}
use Rattle.search_log.specs.declared.fault.StepFault.TheVariants as step
use Rattle.set_family.specs.Meeting.{IsMetBy}
use Rattle.world_model.specs.Family.{Family, meets, set_of}
use Rattle.world_model.specs.Problem.{Problem, restricted}
use Rattle.world_model.specs.Questions.{HasFlags, flags_cmp}
use Rattle.conflict_lattice.specs.declared.reason.Explanation.{Explanation}
use Rattle.conflict_lattice.specs.declared.reason.ExplainFault.{ExplainFault}
use Rattle.conflict_lattice.specs.declared.reason.ExplainFault.TheVariants.{NotEntailed, LogFailed, NoMemory}
use Rattle.conflict_lattice.specs.declared.reason.Explained.{Explained}
use Rattle.conflict_lattice.specs.declared.reason.Explained.TheVariants as explained

-- whether the relation that a family shows at a pair is in a set
abbrev pub has_there : Family → ℕ × ℕ → RelSet → Bool
has_there f pair rels = has rels (relation_of (set_of f pair.0) (set_of f pair.1))

-- some articulations entail a set at a pair: each family that meets the problem with just these has a relation of it there
abbrev pub Entails : Problem → List Bool → ℕ × ℕ → RelSet → Type 0
Entails p kept pair rels = (f : Family) → IsTrue (meets (restricted p kept) f) → IsTrue (has_there f pair rels)

-- the first list of flags, in their order, that entails a set
pub record IsLeastEntailing (p : Problem) (pair : ℕ × ℕ) (rels : RelSet) (kept : List Bool) : Type 0 where
  pub flags : HasFlags p kept
  pub entails : Entails p kept pair rels
  pub least : (other : List Bool) → HasFlags p other → Entails p other pair rels → IsTrue (not (is_lt (flags_cmp other kept)))

-- a family that meets the problem with just some articulations, and has another relation
pub record IsCounter (p : Problem) (kept : List Bool) (pair : ℕ × ℕ) (rels : RelSet) (f : Family) : Type 0 where
  pub met_by : IsMetBy (restricted p kept) f
  pub outside : has_there f pair rels ≡ false

-- there is such a family for each articulation that is kept, in order: of the others
pub record AreCounters (p : Problem) (kept : List Bool) (pair : ℕ × ℕ) (rels : RelSet) (families : List Family) : Type 0 where
  pub count : length families ≡ length (places_from 0 kept)
  pub each : (m place : ℕ) (f : Family) → slice_get (places_from 0 kept) m ≡ Some place → slice_get families m ≡ Some f →
      IsCounter p (set kept place false) pair rels f

-- what is answered: the least entailing articulations, each shown to be needed; or a family that has another relation
abbrev pub IsExplained : Problem → ℕ × ℕ → RelSet → Explained → Type 0
IsExplained p pair rels (explained.Least e) = IsLeastEntailing p pair rels e.kept × AreCounters p e.kept pair rels e.families.items
IsExplained p pair rels (explained.Not f) = IsCounter p (all_kept p) pair rels f

-- an answer as that of a step
abbrev pub as_step : Result Explanation ExplainFault → Result Explained StepFault
as_step (Ok e) = Ok (explained.Least e)
as_step (Err (NotEntailed f)) = Ok (explained.Not f)
as_step (Err LogFailed) = Err step.LogFailed
as_step (Err NoMemory) = Err step.NoMemory
