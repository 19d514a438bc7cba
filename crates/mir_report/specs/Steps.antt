-- What is known while the pairs are gone through.
use Rattle.std.specs.Prelude.{◌≡◌, ℕ, ◌<◌, Bool, false, if◌then◌else◌, List, [], length, map, filter, slice_index_or, IfSome, IsTrue}
use Rattle.rcc5_core.specs.declared.Rel.{Rel}
use Rattle.rcc5_core.specs.declared.RelSet.{RelSet}
use Rattle.rcc5_core.specs.Relation.{relation_of}
use Rattle.rcc5_core.specs.RelationSet.{has}
use Rattle.world_model.specs.Problem.{Problem}
use Rattle.world_model.specs.Family.{Family, set_of}
use Rattle.world_model.specs.Alive.{allowed}
use Rattle.world_model.specs.Node.{pair_at}
use Rattle.world_model.specs.Questions.{IsPossibleRelation}
use Rattle.cert_text.specs.declared.line.Subject.TheVariants.{Narrowed}
use Rattle.cert_rules.specs.ClaimLists.{Claim}
use Rattle.set_family.specs.Meeting.{IsMetBy}
use Rattle.pick_search.specs.Blocks.Blocks.{claimed}
use Rattle.family_solver.specs.Showing.{IsGround, IsFamilySolver}
use Rattle.pick_search.specs.Picking.{IsKnown}
use Rattle.mir_report.specs.declared.sight.Granter.{Granter}
use Rattle.mir_report.specs.declared.sight.Help.{Help}

-- a family that meets a problem shows a relation at a pair
pub record ShowsAt (p : Problem) (pair : ℕ) (rel : Rel) (f : Family) : Type 0 where
  pub met_by : IsMetBy p f
  pub there : relation_of (set_of f (pair_at p pair).0) (set_of f (pair_at p pair).1) ≡ rel

-- the claim for a relation of a pair: whether it is in a set
abbrev pub claim_of : ℕ → RelSet → Rel → Claim
claim_of pair set rel = record { subject = Narrowed pair rel; holds = has set rel }

-- the claims for some relations of a pair, of each that it allows
abbrev pub claims_of : Problem → ℕ → RelSet → List Rel → List Claim
claims_of p pair set rels = map (claim_of pair set) (filter (has (allowed p (pair_at p pair))) rels)

-- the claim for one relation of a pair, where it allows that
abbrev pub claim_if_allowed : Problem → ℕ → Rel → Bool → List Claim
claim_if_allowed p pair rel some = if has (allowed p (pair_at p pair)) rel then claimed (Narrowed pair rel) some else []

-- the claim that a relation of a pair is not possible, where it was refuted
abbrev pub claim_if_refuted : ℕ → Rel → Bool → List Claim
claim_if_refuted pair rel done = if done then claimed (Narrowed pair rel) false else []

-- each relation of a set is possible at a pair
abbrev pub AllPossible : Problem → ℕ → RelSet → Type 0
AllPossible p pair set = (rel : Rel) → IsTrue (has set rel) → IsPossibleRelation p pair rel

-- there is such a set for each of the first so many pairs
pub record AreSeen (p : Problem) (count : ℕ) (sets : List RelSet) : Type 0 where
  pub counted : length sets ≡ count
  pub each : (pair : ℕ) (d : RelSet) → pair < count → AllPossible p pair (slice_index_or sets pair d)

-- a set has each relation that is possible at a pair
abbrev pub HasPossible : Problem → ℕ → RelSet → Type 0
HasPossible p pair set = (rel : Rel) → IsPossibleRelation p pair rel → IsTrue (has set rel)

-- there is such a set for each of the first so many pairs
pub record AreCandidates (p : Problem) (count : ℕ) (sets : List RelSet) : Type 0 where
  pub counted : length sets ≡ count
  pub each : (pair : ℕ) (d : RelSet) → pair < count → HasPossible p pair (slice_index_or sets pair d)

-- all points of a problem with some of its pairs, and a solver of these, if one is made
pub record IsGranter (p : Problem) (granter : Granter) : Type 0 where
  pub ground : IsGround p granter.ground
  pub solver : IfSome granter.solver (IsFamilySolver p granter.ground)

-- what helps to answer questions about a problem: what clashes there, and its points, if they are few
pub record IsHelp (p : Problem) (help : Help) : Type 0 where
  pub clashes : IsKnown p help.clashes
  pub granter : IfSome help.granter (IsGranter p)
