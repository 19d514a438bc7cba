-- The relations that remain possible, and what is claimed of them.
use Rattle.std.specs.Prelude.{◌≡◌, ℕ, ◌+◌, ◌↔◌, Bool, List, [], ◌∷◌, ◌++◌, length, map, filter, Some, slice_get, IsTrue}
use Rattle.rcc5_core.specs.declared.Rel.{Rel}
use Rattle.rcc5_core.specs.declared.RelSet.{RelSet}
use Rattle.rcc5_core.specs.Relation.{all_rels}
use Rattle.rcc5_core.specs.RelationSet.{has}
use Rattle.world_model.specs.Problem.{Problem, cross_pairs}
use Rattle.world_model.specs.Alive.{allowed}
use Rattle.world_model.specs.Node.{pair_at}
use Rattle.world_model.specs.Questions.{IsPossibleRelation}
use Rattle.cert_text.specs.declared.line.Subject.TheVariants.{Narrowed, Kept}
use Rattle.cert_rules.specs.ClaimLists.{Claim}
use Rattle.pick_search.specs.Blocks.Blocks.{claimed}

-- a set has just the relations that some possible world has at a pair
abbrev pub IsPossibleSet : Problem → ℕ → RelSet → Type 0
IsPossibleSet p pair set = (rel : Rel) → IsTrue (has set rel) ↔ IsPossibleRelation p pair rel

-- one such set for each pair across taxonomies, which are the first in the order of pairs
pub record ArePossibleSets (p : Problem) (sets : List RelSet) : Type 0 where
  pub count : length sets ≡ length (cross_pairs p)
  pub each : (pair : ℕ) (set : RelSet) → slice_get sets pair ≡ Some set → IsPossibleSet p pair set

-- the claims for a pair: of each relation that it allows, whether it is in a set
abbrev pub pair_claims : Problem → ℕ → RelSet → List Claim
pair_claims p pair set = map (λ rel. record { subject = Narrowed pair rel; holds = has set rel }) (filter (has (allowed p (pair_at p pair))) all_rels)

-- the claims for the pairs from a number on, each with its set
abbrev pub claims_from : Problem → ℕ → List RelSet → List Claim
claims_from p pair [] = []
claims_from p pair (set ∷ sets) = pair_claims p pair set ++ claims_from p (pair + 1) sets

-- the claim of the problem as it is, where no pair goes across taxonomies: whether a family meets it
abbrev pub whole_claim : Problem → List RelSet → Bool → List Claim
whole_claim p [] some = claimed (Kept p.kept) some
whole_claim p (set ∷ sets) some = []

-- all claims: those for the pairs, or that of the problem as it is
abbrev pub mir_claims : Problem → List RelSet → Bool → List Claim
mir_claims p sets some = claims_from p 0 sets ++ whole_claim p sets some
