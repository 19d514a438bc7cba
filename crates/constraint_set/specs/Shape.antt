-- When two problems have one shape, and what they then share.
use Rattle.std.specs.Prelude.{◌≡◌, ℕ, Bool, List, [], Option}
use Rattle.world_model.specs.Problem.{Problem, Constraint, concepts, pairs, cross_pairs}
use Rattle.world_model.specs.declared.Articulation.{Articulation}
use Rattle.world_model.specs.declared.Switches.{Switches}
use Rattle.constraint_set.specs.Readers.{sum_places, all_sums}

-- what all problems of one shape share: the problem without its flags and narrowings
abbrev pub shape_of : Problem → Problem
shape_of p = record p { kept = []; narrowings = [] }

-- two problems have one shape where they differ at most in what is kept and narrowed
abbrev pub SameShape : Problem → Problem → Type 0
SameShape p q = shape_of p ≡ shape_of q

-- what problems of one shape share
pub record Shares (p q : Problem) : Type 0 where
  pub same_concepts : concepts p ≡ concepts q
  pub same_pairs : pairs p ≡ pairs q
  pub same_cross : cross_pairs p ≡ cross_pairs q
  pub same_places : sum_places p ≡ sum_places q
  pub same_sums : all_sums p ≡ all_sums q
  pub same_articulations : p.articulations ≡ q.articulations
  pub same_switches : p.switches ≡ q.switches

-- problems of one shape share these
abbrev pub OneShapeShares : Type 0
OneShapeShares = (p q : Problem) → SameShape p q → Shares p q

-- the shape with these parts
abbrev pub shape_from : List (List ℕ) → List (List ℕ) → List ℕ → List (Option ℕ) → List (List ℕ) → List Articulation → Switches → Problem
shape_from taxonomies names owners parents children articulations switches = record {
  taxonomies = taxonomies;
  names = names;
  owners = owners;
  parents = parents;
  children = children;
  articulations = articulations;
  kept = [];
  narrowings = [];
  switches = switches;
}

-- a shape with flags and narrowings
abbrev pub with_state : Problem → List Bool → List Constraint → Problem
with_state shape kept narrowings = record shape { kept = kept; narrowings = narrowings }
