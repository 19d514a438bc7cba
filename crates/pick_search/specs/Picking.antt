-- Picks: a relation for a pair, by the pair's place in a list of pairs.
use Rattle.std.specs.Prelude.{All, Bool, Contains, IsTrue, List, [], ℕ, length, map, slice_index_or, ◌%◌, ◌*◌, ◌+◌, ◌/◌, ◌<◌, ◌==◌, ◌≡◌, ◌≤◌}
use Rattle.std.specs.List.{range_with_len}
use Rattle.point_encode.specs.Model.Clauses.{is_not, is_so}
use Rattle.learn_solver.specs.Solving.{SolverState}
use Rattle.lits_core.specs.Literals.{meets_all}
use Rattle.rcc5_core.specs.Relation.{relation_of}
use Rattle.rcc5_core.specs.RelationSet.{has}
use Rattle.rcc5_core.specs.declared.RelSet.{RelSet}
use Rattle.watch_arena.specs.Trails.{AreInRange}
use Rattle.rcc5_core.specs.declared.Rel.{Rel}
use Rattle.rcc5_core.specs.declared.Rel.TheVariants.{Disjoint, Equals, IncludedIn, Includes, Overlaps}
use Rattle.pick_search.specs.declared.picks.Clash.{Clash}
use Rattle.pick_search.specs.declared.picks.Pick.{Pick}
use Rattle.pick_search.specs.declared.known.Known.{Known}
use Rattle.pick_search.specs.declared.search.RoundEnd.{RoundEnd}
use Rattle.pick_search.specs.declared.search.RoundEnd.TheVariants.{Done, Lost, On}
use Rattle.split_search.specs.Choosing.{IsChoice}
use Rattle.world_model.specs.Family.{Family, meets, set_of}
use Rattle.world_model.specs.Node.{pair_at}
use Rattle.world_model.specs.Problem.{Problem, pair_count}
use Rattle.constraint_set.specs.Shape.{SameShape}

-- the relation that a family has at a place in a list of pairs
abbrev pub relation_at : Problem → List ℕ → Family → ℕ → Rel
relation_at p pairs f place = relation_of (set_of f (pair_at p (slice_index_or pairs place 0)).0) (set_of f (pair_at p (slice_index_or pairs place 0)).1)

-- a family has the relation of a pick at its place
abbrev pub Makes : Problem → List ℕ → Family → Pick → Type 0
Makes p pairs f pick = relation_at p pairs f pick.place ≡ pick.rel

-- no family that meets a problem makes all of some picks
abbrev pub IsClash : Problem → List ℕ → List Pick → Type 0
IsClash p pairs picks = (f : Family) → IsTrue (meets p f) → All (Makes p pairs f) picks → ⊥

-- a problem where the pairs of some picks are narrowed to their relations
pub record IsPicked (p : Problem) (pairs : List ℕ) (picks : List Pick) (q : Problem) : Type 0 where
  pub shape : SameShape q p
  pub within : (f : Family) → IsTrue (meets q f) → IsTrue (meets p f)
  pub there : (f : Family) → IsTrue (meets p f) → All (Makes p pairs f) picks → IsTrue (meets q f)

-- the number of a relation among the five
abbrev pub rel_number : Rel → ℕ
rel_number Equals = 0
rel_number Includes = 1
rel_number IncludedIn = 2
rel_number Overlaps = 3
rel_number Disjoint = 4

-- the variable that says that the pair at a place has a relation
abbrev pub pick_variable : ℕ → Rel → ℕ
pick_variable place rel = 5 * place + rel_number rel

-- what a family makes of these variables
abbrev pub made_bits : Problem → List ℕ → Family → List Bool
made_bits p pairs f = map (λ v. rel_number (relation_at p pairs f (v / 5)) == v % 5) (range_with_len 0 (5 * length pairs))

-- each family that meets a problem makes the given clauses of a solver true
abbrev pub IsRuled : Problem → List ℕ → SolverState → Type 0
IsRuled p pairs s = (f : Family) → IsTrue (meets p f) → IsTrue (meets_all (made_bits p pairs f) s.state.given)

-- a clause has a literal for each relation of a set at a place, and none of another place
pub record IsRule (place : ℕ) (set : RelSet) (lits : List ℕ) : Type 0 where
  pub each : (rel : Rel) → IsTrue (has set rel) → Contains lits (is_so (pick_variable place rel))
  pub range : AreInRange lits (5 * place + 5)

-- the clause that not all of some picks are made
abbrev pub ban_clause : List Pick → List ℕ
ban_clause picks = map (λ pick. is_not (pick_variable pick.place pick.rel)) picks

-- clauses that each family makes true which meets a problem have been given to a solver, which has derived none
pub record ArePicksRuled (p : Problem) (pairs : List ℕ) (s : SolverState) : Type 0 where
  pub variables : s.variables ≡ 5 * length pairs
  pub derived : s.state.derived ≡ []
  pub waiting : s.waiting ≡ []
  pub ruled : IsRuled p pairs s

-- each of some picks clash
abbrev pub AreClashes : Problem → List ℕ → List Clash → Type 0
AreClashes p pairs clashes = All (λ clash. IsClash p pairs clash.picks.items) clashes

-- each family that meets a part of a problem meets it too
pub record IsPartOf (p wide : Problem) : Type 0 where
  pub shape : SameShape p wide
  pub within : (f : Family) → IsTrue (meets p f) → IsTrue (meets wide f)

-- what is known of a problem: some of its pairs, and picks for them that clash
pub record IsKnown (p : Problem) (known : Known) : Type 0 where
  pub few : length known.pairs.items ≤ pair_count p
  pub within : All (λ pair. pair < pair_count p) known.pairs.items
  pub clashes : AreClashes p known.pairs.items known.clashes.items

-- what a turn is done with is right
abbrev pub IsTurn : Problem → RoundEnd → Type 0
IsTurn p (Done choice) = IsChoice p choice
IsTurn p On = Unit {0}
IsTurn p Lost = Unit {0}
