-- What a family shows of the points and the pairs of a problem, and what a solver is told of it.
use Rattle.std.specs.Prelude.{All, Bool, Contains, IsTrue, List, [], ℕ, length, map, not, slice_index_or, ◌%◌, ◌*◌, ◌+◌, ◌++◌, ◌/◌, ◌<◌, ◌==◌, ◌^◌, ◌≡◌, ◌≤◌, ◌⊎◌}
use Rattle.std.specs.List.{list_all, list_any, range_with_len}
use Rattle.point_encode.specs.Model.Clauses.{is_not, is_so}
use Rattle.learn_solver.specs.Solving.{SolverState}
use Rattle.lits_core.specs.Literals.{clause_true, lit_true, meets_all}
use Rattle.rcc5_core.specs.Region.{row_of, same_word, word_at}
use Rattle.rcc5_core.specs.Relation.{have_common, is_in, is_subset, rank_of, relation_of}
use Rattle.rcc5_core.specs.RelationSet.{has}
use Rattle.rcc5_core.specs.declared.Occupancy.TheVariants.{Empty}
use Rattle.rcc5_core.specs.declared.Region.{Region}
use Rattle.rcc5_core.specs.declared.Region.TheVariants.{Both, LeftOnly, RightOnly}
use Rattle.rcc5_core.specs.declared.Rel.{Rel}
use Rattle.rcc5_core.specs.declared.RelSet.{RelSet}
use Rattle.set_family.specs.Meeting.{IsMetBy}
use Rattle.watch_arena.specs.Trails.{AreInRange}
use Rattle.world_model.specs.Alive.{bit_of, lies_in, point_at, same_bool}
use Rattle.world_model.specs.Family.{Family, meets, set_of}
use Rattle.world_model.specs.Node.{pair_at}
use Rattle.world_model.specs.Problem.{Problem, concepts, pair_count}
use Rattle.world_model.specs.Questions.{IsMet}
use Rattle.world_model.specs.Trial.{points_by_trial}
use Rattle.family_solver.specs.declared.ground.Ground.{Ground}
use Rattle.family_solver.specs.declared.solver.FamilySolver.{FamilySolver}
use Rattle.family_solver.specs.declared.solver.Grant.{Grant}
use Rattle.family_solver.specs.declared.solver.Grant.TheVariants.{Met, Refuted, Unclear}

-- whether a family has an element that is in just the concepts that some bits say
abbrev pub has_point : Problem → Family → List Bool → Bool
has_point p f bits = list_any (λ x. list_all (λ c. same_bool (is_in x (set_of f c)) (bit_of bits c)) (concepts p)) (range_with_len 0 f.universe)

-- the relation that a family has at a place in a list of pairs
abbrev pub relation_at : Problem → List ℕ → Family → ℕ → Rel
relation_at p pairs f place = relation_of (set_of f (pair_at p (slice_index_or pairs place 0)).0) (set_of f (pair_at p (slice_index_or pairs place 0)).1)

-- whether a family has a relation at a place, by five numbers a place
abbrev pub shown_bits : Problem → List ℕ → Family → List Bool
shown_bits p pairs f = map (λ v. rank_of (relation_at p pairs f (v / 5)) == v % 5) (range_with_len 0 (5 * length pairs))

-- what a family makes of all variables: one a point, then five a place, and then what else is said
abbrev pub truths : Problem → Ground → Family → List Bool → List Bool
truths p g f more = map (has_point p f) g.points.items ++ (shown_bits p g.pairs.items f ++ more)

-- the variable that says that the pair at a place has a relation
abbrev pub rel_variable : Ground → ℕ → Rel → ℕ
rel_variable g place rel = length g.points.items + (5 * place + rank_of rel)

-- how many variables there are of points and places
abbrev pub variable_count : Ground → ℕ
variable_count g = length g.points.items + 5 * length g.pairs.items

-- all points of a problem, and some of its pairs: so few that a literal has room for each variable
pub record IsGround (p : Problem) (g : Ground) : Type 0 where
  pub points : g.points.items ≡ points_by_trial p
  pub pairs : All (λ pair. pair < pair_count p) g.pairs.items
  pub few : variable_count g < 2 ^ 31

-- each family that meets a problem makes a clause true, whatever else is said
abbrev pub IsSo : Problem → Ground → List ℕ → Type 0
IsSo p g lits = (f : Family) (more : List Bool) → IsTrue (meets p f) → IsTrue (clause_true (truths p g f more) lits)

-- and it makes the given clauses of a solver true
abbrev pub IsRuled : Problem → Ground → SolverState → Type 0
IsRuled p g s = (f : Family) (more : List Bool) → IsTrue (meets p f) → IsTrue (meets_all (truths p g f more) s.state.given)

-- such a solver while it is built: it has derived nothing yet
pub record IsBegun (p : Problem) (g : Ground) (s : SolverState) : Type 0 where
  pub variables : variable_count g ≤ s.variables
  pub derived : s.state.derived ≡ []
  pub waiting : s.waiting ≡ []
  pub ruled : IsRuled p g s

-- such a solver from question to question
pub record IsFamilySolver (p : Problem) (g : Ground) (solver : FamilySolver) : Type 0 where
  pub variables : variable_count g ≤ solver.solver.variables
  pub ruled : IsRuled p g solver.solver

-- literals have each of the first points that lies in a region of two concepts
abbrev pub HasPoints : List (List Bool) → ℕ → ℕ × ℕ → Region → List ℕ → Type 0
HasPoints points count pair region lits = (k : ℕ) → k < count → IsTrue (lies_in region pair (point_at points k)) → Contains lits (is_so k)

-- whether a region of two sets has an element
abbrev pub has_element : Region → List ℕ → List ℕ → Bool
has_element LeftOnly xs ys = not (is_subset xs ys)
has_element Both xs ys = have_common xs ys
has_element RightOnly xs ys = not (is_subset ys xs)

-- in each family that meets a problem, some literals say what is so, or the region of a pair has an element
abbrev pub IsSoOrSeen : Problem → Ground → List ℕ → ℕ × ℕ → Region → Type 0
IsSoOrSeen p g lits pair region = (f : Family) (more : List Bool) → IsTrue (meets p f) → IsTrue (clause_true (truths p g f more) lits) ⊎ IsTrue (has_element region (set_of f pair.0) (set_of f pair.1))

-- a clause has a literal for each relation of a set at a place, and is of the variables up to these
pub record IsRule (g : Ground) (place : ℕ) (set : RelSet) (lits : List ℕ) : Type 0 where
  pub each : (rel : Rel) → IsTrue (has set rel) → Contains lits (is_so (rel_variable g place rel))
  pub range : AreInRange lits (variable_count g)

-- whether a relation says that a region is empty
abbrev pub says_empty : Rel → Region → Bool
says_empty rel region = same_word (word_at (row_of rel) region) Empty

-- a literal says of a point in a region that a relation of a pair leaves empty that it is not there
pub record IsBarred (p : Problem) (g : Ground) (place : ℕ) (rel : Rel) (lit : ℕ) : Type 0 where
  pub point : ℕ
  pub region : Region
  pub within : point < length g.points.items
  pub empty : IsTrue (says_empty rel region)
  pub lies : IsTrue (lies_in region (pair_at p (slice_index_or g.pairs.items place 0)) (point_at g.points.items point))
  pub is : lit ≡ is_not point

-- what is assumed for a relation at a place: it is there, and no point that it leaves out
abbrev pub AreAssumed : Problem → Ground → ℕ → Rel → List ℕ → Type 0
AreAssumed p g place rel lits = (lit : ℕ) → Contains lits lit → (lit ≡ is_so (rel_variable g place rel)) ⊎ IsBarred p g place rel lit

-- no family that meets a problem makes all of some literals true
abbrev pub IsHopeless : Problem → Ground → List ℕ → Type 0
IsHopeless p g lits = (f : Family) (more : List Bool) → IsTrue (meets p f) → IsTrue (list_all (lit_true (truths p g f more)) lits) → ⊥

-- what is answered of the problem alone
abbrev pub IsFound : Problem → Grant → Type 0
IsFound p (Met f) = IsMetBy p f
IsFound p Refuted = IsMet p → ⊥
IsFound p Unclear = Unit {0}

-- what is answered of a relation at a place
abbrev pub IsGranted : Problem → List ℕ → ℕ → Rel → Grant → Type 0
IsGranted p pairs place rel (Met f) = IsMetBy p f × (relation_at p pairs f place ≡ rel)
IsGranted p pairs place rel Refuted = (f : Family) → IsTrue (meets p f) → relation_at p pairs f place ≡ rel → ⊥
IsGranted p pairs place rel Unclear = Unit {0}
