-- Small problems, and what comes of them. Worlds are shown as the letters of their relations.
use Rattle.std.specs.Prelude.{◌≡◌, ℕ, ◌≤◌, true, false, List, [], ◌∷◌, map, Option, Some, None, IsTrue, codes}
use Rattle.std.specs.List.{list_all}
use Rattle.rcc5_core.specs.declared.Rel.{Rel}
use Rattle.rcc5_core.specs.declared.Rel.TheVariants.{Equals, Includes, IncludedIn, Overlaps, Disjoint}
use Rattle.rcc5_core.specs.Relation.{letter_of, relation_of}
use Rattle.rcc5_core.specs.RelationSet.{only}
use Rattle.world_model.specs.declared.Articulation.{Articulation}
use Rattle.world_model.specs.declared.Articulation.TheVariants.{Pair, Sum}
use Rattle.world_model.specs.declared.Switches.{Switches}
use Rattle.world_model.specs.Problem.{Problem, is_problem}
use Rattle.world_model.specs.Family.{Family, meets, table_of, IsPossibleWorld}
use Rattle.world_model.specs.Questions.{IsLeastConflict}
use Rattle.world_model.specs.Trial.{worlds_between, nodes_between, cut_by_trial}

-- all three rules hold
abbrev pub all_on : Switches
all_on = record { nonempty = true; sibling = true; coverage = true }

-- concepts may be empty
abbrev pub may_be_empty : Switches
may_be_empty = record { nonempty = false; sibling = true; coverage = true }

-- siblings may have something in common
abbrev pub may_meet : Switches
may_meet = record { nonempty = true; sibling = false; coverage = true }

-- a parent may have more than its children
abbrev pub may_exceed : Switches
may_exceed = record { nonempty = true; sibling = true; coverage = false }

-- a concept of a taxonomy, by its place: its parent and its children
pub record Concept : Type 0 where
  pub owner : ℕ
  pub parent : Option ℕ
  pub children : List ℕ

-- a root without children
abbrev pub lone : ℕ → Concept
lone owner = record { owner = owner; parent = None; children = [] }

-- a root with children
abbrev pub over : ℕ → List ℕ → Concept
over owner children = record { owner = owner; parent = None; children = children }

-- a child without children
abbrev pub under : ℕ → ℕ → Concept
under owner parent = record { owner = owner; parent = Some parent; children = [] }

-- a problem of three taxonomies at most, without names, in which all that is said is kept
abbrev pub problem_of : List Concept → List Articulation → Switches → Problem
problem_of concepts said switches = record {
  taxonomies = [] ∷ [] ∷ [] ∷ [];
  names = map (λ _. []) concepts;
  owners = map (λ c. c.owner) concepts;
  parents = map (λ c. c.parent) concepts;
  children = map (λ c. c.children) concepts;
  articulations = said;
  kept = map (λ _. true) said;
  narrowings = [];
  switches = switches;
}

-- A and B, of different taxonomies
abbrev pub one_each : List Articulation → Switches → Problem
one_each = problem_of (lone 0 ∷ lone 1 ∷ [])

-- A over B and C, and D over E and F, of different taxonomies
abbrev pub two_threes : List Articulation → Switches → Problem
two_threes = problem_of (over 0 (1 ∷ 2 ∷ []) ∷ under 0 0 ∷ under 0 0 ∷ over 1 (4 ∷ 5 ∷ []) ∷ under 1 3 ∷ under 1 3 ∷ [])

-- A over B and C, and D of a second taxonomy
abbrev pub three_and_one : List Articulation → Switches → Problem
three_and_one = problem_of (over 0 (1 ∷ 2 ∷ []) ∷ under 0 0 ∷ under 0 0 ∷ lone 1 ∷ [])

-- A over B, and D of a second taxonomy
abbrev pub two_and_one : List Articulation → Switches → Problem
two_and_one = problem_of (over 0 (1 ∷ []) ∷ under 0 0 ∷ lone 1 ∷ [])

-- A, and the roots B and C of a second taxonomy
abbrev pub one_and_two_roots : List Articulation → Switches → Problem
one_and_two_roots = problem_of (lone 0 ∷ lone 1 ∷ lone 1 ∷ [])

-- A, B and C, each of a taxonomy of its own
abbrev pub one_of_three : List Articulation → Switches → Problem
one_of_three = problem_of (lone 0 ∷ lone 1 ∷ lone 2 ∷ [])

-- the roots A and B of one taxonomy
abbrev pub two_roots : List Articulation → Switches → Problem
two_roots = problem_of (lone 0 ∷ lone 0 ∷ [])

-- two concepts are equal
abbrev pub equals : ℕ → ℕ → Articulation
equals left right = Pair left right (only Equals)

-- the letters of worlds
abbrev pub letters : List (List Rel) → List (List ℕ)
letters = map (map letter_of)

-- all worlds of a problem, in letters
abbrev pub worlds : Problem → List (List ℕ)
worlds p = letters (worlds_between p [] None)

-- the five relations, in letters
abbrev pub five : List (List ℕ)
five = codes "=" ∷ codes ">" ∷ codes "<" ∷ codes "x" ∷ codes "!" ∷ []

-- two concepts of which nothing is said have each relation; what is said of them is met; what contradicts itself is not
pub record OneConceptEach : Type 0 where
  pub free : worlds (one_each [] all_on) ≡ five
  pub said : worlds (one_each (equals 0 1 ∷ []) all_on) ≡ codes "=" ∷ []
  pub contradicted : worlds (one_each (equals 0 1 ∷ Pair 0 1 (only Disjoint) ∷ []) all_on) ≡ []

-- coverage forces C equals F where A equals D and B equals E; without it C and F have each relation
pub record RemaindersAreEqual : Type 0 where
  pub covered : worlds (two_threes (equals 0 3 ∷ equals 1 4 ∷ []) all_on) ≡ codes "=>><=!<!=>>!>>!" ∷ []
  pub uncovered : worlds (two_threes (equals 0 3 ∷ equals 1 4 ∷ []) may_exceed) ≡
      codes "=>><=!<!=>>!>>!" ∷ codes "=>><=!<!>>>!>>!" ∷ codes "=>><=!<!<>>!>>!" ∷ codes "=>><=!<!x>>!>>!" ∷ codes "=>><=!<!!>>!>>!" ∷ []

-- two siblings that equal one concept are empty, or no siblings' rule holds
pub record SiblingsOfOneConcept : Type 0 where
  pub none : worlds (three_and_one (equals 1 3 ∷ equals 2 3 ∷ []) all_on) ≡ []
  pub all_empty : worlds (three_and_one (equals 1 3 ∷ equals 2 3 ∷ []) may_be_empty) ≡ codes "======" ∷ []
  pub all_one : worlds (three_and_one (equals 1 3 ∷ equals 2 3 ∷ []) may_meet) ≡ codes "======" ∷ []

-- two halves of one whole may meet two other halves in seven ways
abbrev pub TwoPartings : Type 0
TwoPartings = worlds (two_threes (equals 0 3 ∷ []) all_on) ≡
    codes "=>><=!<!=>>!>>!" ∷ codes "=>><>x<!<>>!>>!" ∷ codes "=>><<!<x>>>!>>!" ∷ codes "=>><x><<!>>!>>!" ∷ codes "=>><xx<xx>>!>>!" ∷ codes "=>><!=<=!>>!>>!" ∷ codes "=>><!<<>x>>!>>!" ∷ []

-- an only child is its parent under coverage
pub record OnlyChild : Type 0 where
  pub covered : worlds (two_and_one (equals 0 2 ∷ []) all_on) ≡ codes "===" ∷ []
  pub uncovered : worlds (two_and_one (equals 0 2 ∷ []) may_exceed) ≡ codes "===" ∷ codes "=<>" ∷ []

-- a whole of two parts, which may have something in common
abbrev pub WholeOfTwoParts : Type 0
WholeOfTwoParts = worlds (one_and_two_roots (Sum 0 (1 ∷ 2 ∷ []) ∷ []) all_on) ≡ codes "===" ∷ codes "=>>" ∷ codes ">=<" ∷ codes ">>x" ∷ codes ">>!" ∷ []

-- three taxonomies in a row
abbrev pub ThreeTaxonomies : Type 0
ThreeTaxonomies = worlds (one_of_three (equals 0 1 ∷ Pair 1 2 (only Includes) ∷ []) all_on) ≡ codes "=>>" ∷ []

-- the nodes of two concepts are the empty position and each relation, as each is counted once
abbrev pub SixNodes : Type 0
SixNodes = letters (nodes_between (one_each [] all_on) [] None) ≡ [] ∷ five

-- a node in letters, if there is one
abbrev pub cut_letters : Option (List Rel) → Option (List ℕ)
cut_letters None = None
cut_letters (Some m) = Some (map letter_of m)

-- where a budget of nodes and one of worlds stop the listing of two concepts' worlds
abbrev pub cut_of : Option ℕ → Option ℕ → Option (List ℕ)
cut_of nodes worlds = cut_letters (cut_by_trial (one_each [] all_on) [] nodes worlds)

-- their worlds from one position on and below another
abbrev pub part_of : List Rel → Option (List Rel) → List (List ℕ)
part_of from to = letters (worlds_between (one_each [] all_on) from to)

-- the first node before which enough nodes stand, the empty position being one; what comes before it, and what is left
pub record CutsByNodes : Type 0 where
  pub three : cut_of (Some 3) None ≡ Some (codes "<")
  pub before : part_of [] (Some (IncludedIn ∷ [])) ≡ codes "=" ∷ codes ">" ∷ []
  pub rest : part_of (IncludedIn ∷ []) None ≡ codes "<" ∷ codes "x" ∷ codes "!" ∷ []
  pub fifth : cut_of (Some 5) None ≡ Some (codes "!")
  pub sixth : cut_of (Some 6) None ≡ None

-- the first node before which enough worlds stand, and the one that comes first of two budgets
pub record CutsByWorlds : Type 0 where
  pub four : cut_of None (Some 4) ≡ Some (codes "!")
  pub five : cut_of None (Some 5) ≡ None
  pub worlds_first : cut_of (Some 4) (Some 2) ≡ Some (codes "<")
  pub nodes_first : cut_of (Some 2) (Some 2) ≡ Some (codes ">")

-- A equals D, B equals E, C equals F, and B is disjoint from E
abbrev pub disputed : Problem
disputed = two_threes (equals 0 3 ∷ equals 1 4 ∷ equals 2 5 ∷ Pair 1 4 (only Disjoint) ∷ []) all_on

-- of its conflicts, the second with the fourth comes before the first, third and fourth together
abbrev pub SecondAndFourth : Type 0
SecondAndFourth = IsLeastConflict disputed (false ∷ true ∷ false ∷ true ∷ [])

-- two roots of one taxonomy have each relation, where two children of one parent are apart
pub record RootsAreNoSiblings : Type 0 where
  pub roots : worlds (two_roots [] all_on) ≡ five
  pub children : worlds (problem_of (over 0 (1 ∷ 2 ∷ []) ∷ under 0 0 ∷ under 0 0 ∷ []) [] all_on) ≡ codes ">>!" ∷ []

-- a concept without children has elements under coverage, where a parent has those of its children alone
pub record LeavesAreNotCovered : Type 0 where
  pub leaf : worlds (problem_of (lone 0 ∷ []) [] all_on) ≡ [] ∷ []
  pub parent : worlds (problem_of (over 0 (1 ∷ []) ∷ under 0 0 ∷ []) [] all_on) ≡ codes "=" ∷ []

-- empty sets are equal, and an empty set is included in another, and not disjoint from it; so siblings that may be empty have
-- each relation but overlap
pub record EmptySetsInOrder : Type 0 where
  pub both : relation_of [] [] ≡ Equals
  pub left : relation_of [] (0 ∷ []) ≡ IncludedIn
  pub right : relation_of (0 ∷ []) [] ≡ Includes
  pub siblings : worlds (problem_of (over 0 (1 ∷ 2 ∷ []) ∷ under 0 0 ∷ under 0 0 ∷ []) [] may_be_empty) ≡
      codes "===" ∷ codes "=>>" ∷ codes ">=<" ∷ codes ">>!" ∷ []

-- families range over all universes: a table may need three elements, and one may need none
pub record EveryUniverseCounts : Type 0 where
  pub overlap : IsPossibleWorld (one_each [] all_on) (Overlaps ∷ [])
  pub three : (f : Family) → IsTrue (meets (one_each [] all_on) f) → table_of (one_each [] all_on) f ≡ Overlaps ∷ [] → 3 ≤ f.universe
  pub one : (f : Family) → IsTrue (meets (one_each [] all_on) f) → 1 ≤ f.universe
  pub empty : IsTrue (meets (one_each [] may_be_empty) (record { universe = 0; sets = [] ∷ [] ∷ [] }))

-- the problems above are problems
abbrev pub AllAreProblems : Type 0
AllAreProblems = IsTrue (list_all is_problem (
    one_each (equals 0 1 ∷ Pair 0 1 (only Disjoint) ∷ []) all_on ∷
    disputed ∷
    three_and_one (equals 1 3 ∷ equals 2 3 ∷ []) may_be_empty ∷
    two_and_one (equals 0 2 ∷ []) may_exceed ∷
    one_and_two_roots (Sum 0 (1 ∷ 2 ∷ []) ∷ []) all_on ∷
    one_of_three (equals 0 1 ∷ Pair 1 2 (only Includes) ∷ []) all_on ∷
    two_roots [] all_on ∷ []))
