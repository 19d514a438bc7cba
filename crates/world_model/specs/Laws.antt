-- The laws that make a search over single points right. Each is the contract of a public function with an empty body.
use Rattle.std.specs.Prelude.{◌≡◌, ℕ, ◌+◌, ◌-◌, ◌*◌, ◌^◌, ◌<◌, ◌≤◌, ◌↔◌, Bool, true, false, not, List, [], ◌∷◌, ◌++◌, length, Option, None, Some, Contains, All, IsTrue, slice_get, slice_index_or, set}
use Rattle.rcc5_core.specs.declared.Rel.{Rel}
use Rattle.rcc5_core.specs.declared.Rel.TheVariants.{Equals}
use Rattle.rcc5_core.specs.RelationSet.{has, only, both_of}
use Rattle.world_model.specs.Problem.{Problem, Constraint, is_problem, concept_count, pairs, pair_count, narrowed}
use Rattle.world_model.specs.Family.{meets, table_of, IsPossibleWorld}
use Rattle.world_model.specs.Listing.{is_below, ascends, IsListing}
use Rattle.world_model.specs.Alive.{allowed, is_point, all_allow, all_whole, IsAlive, problem_at, family_of, serves}
use Rattle.world_model.specs.Node.{pair_at, IsNode, IsNodeList, IsCut}
use Rattle.world_model.specs.Questions.{IsMet, IsConsistent, IsLeastConflict}
use Rattle.world_model.specs.Trial.{points_by_trial, alive_by_trial, nodes_between, worlds_between, cut_by_trial}

-- each pair of concepts, the lower number first, stands in the list of pairs exactly once, and there are n(n-1)/2
pub record PairsStandOnce : Type 0 where
  pub there : (p : Problem) (i j : ℕ) → i < j → j < concept_count p → Contains (pairs p) (i, j)
  pub no_others : (p : Problem) (i j : ℕ) → Contains (pairs p) (i, j) → (i < j) × (j < concept_count p)
  pub once : (p : Problem) (a b : ℕ) → a < pair_count p → b < pair_count p → pair_at p a ≡ pair_at p b → a ≡ b
  pub number : (p : Problem) → 2 * pair_count p ≡ concept_count p * (concept_count p - 1)

-- at a position a pair allows what the problem allows there, and, where the position has a relation for it, that one alone
pub record PositionsNarrow : Type 0 where
  pub inside : (p : Problem) (m : List Rel) (k : ℕ) → k < length m → k < pair_count p →
      allowed (problem_at p m) (pair_at p k) ≡ both_of (allowed p (pair_at p k)) (only (slice_index_or m k Equals))
  pub beyond : (p : Problem) (m : List Rel) (k : ℕ) → length m ≤ k → k < pair_count p → allowed (problem_at p m) (pair_at p k) ≡ allowed p (pair_at p k)
  pub at_start : (p : Problem) → problem_at p [] ≡ p

-- where every pair's allowed set is whole, some family meets the problem exactly where the problem is alive; and then points
-- that serve it, taken as a family, meet it
pub record WholeSetsAreDecided : Type 0 where
  pub met : (p : Problem) → IsMet p → IsAlive p
  pub alive : (p : Problem) → IsTrue (is_problem p) → IsTrue (all_whole p) → IsAlive p → IsMet p
  pub served : (p : Problem) → IsTrue (is_problem p) → IsTrue (all_whole p) → (points : List (List Bool)) → IsTrue (all_allow p) →
      IsTrue (serves p points) → IsTrue (meets p (family_of p points))

-- a position with a relation for each pair is a possible world exactly where it is alive; and then points that serve it, taken as
-- a family, meet the problem and have that table. Each possible world has a relation for each pair
pub record AliveTablesAreWorlds : Type 0 where
  pub full : (p : Problem) (t : List Rel) → IsPossibleWorld p t → length t ≡ pair_count p
  pub worlds : (p : Problem) → IsTrue (is_problem p) → (t : List Rel) → length t ≡ pair_count p →
      IsPossibleWorld p t ↔ IsAlive (problem_at p t)
  pub served : (p : Problem) → IsTrue (is_problem p) → (t : List Rel) → length t ≡ pair_count p → (points : List (List Bool)) →
      IsTrue (all_allow (problem_at p t)) → IsTrue (serves (problem_at p t) points) →
      IsTrue (meets p (family_of p points)) × (table_of p (family_of p points) ≡ t)

-- a prefix of an alive prefix is alive; so each prefix of a possible world is a node
pub record PrefixesOfTheAliveAreAlive : Type 0 where
  pub prefixes : (p : Problem) (m rest : List Rel) → IsAlive (problem_at p (m ++ rest)) → IsAlive (problem_at p m)
  pub nodes : (p : Problem) (m rest : List Rel) → IsPossibleWorld p (m ++ rest) → IsNode p m

-- a relation with which a pair alone makes the problem dead makes it dead below any prefix before that pair
pub record DeadAloneIsDeadBelow : Type 0 where
  pub below : (p : Problem) (m rest : List Rel) (rel : Rel) → length m < pair_count p → (IsAlive (narrowed p (pair_at p (length m)) (only rel)) → ⊥) →
      IsAlive (problem_at p (m ++ rel ∷ rest)) → ⊥
  pub alone : (p : Problem) (m rest : List Rel) (rel : Rel) → length m < pair_count p → IsAlive (problem_at p (m ++ rel ∷ rest)) →
      IsAlive (narrowed p (pair_at p (length m)) (only rel))

-- a statement leaves out only relations with which its pair alone makes the problem dead
abbrev pub DropsTheDead : Problem → Constraint → Type 0
DropsTheDead p c = (rel : Rel) → IsAlive (narrowed p (c.left, c.right) (only rel)) → IsTrue (has c.set rel)

-- the problem with more narrowings
abbrev pub narrowed_by : Problem → List Constraint → Problem
narrowed_by p more = record p { narrowings = p.narrowings ++ more }

-- narrowing pairs by such statements keeps the possible worlds
abbrev pub NarrowingKeepsWorlds : Type 0
NarrowingKeepsWorlds = (p : Problem) (more : List Constraint) → All (DropsTheDead p) more → (t : List Rel) →
    IsPossibleWorld (narrowed_by p more) t ↔ IsPossibleWorld p t

-- a position is not above the end, which may be none
abbrev pub is_not_above_end : List Rel → Option (List Rel) → Bool
is_not_above_end m None = true
is_not_above_end m (Some end) = not (is_below end m)

-- two listings, the second from where the first ends, are one
abbrev pub ListingsJoin : Type 0
ListingsJoin = (p : Problem) (from mid : List Rel) (to : Option (List Rel)) (worlds more : List (List Rel)) →
    IsTrue (not (is_below mid from)) → IsTrue (is_not_above_end mid to) →
    IsListing p from (Some mid) worlds → IsListing p mid to more → IsListing p from to (worlds ++ more)

-- there is one listing at most, one list of nodes and one cut
pub record OneListing : Type 0 where
  pub worlds : (p : Problem) (from : List Rel) (to : Option (List Rel)) (a b : List (List Rel)) → IsListing p from to a → IsListing p from to b → a ≡ b
  pub nodes : (p : Problem) (from : List Rel) (to : Option (List Rel)) (a b : List (List Rel)) → IsNodeList p from to a → IsNodeList p from to b → a ≡ b
  pub cut : (p : Problem) (from : List Rel) (nodes worlds : Option ℕ) (a b : Option (List Rel)) → IsCut p from nodes worlds a → IsCut p from nodes worlds b → a ≡ b

-- there are at most (5^(P+1) - 1)/4 nodes
abbrev pub NodesAreBounded : Type 0
NodesAreBounded = (p : Problem) (nodes : List (List Rel)) → IsTrue (ascends nodes) → All (IsNode p) nodes → 4 * length nodes + 1 ≤ 5 ^ (pair_count p + 1)

-- there is one least conflict at most, and without any one of its articulations it is consistent
pub record OneLeastConflict : Type 0 where
  pub one : (p : Problem) (a b : List Bool) → IsLeastConflict p a → IsLeastConflict p b → a ≡ b
  pub tight : (p : Problem) → IsTrue (is_problem p) → (kept : List Bool) (k : ℕ) → IsLeastConflict p kept → slice_get kept k ≡ Some true → IsConsistent p (set kept k false)

-- what the plain way computes is what the definitions say
pub record TrialIsRight : Type 0 where
  pub points : (p : Problem) (bits : List Bool) → Contains (points_by_trial p) bits ↔ IsTrue (is_point p bits)
  pub alive : (p : Problem) → IsTrue (alive_by_trial p) ↔ IsAlive p
  pub nodes : (p : Problem) (from : List Rel) (to : Option (List Rel)) → IsNodeList p from to (nodes_between p from to)
  pub worlds : (p : Problem) → IsTrue (is_problem p) → (from : List Rel) (to : Option (List Rel)) → IsListing p from to (worlds_between p from to)
  pub cut : (p : Problem) → IsTrue (is_problem p) → (from : List Rel) (nodes worlds : Option ℕ) → IsCut p from nodes worlds (cut_by_trial p from nodes worlds)
