-- What the given clauses say of points, and what selectors and needs say of a prefix.
use Rattle.std.specs.Prelude.{◌≡◌, ◌+◌, ◌*◌, ◌<◌, ◌↔◌, ℕ, Bool, List, take, length, Some, IsTrue, Contains}
use Rattle.std.specs.List.{list_all}
use Rattle.rcc5_core.specs.declared.Rel.{Rel}
use Rattle.rcc5_core.specs.declared.Region.{Region}
use Rattle.lits_core.specs.Literals.{negation_of, variable_of, lit_true, meets_all}
use Rattle.world_model.specs.Problem.{Problem, SumRule, concept_count, pair_count}
use Rattle.world_model.specs.Family.{implies}
use Rattle.world_model.specs.Node.{pair_at}
use Rattle.world_model.specs.Alive.{Need, lies_in, point_within, point_apart, point_covered, point_sums, is_point, is_in_need, problem_at, needs}
use Rattle.constraint_set.specs.Facts.{IsBuilt}
use Rattle.constraint_set.specs.Shape.{SameShape}
use Rattle.constraint_set.specs.Readers.{all_sums}
use Rattle.point_encode.specs.Model.Clauses.{is_so, first_sum_selector, given_clauses, variable_count}
use Rattle.point_encode.specs.Model.Forced.{region_number, selectors_of, need_with, need_lits, asked_of, IsNeed}

-- bits over the concepts and the selectors obey: the concepts' bits meet the rules of the trees, the region of each true
-- selector lacks the point, and each sum with a true selector holds at it
pub record Obeys (p : Problem) (bits : List Bool) : Type 0 where
  pub within : IsTrue (point_within p (take (concept_count p) bits))
  pub apart : IsTrue (implies p.switches.sibling (point_apart p (take (concept_count p) bits)))
  pub covered : IsTrue (implies p.switches.coverage (point_covered p (take (concept_count p) bits)))
  pub regions : (k : ℕ) (region : Region) → k < pair_count p → IsTrue (lit_true bits (is_so (concept_count p + 3 * k + region_number region))) →
      IsTrue (lies_in region (pair_at p k) (take (concept_count p) bits)) → ⊥
  pub sums : (j : ℕ) (s : SumRule) → Rattle.std.specs.Prelude.slice_get (all_sums p) j ≡ Some s → IsTrue (lit_true bits (is_so (first_sum_selector p + j))) →
      IsTrue (point_sums (take (concept_count p) bits) s)

-- bits that meet the given clauses, and the point of a prefix that they extend
pub record Extends (p : Problem) (m : List Rel) (point bits : List Bool) : Type 0 where
  pub counted : length bits ≡ variable_count p
  pub front : take (concept_count p) bits ≡ point
  pub given : IsTrue (meets_all bits (given_clauses p))
  pub selected : IsTrue (list_all (lit_true bits) (selectors_of p m))

-- the clauses say just that: bits meet the given clauses exactly where they obey. With the selectors of a prefix true the
-- concepts' bits are a point of the prefix, and each point of the prefix comes of such bits
pub record ClausesArePoints : Type 0 where
  pub obey : (p : Problem) → IsBuilt p → (bits : List Bool) → length bits ≡ variable_count p → IsTrue (meets_all bits (given_clauses p)) ↔ Obeys p bits
  pub points : (p : Problem) → IsBuilt p → (m : List Rel) (bits : List Bool) → length bits ≡ variable_count p → IsTrue (meets_all bits (given_clauses p)) →
      IsTrue (list_all (lit_true bits) (selectors_of p m)) → IsTrue (is_point (problem_at p m) (take (concept_count p) bits))
  pub bits : (p : Problem) → IsBuilt p → (m : List Rel) (point : List Bool) → IsTrue (is_point (problem_at p m) point) → (bits : List Bool) × Extends p m point bits

-- a need's literals are true exactly where the point is in the need; needs have numbers; and what must be true where a
-- point of a prefix is in a need is of the problem's variables, with no literal beside its negation
pub record NeedsAreLiterals : Type 0 where
  pub truth : (p : Problem) (need : Need) (bits : List Bool) → IsBuilt p → IsNeed p need →
      IsTrue (list_all (lit_true bits) (need_lits need)) ↔ IsTrue (is_in_need need (take (concept_count p) bits))
  pub numbered : (p : Problem) (m : List Rel) (need : Need) → IsBuilt p → Contains (needs (problem_at p m)) need → IsNeed p need
  pub in_range : (p : Problem) (m : List Rel) (need : Need) → IsBuilt p → IsNeed p need → (lit : ℕ) → Contains (asked_of p m need) lit → variable_of lit < variable_count p
  pub consistent : (p : Problem) (m : List Rel) (need : Need) → IsBuilt p → IsNeed p need → (lit : ℕ) → Contains (asked_of p m need) lit →
      Contains (asked_of p m need) (negation_of lit) → ⊥

-- problems of one shape have one list of given clauses, and the same needs by number
pub record OneShapeOneList : Type 0 where
  pub clauses : (p q : Problem) → SameShape p q → given_clauses p ≡ given_clauses q
  pub count : (p q : Problem) → SameShape p q → variable_count p ≡ variable_count q
  pub needs : (p q : Problem) → SameShape p q → (number : ℕ) → need_with p number ≡ need_with q number
