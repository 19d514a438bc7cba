-- How many worlds a search without an end has found.
use Rattle.std.proofs.Common.{◌≡◌, ℕ, ◌+◌, ◌-◌, ◌^◌, ◌<◌, min, not, false, List, [], ◌∷◌, ◌++◌, Option, None, Some, length, refl, sym, ap, subst, ◌∙◌, arith, IsTrue, length-append}
use Rattle.std.proofs.lemmas.Bool.{true≢false, not_from_false}
use Rattle.rcc5_core.specs.declared.Rel.{Rel}
use Rattle.world_model.specs.Problem.{Problem, is_problem}
use Rattle.world_model.specs.Family.{Family, IsPossibleWorld}
use Rattle.world_model.specs.Listing.{is_below, is_before_end, IsListing}
use Rattle.world_model.proofs.OrderListings.{listing, listings_join_law}
use Rattle.world_search.specs.Searching.{SearchState, Passes, Came, IsNodeAtEnd}
use Rattle.world_search.specs.Steps.{IsStep}
use Rattle.world_search.proofs.WorldsLeft.{nothing_there, not_above, worlds_from, came_fewer, at_no_end}
use Rattle.world_search.specs.declared.step.Step.TheVariants as step
use Rattle.trial_run.specs.Steps.{AreFound}
use Rattle.trial_run.specs.Searches.{WentPastWorld, CameToEnd}

-- no position comes before the empty one
none_below : (m : List Rel) → is_below m [] ≡ false
none_below [] = refl
none_below (rel ∷ m) = refl

-- at first none is found
pub found_none : (p : Problem) → AreFound p (Some []) 0
found_none p = record { worlds = []; listed = listing p [] (Some []) [] (nothing_there (IsPossibleWorld p) []); counted = omega arith }

-- and then those that are passed
pub found_on : (p : Problem) (at other : Option (List Rel)) (nodes more : List (List Rel)) (count : ℕ) → AreFound p at count → Passes p at other nodes more
    → AreFound p other (min (count + length more) (2 ^ 64 - 1))
found_on p None other nodes more count found passes = record {
  worlds = found.worlds;
  listed = subst (λ at. IsListing p [] at found.worlds) (sym passes.0) found.listed;
  counted = omega (arith, found.counted, ap length passes.2);
}
found_on p (Some at) other nodes more count found between = record {
  worlds = found.worlds ++ more;
  listed =
      listings_join_law p [] at other found.worlds more (not_from_false (is_below at []) (none_below at)) (not_above p at other nodes more between) found.listed between.worlds_are;
  counted = omega (arith, found.counted, length-append found.worlds more);
}

-- what a search of a problem passes
pub passes_of : (p : Problem) (one other : SearchState) (before left : Option ℕ) (worlds : List (List Rel)) → one.problem ≡ p → (came : Came one other before left worlds)
    → Passes p one.at other.at came.nodes worlds
passes_of p one other before left worlds same came = subst (λ (q : Problem). Passes q one.at other.at came.nodes worlds) same came.passed

-- at its end a search without one has no node
none_at_end : (p : Problem) (from : List Rel) (to node : Option (List Rel)) → to ≡ None → IsNodeAtEnd p from to node → node ≡ None
none_at_end p from to None none at = refl
none_at_end p from to (Some node) none at = absurd (true≢false (sym (subst (λ (to : Option (List Rel)). IsTrue (not (is_before_end node to))) none at.1)))

-- what a step of a search without a limit and an end comes to
pub step_world : (old new : SearchState) (left : Option ℕ) (table : List Rel) (family : Family) → IsStep old new None left (step.World table family) → WentPastWorld old new
step_world old new left table family s = record { table = table; left = left; came = s.0.0 }

pub step_spent : (old new : SearchState) (left : Option ℕ) (node : List Rel) → IsStep old new None left (step.Spent node) → CameToEnd old new
step_spent old new left node s = absurd (let none : left ≡ None = s.0.0.counted in let some : left ≡ Some 0 = s.0.1 in let clash : Some 0 ≡ None = sym some ∙ none in cc)

pub step_end : (old new : SearchState) (left : Option ℕ) (last : Option (List Rel)) → old.to ≡ None → IsStep old new None left (step.End last) → CameToEnd old new
step_end old new left last none s = record {
  left = left;
  came = s.0.0;
  ended = at_no_end old new None left [] none s.0.0 s.0.1;
  none_next = s.1 ∙ none_at_end new.problem new.from new.to last (s.0.0.to ∙ none) s.0.2;
}

-- a world more is found
pub found_world : (p : Problem) (one other : SearchState) (count : ℕ) → one.problem ≡ p → WentPastWorld one other → AreFound p one.at count
    → AreFound p other.at (min (count + 1) (2 ^ 64 - 1))
found_world p one other count same went found =
    found_on p one.at other.at went.came.nodes (went.table ∷ []) count found (passes_of p one other None went.left (went.table ∷ []) same went.came)

-- all are found
pub found_all : (p : Problem) (one other : SearchState) (count : ℕ) → one.problem ≡ p → CameToEnd one other → AreFound p one.at count → AreFound p None count
found_all p one other count same ended found =
    let all = found_on p one.at other.at ended.came.nodes [] count found (passes_of p one other None ended.left [] same ended.came) in
    let n : min (count + 0) (2 ^ 64 - 1) ≡ count = omega (arith, found.counted) in
    subst (λ (m : ℕ). AreFound p None m) n (subst (λ (at : Option (List Rel)). AreFound p at (min (count + 0) (2 ^ 64 - 1))) ended.ended all)

-- and fewer are left
pub world_fewer : (p : Problem) → IsTrue (is_problem p) → (one other : SearchState) → one.problem ≡ p → WentPastWorld one other → length (worlds_from p other.at) < length (worlds_from p one.at)
world_fewer p valid one other same went = came_fewer p valid one other None went.left went.table same went.came
