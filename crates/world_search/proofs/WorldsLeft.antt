-- The worlds that are left to a search, of which there are fewer behind each that it meets.
use Rattle.std.proofs.Common.{◌≡◌, ℕ, ◌<◌, List, [], ◌∷◌, ◌++◌, Option, None, Some, length, refl, sym, ap, subst, ◌∙◌, arith, IsTrue}
use Rattle.std.proofs.lemmas.Bool.{true≢false, not_from_false}
use Rattle.rcc5_core.specs.declared.Rel.{Rel}
use Rattle.world_model.specs.Problem.{Problem, is_problem}
use Rattle.world_model.specs.Listing.{is_below, is_between, IsListing}
use Rattle.world_model.specs.Laws.{is_not_above_end}
use Rattle.world_model.specs.Trial.{worlds_between}
use Rattle.world_model.proofs.OrderPositions.{below_itself}
use Rattle.world_model.proofs.OrderLists.{IsExactly, Between, between_parts}
use Rattle.world_model.proofs.OrderListings.{listings_join_law, one_listing_law}
use Rattle.world_model.proofs.TrialLaws.{trial_is_right_law}
use Rattle.world_search.specs.Searching.{SearchState, StandsBetween, Passes, Came, last_place}

-- nothing stands from a place on and below it
pub nothing_there : (W : List Rel → Type 0) (q : List Rel) → IsExactly (Between W q (Some q)) []
nothing_there W q = record { ascending = refl; sound = λ t i. elim i [ ]; complete = λ t w. absurd (never t w.1) }
  where
    never : (t : List Rel) → IsTrue (is_between q (Some q) t) → ⊥
    never t h = let parts = between_parts q (Some q) t h in true≢false (sym parts.1 ∙ parts.0)

-- a place does not come before the one that a search came from
pub not_above : (p : Problem) (one : List Rel) (other : Option (List Rel)) (nodes worlds : List (List Rel)) → StandsBetween p one other nodes worlds → IsTrue (is_not_above_end one other)
not_above p one None nodes worlds between = refl
not_above p one (Some end) nodes worlds between = between.onward end (not_from_false (is_below end end) (below_itself end))

-- the worlds from a place on
unfoldable pub worlds_from : Problem → Option (List Rel) → List (List Rel)
worlds_from p None = []
worlds_from p (Some at) = worlds_between p at None

-- where a search finds a world, fewer are left
fewer_left : (p : Problem) → IsTrue (is_problem p) → (at other : Option (List Rel)) (nodes : List (List Rel)) (table : List Rel) → Passes p at other nodes (table ∷ [])
    → length (worlds_from p other) < length (worlds_from p at)
unfolding worlds_from
fewer_left p valid None other nodes table passes = absurd (nonempty passes.2)
  where
    nonempty : table ∷ [] ≡ [] → ⊥
    nonempty e = omega (arith, ap length e)
fewer_left p valid (Some at) None nodes table between =
    let same : worlds_between p at None ≡ table ∷ [] = one_listing_law.worlds p at None _ _ (trial_is_right_law.worlds p valid at None) between.worlds_are in
    rw same (omega arith)
fewer_left p valid (Some at) (Some end) nodes table between =
    let joined : IsListing p at None ((table ∷ []) ++ worlds_between p end None) =
    listings_join_law p at end None (table ∷ []) (worlds_between p end None) (not_above p at (Some end) nodes (table ∷ []) between) refl between.worlds_are (trial_is_right_law.worlds p valid end None) in
    let same : worlds_between p at None ≡ table ∷ worlds_between p end None = one_listing_law.worlds p at None _ _ (trial_is_right_law.worlds p valid at None) joined in
    rw same (omega arith)

pub came_fewer : (p : Problem) → IsTrue (is_problem p) → (one other : SearchState) (before left : Option ℕ) (table : List Rel) → one.problem ≡ p → Came one other before left (table ∷ [])
    → length (worlds_from p other.at) < length (worlds_from p one.at)
came_fewer p valid one other before left table same came =
    fewer_left p valid one.at other.at came.nodes table (subst (λ (q : Problem). Passes q one.at other.at came.nodes (table ∷ [])) same came.passed)

-- a search without an end is at its end where nothing is left
pub at_no_end : (one other : SearchState) (before left : Option ℕ) (worlds : List (List Rel)) → one.to ≡ None → Came one other before left worlds
    → other.at ≡ last_place other.from other.to → other.at ≡ None
at_no_end one other before left worlds none came at = at ∙ ap (last_place other.from) (came.to ∙ none)
