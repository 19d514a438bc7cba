-- The place right behind a table, and what stands between it and others.
use Rattle.std.proofs.Common.{◌≡◌, ◌≤◌, Bool, true, false, not, inl, inr, List, [], ◌∷◌, ◌++◌, Option, None, Some, length, length-append, append-nil, refl, sym, ap, ◌∙◌, arith, IsTrue}
use Rattle.std.proofs.lemmas.Bool.{true≢false, not-true, not_from_false}
use Rattle.rcc5_core.specs.declared.Rel.{Rel}
use Rattle.rcc5_core.specs.declared.Rel.TheVariants.{Equals, Includes, IncludedIn, Overlaps, Disjoint}
use Rattle.rcc5_core.specs.Relation.{rank_of}
use Rattle.world_model.specs.Problem.{Problem, is_problem, pair_count}
use Rattle.world_model.specs.Family.{IsPossibleWorld}
use Rattle.world_model.specs.Listing.{is_below, is_before_end, IsListing}
use Rattle.world_model.specs.Node.{IsNode}
use Rattle.world_model.specs.Trial.{worlds_between}
use Rattle.world_model.proofs.Members.{here, there}
use Rattle.world_model.proofs.OrderPositions.{below_itself, below_apart, below_cases, below_upto, below_longer, below_branch, first_or_rest}
use Rattle.world_model.proofs.OrderLists.{IsExactly, Between, between_parts, between_from}
use Rattle.world_model.proofs.OrderListings.{listed, listing, node_list, listings_join_law, one_listing_law}
use Rattle.world_model.proofs.PointPositions.{world_is_full}
use Rattle.world_model.proofs.TrialLaws.{trial_is_right_law}
use Rattle.world_search.specs.Walking.{IsBehind, IsLeastNode, HasNoNode}
use Rattle.world_search.specs.Searching.{StandsBetween}
use Rattle.world_walk.specs.Ahead.{Lists, ListsBetween}
use Rattle.world_model.proofs.Relations.{same_rank}
use Rattle.world_walk.proofs.Between.{none_listed, one_listed}
use Rattle.world_search.proofs.WorldsLeft.{worlds_from}
use Rattle.world_search.proofs.Passing.{world_is_node}

-- the place right behind a table: the first position that begins with it and is longer
abbrev pub right_behind : List Rel → List Rel
right_behind table = table ++ Equals ∷ []

none_empty : (n : List Rel) → is_below n [] ≡ false
none_empty [] = refl
none_empty (r ∷ n) = refl

-- what comes behind a table is not before that place
pub behind_upto : (t n : List Rel) → IsTrue (is_below t n) → is_below n (right_behind t) ≡ false
behind_upto t [] h = absurd (true≢false (sym h ∙ none_empty t))
behind_upto [] (Equals ∷ n) h = none_empty n
behind_upto [] (Includes ∷ n) h = refl
behind_upto [] (IncludedIn ∷ n) h = refl
behind_upto [] (Overlaps ∷ n) h = refl
behind_upto [] (Disjoint ∷ n) h = refl
behind_upto (r ∷ t) (x ∷ n) h = elim (first_or_rest r x t n h) [
  | inl less ↦ below_apart (r ∷ right_behind t) (x ∷ n) (below_branch [] r x (right_behind t) n less)
  | inr rest ↦ by (is_below (x ∷ n) (r ∷ right_behind t)) refl rest.0 (behind_upto t n rest.1)
]
  where
    by : (b : Bool) → is_below (x ∷ n) (r ∷ right_behind t) ≡ b → rank_of r ≡ rank_of x → is_below n (right_behind t) ≡ false → is_below (x ∷ n) (r ∷ right_behind t) ≡ false
    by false e same upto = e
    by true e same upto = elim (first_or_rest x r n (right_behind t) e) [
      | inl less ↦ absurd (omega arith)
      | inr more ↦ absurd (true≢false (sym more.1 ∙ upto))
    ]

-- what stands behind a list and before a longer one begins with it
begins_between : (t x rest : List Rel) → IsTrue (is_below t x) → IsTrue (is_below x (t ++ rest)) → (more : List Rel) × (x ≡ t ++ more)
begins_between [] x rest h k = (x, refl)
begins_between (r ∷ t) [] rest h k = absurd (true≢false (sym h))
begins_between (r ∷ t) (s ∷ x) rest h k = elim (first_or_rest r s t x h) [
  | inl less ↦ elim (first_or_rest s r x (t ++ rest) k) [
    | inl more ↦ absurd (omega arith)
    | inr same ↦ let e = same.0 in absurd (omega arith)
  ]
  | inr on ↦ elim (first_or_rest s r x (t ++ rest) k) [
    | inl more ↦ let e = on.0 in absurd (omega arith)
    | inr same ↦
        let begins = begins_between t x rest on.1 same.1 in
        let first : s ≡ r = same_rank s r same.0 in
        (begins.0, (λ i. first i ∷ begins.1 i))
  ]
]

-- no node is longer than the pairs are many
node_upto : (p : Problem) (x : List Rel) → IsNode p x → length x ≤ pair_count p
node_upto p x (inl empty) = omega (arith, ap length empty)
node_upto p x (inr step) = let full = step.not_full in omega (arith, full, ap length step.follows, length-append step.prefix (step.rel ∷ []))

-- a node that is not before the place right behind a full table is behind all that begin with it
pub node_past : (p : Problem) (t x : List Rel) → length t ≡ pair_count p → IsNode p x → is_below x (right_behind t) ≡ false → IsBehind t x
node_past p t x full node upto rest = elim (below_cases (t ++ rest) x) [
  | inl less ↦ less
  | inr (inl same) ↦ no_longer rest (sym same)
  | inr (inr more) ↦ let begins = begins_between t x rest above more in no_longer begins.0 begins.1
]
  where
    above : IsTrue (is_below t x)
    above = below_upto t (right_behind t) x (below_longer t Equals []) upto

    no_longer : {G : Type 0} (more : List Rel) → x ≡ t ++ more → G
    no_longer [] same = absurd (true≢false (sym above ∙ ap (is_below t) (same ∙ append-nil t) ∙ below_itself t))
    no_longer (r ∷ more) same = let few = node_upto p x node in absurd (omega (arith, few, full, ap length same, length-append t (r ∷ more)))

-- nothing stands between the place right behind a world and the least node behind all that begin with it
nothing_behind : (p : Problem) (t : List Rel) (cut : Option (List Rel)) → IsPossibleWorld p t → ((m : List Rel) → IsTrue (not (is_before_end m cut)) → IsTrue (not (is_below m (right_behind t)))) →
    ((x : List Rel) → IsNode p x → IsBehind t x → is_before_end x cut ≡ true → ⊥) → StandsBetween p (right_behind t) cut [] []
nothing_behind p t cut world onward none = record {
  onward = onward;
  nodes_are = node_list p (right_behind t) cut [] (record { ascending = refl; sound = λ x i. elim i [ ]; complete = λ x w. absurd (never x w.0 w.1) });
  worlds_are = listing p (right_behind t) cut [] (record { ascending = refl; sound = λ x i. elim i [ ]; complete = λ x w. absurd (never x (world_is_node p x w.0) w.1) });
}
  where
    never : (x : List Rel) → IsNode p x → IsTrue (Rattle.world_model.specs.Listing.is_between (right_behind t) cut x) → ⊥
    never x node h = let parts = between_parts (right_behind t) cut x h in none x node (node_past p t x (world_is_full p t world) node parts.0) parts.1

pub nothing_to_end : (p : Problem) (t : List Rel) → IsPossibleWorld p t → HasNoNode p (IsBehind t) → StandsBetween p (right_behind t) None [] []
nothing_to_end p t world none = nothing_behind p t None world (λ m h. absurd (true≢false (sym h))) (λ x node behind before. none x node behind)

pub nothing_to_node : (p : Problem) (t node : List Rel) → IsPossibleWorld p t → IsLeastNode p (IsBehind t) node → StandsBetween p (right_behind t) (Some node) [] []
nothing_to_node p t node world least =
    nothing_behind p t (Some node) world
    (λ m h. not_from_false (is_below m (right_behind t)) (below_apart (right_behind t) m (below_upto (right_behind t) node m (least.kind (Equals ∷ [])) (not-true (is_below m node) h))))
    (λ x is behind before. true≢false (sym before ∙ not-true (is_below x node) (least.least x is behind)))

-- a world stands alone up to the place right behind it
pub one_there : (p : Problem) (t : List Rel) → IsPossibleWorld p t → ListsBetween p t (Some (right_behind t)) (t ∷ [])
one_there p t world = record {
  onward = not_from_false (is_below (right_behind t) t) (below_apart t (right_behind t) (below_longer t Equals []));
  exactly = one_listed p t (Some (right_behind t)) world (below_longer t Equals []) (λ x is upto before. elim (below_cases t x) [
    | inl less ↦ absurd (true≢false (sym before ∙ behind_upto t x less))
    | inr (inl same) ↦ sym same
    | inr (inr more) ↦ absurd (true≢false (sym more ∙ upto))
  ]);
}

-- behind a world that was passed alone stands nothing more up to the same place
pub told_passed : (p : Problem) (t : List Rel) (other : Option (List Rel)) → ListsBetween p t other (t ∷ []) → ListsBetween p (right_behind t) other []
told_passed p t other lists = record {
  onward = onward other (between_parts t other t (all.sound t (here refl)).1).1;
  exactly = none_listed p (right_behind t) other (λ x world upto before.
      let low : is_below x t ≡ false = below_apart t x (below_upto t (right_behind t) x (below_longer t Equals []) upto) in
      elim (all.complete x (world, between_from t other x low before)) [
        | here same ↦ true≢false (sym (below_longer t Equals []) ∙ ap (λ y. is_below y (right_behind t)) (sym same) ∙ upto)
        | there i ↦ elim i [ ]
      ]);
}
  where
    all : IsExactly (Between (IsPossibleWorld p) t other) (t ∷ [])
    all = listed p t other (t ∷ []) lists.exactly

    onward : (other : Option (List Rel)) → is_before_end t other ≡ true → Rattle.world_walk.specs.Ahead.IsOnward (right_behind t) other
    onward None h = tt
    onward (Some n) h = not_from_false (is_below n (right_behind t)) (behind_upto t n h)

-- as many worlds are left behind a stretch without worlds
pub as_many : (p : Problem) → IsTrue (is_problem p) → (one : Option (List Rel)) (at : List Rel) → Lists p one (Some at) [] → length (worlds_from p (Some at)) ≤ length (worlds_from p one)
unfolding worlds_from
as_many p valid None at lists = cc
as_many p valid (Some one) at lists =
    let joined : IsListing p one None (worlds_between p at None) =
    listings_join_law p one at None [] (worlds_between p at None) lists.onward refl lists.exactly (trial_is_right_law.worlds p valid at None) in
    let same : worlds_between p one None ≡ worlds_between p at None = one_listing_law.worlds p one None _ _ (trial_is_right_law.worlds p valid one None) joined in
    omega (arith, ap length same)
