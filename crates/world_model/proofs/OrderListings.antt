-- Listings join, and there is one listing, one list of nodes and one cut.
use Rattle.std.proofs.Common.{◌≡◌, ℕ, inl, inr, List, refl, ap}
use Rattle.std.specs.Prelude.{Option, Some, None}
use Rattle.std.proofs.lemmas.Bool.{not-true}
use Rattle.rcc5_core.specs.declared.Rel.{Rel}
use Rattle.world_model.specs.Problem.{Problem}
use Rattle.world_model.specs.Family.{IsPossibleWorld}
use Rattle.world_model.specs.Listing.{is_below, IsListing}
use Rattle.world_model.specs.Node.{IsNode, IsNodeList, IsCut, IsFirstSpent}
use Rattle.world_model.specs.Laws.{ListingsJoin, OneListing}
use Rattle.world_model.proofs.OrderPositions.{below_cases}
use Rattle.world_model.proofs.OrderLists.{Between, IsExactly, exactly_from, members_from, one_exact, exactly_join}

-- a listing as the list of exactly the possible worlds between two positions
pub listed : (p : Problem) (from : List Rel) (to : Option (List Rel)) (worlds : List (List Rel)) →
    IsListing p from to worlds → IsExactly (Between (IsPossibleWorld p) from to) worlds
listed p from to worlds l = exactly_from (Between (IsPossibleWorld p) from to) worlds l.ascending l.members

pub listing : (p : Problem) (from : List Rel) (to : Option (List Rel)) (worlds : List (List Rel)) →
    IsExactly (Between (IsPossibleWorld p) from to) worlds → IsListing p from to worlds
listing p from to worlds e = record { ascending = e.ascending; members = members_from (Between (IsPossibleWorld p) from to) worlds e }

-- a list of nodes as that of exactly the nodes
pub noded : (p : Problem) (from : List Rel) (to : Option (List Rel)) (nodes : List (List Rel)) →
    IsNodeList p from to nodes → IsExactly (Between (IsNode p) from to) nodes
noded p from to nodes l = exactly_from (Between (IsNode p) from to) nodes l.ascending l.members

pub node_list : (p : Problem) (from : List Rel) (to : Option (List Rel)) (nodes : List (List Rel)) →
    IsExactly (Between (IsNode p) from to) nodes → IsNodeList p from to nodes
node_list p from to nodes e = record { ascending = e.ascending; members = members_from (Between (IsNode p) from to) nodes e }

pub listings_join_law : ListingsJoin
listings_join_law p from mid to worlds more low high a b =
    listing p from to _ (exactly_join (IsPossibleWorld p) from mid to worlds more (not-true (is_below mid from) low) high
    (listed p from (Some mid) worlds a) (listed p mid to more b))

-- two first nodes before which a budget is spent are one
one_spent : (p : Problem) (from : List Rel) (nodes worlds : Option ℕ) (a b : List Rel) →
    IsFirstSpent p from nodes worlds a → IsFirstSpent p from nodes worlds b → a ≡ b
one_spent p from nodes worlds a b x y = elim (below_cases a b) [
  | inl less ↦ absurd (y.first a x.node less x.spent)
  | inr (inl same) ↦ same
  | inr (inr more) ↦ absurd (x.first b y.node more y.spent)
]

one_cut : (p : Problem) (from : List Rel) (nodes worlds : Option ℕ) (a b : Option (List Rel)) →
    IsCut p from nodes worlds a → IsCut p from nodes worlds b → a ≡ b
one_cut p from nodes worlds None None x y = refl
one_cut p from nodes worlds None (Some b) x y = absurd (x b y.node y.spent)
one_cut p from nodes worlds (Some a) None x y = absurd (y a x.node x.spent)
one_cut p from nodes worlds (Some a) (Some b) x y = ap (λ m. Some m) (one_spent p from nodes worlds a b x y)

pub one_listing_law : OneListing
one_listing_law = record {
  worlds = λ p from to a b x y. one_exact (Between (IsPossibleWorld p) from to) a b (listed p from to a x) (listed p from to b y);
  nodes = λ p from to a b x y. one_exact (Between (IsNode p) from to) a b (noded p from to a x) (noded p from to b y);
  cut = one_cut;
}
