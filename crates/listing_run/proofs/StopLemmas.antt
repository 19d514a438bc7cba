-- The end of a listing: what stands below it, and the node there.
use Rattle.std.proofs.Common.{◌≡◌, Bool, true, false, not, List, [], ◌∷◌, Option, None, Some, refl, sym, ap, ◌∙◌, IsTrue}
use Rattle.std.specs.Prelude.{if◌then◌else◌}
use Rattle.std.proofs.lemmas.Bool.{true≢false, not-true, not_from_false}
use Rattle.rcc5_core.specs.declared.Rel.{Rel}
use Rattle.world_model.specs.Problem.{Problem}
use Rattle.world_model.specs.Family.{IsPossibleWorld}
use Rattle.world_model.specs.Listing.{is_below, is_before_end, IsListing}
use Rattle.world_model.specs.Node.{IsNode, IsNodeFrom, IsCut}
use Rattle.world_model.specs.Trial.{nodes_between}
use Rattle.world_model.proofs.Members.{here, there}
use Rattle.world_model.proofs.OrderPositions.{below_itself, below_apart, below_upto}
use Rattle.world_model.proofs.OrderLists.{IsExactly, Between, between_parts, between_from, ascends_first}
use Rattle.world_model.proofs.OrderListings.{listed, listing}
use Rattle.world_model.proofs.TrialNodes.{nodes_between_exactly}
use Rattle.world_search.specs.Searching.{last_place, IsNodeAtEnd}
use Rattle.world_search.proofs.Passing.{world_is_node}
use Rattle.listing_run.specs.declared.plan.ListingPlan.{ListingPlan}
use Rattle.listing_run.specs.declared.plan.Stop.{Stop}
use Rattle.listing_run.specs.declared.plan.Stop.TheVariants.{Cut, End}
use Rattle.listing_run.specs.Plans.{LastsTo, IsStopOf}
use Rattle.listing_run.specs.Putting.{IsUpToEnd}

-- what is not below a position is below an end only where the position is
not_past : (start m : List Rel) (to : Option (List Rel)) → is_below m start ≡ false → is_before_end start to ≡ false → is_before_end m to ≡ false
not_past start m None low e = absurd (true≢false e)
not_past start m (Some end) low e = by (is_below m end) refl
  where
    by : (b : Bool) → is_below m end ≡ b → is_below m end ≡ false
    by true k = absurd (true≢false (sym (below_upto m end start k e) ∙ low))
    by false k = k

-- of what is not below the start, the end and the place at which a search ends have the same below them
pub before_last : (start m : List Rel) (to : Option (List Rel)) → is_below m start ≡ false → is_before_end m (last_place start to) ≡ is_before_end m to
before_last start m to low = by (is_before_end start to) refl
  where
    by : (b : Bool) → is_before_end start to ≡ b → is_before_end m (if b then to else Some start) ≡ is_before_end m to
    by true e = refl
    by false e = low ∙ sym (not_past start m to low e)

-- of the nodes from the start on, the end and the node there have the same below them
before_node : (p : Problem) (start m : List Rel) (to node : Option (List Rel)) → IsNodeAtEnd p start to node → IsNodeFrom p start m → is_before_end m node ≡ is_before_end m to
before_node p start m to None all from = sym (all m from)
before_node p start m to (Some node) at from = by (is_below m node) refl
  where
    by : (b : Bool) → is_below m node ≡ b → is_below m node ≡ is_before_end m to
    by true e = e ∙ sym (at.2 m from e)
    by false e = e ∙ sym (not_past node m to e (not-true (is_before_end node to) at.1))

-- a listing up to one place is one up to another, where the same worlds from the start on are below both
listed_alike : (p : Problem) (start : List Rel) (one other : Option (List Rel)) (worlds : List (List Rel)) → ((t : List Rel) → IsNodeFrom p start t → is_before_end t one ≡ is_before_end t other)
    → IsListing p start one worlds → IsListing p start other worlds
listed_alike p start one other worlds alike l = listing p start other worlds (record {
  ascending = all.ascending;
  sound = λ t i.
      let w = all.sound t i in
      let parts = between_parts start one t w.1 in
      (w.0, between_from start other t parts.0 (sym (alike t (from_start t w.0 parts.0)) ∙ parts.1));
  complete = λ t w.
      let parts = between_parts start other t w.1 in
      all.complete t (w.0, between_from start one t parts.0 (alike t (from_start t w.0 parts.0) ∙ parts.1));
})
  where
    all : IsExactly (Between (IsPossibleWorld p) start one) worlds
    all = listed p start one worlds l

    from_start : (t : List Rel) → IsPossibleWorld p t → is_below t start ≡ false → IsNodeFrom p start t
    from_start t world low = (world_is_node p t world, not_from_false (is_below t start) low)

-- so what is listed up to the place at which a search ends is listed up to that node
pub listed_to : (p : Problem) (start : List Rel) (to node : Option (List Rel)) (worlds : List (List Rel)) → IsNodeAtEnd p start to node → IsListing p start (last_place start to) worlds → IsListing p start node worlds
listed_to p start to node worlds at = listed_alike p start (last_place start to) node worlds
    (λ t from. before_last start t to (not-true (is_below t start) from.1) ∙ sym (before_node p start t to node at from))

-- and what is listed up to that node is listed up to the end
pub listed_below : (p : Problem) (start : List Rel) (to node : Option (List Rel)) (worlds : List (List Rel)) → IsNodeAtEnd p start to node → IsListing p start node worlds → IsListing p start to worlds
listed_below p start to node worlds at = listed_alike p start node to worlds (λ t from. before_node p start t to node at from)

-- and a budget that lasts to that place lasts to the end
pub lasts_end : (plan : ListingPlan) → LastsTo plan (last_place plan.start plan.end) → LastsTo plan plan.end
lasts_end plan lasts m from before spent = lasts m from (before_last plan.start m plan.end (not-true (is_below m plan.start) from.1) ∙ before) spent

-- below which places all nodes are below the end: the start, that place, each position below the end, and any place without an end
pub upto_start : (plan : ListingPlan) → IsUpToEnd plan (Some plan.start)
upto_start plan m from less = absurd (true≢false (sym less ∙ not-true (is_below m plan.start) from.1))

pub upto_last : (plan : ListingPlan) → IsUpToEnd plan (last_place plan.start plan.end)
upto_last plan m from before = sym (before_last plan.start m plan.end (not-true (is_below m plan.start) from.1)) ∙ before

pub upto_below : (plan : ListingPlan) (node : List Rel) → IsTrue (is_before_end node plan.end) → IsUpToEnd plan (Some node)
upto_below plan node below m from less = by plan.end below
  where
    by : (to : Option (List Rel)) → IsTrue (is_before_end node to) → IsTrue (is_before_end m to)
    by None h = refl
    by (Some end) h = below_upto m node end less (below_apart node end h)

pub upto_endless : (plan : ListingPlan) (at : Option (List Rel)) → plan.end ≡ None → IsUpToEnd plan at
upto_endless plan at none m from before = ap (is_before_end m) none

-- and a place behind a position below the end, between which stands no node
pub upto_behind : (plan : ListingPlan) (at : Option (List Rel)) (table : List Rel) → IsTrue (is_before_end table plan.end)
    → ((m : List Rel) → IsNodeFrom plan.problem plan.start m → IsTrue (is_before_end m at) → IsTrue (not (is_below table m))) → IsUpToEnd plan at
upto_behind plan at table below last m from before = by plan.end below
  where
    by : (to : Option (List Rel)) → IsTrue (is_before_end table to) → IsTrue (is_before_end m to)
    by None h = refl
    by (Some end) h = on (is_below m end) refl
      where
        on : (b : Bool) → is_below m end ≡ b → is_below m end ≡ true
        on true e = e
        on false e = absurd (true≢false (sym (below_upto table end m h e) ∙ not-true (is_below table m) (last m from before)))

-- the later of the start and an end
abbrev later_of : List Rel → List Rel → List Rel
later_of start end = if is_below start end then end else start

not_below_later : (start end m : List Rel) → is_below m start ≡ false → is_below m end ≡ false → is_below m (later_of start end) ≡ false
not_below_later start end m low high = by (is_below start end)
  where
    by : (b : Bool) → is_below m (if b then end else start) ≡ false
    by true = high
    by false = low

not_below_both : (start end m : List Rel) → is_below m (later_of start end) ≡ false → (is_below m start ≡ false) × (is_below m end ≡ false)
not_below_both start end m upto = by (is_below start end) refl upto
  where
    by : (b : Bool) → is_below start end ≡ b → is_below m (if b then end else start) ≡ false → (is_below m start ≡ false) × (is_below m end ≡ false)
    by true e h = (not_past end m (Some start) h (below_apart start end e), h)
    by false e h = (h, not_past start m (Some end) h e)

-- there is a node at the end, or all nodes from the start on are below it
pub end_node : (p : Problem) (start : List Rel) (to : Option (List Rel)) → (node : Option (List Rel)) × IsNodeAtEnd p start to node
end_node p start None = (None, λ m from. refl)
end_node p start (Some end) = by (nodes_between p (later_of start end) None) (nodes_between_exactly p (later_of start end) None)
  where
    by : (nodes : List (List Rel)) → IsExactly (Between (IsNode p) (later_of start end) None) nodes → (node : Option (List Rel)) × IsNodeAtEnd p start (Some end) node
    by [] all = (None, λ m from. on m from (is_below m end) refl)
      where
        on : (m : List Rel) → IsNodeFrom p start m → (b : Bool) → is_below m end ≡ b → is_below m end ≡ true
        on m from true e = e
        on m from false e = elim (all.complete m (from.0, between_from (later_of start end) None m (not_below_later start end m (not-true (is_below m start) from.1) e) refl)) [ ]
    by (n ∷ ns) all = (Some n, ((first.0, not_from_false (is_below n start) low.0), not_from_false (is_below n end) low.1, λ m from less. on m from less (is_below m end) refl))
      where
        first : Between (IsNode p) (later_of start end) None n
        first = all.sound n (here refl)

        low : (is_below n start ≡ false) × (is_below n end ≡ false)
        low = not_below_both start end n (between_parts (later_of start end) None n first.1).0

        on : (m : List Rel) → IsNodeFrom p start m → IsTrue (is_below m n) → (b : Bool) → is_below m end ≡ b → is_below m end ≡ true
        on m from less true e = e
        on m from less false e = elim (all.complete m (from.0, between_from (later_of start end) None m (not_below_later start end m (not-true (is_below m start) from.1) e) refl)) [
          | here same ↦ absurd (true≢false (sym less ∙ ap (λ x. is_below x n) same ∙ below_itself n))
          | there i ↦ absurd (true≢false (sym (ascends_first n ns all.ascending i) ∙ below_apart m n less))
        ]

-- a listing stops at its cut, if that is below the end, and else at the end
pub stop_at : (plan : ListingPlan) (cut : Option (List Rel)) → IsCut plan.problem plan.start plan.nodes plan.worlds cut → (stop : Stop) × IsStopOf plan stop
stop_at plan cut is = by cut is (end_node plan.problem plan.start plan.end)
  where
    below : (to : Option (List Rel)) (n m : List Rel) → is_before_end n to ≡ false → IsTrue (is_before_end m to) → IsTrue (is_below m n)
    below None n m apart before = absurd (true≢false apart)
    below (Some end) n m apart before = below_upto m end n before apart

    by : (cut : Option (List Rel)) → IsCut plan.problem plan.start plan.nodes plan.worlds cut → (node : Option (List Rel)) × IsNodeAtEnd plan.problem plan.start plan.end node → (stop : Stop) × IsStopOf plan stop
    by None is end = (End end.0, ((λ m from before spent. is m from spent), end.1))
    by (Some n) is end = on (is_before_end n plan.end) refl
      where
        on : (b : Bool) → is_before_end n plan.end ≡ b → (stop : Stop) × IsStopOf plan stop
        on true e = (Cut n, (is, e))
        on false e = (End end.0, ((λ m from before spent. is.first m from (below plan.end n m e before) spent), end.1))

-- a listing without an end stops at the end only past all nodes
pub endless_stop : (p : Problem) (start : List Rel) (to node : Option (List Rel)) → to ≡ None → IsNodeAtEnd p start to node → node ≡ None
endless_stop p start to None none at = refl
endless_stop p start to (Some node) none at = absurd (true≢false (sym (ap (is_before_end node) none) ∙ not-true (is_before_end node to) at.1))
