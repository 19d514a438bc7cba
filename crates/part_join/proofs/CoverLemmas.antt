-- What covers a position, and what is left of a listing from a position on.
use Rattle.std.proofs.Common.{◌≡◌, Bool, true, false, not, List, [], ◌∷◌, ◌++◌, refl, sym, ◌∙◌, true≢false, IsTrue}
use Rattle.std.specs.Prelude.{Option, Some, None, filter, Contains}
use Rattle.std.proofs.lemmas.Bool.{not-true, not_from_false}
use Rattle.rcc5_core.specs.declared.Rel.{Rel}
use Rattle.world_model.specs.Problem.{Problem}
use Rattle.world_model.specs.Family.{IsPossibleWorld}
use Rattle.world_model.specs.Listing.{is_below, is_before_end, is_between, IsListing}
use Rattle.world_model.specs.Laws.{is_not_above_end}
use Rattle.world_model.proofs.Members.{In, any_at, any_from, Found, in_from_contains, contains_from_in, from_filter, In-filter}
use Rattle.world_model.proofs.OrderPositions.{below_apart, below_upto}
use Rattle.world_model.proofs.OrderLists.{Between, IsExactly, between_parts, between_from, ascends_filter}
use Rattle.world_model.proofs.OrderListings.{listed, listing, listings_join_law}
use Rattle.part_join.specs.Parts.{Part, covers, is_covered}

-- a part of some covers what they cover together
pub covered_by : (parts : List Part) (t : List Rel) (q : Part) → Contains parts q → IsTrue (covers t q) → IsTrue (is_covered parts t)
covered_by parts t q c h = any_from (covers t) (in_from_contains parts c) h

-- what they don't cover none of them covers
pub uncovered_at : (parts : List Part) (t : List Rel) (q : Part) → IsTrue (not (is_covered parts t)) → Contains parts q → covers t q ≡ false
uncovered_at parts t q none c = by (covers t q) refl
  where
    by : (b : Bool) → covers t q ≡ b → covers t q ≡ false
    by true h = absurd (true≢false (sym (covered_by parts t q c h) ∙ not-true (is_covered parts t) none))
    by false h = h

pub uncovered_from : (parts : List Part) (t : List Rel) → ((q : Part) → Contains parts q → covers t q ≡ false) → IsTrue (not (is_covered parts t))
uncovered_from parts t each = by (is_covered parts t) refl
  where
    by : (b : Bool) → is_covered parts t ≡ b → IsTrue (not (is_covered parts t))
    by true h =
        let found : Found (covers t) parts = any_at (covers t) parts h in
        absurd (true≢false (sym found.passes ∙ each found.item (contains_from_in found.member)))
    by false h = not_from_false (is_covered parts t) h

-- no position is below the empty one
pub none_below : (t : List Rel) → is_below t [] ≡ false
none_below [] = refl
none_below (x ∷ t) = refl

-- the order chains where it is not strict
pub upto_upto : (a b c : List Rel) → is_below b a ≡ false → is_below c b ≡ false → is_below c a ≡ false
upto_upto a b c h k = by (is_below c a) refl
  where
    by : (s : Bool) → is_below c a ≡ s → is_below c a ≡ false
    by true e = absurd (true≢false (sym (below_upto c a b e h) ∙ k))
    by false e = e

-- the worlds of a listing that are not below a position within it are the listing from there on
pub listing_from : (p : Problem) (from : List Rel) (to : Option (List Rel)) (worlds : List (List Rel)) (r : List Rel) →
    is_below r from ≡ false → IsListing p from to worlds → IsListing p r to (filter (λ t. not (is_below t r)) worlds)
listing_from p from to worlds r low l = listing p r to (filter test worlds) (record {
  ascending = ascends_filter test worlds all.ascending;
  sound = λ t i. sound t (from_filter test worlds i);
  complete = complete;
})
  where
    test : List Rel → Bool
    test t = not (is_below t r)

    all : IsExactly (Between (IsPossibleWorld p) from to) worlds
    all = listed p from to worlds l

    sound : (t : List Rel) → In t worlds × (test t ≡ true) → Between (IsPossibleWorld p) r to t
    sound t i =
        let w = all.sound t i.0 in
        (w.0, between_from r to t (not-true (is_below t r) i.1) (between_parts from to t w.1).1)

    complete : (t : List Rel) → Between (IsPossibleWorld p) r to t → In t (filter test worlds)
    complete t w =
        let parts = between_parts r to t w.1 in
        In-filter test (all.complete t (w.0, between_from from to t (upto_upto from r t low parts.0) parts.1)) (not_from_false (is_below t r) parts.0)

-- what ends above a position is not below it
pub ends_above : (r : List Rel) (to : Option (List Rel)) → IsTrue (is_before_end r to) → IsTrue (is_not_above_end r to)
ends_above r None h = refl
ends_above r (Some end) h = not_from_false (is_below end r) (below_apart r end h)

-- the listing up to a position and the worlds from there on of a listing that goes on are one listing
pub listing_goes_on : (p : Problem) (from r : List Rel) (to : Option (List Rel)) (worlds more : List (List Rel)) →
    IsTrue (is_between from to r) → IsListing p [] (Some r) worlds → IsListing p from to more →
    IsListing p [] to (worlds ++ filter (λ t. not (is_below t r)) more)
listing_goes_on p from r to worlds more within old l =
    let parts = between_parts from to r within in
    listings_join_law p [] r to worlds (filter (λ t. not (is_below t r)) more) (not_from_false (is_below r []) (none_below r)) (ends_above r to parts.1)
    old (listing_from p from to more r parts.0 l)
