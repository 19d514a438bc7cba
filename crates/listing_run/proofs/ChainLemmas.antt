-- Runs that go on where the last was cut.
use Rattle.std.proofs.Common.{◌≡◌, List, [], ◌∷◌, Option, None, Some, refl, sym, subst, IsTrue, append-nil}
use Rattle.std.specs.Prelude.{flat_map}
use Rattle.rcc5_core.specs.declared.Rel.{Rel}
use Rattle.world_model.specs.Problem.{Problem}
use Rattle.world_model.specs.Family.{IsPossibleWorld}
use Rattle.world_model.specs.Listing.{IsListing}
use Rattle.world_model.specs.Laws.{is_not_above_end}
use Rattle.world_model.specs.Node.{IsCut}
use Rattle.world_model.proofs.OrderListings.{listing, listings_join_law}
use Rattle.listing_run.specs.Resuming.{ListingRun, IsChain}
use Rattle.world_search.proofs.WorldsLeft.{nothing_there}
use Rattle.listing_run.proofs.CutLemmas.{itself, later}

-- what a chain lists, and that it ends not before its start
record Chained (p : Problem) (from : List Rel) (end : Option (List Rel)) (runs : List ListingRun) : Type 0 where
  later_end : IsTrue (is_not_above_end from end)
  exactly : IsListing p from end (flat_map (λ run. run.listed) runs)

-- past the end there are no runs
ended : (p : Problem) (end : Option (List Rel)) (runs : List ListingRun) → IsChain p None end runs → (runs ≡ []) × (end ≡ None)
ended p end [] chain = (refl, chain)
ended p end (run ∷ runs) chain = absurd chain

chained : (p : Problem) (from : List Rel) (end : Option (List Rel)) (runs : List ListingRun) → IsChain p (Some from) end runs → Chained p from end runs
chained p from end [] chain = subst (λ e. Chained p from e []) (sym chain) (record {
  later_end = itself from;
  exactly = listing p from (Some from) [] (nothing_there (IsPossibleWorld p) from);
})
chained p from end (run ∷ runs) chain = by run.cut chain.0 chain.1 chain.2 (λ next rest. chained p next end runs rest)
  where
    by : (cut : Option (List Rel)) → IsCut p from run.nodes run.worlds cut → IsListing p from cut run.listed → IsChain p cut end runs
        → ((next : List Rel) → IsChain p (Some next) end runs → Chained p next end runs) → Chained p from end (run ∷ runs)
    by None cut exactly rest further =
        let none = ended p end runs rest in
        subst (λ ps. Chained p from end (run ∷ ps)) (sym none.0) (subst (λ e. Chained p from e (run ∷ [])) (sym none.1) (record {
          later_end = refl;
          exactly = subst (IsListing p from None) (sym (append-nil run.listed)) exactly;
        }))
    by (Some next) cut exactly rest further =
        let more = further next rest in
        record {
          later_end = later from next end cut.node.1 more.later_end;
          exactly = listings_join_law p from next end run.listed (flat_map (λ run. run.listed) runs) cut.node.1 more.later_end exactly more.exactly;
        }

pub chains_list_once : (p : Problem) (from : List Rel) (end : Option (List Rel)) (runs : List ListingRun) → IsChain p (Some from) end runs →
    IsListing p from end (flat_map (λ run. run.listed) runs)
chains_list_once p from end runs chain = (chained p from end runs chain).exactly
