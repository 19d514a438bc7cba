-- What runs list together, each of which goes on where the last was cut.
use Rattle.std.specs.Prelude.{◌≡◌, ℕ, List, [], ◌∷◌, flat_map, Option, Some, None}
use Rattle.rcc5_core.specs.declared.Rel.{Rel}
use Rattle.world_model.specs.Problem.{Problem}
use Rattle.world_model.specs.Listing.{IsListing}
use Rattle.world_model.specs.Node.{IsCut}

-- a run: its limits, its cut, and the worlds that it listed
pub record ListingRun : Type 0 where
  pub nodes : Option ℕ
  pub worlds : Option ℕ
  pub cut : Option (List Rel)
  pub listed : List (List Rel)

-- runs over one problem, the first from a position and each other from the cut of the one before; and where the last was cut
abbrev pub IsChain : Problem → Option (List Rel) → Option (List Rel) → List ListingRun → Type 0
IsChain p from end [] = end ≡ from
IsChain p None end (run ∷ runs) = ⊥
IsChain p (Some from) end (run ∷ runs) = IsCut p from run.nodes run.worlds run.cut × IsListing p from run.cut run.listed × IsChain p run.cut end runs

-- together they list what one run would, from the first position to the last cut
abbrev pub ChainsListOnce : Type 0
ChainsListOnce = (p : Problem) (from : List Rel) (end : Option (List Rel)) (runs : List ListingRun) → IsChain p (Some from) end runs →
    IsListing p from end (flat_map (λ run. run.listed) runs)
