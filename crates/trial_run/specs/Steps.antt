-- How far a listing has come.
use Rattle.std.specs.Prelude.{◌≡◌, ℕ, List, [], Option}
use Rattle.rcc5_core.specs.declared.Rel.{Rel}
use Rattle.world_model.specs.Problem.{Problem}
use Rattle.world_model.specs.Listing.{IsListing}
use Rattle.world_model.specs.Saturated.{count_of}

-- so many worlds stand below a place
pub record AreFound (p : Problem) (at : Option (List Rel)) (count : ℕ) : Type 0 where
  pub worlds : List (List Rel)
  pub listed : IsListing p [] at worlds
  pub counted : count ≡ count_of worlds
