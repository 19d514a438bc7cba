-- What parts come to together, each of which goes up to where the next begins.
use Rattle.std.specs.Prelude.{◌≤◌, ℕ, ◌^◌, List, [], ◌∷◌, length, Option, Some, None, Ok}
use Rattle.rcc5_core.specs.declared.Rel.{Rel}
use Rattle.world_model.specs.Problem.{Problem}
use Rattle.world_model.specs.Listing.{IsListing}
use Rattle.world_search.specs.Searching.{IsNodeAtEnd}
use Rattle.cert_rules.specs.Parts.Certs.{IsListingCert}
use Rattle.part_join.specs.Joining.{IsJoin}

-- a file that a part from one position up to another leaves, of no more bytes than are checked
pub record IsPartFile (p : Problem) (from : List Rel) (to : Option (List Rel)) (bytes : List ℕ) : Type 0 where
  pub worlds : List (List Rel)
  pub node : Option (List Rel)
  pub node_is : IsNodeAtEnd p from to node
  pub certified : IsListingCert p from node worlds bytes
  pub small : length bytes ≤ 2 ^ 36

-- files of parts that follow each other, the first from a position on, each other from the next of these, and the last to the end of all
abbrev pub AreOfParts : Problem → List Rel → List (List Rel) → List (List ℕ) → Type 0
AreOfParts p from later [] = ⊥
AreOfParts p from [] (file ∷ []) = IsPartFile p from None file
AreOfParts p from [] (file ∷ more ∷ files) = ⊥
AreOfParts p from (next ∷ later) (file ∷ files) = IsPartFile p from (Some next) file × AreOfParts p next later files

-- the files of parts from the empty position to the end of all join to the listing of all worlds
abbrev pub PartsJoin : Type 0
PartsJoin = (p : Problem) (later : List (List Rel)) (files : List (List ℕ)) (worlds : List (List Rel)) → AreOfParts p [] later files → IsListing p [] None worlds → IsJoin p files (Ok worlds)
