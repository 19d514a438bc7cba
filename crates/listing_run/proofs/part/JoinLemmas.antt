-- Files of parts that follow each other, joined.
use Rattle.std.proofs.Common.{◌≡◌, ℕ, Bool, true, false, List, [], ◌∷◌, map, Option, None, Some, Ok, refl, ap, ◌∙◌, IsTrue}
use Rattle.std.proofs.lemmas.Bool.{not-true}
use Rattle.rcc5_core.specs.declared.Rel.{Rel}
use Rattle.world_model.specs.Problem.{Problem}
use Rattle.world_model.specs.Listing.{is_below, is_before_end, is_between}
use Rattle.world_model.proofs.Members.{In, here, there, any_at, any_from, Found}
use Rattle.world_model.proofs.OrderPositions.{below_upto}
use Rattle.world_model.proofs.OrderLists.{between_from}
use Rattle.world_search.specs.Searching.{IsNodeAtEnd}
use Rattle.part_join.specs.Parts.{Part, covers, is_covered}
use Rattle.part_join.specs.Joining.{part_by, part_in, AreParts}
use Rattle.part_join.proofs.CoverLemmas.{none_below}
use Rattle.listing_run.proofs.StopLemmas.{endless_stop}
use Rattle.listing_run.specs.Part.Laws.{IsPartFile, AreOfParts, PartsJoin}

-- the part of a file
abbrev part_of : (p : Problem) (from : List Rel) (to : Option (List Rel)) (file : List ℕ) → IsPartFile p from to file → Part
part_of p from to file part = record { from = from; to = part.node; worlds = part.worlds }

is_part : (p : Problem) (from : List Rel) (to : Option (List Rel)) (file : List ℕ) (part : IsPartFile p from to file) → part_in p file ≡ Ok (part_of p from to file part)
is_part p from to file part = ap part_by (part.certified part.small).accepted

-- it covers what stands from its start on and below its end
covers_its_own : (p : Problem) (from : List Rel) (to node : Option (List Rel)) (t : List Rel) → IsNodeAtEnd p from to node → is_below t from ≡ false → IsTrue (is_before_end t to)
    → IsTrue (is_between from node t)
covers_its_own p from to None t at low below = between_from from None t low refl
covers_its_own p from None (Some node) t at low below = ap (λ (n : Option (List Rel)). is_between from n t) (endless_stop p from None (Some node) refl at) ∙ between_from from None t low refl
covers_its_own p from (Some end) (Some node) t at low below = between_from from (Some node) t low (below_upto t end node below (not-true (is_below node end) at.1))

-- files of parts are certificates of parts that together cover all from the first start on
record Cover (p : Problem) (from : List Rel) (files : List (List ℕ)) : Type 0 where
  parts : List Part
  are : AreParts p files parts
  covered : (t : List Rel) → is_below t from ≡ false → IsTrue (is_covered parts t)

cover : (p : Problem) (from : List Rel) (later : List (List Rel)) (files : List (List ℕ)) → AreOfParts p from later files → Cover p from files
cover p from later [] none = absurd none
cover p from [] (file ∷ []) part =
    let q = part_of p from None file part in
    let own : In q (q ∷ []) = here refl in
    record {
      parts = q ∷ [];
      are = ap (λ r. r ∷ []) (is_part p from None file part);
      covered = λ t low. any_from (covers t) own (covers_its_own p from None part.node t part.node_is low refl);
    }
cover p from [] (file ∷ more ∷ files) none = absurd none
cover p from (next ∷ later) (file ∷ files) parts =
    let q = part_of p from (Some next) file parts.0 in
    let rest = cover p next later files parts.1 in
    record {
      parts = q ∷ rest.parts;
      are = ap (λ r. r ∷ map (part_in p) files) (is_part p from (Some next) file parts.0) ∙ ap (λ rs. Ok q ∷ rs) rest.are;
      covered = λ t low. by rest t low (is_below t next) refl;
    }
  where
    by : (rest : Cover p next files) (t : List Rel) → is_below t from ≡ false → (b : Bool) → is_below t next ≡ b → IsTrue (is_covered (part_of p from (Some next) file parts.0 ∷ rest.parts) t)
    by rest t low true below =
        let own : In (part_of p from (Some next) file parts.0) (part_of p from (Some next) file parts.0 ∷ rest.parts) = here refl in
        any_from (covers t) own (covers_its_own p from (Some next) parts.0.node t parts.0.node_is low below)
    by rest t low false upto =
        let found : Found (covers t) rest.parts = any_at (covers t) rest.parts (rest.covered t upto) in
        let later : In found.item (part_of p from (Some next) file parts.0 ∷ rest.parts) = there found.member in
        any_from (covers t) later found.passes

pub parts_join_law : PartsJoin
parts_join_law p later files worlds parts listing =
    let all = cover p [] later files parts in
    record {
      parts = all.parts;
      are = all.are;
      reach = record { before = λ t before. all.covered t (none_below t); stops = tt };
      listing = listing;
    }
