-- What the reader's state means, and what it keeps from line to line.
use Rattle.std.specs.Prelude.{◌≡◌, ◌<◌, ◌≤◌, ◌-◌, ◌∷◌, ◌++◌, Result, ℕ, true, false, List, [], length, map, All, IsTrue, sum_by}
use Rattle.std.specs.List.{list_all}
use Rattle.taxon_tree.specs.Trees.{Trees, IsForest}
use Rattle.taxon_tree.specs.Row.{add_row}
use Rattle.taxon_tree.specs.declared.ForestFault.{ForestFault}
use Rattle.world_model.specs.declared.Articulation.{Articulation}
use Rattle.world_model.specs.Problem.{Problem, is_articulation}
use Rattle.constraint_set.specs.Build.{size_of, owners_from}
use Rattle.constraint_set.specs.Facts.{is_said}
use Rattle.cleantax_text.specs.declared.reader.Place as code_place
use Rattle.cleantax_text.specs.declared.reader.Place.TheVariants as place_is
use Rattle.cleantax_text.specs.declared.reader.Reader as code_reader
use Rattle.cleantax_text.specs.Reading.{Place, Before, InTaxonomy, InArticulations, Reading, in_taxonomy, concepts_before, last_number, last_forest}

-- a place of the code
abbrev pub place_meant : code_place.Place → Place
place_meant place_is.Before = Before
place_meant place_is.InTaxonomy = InTaxonomy
place_meant place_is.InArticulations = InArticulations

-- the reader's state: what the lines so far have given
abbrev pub meant : code_reader.Reader → Reading
meant r = record { ids = map (λ id. id.items) r.ids.items; forests = r.forests.items; articulations = r.articulations.items; place = place_meant r.place }

-- a problem of which only the owners are told
abbrev pub of_owners : List ℕ → Problem
of_owners owners = record {
  taxonomies = [];
  names = [];
  owners = owners;
  parents = [];
  children = [];
  articulations = [];
  kept = [];
  narrowings = [];
  switches = record { nonempty = false; sibling = false; coverage = false };
}

-- what the reader keeps
pub record IsKept (r : Reading) : Type 0 where
  pub named : length r.ids ≡ length r.forests
  pub eight : length r.ids ≤ 8
  pub concepts : sum_by size_of r.forests ≤ 1024
  pub few : length r.articulations ≤ 4096
  pub hold : All IsForest r.forests
  pub placed : in_taxonomy r.place ≡ true → 0 < length r.forests
  pub fit : IsTrue (list_all (is_articulation (of_owners (owners_from 0 r.forests))) r.articulations)
  pub said : IsTrue (list_all is_said r.articulations)

-- what a row makes of the last forest
abbrev pub row_of : Reading → List (List ℕ) → Result Trees ForestFault
row_of r names = add_row (1024 - concepts_before r (last_number r)) (last_forest r) names

-- with one more articulation
abbrev pub with_one_more : Reading → Articulation → Reading
with_one_more r articulation = record r { articulations = r.articulations ++ articulation ∷ [] }

-- among articulations from here on
abbrev pub among_articulations : Reading → Reading
among_articulations r = record r { place = InArticulations }
