-- A merged taxonomy as a JSON value, and the text that this has.
use Rattle.std.specs.Prelude.{ℕ, List, map, codes, All}
use Rattle.std.specs.Str.{IsUtf8}
use Rattle.serde_json.specs.Data.{Data, number, unsigned, string, array, object, item, no_items, member, no_members}
use Rattle.serde_json.specs.View.{items_of}
use Rattle.serde_json.specs.Written.{compact_text}
use Rattle.world_model.specs.Problem.{Problem}
use Rattle.cleantax_text.specs.Canonical.{concept_text}
use Rattle.merge_print.specs.declared.taxonomy.MergedTaxonomy.{MergedTaxonomy}
use Rattle.merge_print.specs.Text.{part_names}

-- the names of a problem are UTF-8
pub record HasUtf8Names (p : Problem) : Type 0 where
  pub taxonomies_are : All IsUtf8 p.taxonomies
  pub names_are : All IsUtf8 p.names

-- a list of texts
abbrev pub texts : List (List ℕ) → Data
texts names = array (items_of (map string names))

-- the names of a class
abbrev pub class_names : Problem → List ℕ → Data
class_names p concepts = texts (map (concept_text p) concepts)

-- the names of a split's parts
abbrev pub split_names : Problem → ℕ × ℕ → Data
split_names p pair = texts (part_names p pair)

-- two numbers
abbrev pub two_numbers : ℕ × ℕ → Data
two_numbers pair = array (item (number (unsigned pair.0)) (item (number (unsigned pair.1)) no_items))

-- the value
abbrev pub merged_data : Problem → MergedTaxonomy → Data
merged_data p m = object
    (member (codes "classes") (array (items_of (map (class_names p) m.classes)))
    (member (codes "splits") (array (items_of (map (split_names p) m.splits)))
    (member (codes "under") (array (items_of (map two_numbers m.under))) no_members)))

-- the text of the value
abbrev pub merged_json : Problem → MergedTaxonomy → List ℕ
merged_json p m = compact_text (merged_data p m)
