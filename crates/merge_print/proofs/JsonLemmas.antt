-- Names that are UTF-8, and values without floats.
use Rattle.std.proofs.Common.{◌≡◌, ◌<◌, ℕ, zero, suc, false, List, [], ◌∷◌, ◌++◌, length, map, get_or, codes, refl, sym, ap, subst, ◌∙◌, arith, inl, inr}
use Rattle.std.specs.Prelude.{All, slice_index_or}
use Rattle.std.specs.Str.{IsUtf8}
use Rattle.std.proofs.lemmas.Bool.{cases_lt, or_from}
use Rattle.std.proofs.lemmas.List.{get_or-map, get_or_past, length-map}
use Rattle.std.proofs.lemmas.List.Elements.{All-get_or, All-map, All-nil, All-cons, All-from_get_or}
use Rattle.std.proofs.lemmas.Str.{IsUtf8-append, IsUtf8-nil, IsUtf8-from_ascii}
use Rattle.serde_json.specs.Data.{Data, string}
use Rattle.serde_json.specs.View.{items_of}
use Rattle.serde_json.specs.Written.{has_float, items_have_float, compact_text}
use Rattle.constraint_set.specs.Readers.{taxonomy_of, name_of}
use Rattle.world_model.specs.Problem.{Problem, owner_of}
use Rattle.cleantax_text.specs.Canonical.{concept_text}
use Rattle.merge_print.specs.declared.taxonomy.MergedTaxonomy.{MergedTaxonomy}
use Rattle.merge_print.specs.Text.{part_names, joined_names}
use Rattle.merge_print.specs.Json.{HasUtf8Names, class_names, split_names, two_numbers, merged_data, merged_json}

-- a member of a list of texts, and nothing where there is none
utf8_or : (xs : List (List ℕ)) (k : ℕ) → All IsUtf8 xs → IsUtf8 (slice_index_or xs k [])
utf8_or xs k all = elim (cases_lt k (length xs)) [
  | inl within ↦ All-get_or IsUtf8 xs k [] within all
  | inr past ↦ let e : get_or xs k [] ≡ [] = get_or_past xs k [] past in subst IsUtf8 (sym e) IsUtf8-nil
]

pub utf8_at : {X : Type 0} (f : X → List ℕ) (xs : List X) (k : ℕ) (d : X) → k < length xs → All IsUtf8 (map f xs) → IsUtf8 (f (get_or xs k d))
utf8_at f xs k d lt all =
    let m : length (map f xs) ≡ length xs = length-map xs f in
    let within : k < length (map f xs) = omega arith in
    subst IsUtf8 (get_or-map f xs k d [] lt) (All-get_or IsUtf8 (map f xs) k [] within all)

utf8_sign : (c : ℕ) → c < 128 → IsUtf8 (c ∷ [])
utf8_sign c small = IsUtf8-from_ascii (c ∷ []) ascii
  where
    ascii : (i : ℕ) → get_or (c ∷ []) i 0 < 128
    ascii zero = small
    ascii (suc i) = omega arith

pub utf8_concept : (p : Problem) (c : ℕ) → HasUtf8Names p → IsUtf8 (concept_text p c)
utf8_concept p c names =
    IsUtf8-append (taxonomy_of p (owner_of p c)) (46 ∷ name_of p c) (utf8_or p.taxonomies (owner_of p c) names.taxonomies_are)
    (IsUtf8-append (46 ∷ []) (name_of p c) (utf8_sign 46 (omega arith)) (utf8_or p.names c names.names_are))

pub utf8_concepts : (p : Problem) (texts : List (List ℕ)) (concepts : List ℕ) → HasUtf8Names p → texts ≡ map (concept_text p) concepts → All IsUtf8 texts
utf8_concepts p texts concepts names e =
    subst (All IsUtf8) (sym e) (All-map IsUtf8 (concept_text p) concepts (All-from_get_or (λ c. IsUtf8 (concept_text p c)) concepts 0 (λ i _. utf8_concept p (get_or concepts i 0) names)))

utf8_joined : (p : Problem) (c : ℕ) (pair : ℕ × ℕ) → c < 128 → HasUtf8Names p → IsUtf8 (joined_names p (c ∷ []) pair)
utf8_joined p c pair small names =
    IsUtf8-append (concept_text p pair.0 ++ c ∷ []) (concept_text p pair.1) (IsUtf8-append (concept_text p pair.0) (c ∷ []) (utf8_concept p pair.0 names) (utf8_sign c small)) (utf8_concept p pair.1 names)

pub utf8_parts : (p : Problem) (texts : List (List ℕ)) (pair : ℕ × ℕ) → HasUtf8Names p → texts ≡ part_names p pair → All IsUtf8 texts
utf8_parts p texts pair names e =
    subst (All IsUtf8) (sym e)
    (All-cons IsUtf8 (joined_names p (codes "*") pair) (joined_names p (codes "\\") pair ∷ joined_names p (codes "\\") (pair.1, pair.0) ∷ []) (utf8_joined p 42 pair (omega arith) names)
    (All-cons IsUtf8 (joined_names p (codes "\\") pair) (joined_names p (codes "\\") (pair.1, pair.0) ∷ []) (utf8_joined p 92 pair (omega arith) names)
    (All-cons IsUtf8 (joined_names p (codes "\\") (pair.1, pair.0)) [] (utf8_joined p 92 (pair.1, pair.0) (omega arith) names) (All-nil IsUtf8))))

-- lists of values without floats
no_floats : {X : Type 0} (f : X → Data) (xs : List X) → ((x : X) → has_float (f x) ≡ false) → items_have_float (items_of (map f xs)) ≡ false
no_floats f [] h = refl
no_floats f (x ∷ xs) h = or_from (has_float (f x)) (items_have_float (items_of (map f xs))) (h x) (no_floats f xs h)

data_no_float : (p : Problem) (m : MergedTaxonomy) → has_float (merged_data p m) ≡ false
data_no_float p m =
    or_from _ _ (no_floats (class_names p) m.classes (λ c. no_floats string (map (concept_text p) c) (λ _. refl)))
    (or_from _ _ (no_floats (split_names p) m.splits (λ pair. no_floats string (part_names p pair) (λ _. refl)))
    (or_from _ _ (no_floats two_numbers m.under (λ _. refl)) refl))

-- the text of the value
pub json_text : (p : Problem) (m : MergedTaxonomy) (d : Data) (text : List ℕ) → d ≡ merged_data p m → (has_float d ≡ false → text ≡ compact_text d) → text ≡ merged_json p m
json_text p m d text e h = h (ap has_float e ∙ data_no_float p m) ∙ ap compact_text e
