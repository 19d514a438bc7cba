-- What a text says: a problem, or its first fault with its line.
use Rattle.std.specs.Prelude.{◌≡◌, ℕ, ◌+◌, ◌-◌, ◌==◌, nat_lt, nat_le, Bool, true, false, not, List, [], ◌∷◌, ◌++◌, length, take, sum_by, count_by, position, slice_set, slice_index_or, Option, Some, None, option_map, option_and_then, Result, Ok, Err, if◌then◌else◌, bytes_eq}
use Rattle.std.specs.List.{list_all, list_any}
use Rattle.std.specs.Str.Lossy.{utf8_valid_len}
use Rattle.rcc5_core.specs.declared.RelSet.{RelSet}
use Rattle.rcc5_core.specs.RelationSet.{converses}
use Rattle.taxon_tree.specs.Trees.{Trees, no_trees, number_of}
use Rattle.taxon_tree.specs.Row.{add_row}
use Rattle.taxon_tree.specs.declared.ForestFault.{ForestFault}
use Rattle.taxon_tree.specs.declared.ForestFault.TheVariants as forest
use Rattle.world_model.specs.Problem.{Problem}
use Rattle.world_model.specs.declared.Articulation.{Articulation}
use Rattle.world_model.specs.declared.Articulation.TheVariants.{Pair, Sum}
use Rattle.world_model.specs.declared.Switches.{Switches}
use Rattle.constraint_set.specs.Build.{size_of, problem_of}
use Rattle.constraint_set.specs.Facts.{all_different}
use Rattle.cleantax_text.specs.declared.TextKind.{TextKind}
use Rattle.cleantax_text.specs.declared.TextKind.TheVariants.{NotUtf8, BadLine, BadName, UnknownRelation, EmptyBraces, RowOutsideTaxonomy, ArticulationOutside, TaxonomyTwice, TaxonomyCount, UnknownConcept, SameTaxonomy, TwoParents, ChildTwice, Cycle, TooManyConcepts, TooManyArticulations, TooLong, NoMemory, PartTwice}
use Rattle.text_words.specs.Tokens.{without_mark, is_line_end, lines_of, tokens_of}
use Rattle.text_words.specs.Words.{is_name, is_taxonomy_name, reference_of, references_of, set_of_words}
use Rattle.cleantax_text.specs.Forms.{Form, Blank, TaxonomyLine, ArticulationLine, RowLine, PairEntry, SumEntry, NoForm, form_of}

-- where in a text one is: before all taxonomies, in a taxonomy, or among articulations
pub data Place : Type 0 where
  Before : Place
  InTaxonomy : Place
  InArticulations : Place

-- what the lines so far have given
pub record Reading : Type 0 where
  pub ids : List (List ℕ)
  pub forests : List Trees
  pub articulations : List Articulation
  pub place : Place

-- nothing yet
abbrev pub nothing_read : Reading
nothing_read = record { ids = []; forests = []; articulations = []; place = Before }

-- the fault where the test holds, and else the rest
abbrev pub fail_if : {X : Type 0} → Bool → TextKind → Result X TextKind → Result X TextKind
fail_if test kind rest = if test then Err kind else rest

-- the fault where there is no value, and else what comes of it
abbrev pub need : {X Y : Type 0} → Option X → TextKind → (X → Result Y TextKind) → Result Y TextKind
need None kind further = Err kind
need (Some x) kind further = further x

-- whether one is in a taxonomy; whether one is among articulations
abbrev pub in_taxonomy : Place → Bool
in_taxonomy Before = false
in_taxonomy InTaxonomy = true
in_taxonomy InArticulations = false

abbrev pub in_articulations : Place → Bool
in_articulations Before = false
in_articulations InTaxonomy = false
in_articulations InArticulations = true

-- with one more taxonomy, which has no concepts yet
abbrev pub with_taxonomy : Reading → List ℕ → Reading
with_taxonomy r id = record { ids = r.ids ++ id ∷ []; forests = r.forests ++ no_trees ∷ []; articulations = r.articulations; place = InTaxonomy }

-- how many concepts the first so many taxonomies have
abbrev pub concepts_before : Reading → ℕ → ℕ
concepts_before r which = sum_by size_of (take which r.forests)

-- the last taxonomy's number and forest
abbrev pub last_number : Reading → ℕ
last_number r = length r.forests - 1

abbrev pub last_forest : Reading → Trees
last_forest r = slice_index_or r.forests (last_number r) no_trees

-- a forest's fault as the text's
abbrev pub kind_of : ForestFault → TextKind
kind_of forest.TwoParents = TwoParents
kind_of forest.ChildTwice = ChildTwice
kind_of forest.Cycle = Cycle
kind_of forest.TooManyConcepts = TooManyConcepts
kind_of forest.NoMemory = NoMemory

-- the last forest replaced by what a row made of it, or the row's fault
abbrev pub with_forest : Reading → Result Trees ForestFault → Result Reading TextKind
with_forest r (Ok trees) = Ok (record r { forests = slice_set r.forests (last_number r) trees })
with_forest r (Err fault) = Err (kind_of fault)

-- a row: 1,024 concepts may be there together
abbrev pub after_row : Reading → List (List ℕ) → Result Reading TextKind
after_row r names =
    fail_if (not (in_taxonomy r.place)) RowOutsideTaxonomy
    (fail_if (not (list_all is_name names)) BadName
    (with_forest r (add_row (1024 - concepts_before r (last_number r)) (last_forest r) names)))

-- the number of a concept: of the taxonomy with this name, the concept with this name
abbrev pub concept_number : Reading → List ℕ × List ℕ → Option ℕ
concept_number r reference =
    option_and_then (λ which. option_map (λ c. concepts_before r which + c) (number_of (slice_index_or r.forests which no_trees) reference.1))
    (position (bytes_eq reference.0) r.ids)

-- the numbers of several, if each is known
abbrev pub concept_numbers : Reading → List (List ℕ × List ℕ) → Option (List ℕ)
concept_numbers r [] = Some []
concept_numbers r (reference ∷ rest) = option_and_then (λ c. option_map (λ cs. c ∷ cs) (concept_numbers r rest)) (concept_number r reference)

-- the articulation of two concepts, turned round where the left one has the greater number
abbrev pub pair_of : ℕ → ℕ → RelSet → Articulation
pair_of i j set = if nat_lt i j then Pair i j set else Pair j i (converses set)

-- one more articulation: at most 4,096 may be there
abbrev pub with_articulation : Reading → Articulation → Result Reading TextKind
with_articulation r articulation =
    fail_if (nat_le 4096 (length r.articulations)) TooManyArticulations
    (Ok (record r { articulations = r.articulations ++ articulation ∷ [] }))

-- an entry on two concepts
abbrev pub after_pair : Reading → List ℕ → List (List ℕ) → List ℕ → Result Reading TextKind
after_pair r left relation right =
    fail_if (not (in_articulations r.place)) ArticulationOutside
    (need (reference_of left) BadName (λ a.
    need (reference_of right) BadName (λ b.
    fail_if (length relation == 0) EmptyBraces
    (need (set_of_words relation) UnknownRelation (λ set.
    need (concept_number r a) UnknownConcept (λ i.
    need (concept_number r b) UnknownConcept (λ j.
    fail_if (bytes_eq a.0 b.0) SameTaxonomy
    (with_articulation r (pair_of i j set)))))))))

-- an entry on a sum
abbrev pub after_sum : Reading → List ℕ → List (List ℕ) → Result Reading TextKind
after_sum r whole parts =
    fail_if (not (in_articulations r.place)) ArticulationOutside
    (need (reference_of whole) BadName (λ a.
    need (references_of parts) BadName (λ bs.
    need (concept_number r a) UnknownConcept (λ i.
    need (concept_numbers r bs) UnknownConcept (λ js.
    fail_if (list_any (λ b. bytes_eq a.0 b.0) bs) SameTaxonomy
    (fail_if (not (all_different js)) PartTwice
    (with_articulation r (Sum i js))))))))

-- what a line makes of what was read before, or its first fault
abbrev pub after_form : Reading → Form → Result Reading TextKind
after_form r Blank = Ok r
after_form r (TaxonomyLine id) =
    fail_if (not (is_taxonomy_name id)) BadName
    (fail_if (list_any (bytes_eq id) r.ids) TaxonomyTwice
    (fail_if (nat_le 8 (length r.ids)) TaxonomyCount
    (Ok (with_taxonomy r id))))
after_form r ArticulationLine = Ok (record r { place = InArticulations })
after_form r (RowLine names) = after_row r names
after_form r (PairEntry left relation right) = after_pair r left relation right
after_form r (SumEntry whole parts) = after_sum r whole parts
after_form r NoForm = Err BadLine

abbrev pub after_line : Reading → List ℕ → Result Reading TextKind
after_line r line = after_form r (form_of (tokens_of line))

-- a line's fault with its number, or what comes of the lines after it
abbrev pub and_then : ℕ → Result Reading TextKind → (Reading → Result Reading (ℕ × TextKind)) → Result Reading (ℕ × TextKind)
and_then number (Ok r) further = further r
and_then number (Err kind) further = Err (number, kind)

-- what lines make of what was read before, or the first fault with its line, where the first of these lines has this number
abbrev pub after_lines : ℕ → Reading → List (List ℕ) → Result Reading (ℕ × TextKind)
after_lines number r [] = Ok r
after_lines number r (line ∷ lines) = and_then number (after_line r line) (λ next. after_lines (number + 1) next lines)

-- the problem at the end: two taxonomies or more must be there
abbrev pub at_end : Switches → Result Reading (ℕ × TextKind) → Result Problem (ℕ × TextKind)
at_end switches (Err fault) = Err fault
at_end switches (Ok r) = if nat_lt (length r.ids) 2 then Err (0, TaxonomyCount) else Ok (problem_of r.ids r.forests r.articulations switches)

-- what a text says under switches
abbrev pub text_result : List ℕ → Switches → Result Problem (ℕ × TextKind)
text_result bytes switches =
    if nat_lt 1048576 (length bytes) then Err (0, TooLong) else
    (if nat_lt (utf8_valid_len bytes) (length bytes) then Err (count_by is_line_end (take (utf8_valid_len bytes) bytes) + 1, NotUtf8) else
    at_end switches (after_lines 1 nothing_read (lines_of (without_mark bytes))))

-- a text is a problem; a text has a first fault, at its line
abbrev pub IsProblemText : List ℕ → Switches → Problem → Type 0
IsProblemText bytes switches p = text_result bytes switches ≡ Ok p

abbrev pub HasFirstFault : List ℕ → Switches → ℕ → TextKind → Type 0
HasFirstFault bytes switches line kind = text_result bytes switches ≡ Err (line, kind)
