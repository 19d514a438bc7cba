-- The printed articulations of a problem are read again.
use Rattle.std.proofs.Common.{◌≡◌, ◌≢◌, ◌+◌, ◌<◌, ◌≤◌, ◌==◌, ℕ, Bool, true, false, not, List, [], ◌∷◌, ◌++◌, Some, Ok, All, AllPairs, length, map, get_or, position, refl, sym, ap, subst, ◌∙◌, inl, inr, arith, append_assoc}
use Rattle.std.specs.Prelude.{option_map, option_and_then, codes, bytes_eq, nat_lt, ◌&&◌, flat_map, if◌then◌else◌, filter}
use Rattle.std.specs.List.{list_all, list_any, AllByRecursion}
use Rattle.std.proofs.lemmas.Bool.{and_parts, and_from, or_from, ltb-true, lt-leb, eqb-false, cases_order, not-true, false_from_ne_true}
use Rattle.std.proofs.lemmas.List.{append-nil, length-append, length_push, length-map}
use Rattle.std.proofs.lemmas.List.Folds.{list_all-append}
use Rattle.std.proofs.lemmas.Slice.Eq.{bytes_eq-Decides}
use Rattle.taxon_tree.specs.Trees.{Trees, no_trees, number_of, IsForest}
use Rattle.rcc5_core.specs.declared.RelSet.{RelSet}
use Rattle.rcc5_core.specs.Relation.{all_rels}
use Rattle.rcc5_core.specs.RelationSet.{has, converses}
use Rattle.world_model.specs.Problem.{Problem, concept_count, owner_of, is_concept, is_cross, is_articulation}
use Rattle.world_model.specs.declared.Articulation.{Articulation}
use Rattle.world_model.specs.declared.Articulation.TheVariants.{Pair, Sum}
use Rattle.world_model.specs.declared.Switches.{Switches}
use Rattle.constraint_set.specs.Build.{size_of}
use Rattle.constraint_set.specs.Facts.{all_different, is_said}
use Rattle.constraint_set.proofs.Laying.{Placed, placed, base, forest_at, name_at}
use Rattle.cleantax_text.specs.declared.TextKind.TheVariants.{BadName, EmptyBraces, UnknownRelation, UnknownConcept, SameTaxonomy, ArticulationOutside, PartTwice, TooManyArticulations}
use Rattle.text_words.specs.Words.{reference_of, references_of, set_of_words}
use Rattle.constraint_set.specs.Readers.{name_of}
use Rattle.cleantax_text.specs.Canonical.{concept_text, spaced, word_of, set_text}
use Rattle.cleantax_text.specs.Pieces.{line_of}
use Rattle.cleantax_text.specs.Reading.{InArticulations, Reading, fail_if, need, in_articulations, concepts_before, concept_number, concept_numbers, pair_of, with_articulation, after_pair, after_sum, after_form}
use Rattle.cleantax_text.proofs.NamedLemmas.{is_word_byte, IsConceptName, IsTaxonomyName}
use Rattle.cleantax_text.proofs.ScanLemmas.{IsPrinted, printed_append, printed_low, printed_name, IsWord, Reads, reads_nothing, reads_more, reads_line}
use Rattle.cleantax_text.proofs.RegrowLemmas.{own_position}
use Rattle.cleantax_text.proofs.RowsBackLemmas.{taxonomy_is_name}
use Rattle.cleantax_text.proofs.LaidLemmas.{whole, counted, owner_is}
use Rattle.cleantax_text.proofs.EntryLineLemmas.{words_of_set, some_rels, pair_line, pair_read, printed_pair, sum_line, sum_read, printed_sum, reference_read}

-- an entry without faults
pair_taken : (r : Reading) (left : List ℕ) (relation : List (List ℕ)) (right : List ℕ) (a b : List ℕ × List ℕ) (set : RelSet) (i j : ℕ) → in_articulations r.place ≡ true
    → reference_of left ≡ Some a → reference_of right ≡ Some b → (length relation == 0) ≡ false → set_of_words relation ≡ Some set
    → concept_number r a ≡ Some i → concept_number r b ≡ Some j → bytes_eq a.0 b.0 ≡ false → after_pair r left relation right ≡ with_articulation r (pair_of i j set)
pair_taken r left relation right a b set i j place la lb some s ni nj apart =
    let last = λ (set : RelSet) (i j : ℕ). with_articulation r (pair_of i j set) in
    let with_j = λ (a b : List ℕ × List ℕ) (set : RelSet) (i j : ℕ). fail_if (bytes_eq a.0 b.0) SameTaxonomy (last set i j) in
    let with_i = λ (a b : List ℕ × List ℕ) (set : RelSet) (i : ℕ). need (concept_number r b) UnknownConcept (with_j a b set i) in
    let with_set = λ (a b : List ℕ × List ℕ) (set : RelSet). need (concept_number r a) UnknownConcept (with_i a b set) in
    let with_b = λ (a b : List ℕ × List ℕ). fail_if (length relation == 0) EmptyBraces (need (set_of_words relation) UnknownRelation (with_set a b)) in
    let with_a = λ (a : List ℕ × List ℕ). need (reference_of right) BadName (with_b a) in
    ap (λ t. fail_if (not t) ArticulationOutside (need (reference_of left) BadName with_a)) place
    ∙ ap (λ o. need o BadName with_a) la
    ∙ ap (λ o. need o BadName (with_b a)) lb
    ∙ ap (λ t. fail_if t EmptyBraces (need (set_of_words relation) UnknownRelation (with_set a b))) some
    ∙ ap (λ o. need o UnknownRelation (with_set a b)) s
    ∙ ap (λ o. need o UnknownConcept (with_i a b set)) ni
    ∙ ap (λ o. need o UnknownConcept (with_j a b set i)) nj
    ∙ ap (λ t. fail_if t SameTaxonomy (last set i j)) apart

sum_taken : (r : Reading) (text : List ℕ) (parts : List (List ℕ)) (a : List ℕ × List ℕ) (bs : List (List ℕ × List ℕ)) (i : ℕ) (js : List ℕ) → in_articulations r.place ≡ true
    → reference_of text ≡ Some a → references_of parts ≡ Some bs → concept_number r a ≡ Some i → concept_numbers r bs ≡ Some js
    → list_any (λ b. bytes_eq a.0 b.0) bs ≡ false → all_different js ≡ true → after_sum r text parts ≡ with_articulation r (Sum i js)
sum_taken r text parts a bs i js place la lb ni nj apart once =
    let last = λ (i : ℕ) (js : List ℕ). with_articulation r (Sum i js) in
    let with_js = λ (a : List ℕ × List ℕ) (bs : List (List ℕ × List ℕ)) (i : ℕ) (js : List ℕ). fail_if (list_any (λ b. bytes_eq a.0 b.0) bs) SameTaxonomy (fail_if (not (all_different js)) PartTwice (last i js)) in
    let with_i = λ (a : List ℕ × List ℕ) (bs : List (List ℕ × List ℕ)) (i : ℕ). need (concept_numbers r bs) UnknownConcept (with_js a bs i) in
    let with_bs = λ (a : List ℕ × List ℕ) (bs : List (List ℕ × List ℕ)). need (concept_number r a) UnknownConcept (with_i a bs) in
    let with_a = λ (a : List ℕ × List ℕ). need (references_of parts) BadName (with_bs a) in
    ap (λ t. fail_if (not t) ArticulationOutside (need (reference_of text) BadName with_a)) place
    ∙ ap (λ o. need o BadName with_a) la
    ∙ ap (λ o. need o BadName (with_bs a)) lb
    ∙ ap (λ o. need o UnknownConcept (with_i a bs)) ni
    ∙ ap (λ o. need o UnknownConcept (with_js a bs i)) nj
    ∙ ap (λ t. fail_if t SameTaxonomy (fail_if (not (all_different js)) PartTwice (last i js))) apart
    ∙ ap (λ t. fail_if (not t) PartTwice (last i js)) once

one_more : (r : Reading) (a : Articulation) → length r.articulations < 4096 → with_articulation r a ≡ Ok (record r { articulations = r.articulations ++ a ∷ [] })
one_more r a few = ap (λ b. fail_if b TooManyArticulations (Ok (record r { articulations = r.articulations ++ a ∷ [] }))) (lt-leb 4096 (length r.articulations) few)

all_append : (p : ℕ → Bool) (xs ys : List ℕ) → list_all p xs ≡ true → list_all p ys ≡ true → list_all p (xs ++ ys) ≡ true
all_append p xs ys e f = list_all-append p xs ys ∙ and_from (list_all p xs) (list_all p ys) e f

join_four : (a b c d : List ℕ) → a ++ b ++ c ++ d ≡ a ++ (b ++ (c ++ d))
join_four a b c d = append_assoc (a ++ b) c d ∙ append_assoc a b (c ++ d)

-- the texts of articulations, joined from their ends
pair_text : (left relation right : List ℕ) → codes "[" ++ left ++ codes " " ++ relation ++ codes " " ++ right ++ codes "]" ≡ pair_line left relation right
pair_text left relation right =
    ap (λ t. 91 ∷ t) (ap (λ t. t ++ right ++ 93 ∷ []) (join_four left (32 ∷ []) relation (32 ∷ [])) ∙ join_four left (32 ∷ (relation ++ 32 ∷ [])) right (93 ∷ [])
    ∙ ap (λ t. left ++ 32 ∷ t) (append_assoc relation (32 ∷ []) (right ++ 93 ∷ [])))

sum_text : (text : List ℕ) (parts : List (List ℕ)) → codes "[" ++ text ++ codes " sums" ++ spaced parts ++ codes "]" ≡ sum_line text parts
sum_text text parts = ap (λ t. 91 ∷ t) (join_four text (codes " sums") (spaced parts) (93 ∷ []))

-- a problem as read of these parts, with names as a text gives them
module _ (ids : List (List ℕ)) (fs : List Trees) (arts : List Articulation) (switches : Switches) (holds : All IsForest fs) (named : length ids ≡ length fs)
    (are_ids : All IsTaxonomyName ids) (apart : AllPairs (λ x y. x ≢ y) ids) (are_names : All (λ f. All IsConceptName f.names) fs) where
  abbrev it : Problem
  it = whole ids fs arts switches holds

  -- the reader among articulations
  abbrev pub among : List Articulation → Reading
  among done = record { ids = ids; forests = fs; articulations = done; place = InArticulations }

  -- the reference to a concept
  abbrev ref : ℕ → List ℕ × List ℕ
  ref c = (get_or ids (owner_of it c) [], name_of it c)

  -- where a concept is
  record Found (c : ℕ) : Type 0 where
    which : ℕ
    local : ℕ
    in_ids : which < length ids
    in_forests : which < length fs
    in_forest : local < size_of (forest_at fs which)
    is : base fs which + local ≡ c
    owner : owner_of it c ≡ which
    name : name_of it c ≡ get_or (forest_at fs which).names local []

  found : (c : ℕ) → c < concept_count it → Found c
  found c lt =
      let x : Placed fs c = placed fs c (omega (arith, counted ids fs arts switches holds)) in
      let inside = x.in_forests in
      record {
        which = x.which;
        local = x.local;
        in_ids = omega (arith, named);
        in_forests = x.in_forests;
        in_forest = x.in_forest;
        is = sym x.is;
        owner = ap (owner_of it) x.is ∙ owner_is ids fs arts switches holds x.which x.local x.in_forests x.in_forest;
        name = ap (name_of it) x.is ∙ name_at fs x.which x.local x.in_forests x.in_forest;
      }

  ref_id : (c : ℕ) → c < concept_count it → IsTaxonomyName (ref c).0
  ref_id c lt = let x = found c lt in subst (λ k. IsTaxonomyName (get_or ids k [])) (sym x.owner) (are_ids x.which [] x.in_ids)

  ref_name : (c : ℕ) → c < concept_count it → IsConceptName (ref c).1
  ref_name c lt = let x = found c lt in subst IsConceptName (sym x.name) (are_names x.which no_trees x.in_forests x.local [] x.in_forest)

  ref_number : (done : List Articulation) (c : ℕ) → c < concept_count it → concept_number (among done) (ref c) ≡ Some c
  ref_number done c lt =
      let x = found c lt in
      let forest = forest_at fs x.which in
      let find = λ (name : List ℕ) (which : ℕ). option_map (λ j. concepts_before (among done) which + j) (number_of (get_or fs which no_trees) name) in
      ap (λ k. option_and_then (find (name_of it c)) (position (bytes_eq (get_or ids k [])) ids)) x.owner
      ∙ ap (option_and_then (find (name_of it c))) (own_position ids x.which apart x.in_ids)
      ∙ ap (λ n. find n x.which) x.name
      ∙ ap (option_map (λ j. base fs x.which + j)) (own_position forest.names x.local (holds x.which no_trees x.in_forests).names_apart x.in_forest)
      ∙ ap Some x.is

  ref_apart : (c d : ℕ) → c < concept_count it → d < concept_count it → is_cross it (c, d) ≡ true → bytes_eq (ref c).0 (ref d).0 ≡ false
  ref_apart c d lt ld cross =
      let x = found c lt in
      let y = found d ld in
      let in_x : owner_of it c < length ids = subst (λ k. k < length ids) (sym x.owner) x.in_ids in
      let in_y : owner_of it d < length ids = subst (λ k. k < length ids) (sym y.owner) y.in_ids in
      let differ = eqb-false (owner_of it c) (owner_of it d) (not-true (owner_of it c == owner_of it d) cross) in
      false_from_ne_true (bytes_eq (ref c).0 (ref d).0) (λ e.
      let same = (bytes_eq-Decides (ref c).0 (ref d).0).0 e in
      elim (cases_order (owner_of it c) (owner_of it d)) [
        | inl one ↦ differ one
        | inr two ↦ elim two [
          | inl less ↦ apart (owner_of it c) (owner_of it d) [] less in_y same
          | inr more ↦ apart (owner_of it d) (owner_of it c) [] more in_x (sym same)
        ]
      ])

  ref_read : (c : ℕ) → c < concept_count it → reference_of (concept_text it c) ≡ Some (ref c)
  ref_read c lt = reference_read (ref c).0 (ref c).1 (ref_id c lt).name (ref_name c lt).name

  ref_printed : (c : ℕ) → c < concept_count it → IsPrinted (concept_text it c)
  ref_printed c lt =
      let i = ref_id c lt in
      let n = ref_name c lt in
      printed_append (ref c).0 (46 ∷ (ref c).1) (printed_name (ref c).0 i.clean (taxonomy_is_name (ref c).0 i.name))
      (printed_append (46 ∷ []) (ref c).1 (printed_low (46 ∷ []) refl refl) (printed_name (ref c).1 n.clean n.name))

  ref_word : (c : ℕ) → c < concept_count it → IsWord (concept_text it c)
  ref_word c lt =
      let i = ref_id c lt in
      let n = ref_name c lt in record {
        some = omega (arith, length-append (ref c).0 (46 ∷ (ref c).1));
        bytes = all_append is_word_byte (ref c).0 (46 ∷ (ref c).1) i.clean.bytes n.clean.bytes;
      }

  -- an entry on two concepts
  pair_entry : (done : List Articulation) (l r : ℕ) (set : RelSet) → is_articulation it (Pair l r set) ≡ true → is_said (Pair l r set) ≡ true → length done < 4096
      → Reads (among done) (line_of it (Pair l r set)) (among (done ++ Pair l r set ∷ []))
  pair_entry done l r set fits said few =
      let a = and_parts (nat_lt l r && is_concept it r) (is_cross it (l, r)) fits in
      let b = and_parts (nat_lt l r) (is_concept it r) a.0 in
      let order = ltb-true l r b.0 in
      let in_r = ltb-true r (concept_count it) b.1 in
      let in_l : l < concept_count it = omega arith in
      let left = concept_text it l in
      let right = concept_text it r in
      let words = map word_of (filter (has set) all_rels) in
      let now = among (done ++ Pair l r set ∷ []) in
      let taken : after_pair (among done) left words right ≡ Ok now =
      pair_taken (among done) left words right (ref l) (ref r) set l r refl (ref_read l in_l) (ref_read r in_r) (some_rels set said) (words_of_set set) (ref_number done l in_l) (ref_number done r in_r)
      (ref_apart l r in_l in_r a.1)
      ∙ ap (λ t. with_articulation (among done) (if t then Pair l r set else Pair r l (converses set))) b.0
      ∙ one_more (among done) (Pair l r set) few in
      let read : Reads (among done) (pair_line left (set_text set) right ++ 10 ∷ []) now =
      reads_line (among done) now (pair_line left (set_text set) right) (printed_pair left right set (ref_printed l in_l) (ref_printed r in_r))
      (ap (after_form (among done)) (pair_read left right set (ref_word l in_l) (ref_word r in_r)) ∙ taken) in
      subst (λ t. Reads (among done) (t ++ 10 ∷ []) now) (sym (pair_text left (set_text set) right)) read

  -- the parts of a sum
  abbrev is_part : ℕ → ℕ → Bool
  is_part w part = is_concept it part && is_cross it (w, part)

  parts_known : (done : List Articulation) (w : ℕ) (parts : List ℕ) → list_all (is_part w) parts ≡ true → concept_numbers (among done) (map ref parts) ≡ Some parts
  parts_known done w [] e = refl
  parts_known done w (c ∷ cs) e =
      let a = and_parts (is_part w c) (list_all (is_part w) cs) e in
      let lt = ltb-true c (concept_count it) (and_parts (is_concept it c) (is_cross it (w, c)) a.0).0 in
      ap (option_and_then (λ n. option_map (λ ns. n ∷ ns) (concept_numbers (among done) (map ref cs)))) (ref_number done c lt)
      ∙ ap (option_map (λ ns. c ∷ ns)) (parts_known done w cs a.1)

  parts_read : (w : ℕ) (parts : List ℕ) → list_all (is_part w) parts ≡ true → references_of (map (concept_text it) parts) ≡ Some (map ref parts)
  parts_read w [] e = refl
  parts_read w (c ∷ cs) e =
      let a = and_parts (is_part w c) (list_all (is_part w) cs) e in
      let lt = ltb-true c (concept_count it) (and_parts (is_concept it c) (is_cross it (w, c)) a.0).0 in
      ap (option_and_then (λ n. option_map (λ ns. n ∷ ns) (references_of (map (concept_text it) cs)))) (ref_read c lt)
      ∙ ap (option_map (λ ns. ref c ∷ ns)) (parts_read w cs a.1)

  parts_apart : (w : ℕ) → w < concept_count it → (parts : List ℕ) → list_all (is_part w) parts ≡ true → list_any (λ b. bytes_eq (ref w).0 b.0) (map ref parts) ≡ false
  parts_apart w lw [] e = refl
  parts_apart w lw (c ∷ cs) e =
      let a = and_parts (is_part w c) (list_all (is_part w) cs) e in
      let b = and_parts (is_concept it c) (is_cross it (w, c)) a.0 in
      or_from (bytes_eq (ref w).0 (ref c).0) (list_any (λ b. bytes_eq (ref w).0 b.0) (map ref cs)) (ref_apart w c lw (ltb-true c (concept_count it) b.0) b.1) (parts_apart w lw cs a.1)

  parts_printed : (w : ℕ) (parts : List ℕ) → list_all (is_part w) parts ≡ true → AllByRecursion IsPrinted (map (concept_text it) parts)
  parts_printed w [] e = tt
  parts_printed w (c ∷ cs) e =
      let a = and_parts (is_part w c) (list_all (is_part w) cs) e in
      (ref_printed c (ltb-true c (concept_count it) (and_parts (is_concept it c) (is_cross it (w, c)) a.0).0), parts_printed w cs a.1)

  parts_words : (w : ℕ) (parts : List ℕ) → list_all (is_part w) parts ≡ true → AllByRecursion IsWord (map (concept_text it) parts)
  parts_words w [] e = tt
  parts_words w (c ∷ cs) e =
      let a = and_parts (is_part w c) (list_all (is_part w) cs) e in
      (ref_word c (ltb-true c (concept_count it) (and_parts (is_concept it c) (is_cross it (w, c)) a.0).0), parts_words w cs a.1)

  -- an entry on a sum
  sum_entry : (done : List Articulation) (w : ℕ) (parts : List ℕ) → is_articulation it (Sum w parts) ≡ true → is_said (Sum w parts) ≡ true → length done < 4096
      → Reads (among done) (line_of it (Sum w parts)) (among (done ++ Sum w parts ∷ []))
  sum_entry done w parts fits said few =
      let a = and_parts (is_concept it w && nat_lt 1 (length parts)) (list_all (is_part w) parts) fits in
      let b = and_parts (is_concept it w) (nat_lt 1 (length parts)) a.0 in
      let in_w = ltb-true w (concept_count it) b.0 in
      let two = ltb-true 1 (length parts) b.1 in
      let text = concept_text it w in
      let words = map (concept_text it) parts in
      let now = among (done ++ Sum w parts ∷ []) in
      let taken : after_sum (among done) text words ≡ Ok now =
      sum_taken (among done) text words (ref w) (map ref parts) w parts refl (ref_read w in_w) (parts_read w parts a.1) (ref_number done w in_w) (parts_known done w parts a.1)
      (parts_apart w in_w parts a.1) said
      ∙ one_more (among done) (Sum w parts) few in
      let n : length words ≡ length parts = length-map {B = List ℕ} parts (concept_text it) in
      let read : Reads (among done) (sum_line text words ++ 10 ∷ []) now =
      reads_line (among done) now (sum_line text words) (printed_sum text words (ref_printed w in_w) (parts_printed w parts a.1))
      (ap (after_form (among done)) (sum_read text words (ref_word w in_w) (parts_words w parts a.1) (omega arith)) ∙ taken) in
      subst (λ t. Reads (among done) (t ++ 10 ∷ []) now) (sym (sum_text text words)) read

  entry : (done : List Articulation) (a : Articulation) → is_articulation it a ≡ true → is_said a ≡ true → length done < 4096 → Reads (among done) (line_of it a) (among (done ++ a ∷ []))
  entry done (Pair l r set) fits said few = pair_entry done l r set fits said few
  entry done (Sum w parts) fits said few = sum_entry done w parts fits said few

  -- the lines of all articulations
  pub entries : (done rest : List Articulation) → list_all (is_articulation it) rest ≡ true → list_all is_said rest ≡ true → length done + length rest ≤ 4096
      → Reads (among done) (flat_map (line_of it) rest) (among (done ++ rest))
  entries done [] fits said few = subst (λ l. Reads (among done) [] (among l)) (sym (append-nil done)) (reads_nothing (among done))
  entries done (a ∷ rest) fits said few =
      let f = and_parts (is_articulation it a) (list_all (is_articulation it) rest) fits in
      let s = and_parts (is_said a) (list_all is_said rest) said in
      let n = length_push done a in
      reads_more (among done) (among (done ++ a ∷ [])) (among (done ++ a ∷ rest)) (line_of it a) (flat_map (line_of it) rest)
      (entry done a f.0 s.0 (omega arith))
      (subst (λ l. Reads (among (done ++ a ∷ [])) (flat_map (line_of it) rest) (among l)) (append_assoc done (a ∷ []) rest) (entries (done ++ a ∷ []) rest f.1 s.1 (omega arith)))
