-- What the reader keeps, from line to line.
use Rattle.std.proofs.Common.{◌≡◌, ◌≢◌, ◌+◌, ◌-◌, ◌<◌, ◌≤◌, ◌==◌, ℕ, suc, Bool, true, false, not, ◌||◌, List, [], ◌∷◌, ◌++◌, Option, None, Some, Result, Ok, Err, OnOk, length, take, get_or, set, replicate, refl, sym, ap, subst, ◌∙◌, arith, inl, inr}
use Rattle.std.specs.Prelude.{option_map, option_and_then, sum_by, bytes_eq, nat_lt, nat_le, ◌&&◌, if◌then◌else◌}
use Rattle.std.specs.List.{list_all, list_any}
use Rattle.std.proofs.lemmas.Bool.{or_parts, not-false, lt-ltb, le-ltb, le-leb, cases_lt, eq-eqb, true≢false, ne_eqb}
use Rattle.std.proofs.lemmas.List.{append-nil, length_push, length-set, take_all}
use Rattle.std.proofs.lemmas.Grind.{take-set_at}
use Rattle.std.proofs.lemmas.List.Sums.{sum_by-append}
use Rattle.std.proofs.lemmas.List.Elements.{All-nil, All-push, All-set, All-get_or}
use Rattle.std.proofs.lemmas.List.Folds.{list_all-append}
use Rattle.std.proofs.lemmas.List.Quantifiers.{position-Some}
use Rattle.std.proofs.lemmas.Slice.Eq.{bytes_eq-Decides}
use Rattle.rcc5_core.specs.declared.Rel.{Rel}
use Rattle.rcc5_core.specs.declared.Rel.TheVariants.{Equals, Includes, IncludedIn, Overlaps, Disjoint}
use Rattle.rcc5_core.specs.declared.RelSet.{RelSet}
use Rattle.rcc5_core.specs.RelationSet.{has, adding, converses, is_empty_set}
use Rattle.taxon_tree.specs.Trees.{Trees, no_trees, IsForest}
use Rattle.taxon_tree.specs.Row.{add_row}
use Rattle.taxon_tree.specs.declared.ForestFault.{ForestFault}
use Rattle.taxon_tree.proofs.ForestLemmas.{IsForest-no_trees}
use Rattle.taxon_tree.proofs.RowLemmas.{IsForest-add_row}
use Rattle.world_model.specs.Problem.{Problem, is_articulation, is_concept, is_cross}
use Rattle.world_model.specs.declared.Articulation.{Articulation}
use Rattle.world_model.specs.declared.Articulation.TheVariants.{Pair, Sum}
use Rattle.constraint_set.specs.Build.{size_of, owners_from, problem_of}
use Rattle.constraint_set.specs.Facts.{is_said, all_different, all_fit, IsAsRead}
use Rattle.world_model.specs.declared.Switches.{Switches}
use Rattle.cleantax_text.specs.declared.TextKind.{TextKind}
use Rattle.text_words.specs.Words.{is_name, is_taxonomy_name, reference_of, references_of, relation_of_word, set_of_words}
use Rattle.cleantax_text.specs.Forms.{Form, Blank, TaxonomyLine, ArticulationLine, RowLine, PairEntry, SumEntry, NoForm, form_of}
use Rattle.cleantax_text.specs.Reading.{Reading, InArticulations, nothing_read, fail_if, need, in_taxonomy, in_articulations, with_taxonomy, concepts_before, last_number, last_forest, with_forest, after_row, concept_number, concept_numbers, pair_of, with_articulation, after_pair, after_sum, after_form, after_line}
use Rattle.text_words.specs.Tokens.{tokens_of}
use Rattle.cleantax_text.specs.Views.{IsWell}
use Rattle.cleantax_text.specs.Kept.{of_owners, IsKept}
use Rattle.cleantax_text.proofs.FormLemmas.{well_form}
use Rattle.cleantax_text.proofs.SizeLemmas.{grows_row}
use Rattle.cleantax_text.proofs.OwnerLemmas.{owners_from-append, owners_grown, last_apart, articulations_more, IsFound, number_found, all2, all3}
use Rattle.rcc5_core.proofs.Sets.{or_true}

-- what comes before an answer that is no fault
pub fail_if-Ok : {X : Type 0} (test : Bool) (kind : TextKind) (rest : Result X TextKind) (x : X) → fail_if test kind rest ≡ Ok x → (test ≡ false) × (rest ≡ Ok x)
fail_if-Ok true kind rest x e = absurd (cc)
fail_if-Ok false kind rest x e = (refl, e)

pub need-Ok : {X Y : Type 0} (o : Option X) (kind : TextKind) (further : X → Result Y TextKind) (y : Y) → need o kind further ≡ Ok y → (x : X) × (o ≡ Some x) × (further x ≡ Ok y)
need-Ok None kind further y e = absurd (cc)
need-Ok (Some x) kind further y e = (x, refl, e)

pub with_forest-Ok : (r : Reading) (made : Result Trees ForestFault) (next : Reading) → with_forest r made ≡ Ok next → (g : Trees) × (made ≡ Ok g) × (record r { forests = set r.forests (last_number r) g } ≡ next)
with_forest-Ok r (Ok g) next e = (g, refl, cc)
with_forest-Ok r (Err fault) next e = absurd (cc)

pub not_true : (b : Bool) → not b ≡ false → b ≡ true
not_true true e = refl
not_true false e = absurd (cc)

pub kept_nothing : IsKept nothing_read
kept_nothing = record { named = refl; eight = omega arith; concepts = omega arith; few = omega arith; hold = All-nil IsForest; placed = λ h. absurd (true≢false (sym h)); fit = refl; said = refl }

kept_taxonomy : (r : Reading) (id : List ℕ) → IsKept r → length r.ids < 8 → IsKept (with_taxonomy r id)
kept_taxonomy r id k few =
    let a = length_push r.ids id in
    let b = length_push r.forests no_trees in
    let s : sum_by size_of (r.forests ++ no_trees ∷ []) ≡ sum_by size_of r.forests + 0 = sum_by-append size_of r.forests (no_trees ∷ []) in
    let o : owners_from 0 (r.forests ++ no_trees ∷ []) ≡ owners_from 0 r.forests = owners_from-append 0 r.forests (no_trees ∷ []) ∙ append-nil (owners_from 0 r.forests) in
    record {
      named = omega (arith, k.named);
      eight = omega arith;
      concepts = omega (arith, k.concepts);
      few = k.few;
      hold = All-push IsForest r.forests no_trees k.hold IsForest-no_trees;
      placed = λ _. omega arith;
      fit = subst (λ owners. list_all (is_articulation (of_owners owners)) r.articulations ≡ true) (sym o) k.fit;
      said = k.said;
    }

set_last : {X : Type 0} (xs : List X) (x : X) → 0 < length xs → set xs (length xs - 1) x ≡ take (length xs - 1) xs ++ x ∷ []
set_last xs x some =
    let n = length-set xs (length xs - 1) x in
    sym (take_all (length xs) (set xs (length xs - 1) x) (omega arith)) ∙ take-set_at xs (length xs - 1) (length xs) x (omega arith) (omega arith)

kept_forest : (r : Reading) (g : Trees) → IsKept r → 0 < length r.forests → IsForest g → size_of (last_forest r) ≤ size_of g → size_of g ≤ 1024 - concepts_before r (last_number r)
    → IsKept (record r { forests = set r.forests (last_number r) g })
kept_forest r g k some holds longer within =
    let first = take (last_number r) r.forests in
    let f = last_forest r in
    let now : set r.forests (last_number r) g ≡ first ++ g ∷ [] = set_last r.forests g some in
    let was : first ++ f ∷ [] ≡ r.forests = last_apart r.forests no_trees some in
    let n = length-set r.forests (last_number r) g in
    let was_sum : sum_by size_of r.forests ≡ sum_by size_of first + (0 + size_of f) = ap (sum_by size_of) (sym was) ∙ sum_by-append size_of first (f ∷ []) in
    let now_sum : sum_by size_of (set r.forests (last_number r) g) ≡ sum_by size_of first + (0 + size_of g) = ap (sum_by size_of) now ∙ sum_by-append size_of first (g ∷ []) in
    let o : owners_from 0 (set r.forests (last_number r) g) ≡ owners_from 0 r.forests ++ replicate (size_of g - size_of f) (0 + length first) =
    ap (owners_from 0) now ∙ owners_grown first f g longer ∙ ap (λ fs. owners_from 0 fs ++ replicate (size_of g - size_of f) (0 + length first)) was in
    record {
      named = omega (arith, k.named);
      eight = k.eight;
      concepts = omega (arith, k.concepts);
      few = k.few;
      hold = All-set IsForest r.forests (last_number r) g holds k.hold;
      placed = λ h. omega (arith, k.placed h);
      fit = subst (λ owners. list_all (is_articulation (of_owners owners)) r.articulations ≡ true) (sym o)
          (articulations_more (owners_from 0 r.forests) (replicate (size_of g - size_of f) (0 + length first)) r.articulations k.fit);
      said = k.said;
    }

kept_row : (r : Reading) (names : List (List ℕ)) (next : Reading) → IsKept r → after_row r names ≡ Ok next → IsKept next
kept_row r names next k e =
    let limit = 1024 - concepts_before r (last_number r) in
    let made = add_row limit (last_forest r) names in
    let a = fail_if-Ok (not (in_taxonomy r.place)) _ (fail_if (not (list_all is_name names)) _ (with_forest r made)) next e in
    let b = fail_if-Ok (not (list_all is_name names)) _ (with_forest r made) next a.1 in
    let w = with_forest-Ok r made next b.1 in
    let some : 0 < length r.forests = k.placed (not_true (in_taxonomy r.place) a.0) in
    let holds : IsForest (last_forest r) = All-get_or IsForest r.forests (last_number r) no_trees (omega arith) k.hold in
    let was : take (last_number r) r.forests ++ last_forest r ∷ [] ≡ r.forests = last_apart r.forests no_trees some in
    let sum : sum_by size_of r.forests ≡ concepts_before r (last_number r) + (0 + size_of (last_forest r)) =
    ap (sum_by size_of) (sym was) ∙ sum_by-append size_of (take (last_number r) r.forests) (last_forest r ∷ []) in
    let grows = grows_row limit (last_forest r) names w.0 (omega (arith, k.concepts)) w.1 in
    subst IsKept w.2 (kept_forest r w.0 k some (IsForest-add_row limit (last_forest r) names w.0 (omega arith) holds w.1) grows.longer grows.within)

kept_articulation : (r : Reading) (a : Articulation) (next : Reading) → IsKept r → is_articulation (of_owners (owners_from 0 r.forests)) a ≡ true → is_said a ≡ true
    → with_articulation r a ≡ Ok next → IsKept next
kept_articulation r a next k fits says e =
    let full = fail_if-Ok (nat_le 4096 (length r.articulations)) _ (Ok (record r { articulations = r.articulations ++ a ∷ [] })) next e in
    let short : length r.articulations < 4096 = elim (cases_lt (length r.articulations) 4096) [
      | inl lt ↦ lt
      | inr le ↦ absurd (true≢false (sym (le-leb 4096 (length r.articulations) le) ∙ full.0))
    ] in
    let is : record r { articulations = r.articulations ++ a ∷ [] } ≡ next = cc in
    let n = length_push r.articulations a in
    subst IsKept is (record {
      named = k.named;
      eight = k.eight;
      concepts = k.concepts;
      few = omega arith;
      hold = k.hold;
      placed = k.placed;
      fit = list_all-append (is_articulation (of_owners (owners_from 0 r.forests))) r.articulations (a ∷ [])
          ∙ all2 _ _ k.fit (all2 _ true fits refl);
      said = list_all-append is_said r.articulations (a ∷ []) ∙ all2 _ _ k.said (all2 _ true says refl);
    })

-- concepts of taxonomies with different names have different owners
apart : (r : Reading) (a b : List ℕ) (i j : ℕ) → IsFound r a i → IsFound r b j → bytes_eq a b ≡ false
    → (get_or (owners_from 0 r.forests) i 0 == get_or (owners_from 0 r.forests) j 0) ≡ false
apart r a b i j f g e = ne_eqb (get_or (owners_from 0 r.forests) i 0) (get_or (owners_from 0 r.forests) j 0) (λ same.
    let x = position-Some (bytes_eq a) r.ids (get_or (owners_from 0 r.forests) i 0) [] f.is_owner in
    let y = position-Some (bytes_eq b) r.ids (get_or (owners_from 0 r.forests) j 0) [] g.is_owner in
    let m = (bytes_eq-Decides a (get_or r.ids (get_or (owners_from 0 r.forests) i 0) [])).0 x.1 in
    let n = (bytes_eq-Decides b (get_or r.ids (get_or (owners_from 0 r.forests) j 0) [])).0 y.1 in
    let one : a ≡ b = m ∙ ap (λ w. get_or r.ids w []) same ∙ sym n in
    true≢false (sym ((bytes_eq-Decides a b).1 one) ∙ e))

pair_fits : (r : Reading) (a b : List ℕ) (i j : ℕ) (s : RelSet) → IsFound r a i → IsFound r b j → bytes_eq a b ≡ false
    → is_articulation (of_owners (owners_from 0 r.forests)) (pair_of i j s) ≡ true
pair_fits r a b i j s f g e = elim (cases_lt i j) [
  | inl lt ↦ ap (λ t. is_articulation (of_owners (owners_from 0 r.forests)) (if t then Pair i j s else Pair j i (converses s))) (lt-ltb i j lt)
      ∙ all3 _ _ _ (lt-ltb i j lt) (lt-ltb j _ g.within) (ap not (apart r a b i j f g e))
  | inr le ↦
      let differ = apart r a b i j f g e in
      let owner = λ (c : ℕ). get_or (owners_from 0 r.forests) c 0 in
      let ne : i ≢ j = λ same. true≢false (sym (eq-eqb (owner i) (owner j) (ap owner same)) ∙ differ) in
      let lt : j < i = elim (cases_lt j i) [ inl lt ↦ lt | inr le2 ↦ absurd (ne (omega arith)) ] in
      let back : (owner j == owner i) ≡ false = ne_eqb (owner j) (owner i) (λ same. true≢false (sym (eq-eqb (owner i) (owner j) (sym same)) ∙ differ)) in
      ap (λ t. is_articulation (of_owners (owners_from 0 r.forests)) (if t then Pair i j s else Pair j i (converses s))) (le-ltb i j le)
      ∙ all3 _ _ _ (lt-ltb j i lt) (lt-ltb i _ f.within) (ap not back)
]

some_rel : (s : RelSet) (rel : Rel) → has s rel ≡ true → is_empty_set s ≡ false
some_rel s Equals e = rw e refl
some_rel s Includes e = rw (e, or_true) refl
some_rel s IncludedIn e = rw (e, or_true, or_true) refl
some_rel s Overlaps e = rw (e, or_true, or_true, or_true) refl
some_rel s Disjoint e = rw (e, or_true, or_true, or_true, or_true) refl

has_added : (s : RelSet) (rel : Rel) → has (adding s rel) rel ≡ true
has_added s Equals = or_true s.equals
has_added s Includes = or_true s.includes
has_added s IncludedIn = or_true s.included_in
has_added s Overlaps = or_true s.overlaps
has_added s Disjoint = or_true s.disjoint

empty_converses : (s : RelSet) → is_empty_set (converses s) ≡ is_empty_set s
empty_converses s = by s.equals s.includes s.included_in (s.overlaps || (s.disjoint || false))
  where
    by : (a b c d : Bool) → not (a || (c || (b || d))) ≡ not (a || (b || (c || d)))
    by true b c d = refl
    by false true true d = refl
    by false true false d = refl
    by false false true d = refl
    by false false false d = refl

set_said : (words : List (List ℕ)) (s : RelSet) → (length words == 0) ≡ false → set_of_words words ≡ Some s → is_empty_set s ≡ false
set_said [] s some e = absurd (cc)
set_said (w ∷ ws) s some e = by (relation_of_word w) (set_of_words ws) e
  where
    by : (a : Option Rel) (rest : Option RelSet) → option_and_then (λ rel. option_map (λ t. adding t rel) rest) a ≡ Some s → is_empty_set s ≡ false
    by None rest h = absurd (cc)
    by (Some rel) None h = absurd (cc)
    by (Some rel) (Some t) h = let is : adding t rel ≡ s = cc in subst (λ u. is_empty_set u ≡ false) is (some_rel (adding t rel) rel (has_added t rel))

pair_said : (i j : ℕ) (s : RelSet) → is_empty_set s ≡ false → is_said (pair_of i j s) ≡ true
pair_said i j s e = by (nat_lt i j)
  where
    by : (t : Bool) → is_said (if t then Pair i j s else Pair j i (converses s)) ≡ true
    by true = ap not e
    by false = ap not (empty_converses s ∙ e)

kept_pair : (r : Reading) (left : List ℕ) (relation : List (List ℕ)) (right : List ℕ) (next : Reading) → IsKept r → after_pair r left relation right ≡ Ok next → IsKept next
kept_pair r left relation right next k e =
    let p = fail_if-Ok (not (in_articulations r.place)) _ _ next e in
    let a = need-Ok (reference_of left) _ _ next p.1 in
    let b = need-Ok (reference_of right) _ _ next a.2 in
    let some = fail_if-Ok (length relation == 0) _ _ next b.2 in
    let s = need-Ok (set_of_words relation) _ _ next some.1 in
    let i = need-Ok (concept_number r a.0) _ _ next s.2 in
    let j = need-Ok (concept_number r b.0) _ _ next i.2 in
    let other = fail_if-Ok (bytes_eq a.0.0 b.0.0) _ _ next j.2 in
    kept_articulation r (pair_of i.0 j.0 s.0) next k
    (pair_fits r a.0.0 b.0.0 i.0 j.0 s.0 (number_found r a.0 i.0 k.named i.1) (number_found r b.0 j.0 k.named j.1) other.0)
    (pair_said i.0 j.0 s.0 (set_said relation s.0 some.0 s.1))
    other.1

numbers_length : (r : Reading) (bs : List (List ℕ × List ℕ)) (js : List ℕ) → concept_numbers r bs ≡ Some js → length js ≡ length bs
numbers_length r [] js e = let is : [] ≡ js = cc in ap length (sym is)
numbers_length r (b ∷ bs) js e = by (numbers_length r bs) (concept_number r b) (concept_numbers r bs) refl e
  where
    by : ((ks : List ℕ) → concept_numbers r bs ≡ Some ks → length ks ≡ length bs) → (c : Option ℕ) (rest : Option (List ℕ)) → concept_numbers r bs ≡ rest
        → option_and_then (λ c. option_map (λ cs. c ∷ cs) rest) c ≡ Some js → length js ≡ length (b ∷ bs)
    by more None rest q h = absurd (cc)
    by more (Some c) None q h = absurd (cc)
    by more (Some c) (Some cs) q h = let is : c ∷ cs ≡ js = cc in ap length (sym is) ∙ ap suc (more cs q)

parts_fit : (r : Reading) (a : List ℕ) (i : ℕ) (bs : List (List ℕ × List ℕ)) (js : List ℕ) → length r.ids ≡ length r.forests → IsFound r a i
    → concept_numbers r bs ≡ Some js → list_any (λ b. bytes_eq a b.0) bs ≡ false
    → list_all (λ part. is_concept (of_owners (owners_from 0 r.forests)) part && is_cross (of_owners (owners_from 0 r.forests)) (i, part)) js ≡ true
parts_fit r a i [] js named f e o = let is : [] ≡ js = cc in ap (list_all (λ part. is_concept (of_owners (owners_from 0 r.forests)) part && is_cross (of_owners (owners_from 0 r.forests)) (i, part))) (sym is)
parts_fit r a i (b ∷ bs) js named f e o =
    let parts = or_parts (bytes_eq a b.0) (list_any (λ b. bytes_eq a b.0) bs) o in
    by (λ cs q. parts_fit r a i bs cs named f q parts.1) parts.0 (concept_number r b) refl (concept_numbers r bs) refl e
  where
    test : ℕ → Bool
    test part = is_concept (of_owners (owners_from 0 r.forests)) part && is_cross (of_owners (owners_from 0 r.forests)) (i, part)

    by : ((cs : List ℕ) → concept_numbers r bs ≡ Some cs → list_all (λ part. is_concept (of_owners (owners_from 0 r.forests)) part && is_cross (of_owners (owners_from 0 r.forests)) (i, part)) cs ≡ true)
        → bytes_eq a b.0 ≡ false
        → (c : Option ℕ) → concept_number r b ≡ c → (rest : Option (List ℕ)) → concept_numbers r bs ≡ rest
        → option_and_then (λ c. option_map (λ cs. c ∷ cs) rest) c ≡ Some js
        → list_all (λ part. is_concept (of_owners (owners_from 0 r.forests)) part && is_cross (of_owners (owners_from 0 r.forests)) (i, part)) js ≡ true
    by more other None p rest q h = absurd (cc)
    by more other (Some c) p None q h = absurd (cc)
    by more other (Some c) p (Some cs) q h =
        let is : c ∷ cs ≡ js = cc in
        let g = number_found r b c named p in
        ap (list_all (λ part. is_concept (of_owners (owners_from 0 r.forests)) part && is_cross (of_owners (owners_from 0 r.forests)) (i, part))) (sym is)
        ∙ all2 _ _ (all2 _ _ (lt-ltb c _ g.within) (ap not (apart r a b.0 i c f g other))) (more cs q)

references_length : (words : List (List ℕ)) (bs : List (List ℕ × List ℕ)) → references_of words ≡ Some bs → length bs ≡ length words
references_length [] bs e = let is : [] ≡ bs = cc in ap length (sym is)
references_length (w ∷ ws) bs e = by (references_length ws) (reference_of w) (references_of ws) refl e
  where
    by : ((cs : List (List ℕ × List ℕ)) → references_of ws ≡ Some cs → length cs ≡ length ws) → (a : Option (List ℕ × List ℕ)) (rest : Option (List (List ℕ × List ℕ))) → references_of ws ≡ rest
        → option_and_then (λ reference. option_map (λ others. reference ∷ others) rest) a ≡ Some bs → length bs ≡ length (w ∷ ws)
    by more None rest q h = absurd (cc)
    by more (Some a) None q h = absurd (cc)
    by more (Some a) (Some cs) q h = let is : a ∷ cs ≡ bs = cc in ap length (sym is) ∙ ap suc (more cs q)

kept_sum : (r : Reading) (whole : List ℕ) (parts : List (List ℕ)) (next : Reading) → 2 ≤ length parts → IsKept r → after_sum r whole parts ≡ Ok next → IsKept next
kept_sum r whole parts next two k e =
    let p = fail_if-Ok (not (in_articulations r.place)) _ _ next e in
    let a = need-Ok (reference_of whole) _ _ next p.1 in
    let bs = need-Ok (references_of parts) _ _ next a.2 in
    let i = need-Ok (concept_number r a.0) _ _ next bs.2 in
    let js = need-Ok (concept_numbers r bs.0) _ _ next i.2 in
    let others = fail_if-Ok (list_any (λ b. bytes_eq a.0.0 b.0) bs.0) _ _ next js.2 in
    let once = fail_if-Ok (not (all_different js.0)) _ _ next others.1 in
    let f = number_found r a.0 i.0 k.named i.1 in
    let m = numbers_length r bs.0 js.0 js.1 in
    let n = references_length parts bs.0 bs.1 in
    kept_articulation r (Sum i.0 js.0) next k
    (all3 _ _ _ (lt-ltb i.0 _ f.within) (lt-ltb 1 (length js.0) (omega arith)) (parts_fit r a.0.0 i.0 bs.0 js.0 k.named f js.1 others.0))
    (not-false (all_different js.0) once.0)
    once.1

kept_taxonomy_line : (r : Reading) (id : List ℕ) (next : Reading) → IsKept r → after_form r (TaxonomyLine id) ≡ Ok next → IsKept next
kept_taxonomy_line r id next k e =
    let a = fail_if-Ok (not (is_taxonomy_name id)) _ _ next e in
    let b = fail_if-Ok (list_any (bytes_eq id) r.ids) _ _ next a.1 in
    let full = fail_if-Ok (nat_le 8 (length r.ids)) _ (Ok (with_taxonomy r id)) next b.1 in
    let short : length r.ids < 8 = elim (cases_lt (length r.ids) 8) [
      | inl lt ↦ lt
      | inr le ↦ absurd (true≢false (sym (le-leb 8 (length r.ids) le) ∙ full.0))
    ] in
    let is : with_taxonomy r id ≡ next = cc in
    subst IsKept is (kept_taxonomy r id k short)

kept_place : (r : Reading) → IsKept r → IsKept (record r { place = InArticulations })
kept_place r k = record { named = k.named; eight = k.eight; concepts = k.concepts; few = k.few; hold = k.hold; placed = λ h. absurd (true≢false (sym h)); fit = k.fit; said = k.said }

-- each line keeps it
pub kept_form : (r : Reading) (form : Form) (next : Reading) → IsWell form → IsKept r → after_form r form ≡ Ok next → IsKept next
kept_form r Blank next well k e = let is : r ≡ next = cc in subst IsKept is k
kept_form r (TaxonomyLine id) next well k e = kept_taxonomy_line r id next k e
kept_form r ArticulationLine next well k e = let is : record r { place = InArticulations } ≡ next = cc in subst IsKept is (kept_place r k)
kept_form r (RowLine names) next well k e = kept_row r names next k e
kept_form r (PairEntry left relation right) next well k e = kept_pair r left relation right next k e
kept_form r (SumEntry whole parts) next well k e = kept_sum r whole parts next well k e
kept_form r NoForm next well k e = absurd (cc)

pub kept_line : (r : Reading) (line : List ℕ) (next : Reading) → IsKept r → after_line r line ≡ Ok next → IsKept next
kept_line r line next k e = kept_form r (form_of (tokens_of line)) next (well_form (tokens_of line)) k e

-- so where a line was taken in, it is still kept
pub kept_taken : {E : Type 0} (r : Reading) (line : List ℕ) (form : Form) (next : Reading) (taken : Result (Unit {0}) E) → IsKept r → form ≡ form_of (tokens_of line)
    → OnOk taken (after_form r form ≡ Ok next) → OnOk taken (IsKept next)
kept_taken r line form next (Ok done) k is ok = kept_line r line next k (ap (after_form r) (sym is) ∙ ok)
kept_taken r line form next (Err fault) k is ok = tt

-- the articulations fit the problem that is made
pub fit_kept : (r : Reading) (switches : Switches) → IsKept r → all_fit r.forests r.articulations switches ≡ true
fit_kept r switches k = k.fit

-- the problem that is made keeps all articulations and narrows nothing
pub as_read_built : (p : Problem) (r : Reading) (switches : Switches) → p ≡ problem_of r.ids r.forests r.articulations switches → IsAsRead p
as_read_built p r switches e = subst IsAsRead (sym e) (record { all_kept = refl; not_narrowed = refl })
