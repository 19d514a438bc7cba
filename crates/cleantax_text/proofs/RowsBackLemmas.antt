-- The printed lines of a taxonomy give its forest.
use Rattle.std.proofs.Common.{◌≡◌, ◌+◌, ◌-◌, ◌<◌, ◌≤◌, ◌==◌, ℕ, suc, zero, true, false, not, List, [], ◌∷◌, ◌++◌, Ok, All, length, map, get_or, set, refl, sym, ap, subst, ◌∙◌, arith, append_assoc}
use Rattle.std.specs.Prelude.{sum_by, codes, bytes_eq, nat_le, flat_map, if◌then◌else◌}
use Rattle.std.specs.List.{list_all, list_any, AllByRecursion, range_with_len}
use Rattle.std.proofs.lemmas.Bool.{and_parts, and_from, lt-leb, ne_eqb}
use Rattle.std.proofs.lemmas.List.{append-nil, length_push, get_or_at, set_at, take_at}
use Rattle.std.proofs.lemmas.List.Elements.{recursion_from_All}
use Rattle.taxon_tree.specs.Trees.{Trees, no_trees, name_of, children_of, IsForest}
use Rattle.taxon_tree.specs.Row.{add_row}
use Rattle.constraint_set.specs.Build.{size_of}
use Rattle.cleantax_text.specs.declared.TextKind.TheVariants.{BadName, TaxonomyTwice, TaxonomyCount}
use Rattle.text_words.specs.Tokens.{Bracket, Word, tokens_after}
use Rattle.text_words.specs.Words.{is_name, is_taxonomy_name}
use Rattle.cleantax_text.specs.Forms.{RowLine, form_of, row_form}
use Rattle.cleantax_text.specs.Canonical.{spaced}
use Rattle.cleantax_text.specs.Reading.{InTaxonomy, Reading, fail_if, with_taxonomy, concepts_before, last_number, last_forest, with_forest, after_form}
use Rattle.cleantax_text.proofs.NamedLemmas.{IsConceptName, IsTaxonomyName}
use Rattle.cleantax_text.proofs.ScanLemmas.{IsPrinted, printed_append, printed_low, printed_name, printed_spaced, Reads, reads_nothing, reads_more, reads_line, IsWord, scan_word, scan_spaced, spaced_ends, words_before, word_of_name}
use Rattle.cleantax_text.proofs.RegrowLemmas.{HasNames, names_none, names_more, HasRow, row_more, rows_none, rows_next, rows_all}
use Rattle.cleantax_text.proofs.PieceLemmas.{pieces_next}

-- a row of a name and others
abbrev pub row_line : List ℕ → List (List ℕ) → List ℕ
row_line name kids = 40 ∷ (name ++ (spaced kids ++ 41 ∷ []))

pub printed_names : (words : List (List ℕ)) → AllByRecursion IsConceptName words → AllByRecursion IsPrinted words
printed_names [] h = tt
printed_names (w ∷ ws) h = (printed_name w h.0.clean h.0.name, printed_names ws h.1)

pub words_of_names : (words : List (List ℕ)) → AllByRecursion IsConceptName words → AllByRecursion IsWord words
words_of_names [] h = tt
words_of_names (w ∷ ws) h = (word_of_name w h.0.clean h.0.name, words_of_names ws h.1)

all_names : (words : List (List ℕ)) → AllByRecursion IsConceptName words → list_all is_name words ≡ true
all_names [] h = refl
all_names (w ∷ ws) h = and_from (is_name w) (list_all is_name ws) h.0.name (all_names ws h.1)

printed_row : (name : List ℕ) (kids : List (List ℕ)) → IsConceptName name → AllByRecursion IsConceptName kids → IsPrinted (row_line name kids)
printed_row name kids n ks =
    printed_append (40 ∷ []) (name ++ (spaced kids ++ 41 ∷ [])) (printed_low (40 ∷ []) refl refl)
    (printed_append name (spaced kids ++ 41 ∷ []) (printed_name name n.clean n.name)
    (printed_append (spaced kids) (41 ∷ []) (printed_spaced kids (printed_names kids ks)) (printed_low (41 ∷ []) refl refl)))

-- its form
row_read : (name : List ℕ) (kids : List (List ℕ)) → IsConceptName name → AllByRecursion IsConceptName kids → form_of (tokens_after [] (row_line name kids)) ≡ RowLine (name ∷ kids)
row_read name kids n ks =
    let w : IsWord name = word_of_name name n.clean n.name in
    let tokens : tokens_after [] (name ++ (spaced kids ++ 41 ∷ [])) ≡ map Word (name ∷ kids) ++ Bracket 41 ∷ [] =
    scan_word name (spaced kids ++ 41 ∷ []) w.some w.bytes (spaced_ends kids (41 ∷ []) refl)
    ∙ ap (λ ts. Word name ∷ ts) (scan_spaced kids (41 ∷ []) (words_of_names kids ks) refl) in
    ap (λ ts. form_of (Bracket 40 ∷ ts)) tokens ∙ ap row_form (words_before 41 (name ∷ kids) refl)

-- the reader within a taxonomy: the forests before, and the one that grows
module _ (ids : List (List ℕ)) (before : List Trees) where
  abbrev pub growing : Trees → Reading
  growing g = record { ids = ids; forests = before ++ g ∷ []; articulations = []; place = InTaxonomy }

  abbrev pub limit_after : ℕ
  limit_after = 1024 - sum_by size_of before

  last_is : (g : Trees) → last_number (growing g) ≡ length before
  last_is g = let n = length_push before g in omega arith

  row_grows : (g next : Trees) (name : List ℕ) (kids : List (List ℕ)) → IsConceptName name → AllByRecursion IsConceptName kids → add_row limit_after g (name ∷ kids) ≡ Ok next
      → after_form (growing g) (RowLine (name ∷ kids)) ≡ Ok (growing next)
  row_grows g next name kids n ks e =
      let r = growing g in
      let names : list_all is_name (name ∷ kids) ≡ true = all_names (name ∷ kids) (n, ks) in
      let so_far : concepts_before r (last_number r) ≡ sum_by size_of before = ap (concepts_before r) (last_is g) ∙ ap (sum_by size_of) (take_at before (g ∷ []) (length before) refl) in
      let last : last_forest r ≡ g = ap (λ k. get_or (before ++ g ∷ []) k no_trees) (last_is g) ∙ get_or_at before g [] no_trees (length before) refl in
      let made : add_row (1024 - concepts_before r (last_number r)) (last_forest r) (name ∷ kids) ≡ Ok next =
      ap (λ k. add_row (1024 - k) (last_forest r) (name ∷ kids)) so_far ∙ ap (λ f. add_row limit_after f (name ∷ kids)) last ∙ e in
      let set : set (before ++ g ∷ []) (last_number r) next ≡ before ++ next ∷ [] = ap (λ k. set (before ++ g ∷ []) k next) (last_is g) ∙ set_at before g [] next (length before) refl in
      ap (λ b. fail_if (not b) BadName (with_forest r (add_row (1024 - concepts_before r (last_number r)) (last_forest r) (name ∷ kids)))) names
      ∙ ap (with_forest r) made
      ∙ ap (λ fs. Ok (record r { forests = fs })) set

  reads_row : (g next : Trees) (name : List ℕ) (kids : List (List ℕ)) → IsConceptName name → AllByRecursion IsConceptName kids → add_row limit_after g (name ∷ kids) ≡ Ok next
      → Reads (growing g) (row_line name kids ++ 10 ∷ []) (growing next)
  reads_row g next name kids n ks e =
      reads_line (growing g) (growing next) (row_line name kids) (printed_row name kids n ks)
      (ap (after_form (growing g)) (row_read name kids n ks) ∙ row_grows g next name kids n ks e)

-- the lines of a forest: for each concept, and for each with children
abbrev pub head_line : Trees → ℕ → List ℕ
head_line f k = row_line (name_of f k) [] ++ 10 ∷ []

abbrev pub kids_line : Trees → ℕ → List ℕ
kids_line f k = if length (children_of f k) == 0 then [] else row_line (name_of f k) (map (name_of f) (children_of f k)) ++ 10 ∷ []

abbrev pub heads : Trees → ℕ → List ℕ
heads f n = flat_map (head_line f) (range_with_len 0 n)

abbrev pub kids_lines : Trees → ℕ → List ℕ
kids_lines f n = flat_map (kids_line f) (range_with_len 0 n)

names_at : (f : Trees) (kids : List ℕ) → All IsConceptName f.names → AllByRecursion (λ c. c < length f.names) kids → AllByRecursion IsConceptName (map (name_of f) kids)
names_at f [] named h = tt
names_at f (c ∷ cs) named h = (named c [] h.0, names_at f cs named h.1)

module _ (ids : List (List ℕ)) (before : List Trees) (f : Trees) (holds : IsForest f) (named : All IsConceptName f.names) (room : sum_by size_of before + size_of f ≤ 1024) where
  fits : length f.names ≤ limit_after ids before
  fits = omega arith

  -- what the lines of the first k concepts give
  record Headed (k : ℕ) : Type 0 where
    made : Trees
    has : HasNames f k made
    read : Reads (growing ids before no_trees) (heads f k) (growing ids before made)

  headed : (k : ℕ) → k ≤ length f.names → Headed k
  headed zero le = record { made = no_trees; has = names_none f; read = reads_nothing (growing ids before no_trees) }
  headed (suc k) le =
      let was = headed k (omega arith) in
      let next = names_more (limit_after ids before) f holds fits k was.made (omega arith) was.has in
      let s : k + 1 ≡ suc k = omega arith in
      record {
        made = next.0;
        has = subst (λ n. HasNames f n next.0) s next.2;
        read = subst (λ n. Reads (growing ids before no_trees) (heads f n) (growing ids before next.0)) s
            (subst (λ t. Reads (growing ids before no_trees) t (growing ids before next.0)) (sym (pieces_next (head_line f) k))
            (reads_more (growing ids before no_trees) (growing ids before was.made) (growing ids before next.0) (heads f k) (head_line f k) was.read
            (reads_row ids before was.made next.0 (name_of f k) [] (named k [] (omega arith)) tt next.1)));
      }

  -- and then those of the first k that have children
  record Rowed (k : ℕ) : Type 0 where
    made : Trees
    has : HasRow f k [] made
    read : Reads (growing ids before no_trees) (heads f (length f.names) ++ kids_lines f k) (growing ids before made)

  one_row : (k : ℕ) (g : Trees) → k < length f.names → HasRow f k [] g → (next : Trees) × HasRow f (k + 1) [] next × Reads (growing ids before g) (kids_line f k) (growing ids before next)
  one_row k g lt h = by (children_of f k) refl
    where
      within : AllByRecursion (λ c. c < length f.names) (children_of f k)
      within = recursion_from_All (λ c. c < length f.names) (children_of f k) (holds.children_within k)

      by : (kids : List ℕ) → children_of f k ≡ kids → (next : Trees) × HasRow f (k + 1) [] next × Reads (growing ids before g) (kids_line f k) (growing ids before next)
      by [] e = (
        g,
        rows_next f k g (subst (λ l. HasRow f k l g) (sym e) h),
        subst (λ t. Reads (growing ids before g) t (growing ids before g))
            (sym (ap (λ l. if length l == 0 then [] else row_line (name_of f k) (map (name_of f) l) ++ 10 ∷ []) e)) (reads_nothing (growing ids before g)),
      )
      by (c ∷ cs) e =
          let made = row_more (limit_after ids before) f holds k lt g h in
          let n = ap length e in
          let some : (length (children_of f k) == 0) ≡ false = ne_eqb (length (children_of f k)) 0 (λ same. omega arith) in (
            made.0,
            rows_next f k made.0 made.2,
            subst (λ t. Reads (growing ids before g) t (growing ids before made.0))
                (sym (ap (λ b. if b then [] else row_line (name_of f k) (map (name_of f) (children_of f k)) ++ 10 ∷ []) some))
                (reads_row ids before g made.0 (name_of f k) (map (name_of f) (children_of f k)) (named k [] lt) (names_at f (children_of f k) named within) made.1),
          )

  rowed : (k : ℕ) → k ≤ length f.names → Rowed k
  rowed zero le =
      let all = headed (length f.names) (omega arith) in
      record {
        made = all.made;
        has = rows_none f all.made all.has;
        read = subst (λ t. Reads (growing ids before no_trees) t (growing ids before all.made)) (sym (append-nil (heads f (length f.names)))) all.read;
      }
  rowed (suc k) le =
      let was = rowed k (omega arith) in
      let next = one_row k was.made (omega arith) was.has in
      let s : k + 1 ≡ suc k = omega arith in
      record {
        made = next.0;
        has = subst (λ n. HasRow f n [] next.0) s next.1;
        read = subst (λ n. Reads (growing ids before no_trees) (heads f (length f.names) ++ kids_lines f n) (growing ids before next.0)) s
            (subst (λ t. Reads (growing ids before no_trees) t (growing ids before next.0))
            (append_assoc (heads f (length f.names)) (kids_lines f k) (kids_line f k) ∙ ap (λ t. heads f (length f.names) ++ t) (sym (pieces_next (kids_line f) k)))
            (reads_more (growing ids before no_trees) (growing ids before was.made) (growing ids before next.0) (heads f (length f.names) ++ kids_lines f k) (kids_line f k) was.read next.2));
      }

  -- the lines of a forest give it
  pub reads_forest : Reads (growing ids before no_trees) (heads f (length f.names) ++ kids_lines f (length f.names)) (growing ids before f)
  reads_forest =
      let all = rowed (length f.names) (omega arith) in
      subst (λ g. Reads (growing ids before no_trees) (heads f (length f.names) ++ kids_lines f (length f.names)) (growing ids before g)) (rows_all f holds all.made all.has) all.read

-- the line of a taxonomy
abbrev pub id_line : List ℕ → List ℕ
id_line id = codes "taxonomy " ++ id

pub taxonomy_is_name : (id : List ℕ) → is_taxonomy_name id ≡ true → is_name id ≡ true
taxonomy_is_name id e = (and_parts (is_name id) _ e).0

pub reads_id : (r : Reading) (id : List ℕ) → IsTaxonomyName id → list_any (bytes_eq id) r.ids ≡ false → length r.ids < 8 → Reads r (id_line id ++ 10 ∷ []) (with_taxonomy r id)
reads_id r id n new few =
    let w : IsWord id = word_of_name id n.clean (taxonomy_is_name id n.name) in
    let tokens : tokens_after [] (id_line id) ≡ Word (codes "taxonomy") ∷ Word id ∷ [] =
    scan_word (codes "taxonomy") (32 ∷ id) (omega arith) refl refl
    ∙ ap (λ ts. Word (codes "taxonomy") ∷ ts) (ap (tokens_after []) (sym (append-nil id)) ∙ scan_word id [] w.some w.bytes tt) in
    reads_line r (with_taxonomy r id) (id_line id) (printed_append (codes "taxonomy ") id (printed_low (codes "taxonomy ") refl refl) (printed_name id n.clean (taxonomy_is_name id n.name)))
    (ap (λ ts. after_form r (form_of ts)) tokens
    ∙ ap (λ b. fail_if (not b) BadName (fail_if (list_any (bytes_eq id) r.ids) TaxonomyTwice (fail_if (nat_le 8 (length r.ids)) TaxonomyCount (Ok (with_taxonomy r id))))) n.name
    ∙ ap (λ b. fail_if b TaxonomyTwice (fail_if (nat_le 8 (length r.ids)) TaxonomyCount (Ok (with_taxonomy r id)))) new
    ∙ ap (λ b. fail_if b TaxonomyCount (Ok (with_taxonomy r id))) (lt-leb 8 (length r.ids) few))
