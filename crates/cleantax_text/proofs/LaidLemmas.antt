-- The printed taxonomies of a problem are those of its forests.
use Rattle.std.proofs.Common.{◌≡◌, ◌≢◌, ◌+◌, ◌-◌, ◌<◌, ◌≤◌, ◌==◌, ◌⊎◌, ℕ, suc, zero, true, false, List, [], ◌∷◌, ◌++◌, All, AllPairs, length, map, take, get_or, refl, sym, ap, subst, ◌∙◌, inl, inr, arith, append_assoc}
use Rattle.std.specs.Prelude.{sum_by, codes, bytes_eq, flat_map, if◌then◌else◌}
use Rattle.std.specs.List.{list_any, range_with_len}
use Rattle.std.proofs.lemmas.Bool.{eq-eqb, ne_eqb, false_from_ne_true}
use Rattle.std.proofs.lemmas.List.{append-nil, length-map, length-take-le, get_or-take, get_or-map, get_or_default, take_more, take_all}
use Rattle.std.proofs.lemmas.List.Folds.{list_any_none}
use Rattle.std.proofs.lemmas.List.Sums.{sum_by_more_le}
use Rattle.std.proofs.lemmas.Grind.{flat_map-append}
use Rattle.std.proofs.lemmas.Slice.Eq.{bytes_eq-Decides}
use Rattle.taxon_tree.specs.Trees.{Trees, no_trees, children_of as forest_children, IsForest}
use Rattle.world_model.specs.Problem.{Problem, concept_count, owner_of, children_of}
use Rattle.world_model.specs.declared.Articulation.{Articulation}
use Rattle.world_model.specs.declared.Switches.{Switches}
use Rattle.constraint_set.specs.Build.{size_of, children_from, problem_of}
use Rattle.constraint_set.proofs.Lists.{range_split}
use Rattle.constraint_set.proofs.Laying.{Placed, placed, name_at, base, forest_at, base_suc, first_at, later_at, up_all}
use Rattle.constraint_set.specs.Readers.{name_of}
use Rattle.cleantax_text.specs.Canonical.{spaced, taxonomy_text}
use Rattle.cleantax_text.specs.Pieces.{heading, family, headings, families, taxonomies_text}
use Rattle.cleantax_text.specs.Reading.{Place, Before, InTaxonomy, Reading, nothing_read}
use Rattle.cleantax_text.proofs.NamedLemmas.{IsConceptName, IsTaxonomyName}
use Rattle.cleantax_text.proofs.OwnerLemmas.{owner_at, length-owners_from}
use Rattle.cleantax_text.proofs.PieceLemmas.{pieces_next, taxonomy_is}
use Rattle.cleantax_text.proofs.ScanLemmas.{Reads, reads_nothing, reads_more}
use Rattle.cleantax_text.proofs.RowsBackLemmas.{row_line, growing, head_line, kids_line, heads, kids_lines, reads_forest, id_line, reads_id}

-- pieces of numbers
same_pieces : (f g : ℕ → List ℕ) (a b n : ℕ) → ((i : ℕ) → i < n → f (a + i) ≡ g (b + i)) → flat_map f (range_with_len a n) ≡ flat_map g (range_with_len b n)
same_pieces f g a b zero h = refl
same_pieces f g a b (suc n) h =
    let x : a ≡ a + 0 = omega arith in
    let y : b + 0 ≡ b = omega arith in
    ap (λ p. p ++ flat_map f (range_with_len (a + 1) n)) (ap f x ∙ h 0 (omega arith) ∙ ap g y)
    ∙ ap (λ p. g b ++ p) (same_pieces f g (a + 1) (b + 1) n (λ i lt.
    let x : a + 1 + i ≡ a + suc i = omega arith in
    let y : b + suc i ≡ b + 1 + i = omega arith in
    ap f x ∙ h (suc i) (omega arith) ∙ ap g y))

no_pieces : (f : ℕ → List ℕ) (a n : ℕ) → ((i : ℕ) → i < n → f (a + i) ≡ []) → flat_map f (range_with_len a n) ≡ []
no_pieces f a zero h = refl
no_pieces f a (suc n) h =
    let x : a ≡ a + 0 = omega arith in
    ap (λ p. p ++ flat_map f (range_with_len (a + 1) n)) (ap f x ∙ h 0 (omega arith))
    ∙ no_pieces f (a + 1) n (λ i lt. let x : a + 1 + i ≡ a + suc i = omega arith in ap f x ∙ h (suc i) (omega arith))

-- of all numbers, those of one block have a piece
block_pieces : (f g : ℕ → List ℕ) (a n rest all : ℕ) → all ≡ a + n + rest → ((c : ℕ) → c < a → f c ≡ []) → ((i : ℕ) → i < n → f (a + i) ≡ g i) → ((c : ℕ) → a + n ≤ c → c < all → f c ≡ [])
    → flat_map f (range_with_len 0 all) ≡ flat_map g (range_with_len 0 n)
block_pieces f g a n rest all is below here above =
    let z : 0 + a ≡ a = omega arith in
    let w : 0 + (a + n) ≡ a + n = omega arith in
    ap (λ m. flat_map f (range_with_len 0 m)) is
    ∙ ap (flat_map f) (range_split 0 (a + n) rest ∙ ap (λ l. l ++ range_with_len (0 + (a + n)) rest) (range_split 0 a n))
    ∙ flat_map-append f (range_with_len 0 a ++ range_with_len (0 + a) n) (range_with_len (0 + (a + n)) rest)
    ∙ ap (λ p. flat_map f (range_with_len 0 a ++ range_with_len (0 + a) n) ++ p)
    (no_pieces f (0 + (a + n)) rest (λ i lt. above (0 + (a + n) + i) (omega arith) (omega arith)))
    ∙ append-nil (flat_map f (range_with_len 0 a ++ range_with_len (0 + a) n))
    ∙ flat_map-append f (range_with_len 0 a) (range_with_len (0 + a) n)
    ∙ ap (λ p. p ++ flat_map f (range_with_len (0 + a) n))
    (no_pieces f 0 a (λ i lt. let e : 0 + i ≡ i = omega arith in ap f e ∙ below i lt))
    ∙ same_pieces f g (0 + a) 0 n (λ i lt.
    let e : 0 + a + i ≡ a + i = omega arith in
    let h : i ≡ 0 + i = omega arith in
    ap f e ∙ here i lt ∙ ap g h)

children_at : (b : ℕ) (fs : List Trees) (k i : ℕ) → All IsForest fs → k < length fs → i < size_of (forest_at fs k) →
    get_or (children_from b fs) (base fs k + i) [] ≡ up_all (b + base fs k) (forest_children (forest_at fs k) i)
children_at b [] k i hold h within = absurd (omega arith)
children_at b (f ∷ fs) zero i hold h within =
    let counted : length f.children ≡ size_of f = (hold 0 f (omega arith)).children_counted in
    let e : b ≡ b + 0 = omega arith in
    first_at (map (up_all b) f.children) (children_from (b + size_of f) fs) (size_of f) i [] (length-map {B = List ℕ} f.children (up_all b) ∙ counted) within
    ∙ get_or-map (up_all b) f.children i [] [] (omega (arith, counted))
    ∙ ap (λ n. up_all n (forest_children f i)) e
children_at b (f ∷ fs) (suc k) i hold h within =
    let counted : length f.children ≡ size_of f = (hold 0 f (omega arith)).children_counted in
    let e : b + size_of f + base fs k ≡ b + base (f ∷ fs) (suc k) = omega (arith, base_suc f fs k) in
    ap (λ m. get_or (children_from b (f ∷ fs)) (m + i) []) (base_suc f fs k)
    ∙ later_at (map (up_all b) f.children) (children_from (b + size_of f) fs) (size_of f) (base fs k) i [] (length-map {B = List ℕ} f.children (up_all b) ∙ counted)
    ∙ children_at (b + size_of f) fs k i (λ j d lt. hold (suc j) d (omega arith)) (omega arith) within
    ∙ ap (λ n. up_all n (forest_children (forest_at fs k) i)) e

-- a row, or nothing for a concept without children
abbrev shape : List ℕ → ℕ → List (List ℕ) → List ℕ
shape name n kids = if n == 0 then [] else codes "(" ++ name ++ spaced kids ++ codes ")\n"

shape_is : (name : List ℕ) (n : ℕ) (kids : List (List ℕ)) → shape name n kids ≡ (if n == 0 then [] else row_line name kids ++ 10 ∷ [])
shape_is name n kids = ap (λ t. if n == 0 then [] else 40 ∷ t)
    (append_assoc name (spaced kids) (41 ∷ 10 ∷ [])
    ∙ ap (λ t. name ++ t) (sym (append_assoc (spaced kids) (41 ∷ []) (10 ∷ [])))
    ∙ sym (append_assoc name (spaced kids ++ 41 ∷ []) (10 ∷ [])))

moved_names : (names all : List (List ℕ)) (b : ℕ) (kids : List ℕ) → ((i : ℕ) → i < length names → get_or all (b + i) [] ≡ get_or names i []) → All (λ c. c < length names) kids
    → map (λ c. get_or all c []) (up_all b kids) ≡ map (λ c. get_or names c []) kids
moved_names names all b [] h within = refl
moved_names names all b (c ∷ cs) h within =
    ap (λ n. n ∷ map (λ c. get_or all c []) (up_all b cs)) (h c (within 0 c (omega arith)))
    ∙ ap (λ ns. get_or names c [] ∷ ns) (moved_names names all b cs h (λ j d lt. within (suc j) d (omega arith)))

-- a problem as read of these parts
module _ (ids : List (List ℕ)) (fs : List Trees) (arts : List Articulation) (switches : Switches) (holds : All IsForest fs) where
  abbrev pub whole : Problem
  whole = problem_of ids fs arts switches

  pub counted : concept_count whole ≡ sum_by size_of fs
  counted = length-owners_from 0 fs

  pub owner_is : (k i : ℕ) → k < length fs → i < size_of (forest_at fs k) → owner_of whole (base fs k + i) ≡ k
  owner_is k i h within = let e : 0 + k ≡ k = omega arith in owner_at 0 k fs i h within ∙ e

  -- a concept outside a forest has another owner
  outside : (k c : ℕ) → k < length fs → c < concept_count whole → (c < base fs k) ⊎ (base fs k + size_of (forest_at fs k) ≤ c) → (owner_of whole c == k) ≡ false
  outside k c h lt apart =
      let x : Placed fs c = placed fs c (omega (arith, counted)) in
      let in_forest : x.local < size_of (forest_at fs x.which) = x.in_forest in
      let is : c ≡ base fs x.which + x.local = x.is in
      let owner : owner_of whole c ≡ x.which = ap (owner_of whole) is ∙ owner_is x.which x.local x.in_forests x.in_forest in
      ne_eqb (owner_of whole c) k (λ same.
      let w : x.which ≡ k = sym owner ∙ same in
      let bases : base fs x.which ≡ base fs k = ap (base fs) w in
      let sizes : size_of (forest_at fs x.which) ≡ size_of (forest_at fs k) = ap (λ j. size_of (forest_at fs j)) w in
      elim apart [ inl low ↦ omega arith | inr up ↦ omega arith ])

  module _ (k : ℕ) (h : k < length fs) where
    abbrev this : Trees
    this = forest_at fs k

    this_holds : IsForest this
    this_holds = holds k no_trees h

    name_here : (i : ℕ) → i < size_of this → name_of whole (base fs k + i) ≡ get_or this.names i []
    name_here i lt = name_at fs k i h lt

    children_here : (i : ℕ) → i < size_of this → children_of whole (base fs k + i) ≡ up_all (base fs k) (forest_children this i)
    children_here i lt = let e : 0 + base fs k ≡ base fs k = omega arith in children_at 0 fs k i holds h lt ∙ ap (λ b. up_all b (forest_children this i)) e

    rest_of : concept_count whole ≡ base fs k + size_of this + (concept_count whole - (base fs k + size_of this))
    rest_of = omega (arith, counted, sum_by_more_le size_of fs k no_trees h)

    mine : (i : ℕ) → i < size_of this → (owner_of whole (base fs k + i) == k) ≡ true
    mine i lt = eq-eqb _ k (owner_is k i h lt)

    below_all : (c : ℕ) → c < base fs k → c < concept_count whole
    below_all c lt = omega (arith, rest_of)

    headings_forest : headings whole k (concept_count whole) ≡ heads this (length this.names)
    headings_forest = block_pieces (heading whole k) (head_line this) (base fs k) (size_of this) (concept_count whole - (base fs k + size_of this)) (concept_count whole) rest_of
        (λ c lt. ap (λ b. if b then codes "(" ++ name_of whole c ++ codes ")\n" else []) (outside k c h (below_all c lt) (inl lt)))
        (λ i lt. ap (λ b. if b then codes "(" ++ name_of whole (base fs k + i) ++ codes ")\n" else []) (mine i lt)
        ∙ ap (λ n. codes "(" ++ n ++ codes ")\n") (name_here i lt)
        ∙ ap (λ t. 40 ∷ t) (sym (append_assoc (get_or this.names i []) (41 ∷ []) (10 ∷ []))))
        (λ c le lt. ap (λ b. if b then codes "(" ++ name_of whole c ++ codes ")\n" else []) (outside k c h lt (inr le)))

    families_forest : families whole k (concept_count whole) ≡ kids_lines this (length this.names)
    families_forest = block_pieces (family whole k) (kids_line this) (base fs k) (size_of this) (concept_count whole - (base fs k + size_of this)) (concept_count whole) rest_of
        (λ c lt. ap (λ b. if b then shape (name_of whole c) (length (children_of whole c)) (map (name_of whole) (children_of whole c)) else []) (outside k c h (below_all c lt) (inl lt)))
        (λ i lt.
        let kids = forest_children this i in
        let e = children_here i lt in
        ap (λ b. if b then shape (name_of whole (base fs k + i)) (length (children_of whole (base fs k + i))) (map (name_of whole) (children_of whole (base fs k + i))) else []) (mine i lt)
        ∙ ap (λ n. shape n (length (children_of whole (base fs k + i))) (map (name_of whole) (children_of whole (base fs k + i)))) (name_here i lt)
        ∙ ap (λ l. shape (get_or this.names i []) (length l) (map (name_of whole) l)) e
        ∙ ap (λ n. shape (get_or this.names i []) n (map (name_of whole) (up_all (base fs k) kids))) (length-map {B = ℕ} kids (λ c. base fs k + c))
        ∙ ap (shape (get_or this.names i []) (length kids)) (moved_names this.names (flat_map (λ (f : Trees). f.names) fs) (base fs k) kids (λ j within. name_here j within) (this_holds.children_within i))
        ∙ shape_is (get_or this.names i []) (length kids) (map (λ c. get_or this.names c []) kids))
        (λ c le lt. ap (λ b. if b then shape (name_of whole c) (length (children_of whole c)) (map (name_of whole) (children_of whole c)) else []) (outside k c h lt (inr le)))

    -- the text of a taxonomy is its line and the lines of its forest
    pub taxonomy_forest : taxonomy_text whole k ≡ (id_line (get_or ids k []) ++ 10 ∷ []) ++ (heads this (length this.names) ++ kids_lines this (length this.names))
    taxonomy_forest =
        sym (taxonomy_is whole k)
        ∙ ap (λ t. (id_line (get_or ids k []) ++ 10 ∷ []) ++ t ++ families whole k (concept_count whole)) headings_forest
        ∙ ap (λ t. (id_line (get_or ids k []) ++ 10 ∷ []) ++ heads this (length this.names) ++ t) families_forest
        ∙ append_assoc (id_line (get_or ids k []) ++ 10 ∷ []) (heads this (length this.names)) (kids_lines this (length this.names))

  -- what the texts of the first k taxonomies give
  record Listed (k : ℕ) : Type 0 where
    place : Place
    read : Reads nothing_read (taxonomies_text whole k) (record { ids = take k ids; forests = take k fs; articulations = []; place = place })

  module _ (named : length ids ≡ length fs) (eight : length ids ≤ 8) (concepts : sum_by size_of fs ≤ 1024) (are_ids : All IsTaxonomyName ids) (apart : AllPairs (λ x y. x ≢ y) ids)
      (are_names : All (λ f. All IsConceptName f.names) fs) where
    new_id : (k : ℕ) → k < length ids → list_any (bytes_eq (get_or ids k [])) (take k ids) ≡ false
    new_id k lt = list_any_none (bytes_eq (get_or ids k [])) (take k ids) (λ j d within.
        let n = length-take-le k ids (omega arith) in
        let at : get_or (take k ids) j d ≡ get_or ids j [] = get_or_default (take k ids) j d [] within ∙ get_or-take k ids j [] (omega arith) in
        false_from_ne_true (bytes_eq (get_or ids k []) (get_or (take k ids) j d)) (λ same.
        apart j k [] (omega arith) lt (sym at ∙ sym ((bytes_eq-Decides (get_or ids k []) (get_or (take k ids) j d)).0 same))))

    one_more : (k : ℕ) → k < length fs → Listed k → Listed (k + 1)
    one_more k lt was =
        let id = get_or ids k [] in
        let f = forest_at fs k in
        let n = length-take-le k ids (omega (arith, named)) in
        let start : Reading = record { ids = take k ids; forests = take k fs; articulations = []; place = was.place } in
        let middle = growing (take k ids ++ id ∷ []) (take k fs) no_trees in
        let end = growing (take k ids ++ id ∷ []) (take k fs) f in
        let room : sum_by size_of (take k fs) + size_of f ≤ 1024 = omega (arith, sum_by_more_le size_of fs k no_trees lt) in
        let first : Reads start (id_line id ++ 10 ∷ []) middle = reads_id start id (are_ids k [] (omega (arith, named))) (new_id k (omega (arith, named))) (omega (arith, named)) in
        let rest : Reads middle (heads f (length f.names) ++ kids_lines f (length f.names)) end = reads_forest (take k ids ++ id ∷ []) (take k fs) f (holds k no_trees lt) (are_names k no_trees lt) room in
        let here : Reads start (taxonomy_text whole k) end = subst (λ t. Reads start t end) (sym (taxonomy_forest k lt)) (reads_more start middle end (id_line id ++ 10 ∷ []) (heads f (length f.names) ++ kids_lines f (length f.names)) first rest) in
        let all : Reads nothing_read (taxonomies_text whole (k + 1)) end = subst (λ t. Reads nothing_read t end) (sym (pieces_next (taxonomy_text whole) k)) (reads_more nothing_read start end (taxonomies_text whole k) (taxonomy_text whole k) was.read here) in
        record {
          place = InTaxonomy;
          read = subst (λ xs. Reads nothing_read (taxonomies_text whole (k + 1)) (record { ids = xs; forests = take (k + 1) fs; articulations = []; place = InTaxonomy })) (sym (take_more ids k [] (omega (arith, named))))
              (subst (λ xs. Reads nothing_read (taxonomies_text whole (k + 1)) (record { ids = take k ids ++ id ∷ []; forests = xs; articulations = []; place = InTaxonomy })) (sym (take_more fs k no_trees lt)) all);
        }

    listed : (k : ℕ) → k ≤ length fs → Listed k
    listed zero le = record { place = Before; read = reads_nothing nothing_read }
    listed (suc k) le = let s : k + 1 ≡ suc k = omega arith in subst Listed s (one_more k (omega arith) (listed k (omega arith)))

    -- the texts of all taxonomies give them
    pub taxonomies_read : (place : Place) × Reads nothing_read (taxonomies_text whole (length ids)) (record { ids = ids; forests = fs; articulations = []; place = place })
    taxonomies_read =
        let all = listed (length fs) (omega arith) in (
          all.place,
          subst (λ n. Reads nothing_read (taxonomies_text whole n) (record { ids = ids; forests = fs; articulations = []; place = all.place })) (sym named)
              (subst (λ xs. Reads nothing_read (taxonomies_text whole (length fs)) (record { ids = xs; forests = fs; articulations = []; place = all.place })) (take_all (length fs) ids (omega (arith, named)))
              (subst (λ xs. Reads nothing_read (taxonomies_text whole (length fs)) (record { ids = take (length fs) ids; forests = xs; articulations = []; place = all.place })) (take_all (length fs) fs (omega arith)) all.read)),
        )
