-- The concepts that are spoken of are in both taxonomies.
use Rattle.std.proofs.Common.{◌≡◌, ◌+◌, ◌-◌, ◌*◌, ◌<◌, ◌≤◌, ℕ, zero, suc, Bool, true, false, cond, ◌&&◌, List, [], ◌∷◌, ◌++◌, Option, None, Some, Contains, length, map, get_or, refl, sym, ap, subst, ◌∙◌, arith}
use Rattle.std.specs.Prelude.{codes, flat_map}
use Rattle.std.specs.List.{range_with_len, list_all}
use Rattle.std.proofs.lemmas.List.{length-map, get_or-map}
use Rattle.std.proofs.lemmas.List.Elements.{Contains-get_or, Contains-append_left, Contains-append_right}
use Rattle.std.proofs.lemmas.List.Folds.{list_all-append}
use Rattle.std.proofs.lemmas.List.FromFn.{length-range_with_len, get_or-range_with_len}
use Rattle.rcc5_core.specs.declared.Rel.TheVariants.{Equals}
use Rattle.rcc5_core.specs.declared.RelSet.{RelSet}
use Rattle.rcc5_core.specs.RelationSet.{only, is_empty_set}
use Rattle.taxon_tree.specs.Trees.{Trees, number_of}
use Rattle.taxon_tree.specs.Row.{place_of}
use Rattle.taxon_tree.proofs.ForestLemmas.{absent-number}
use Rattle.taxon_tree.proofs.RowLemmas.{place_of-found}
use Rattle.world_model.specs.declared.Articulation.{Articulation}
use Rattle.trial_run.specs.declared.blocks.Form.{Form}
use Rattle.trial_run.specs.declared.blocks.Form.TheVariants.{Loose, Children, WholeAndLeft, AllThree}
use Rattle.trial_run.specs.declared.blocks.Block.{Block}
use Rattle.trial_run.specs.Names.{block_name, left_name, right_name, single_name, tops, kids, trees}
use Rattle.trial_run.specs.Made.{said_of, said_by, said_of_block, articulations}
use Rattle.trial_run.specs.Plans.{BothHave, BothHaveBlock}
use Rattle.trial_run.proofs.Grown.{length-names}

-- what one list of many has, all of them together have
contains_flat : {X Y : Type 0} (f : X → List Y) (xs : List X) (k : ℕ) (d : X) (y : Y) → k < length xs → Contains (f (get_or xs k d)) y → Contains (flat_map f xs) y
contains_flat f [] k d y lt h = absurd (omega arith)
contains_flat f (x ∷ xs) zero d y lt h = Contains-append_left (f x) (flat_map f xs) y h
contains_flat f (x ∷ xs) (suc k) d y lt h = Contains-append_right (f x) (flat_map f xs) y (contains_flat f xs k d y (omega arith) h)

contains_map : {X Y : Type 0} (f : X → Y) (xs : List X) (k : ℕ) (d : X) → k < length xs → Contains (map f xs) (f (get_or xs k d))
contains_map f xs k d lt =
    let within : k < length (map f xs) = omega (arith, length-map xs f) in
    subst (Contains (map f xs)) (get_or-map f xs k d (f d) lt) (Contains-get_or (map f xs) k (f d) within)

kids_have : (swaps : Bool) (block : Block) → Contains (kids swaps block) (left_name block.number) × Contains (kids swaps block) (right_name block.number)
kids_have false block = (Contains-get_or (kids false block) 0 [] (omega arith), Contains-get_or (kids false block) 1 [] (omega arith))
kids_have true block = by block.is_swapped
  where
    left : List ℕ
    left = left_name block.number

    right : List ℕ
    right = right_name block.number

    by : (b : Bool) → Contains (cond b (right ∷ left ∷ []) (left ∷ right ∷ [])) left × Contains (cond b (right ∷ left ∷ []) (left ∷ right ∷ [])) right
    by true = (Contains-get_or (right ∷ left ∷ []) 1 [] (omega arith), Contains-get_or (right ∷ left ∷ []) 0 [] (omega arith))
    by false = (Contains-get_or (left ∷ right ∷ []) 0 [] (omega arith), Contains-get_or (left ∷ right ∷ []) 1 [] (omega arith))

module _ (swaps : Bool) (blocks : List Block) (singles : ℕ) where
  names : List (List ℕ)
  names = (trees swaps blocks singles).names

  in_tops : (name : List ℕ) → Contains (tops blocks singles) name → Contains (trees swaps blocks singles).names name
  in_tops name h = Contains-append_right (codes "r" ∷ []) (tops blocks singles ++ flat_map (kids swaps) blocks) name (Contains-append_left (tops blocks singles) (flat_map (kids swaps) blocks) name h)

  in_kids : (k : ℕ) (d : Block) (name : List ℕ) → k < length blocks → Contains (kids swaps (get_or blocks k d)) name → Contains (trees swaps blocks singles).names name
  in_kids k d name lt h =
      Contains-append_right (codes "r" ∷ []) (tops blocks singles ++ flat_map (kids swaps) blocks) name
      (Contains-append_right (tops blocks singles) (flat_map (kids swaps) blocks) name (contains_flat (kids swaps) blocks k d name lt h))

  has_whole : (k : ℕ) (d : Block) → k < length blocks → Contains (trees swaps blocks singles).names (block_name (get_or blocks k d).number)
  has_whole k d lt =
      in_tops _ (Contains-append_left (map (λ b. block_name b.number) blocks) (map single_name (range_with_len 1 singles)) _ (contains_map (λ b. block_name b.number) blocks k d lt))

  has_single : (number : ℕ) → 1 ≤ number → number ≤ singles → Contains (trees swaps blocks singles).names (single_name number)
  has_single number least most =
      let at : 1 + (number - 1) ≡ number = omega arith in
      let within : number - 1 < singles = omega arith in
      let place : number - 1 < length (range_with_len 1 singles) = omega (arith, length-range_with_len 1 singles) in
      let is : get_or (range_with_len 1 singles) (number - 1) 0 ≡ number = get_or-range_with_len 1 singles (number - 1) 0 within ∙ at in
      in_tops _ (Contains-append_right (map (λ b. block_name b.number) blocks) (map single_name (range_with_len 1 singles)) _
      (subst (λ n. Contains (map single_name (range_with_len 1 singles)) (single_name n)) is (contains_map single_name (range_with_len 1 singles) (number - 1) 0 place)))

  pub length-trees : length (trees swaps blocks singles).names ≡ 1 + (length blocks + singles) + 2 * length blocks
  length-trees = length-names swaps blocks singles blocks

module _ (blocks : List Block) (singles : ℕ) (small : length blocks < 128) (few : singles < 3) where
  few_names : length (trees false blocks singles).names + length (trees true blocks singles).names < 1024
  few_names = omega (arith, length-trees false blocks singles, length-trees true blocks singles)

  pub both_have_block : (k : ℕ) (d : Block) → k < length blocks → BothHaveBlock (trees false blocks singles) (trees true blocks singles) (get_or blocks k d).number
  both_have_block k d lt = record {
    whole = record { in_one = has_whole false blocks singles k d lt; in_other = has_whole true blocks singles k d lt; few = few_names };
    left = record {
      in_one = in_kids false blocks singles k d _ lt (kids_have false (get_or blocks k d)).0;
      in_other = in_kids true blocks singles k d _ lt (kids_have true (get_or blocks k d)).0;
      few = few_names;
    };
    right = record {
      in_one = in_kids false blocks singles k d _ lt (kids_have false (get_or blocks k d)).1;
      in_other = in_kids true blocks singles k d _ lt (kids_have true (get_or blocks k d)).1;
      few = few_names;
    };
  }

  pub both_have_single : (number : ℕ) → 1 ≤ number → number ≤ singles → BothHave (trees false blocks singles) (trees true blocks singles) (single_name number)
  both_have_single number least most = record {
    in_one = has_single false blocks singles number least most;
    in_other = has_single true blocks singles number least most;
    few = few_names;
  }

-- both taxonomies of a trial, under whatever names they go, have each block
pub block_had : (blocks : List Block) (singles : ℕ) (one other : Trees) (k : ℕ) (d : Block) → length blocks < 128 → singles < 3
    → one ≡ trees false blocks singles → other ≡ trees true blocks singles → k < length blocks → BothHaveBlock one other (get_or blocks k d).number
block_had blocks singles one other k d small few one_is other_is lt =
    subst (λ t. BothHaveBlock t other (get_or blocks k d).number) (sym one_is)
    (subst (λ t. BothHaveBlock (trees false blocks singles) t (get_or blocks k d).number) (sym other_is) (both_have_block blocks singles small few k d lt))

-- the place of a name that is there
pub place_within : (f : Trees) (name : List ℕ) → Contains f.names name → place_of f name < length f.names
place_within f name h = by (number_of f name) refl
  where
    by : (o : Option ℕ) → number_of f name ≡ o → place_of f name < length f.names
    by (Some k) found = let at = place_of-found f name k found in omega (arith, at.0, at.1)
    by None none = absurd (absent-number f name none h)

-- a test that what is said of a name passes, all that is said passes
module _ (test : Articulation → Bool) (one other : Trees)
    (each : (name : List ℕ) (set : RelSet) → BothHave one other name → is_empty_set set ≡ false → test (said_of one other name set) ≡ true) where
  and_two : (a b : Bool) → a ≡ true → b ≡ true → (a && b) ≡ true
  and_two a b p q = ap (λ x. x && b) p ∙ q

  pass_block : (number : ℕ) (form : Form) → BothHaveBlock one other number → list_all test (said_by one other number form) ≡ true
  pass_block number Loose h = and_two _ _ (each _ _ h.whole refl) refl
  pass_block number Children h = and_two _ _ (each _ _ h.left refl) (and_two _ _ (each _ _ h.right refl) refl)
  pass_block number WholeAndLeft h = and_two _ _ (each _ _ h.whole refl) (and_two _ _ (each _ _ h.left refl) refl)
  pass_block number AllThree h = and_two _ _ (each _ _ h.left refl) (and_two _ _ (each _ _ h.right refl) (and_two _ _ (each _ _ h.whole refl) refl))

  pass_blocks : (blocks : List Block) → ((k : ℕ) (d : Block) → k < length blocks → BothHaveBlock one other (get_or blocks k d).number) → list_all test (flat_map (said_of_block one other) blocks) ≡ true
  pass_blocks [] h = refl
  pass_blocks (block ∷ blocks) h =
      list_all-append test (said_of_block one other block) (flat_map (said_of_block one other) blocks)
      ∙ and_two _ _ (pass_block block.number block.form (h 0 block (omega arith))) (pass_blocks blocks (λ k d lt. h (suc k) d (omega arith)))

  pass_singles : (numbers : List ℕ) → ((k : ℕ) → k < length numbers → BothHave one other (single_name (get_or numbers k 0))) → list_all test (map (λ number. said_of one other (single_name number) (only Equals)) numbers) ≡ true
  pass_singles [] h = refl
  pass_singles (number ∷ numbers) h = and_two _ _ (each _ _ (h 0 (omega arith)) refl) (pass_singles numbers (λ k lt. h (suc k) (omega arith)))

pub all_pass : (test : Articulation → Bool) (blocks : List Block) (singles : ℕ) → length blocks < 128 → singles < 3
    → ((name : List ℕ) (set : RelSet) → BothHave (trees false blocks singles) (trees true blocks singles) name → is_empty_set set ≡ false
    → test (said_of (trees false blocks singles) (trees true blocks singles) name set) ≡ true)
    → list_all test (articulations (trees false blocks singles) (trees true blocks singles) blocks singles) ≡ true
all_pass test blocks singles small few each =
    let one = trees false blocks singles in
    let other = trees true blocks singles in
    let numbers = range_with_len 1 singles in
    let counted : length numbers ≡ singles = length-range_with_len 1 singles in
    list_all-append test (flat_map (said_of_block one other) blocks) (map (λ number. said_of one other (single_name number) (only Equals)) numbers)
    ∙ and_two test one other each _ _ (pass_blocks test one other each blocks (both_have_block blocks singles small few))
    (pass_singles test one other each numbers (λ k lt.
    let within : k < singles = omega arith in
    let is : get_or numbers k 0 ≡ 1 + k = get_or-range_with_len 1 singles k 0 within in
    both_have_single blocks singles small few (get_or numbers k 0) (omega arith) (omega arith)))
