-- A taxonomy that is made, row by row.
use Rattle.std.proofs.Common.{add-one, ◌≡◌, ◌≢◌, ◌+◌, ◌-◌, ◌*◌, ◌<◌, ℕ, suc, Bool, true, false, List, [], ◌∷◌, ◌++◌, Option, None, Some, Ok, length, map, take, set, get_or, refl, sym, ap, subst, ◌∙◌, arith}
use Rattle.std.specs.Prelude.{cond, replicate, codes, decimal, flat_map}
use Rattle.std.specs.List.{range_with_len, position_or_len}
use Rattle.std.specs.Str.{bytes_eq}
use Rattle.std.proofs.lemmas.Bool.{lt-ltb, false_from_ne_true}
use Rattle.std.proofs.lemmas.Slice.Eq.{bytes_eq-Decides}
use Rattle.std.proofs.lemmas.Grind.{flat_map-append}
use Rattle.std.proofs.lemmas.List.{append_assoc, append-nil, length-take-le, take_more, map-append, length-map, get_or-map, length-append, replicate-append-replicate, get_or_append_left}
use Rattle.std.proofs.lemmas.List.FromFn.{length-range_with_len, get_or-range_with_len}
use Rattle.std.proofs.lemmas.List.Sums.{position_or_len_is}
use Rattle.std.proofs.Math.Seq.{set-append_seam, get_or-append_seam}
use Rattle.taxon_tree.specs.Trees.{Trees, no_trees, number_of, IsForest}
use Rattle.taxon_tree.specs.Row.{and_then, with_root, add_row, add_children}
use Rattle.taxon_tree.proofs.ListLemmas.{same_trees}
use Rattle.taxon_tree.proofs.RowLemmas.{with_name-new}
use Rattle.trial_run.specs.declared.blocks.Block.{Block}
use Rattle.trial_run.specs.Names.{block_name, left_name, right_name, single_name, tops, kids, kid_numbers, trees}
use Rattle.trial_run.specs.Plans.{IsPlan}
use Rattle.trial_run.proofs.Rows.{HasRoot, with_kids, NoRoots, kids_put, row_put}

-- the taxonomy when the rows of some blocks are in
abbrev pub grown : Bool → List Block → ℕ → List Block → Trees
grown swaps blocks singles done = record {
  names = codes "r" ∷ tops blocks singles ++ flat_map (kids swaps) done;
  parents = None ∷ replicate (length blocks + singles) (Some 0) ++ flat_map (λ block. Some block.number ∷ Some block.number ∷ []) done;
  children = range_with_len 1 (length blocks + singles) ∷ map (kid_numbers (length blocks + singles)) done ++ replicate (length blocks + singles + length done) [];
}

-- a name has its own place where no name stands twice
own_number : (f : Trees) (k : ℕ) (name : List ℕ) → IsForest f → k < length f.names → get_or f.names k [] ≡ name → number_of f name ≡ Some k
own_number f k name h within is =
    let at : position_or_len (bytes_eq name) f.names ≡ k = position_or_len_is (bytes_eq name) f.names k [] (omega arith)
    (λ j lt. false_from_ne_true (bytes_eq name (get_or f.names j [])) (λ same. h.names_apart j k [] lt within (sym ((bytes_eq-Decides name (get_or f.names j [])).0 same) ∙ sym is)))
    (λ lt. (bytes_eq-Decides name (get_or f.names k [])).1 (sym is)) in
    let lt : position_or_len (bytes_eq name) f.names < length f.names = subst (λ i. i < length f.names) (sym at) within in
    ap (λ b. cond b (Some (position_or_len (bytes_eq name) f.names)) None) (lt-ltb _ _ lt) ∙ ap Some at

-- no name of a block or a concept beside the blocks is the root's
not_root_b : (rest : List ℕ) → codes "b" ++ rest ≢ codes "r"
not_root_b rest e = let head : ◌≡◌ {A = ℕ} 98 114 = ap (λ list. get_or list 0 0) e in absurd (omega arith)

not_root_s : (rest : List ℕ) → codes "s" ++ rest ≢ codes "r"
not_root_s rest e = let head : ◌≡◌ {A = ℕ} 115 114 = ap (λ list. get_or list 0 0) e in absurd (omega arith)

no_roots-append : (one other : List (List ℕ)) → NoRoots one → NoRoots other → NoRoots (one ++ other)
no_roots-append [] other a b = b
no_roots-append (name ∷ one) other a b = (a.0, no_roots-append one other a.1 b)

blocks_no_roots : (blocks : List Block) → NoRoots (map (λ block. block_name block.number) blocks)
blocks_no_roots [] = tt
blocks_no_roots (block ∷ blocks) = (not_root_b (decimal block.number), blocks_no_roots blocks)

singles_no_roots : (numbers : List ℕ) → NoRoots (map single_name numbers)
singles_no_roots [] = tt
singles_no_roots (number ∷ numbers) = (not_root_s (decimal number), singles_no_roots numbers)

tops_no_roots : (blocks : List Block) (singles : ℕ) → NoRoots (tops blocks singles)
tops_no_roots blocks singles = no_roots-append _ _ (blocks_no_roots blocks) (singles_no_roots (range_with_len 1 singles))

kids_no_roots : (swaps : Bool) (block : Block) → NoRoots (kids swaps block)
kids_no_roots false block = (not_root_b _, (not_root_b _, tt))
kids_no_roots true block = by block.is_swapped
  where
    by : (b : Bool) → NoRoots (cond b (right_name block.number ∷ left_name block.number ∷ []) (left_name block.number ∷ right_name block.number ∷ []))
    by true = (not_root_b _, (not_root_b _, tt))
    by false = (not_root_b _, (not_root_b _, tt))

length-tops : (blocks : List Block) (singles : ℕ) → length (tops blocks singles) ≡ length blocks + singles
length-tops blocks singles =
    length-append (map (λ block. block_name block.number) blocks) (map single_name (range_with_len 1 singles))
    ∙ ap (λ n. n + length (map single_name (range_with_len 1 singles))) (length-map blocks (λ block. block_name block.number))
    ∙ ap (λ n. length blocks + n) (length-map (range_with_len 1 singles) single_name ∙ length-range_with_len 1 singles)

-- the row of the root
one_root : Trees
one_root = with_root no_trees (codes "r")

has_root-one : HasRoot one_root
unfolding one_root
has_root-one = record {
  some = omega arith;
  parents_counted = refl;
  children_counted = refl;
  first = refl;
  only = λ c lt none. omega arith;
}

pub first_row : (swaps : Bool) (blocks : List Block) (singles : ℕ) (g : Trees) → add_row 1024 no_trees (codes "r" ∷ tops blocks singles) ≡ Ok g
    → (g ≡ grown swaps blocks singles []) × HasRoot g
unfolding one_root
first_row swaps blocks singles g e =
    let new = with_name-new 1024 no_trees (codes "r") refl (omega arith) in
    let made : add_children 1024 0 one_root (tops blocks singles) ≡ Ok g =
    subst (λ t. and_then t (λ f. add_children 1024 0 f (tops blocks singles)) ≡ Ok g) new e in
    let put = kids_put 1024 0 one_root (tops blocks singles) g has_root-one (omega arith) (tops_no_roots blocks singles) made in
    let names : codes "r" ∷ tops blocks singles ≡ codes "r" ∷ tops blocks singles ++ [] = ap (λ names. codes "r" ∷ names) (sym (append-nil (tops blocks singles))) in
    let count : length (tops blocks singles) ≡ length blocks + singles = length-tops blocks singles in
    let under : Option ℕ = Some 0 in
    let parents : ◌≡◌ {A = List (Option ℕ)} (None ∷ replicate (length (tops blocks singles)) under) (None ∷ replicate (length blocks + singles) under ++ []) =
    ap (λ n. None ∷ replicate n under) count ∙ ap (λ list. None ∷ list) (sym (append-nil (replicate (length blocks + singles) under))) in
    let all : length blocks + singles ≡ length blocks + singles + 0 = omega arith in
    let children : range_with_len 1 (length (tops blocks singles)) ∷ replicate (length (tops blocks singles)) [] ≡ range_with_len 1 (length blocks + singles) ∷ replicate (length blocks + singles + 0) [] =
    ap (λ n. range_with_len 1 n ∷ replicate n []) count ∙ ap (λ n. range_with_len 1 (length blocks + singles) ∷ replicate n []) all in
    (put.0 ∙ same_trees (with_kids 0 one_root (tops blocks singles)) (grown swaps blocks singles []) names parents children, put.1)

-- the row of a block
length-kids : (swaps : Bool) (block : Block) → length (kids swaps block) ≡ 2
length-kids false block = refl
length-kids true block = by block.is_swapped
  where
    by : (b : Bool) → length (cond b (right_name block.number ∷ left_name block.number ∷ []) (left_name block.number ∷ right_name block.number ∷ [])) ≡ 2
    by true = refl
    by false = refl

pub length-all_kids : (swaps : Bool) (blocks : List Block) → length (flat_map (kids swaps) blocks) ≡ 2 * length blocks
length-all_kids swaps [] = refl
length-all_kids swaps (block ∷ blocks) =
    omega (arith, length-append (kids swaps block) (flat_map (kids swaps) blocks), length-kids swaps block, length-all_kids swaps blocks)

module _ (swaps : Bool) (blocks : List Block) (singles : ℕ) where
  top_count : ℕ
  top_count = length blocks + singles

  pub length-names : (done : List Block) → length (codes "r" ∷ tops blocks singles ++ flat_map (kids swaps) done) ≡ 1 + (length blocks + singles) + 2 * length done
  length-names done = omega (arith, length-append (tops blocks singles) (flat_map (kids swaps) done), length-tops blocks singles, length-all_kids swaps done)

  on_names : (done : List Block) (block : Block) → (codes "r" ∷ tops blocks singles ++ flat_map (kids swaps) done) ++ kids swaps block ≡ codes "r" ∷ tops blocks singles ++ flat_map (kids swaps) (done ++ block ∷ [])
  on_names done block =
      ap (λ list. codes "r" ∷ list) (append_assoc (tops blocks singles) (flat_map (kids swaps) done) (kids swaps block)
      ∙ ap (λ list. tops blocks singles ++ list) (sym (flat_map-append (kids swaps) done (block ∷ []) ∙ ap (λ list. flat_map (kids swaps) done ++ list) (append-nil (kids swaps block)))))

  abbrev parents_of : Block → List (Option ℕ)
  parents_of block = Some block.number ∷ Some block.number ∷ []

  on_parents : (done : List Block) (block : Block)
      → (None ∷ replicate (length blocks + singles) (Some 0) ++ flat_map parents_of done) ++ replicate (length (kids swaps block)) (Some block.number)
      ≡ None ∷ replicate (length blocks + singles) (Some 0) ++ flat_map parents_of (done ++ block ∷ [])
  on_parents done block =
      let first : List (Option ℕ) = replicate (length blocks + singles) (Some 0) in
      let two : replicate (length (kids swaps block)) (Some block.number) ≡ parents_of block = ap (λ n. replicate n (Some block.number)) (length-kids swaps block) in
      let all : flat_map parents_of (done ++ block ∷ []) ≡ flat_map parents_of done ++ parents_of block = flat_map-append parents_of done (block ∷ []) in
      ap (λ list. None ∷ list) (ap (λ list. (first ++ flat_map parents_of done) ++ list) two ∙ append_assoc first (flat_map parents_of done) (parents_of block) ∙ ap (λ list. first ++ list) (sym all))

  -- the child lists, where some concept has none yet
  on_children : (done : List Block) (block : Block) (count : ℕ) → length done < length blocks → block.number ≡ length done + 1 → count ≡ 1 + (length blocks + singles) + 2 * length done
      → (lists : List (List ℕ)) → lists ≡ range_with_len 1 (length blocks + singles) ∷ map (kid_numbers (length blocks + singles)) done ++ replicate (length blocks + singles + length done) []
      → set lists block.number (get_or lists block.number [] ++ range_with_len count (length (kids swaps block))) ++ replicate (length (kids swaps block)) []
      ≡ range_with_len 1 (length blocks + singles) ∷ map (kid_numbers (length blocks + singles)) (done ++ block ∷ []) ++ replicate (length blocks + singles + length (done ++ block ∷ [])) []
  on_children done block count lt number_is count_is lists lists_are =
      ap (λ n. set lists block.number (get_or lists block.number [] ++ range_with_len count n) ++ replicate n []) (length-kids swaps block)
      ∙ ap (λ here. set here block.number (get_or here block.number [] ++ new) ++ [] ∷ [] ∷ []) split
      ∙ ap (λ i. set (before ++ [] ∷ replicate j []) i (get_or (before ++ [] ∷ replicate j []) i [] ++ new) ++ [] ∷ [] ∷ []) place
      ∙ ap (λ list. set (before ++ [] ∷ replicate j []) (length before) (list ++ new) ++ [] ∷ [] ∷ []) (get_or-append_seam before [] (replicate j []) [])
      ∙ ap (λ here. here ++ [] ∷ [] ∷ []) (set-append_seam before [] (replicate j []) new)
      ∙ append_assoc before (new ∷ replicate j []) ([] ∷ [] ∷ [])
      ∙ ap (λ here. before ++ new ∷ here) (replicate-append-replicate j 2 [])
      ∙ ap (λ list. before ++ list ∷ replicate (j + 2) []) new_is
      ∙ ap (λ n. before ++ kid_numbers (length blocks + singles) block ∷ replicate n []) left
      ∙ ap (λ here. range_with_len 1 (length blocks + singles) ∷ here) (sym joined)
    where
      before : List (List ℕ)
      before = range_with_len 1 (length blocks + singles) ∷ map (kid_numbers (length blocks + singles)) done

      new : List ℕ
      new = count ∷ (count + 1) ∷ []

      j : ℕ
      j = length blocks + singles + length done - 1

      split : lists ≡ before ++ [] ∷ replicate j []
      split = lists_are ∙ ap (λ n. before ++ replicate n []) (let e : length blocks + singles + length done ≡ suc j = omega arith in e)

      place : block.number ≡ length before
      place = omega (arith, length-map done (kid_numbers (length blocks + singles)))

      new_is : new ≡ kid_numbers (length blocks + singles) block
      new_is = ap (λ n. n ∷ (n + 1) ∷ []) (let e : count ≡ length blocks + singles + 2 * block.number - 1 = omega arith in e)

      left : j + 2 ≡ length blocks + singles + length (done ++ block ∷ [])
      left = omega (arith, length-append done (block ∷ []))

      tail : List (List ℕ)
      tail = replicate (length blocks + singles + length (done ++ block ∷ [])) []

      joined : map (kid_numbers (length blocks + singles)) (done ++ block ∷ []) ++ tail ≡ map (kid_numbers (length blocks + singles)) done ++ kid_numbers (length blocks + singles) block ∷ tail
      joined =
          ap (λ list. list ++ tail) (map-append (kid_numbers (length blocks + singles)) done (block ∷ []))
          ∙ append_assoc (map (kid_numbers (length blocks + singles)) done) (kid_numbers (length blocks + singles) block ∷ []) tail

  pub grown_more : (done : List Block) (block : Block) → length done < length blocks → block.number ≡ length done + 1
      → with_kids block.number (grown swaps blocks singles done) (kids swaps block) ≡ grown swaps blocks singles (done ++ block ∷ [])
  grown_more done block lt number_is =
      same_trees (with_kids block.number (grown swaps blocks singles done) (kids swaps block)) (grown swaps blocks singles (done ++ block ∷ []))
      (on_names done block) (on_parents done block)
      (on_children done block _ lt number_is (length-names done) (grown swaps blocks singles done).children refl)

-- the number of the block at a place
number_at : (blocks : List Block) (k : ℕ) (d : Block) → IsPlan blocks → k < length blocks → (get_or blocks k d).number ≡ k + 1
number_at blocks k d plan lt =
    let e = ap (λ list. get_or list k d.number) plan.numbers in
    let a = get_or-map (λ block. block.number) blocks k d d.number lt in
    let b = get_or-range_with_len 1 (length blocks) k d.number lt in
    omega (arith, e, a, b)

-- the row of the block at a place
pub block_row-grown : (swaps : Bool) (blocks : List Block) (singles k : ℕ) (d : Block) (f g : Trees) → IsPlan blocks → k < length blocks
    → f ≡ grown swaps blocks singles (take k blocks) → HasRoot f → IsForest f
    → add_row 1024 f (block_name (get_or blocks k d).number ∷ kids swaps (get_or blocks k d)) ≡ Ok g
    → (g ≡ grown swaps blocks singles (take (k + 1) blocks)) × HasRoot g
block_row-grown swaps blocks singles k d f g plan lt f_is root forest made =
    let block : Block = get_or blocks k d in
    let number : block.number ≡ k + 1 = number_at blocks k d plan lt in
    let done : length (take k blocks) ≡ k = length-take-le k blocks (omega arith) in
    let names_are : f.names ≡ codes "r" ∷ tops blocks singles ++ flat_map (kids swaps) (take k blocks) = ap (λ t. t.names) f_is in
    let count = length-names swaps blocks singles (take k blocks) in
    let within : block.number < length f.names = omega (arith, ap length names_are, count) in
    let in_tops : k < length (map (λ b. block_name b.number) blocks) = omega (arith, length-map blocks (λ b. block_name b.number)) in
    let in_all : k < length (tops blocks singles) = omega (arith, length-tops blocks singles) in
    let name : get_or f.names (k + 1) [] ≡ block_name block.number =
    ap (λ names. get_or names (k + 1) []) names_are
    ∙ ap (λ i. get_or (codes "r" ∷ tops blocks singles ++ flat_map (kids swaps) (take k blocks)) i []) (add-one k)
    ∙ get_or_append_left (tops blocks singles) (flat_map (kids swaps) (take k blocks)) [] k in_all
    ∙ get_or_append_left (map (λ b. block_name b.number) blocks) (map single_name (range_with_len 1 singles)) [] k in_tops
    ∙ get_or-map (λ b. block_name b.number) blocks k d [] lt in
    let found : number_of f (block_name block.number) ≡ Some block.number =
    own_number f block.number (block_name block.number) forest within (ap (λ i. get_or f.names i []) number ∙ name) in
    let put = row_put 1024 block.number f (block_name block.number) (kids swaps block) g root found (kids_no_roots swaps block) made in
    let more = grown_more swaps blocks singles (take k blocks) block (omega arith) (omega arith) in
    let next : take k blocks ++ block ∷ [] ≡ take (k + 1) blocks = sym (take_more blocks k d lt) in
    (put.0 ∙ ap (λ t. with_kids block.number t (kids swaps block)) f_is ∙ more ∙ ap (grown swaps blocks singles) next, put.1)

-- when all rows are in, it is whole
pub grown-all : (swaps : Bool) (blocks : List Block) (singles : ℕ) → grown swaps blocks singles blocks ≡ trees swaps blocks singles
grown-all swaps blocks singles =
    let e : length blocks + singles + length blocks ≡ singles + 2 * length blocks = omega arith in
    same_trees (grown swaps blocks singles blocks) (trees swaps blocks singles) refl refl
    (ap (λ n. range_with_len 1 (length blocks + singles) ∷ map (kid_numbers (length blocks + singles)) blocks ++ replicate n []) e)
