-- What is said of two taxonomies that are made is what a problem may be made of.
use Rattle.std.proofs.Common.{◌≡◌, ◌+◌, ◌*◌, ◌<◌, ◌≤◌, ℕ, Bool, true, false, not, ◌&&◌, ◌==◌, List, [], ◌∷◌, ◌++◌, length, map, get_or, sym, ap, ◌∙◌, arith}
use Rattle.std.specs.Prelude.{replicate, flat_map, nat_lt}
use Rattle.std.specs.List.{range_with_len, list_all}
use Rattle.std.proofs.lemmas.Bool.{lt-ltb}
use Rattle.std.proofs.lemmas.List.{length-append, length-replicate, append-nil, get_or_append_left, get_or-append-add, get_or-replicate}
use Rattle.std.proofs.lemmas.List.FromFn.{length-map-range_with_len}
use Rattle.rcc5_core.specs.declared.Rel.TheVariants.{Equals}
use Rattle.rcc5_core.specs.declared.RelSet.{RelSet}
use Rattle.rcc5_core.specs.RelationSet.{only}
use Rattle.taxon_tree.specs.Trees.{Trees}
use Rattle.taxon_tree.specs.Row.{place_of}
use Rattle.world_model.specs.Problem.{is_articulation}
use Rattle.world_model.specs.declared.Articulation.{Articulation}
use Rattle.world_model.specs.declared.Switches.{Switches}
use Rattle.constraint_set.specs.Build.{problem_of}
use Rattle.constraint_set.specs.Facts.{is_said, all_fit}
use Rattle.trial_run.specs.declared.blocks.Form.{Form}
use Rattle.trial_run.specs.declared.blocks.Form.TheVariants.{Loose, Children, WholeAndLeft, AllThree}
use Rattle.trial_run.specs.declared.blocks.Block.{Block}
use Rattle.trial_run.specs.Names.{single_name, trees}
use Rattle.trial_run.specs.Made.{said_of, said_by, said_of_block, articulations}
use Rattle.trial_run.specs.Plans.{BothHave}
use Rattle.trial_run.proofs.Members.{place_within, all_pass}

-- the concepts of two taxonomies, by their owners
owners : ℕ → ℕ → List ℕ
owners m n = replicate m 0 ++ (replicate n 1 ++ [])

length-owners : (m n : ℕ) → length (owners m n) ≡ m + n
unfolding owners
length-owners m n =
    omega (arith, length-append (replicate m (◌+◌ 0 0)) (replicate n 1 ++ []), ap length (append-nil (replicate n (◌+◌ 0 1))), length-replicate m (◌+◌ 0 0), length-replicate n (◌+◌ 0 1))

owner-left : (m n i : ℕ) → i < m → get_or (owners m n) i 0 ≡ 0
unfolding owners
owner-left m n i lt =
    let within : i < length (replicate m (◌+◌ 0 0)) = omega (arith, length-replicate m (◌+◌ 0 0)) in
    get_or_append_left (replicate m 0) (replicate n 1 ++ []) 0 i within ∙ get_or-replicate m i 0 0 lt

owner-right : (m n i : ℕ) → i < n → get_or (owners m n) (m + i) 0 ≡ 1
unfolding owners
owner-right m n i lt =
    let within : i < length (replicate n (◌+◌ 0 1)) = omega (arith, length-replicate n (◌+◌ 0 1)) in
    ap (λ k. get_or (replicate m 0 ++ (replicate n 1 ++ [])) (k + i) 0) (sym (length-replicate m 0))
    ∙ get_or-append-add (replicate m 0) (replicate n 1 ++ []) i 0
    ∙ get_or_append_left (replicate n 1) [] 0 i within ∙ get_or-replicate n i 1 0 lt

and_three : (a b c : Bool) → a ≡ true → b ≡ true → c ≡ true → (a && b && c) ≡ true
and_three a b c p q r = ap (λ x. x && b && c) p ∙ ap (λ x. x && c) q ∙ r

-- what is said of a name that both taxonomies have
fits : (ids : List (List ℕ)) (list : List Articulation) (switches : Switches) (one other : Trees) (name : List ℕ) (set : RelSet) → BothHave one other name
    → is_articulation (problem_of ids (one ∷ other ∷ []) list switches) (said_of one other name set) ≡ true
unfolding owners
fits ids list switches one other name set h =
    let m : ℕ = length one.names in
    let n : ℕ = length other.names in
    let i : ℕ = place_of one name in
    let j : ℕ = place_of other name in
    let left : i < m = place_within one name h.in_one in
    let right : j < n = place_within other name h.in_other in
    let order : nat_lt i (m + j) ≡ true = lt-ltb _ _ (omega arith) in
    let within : nat_lt (m + j) (length (owners m n)) ≡ true = lt-ltb _ _ (omega (arith, length-owners m n)) in
    let cross : not (get_or (owners m n) i 0 == get_or (owners m n) (m + j) 0) ≡ true =
    ap (λ (o : ℕ). not (o == get_or (owners m n) (m + j) 0)) (owner-left m n i left) ∙ ap (λ (o : ℕ). not (0 == o)) (owner-right m n j right) in
    and_three _ _ _ order within cross

module _ (blocks : List Block) (singles : ℕ) (small : length blocks < 128) (few : singles < 3) where
  pub made_fit : (switches : Switches) → all_fit (trees false blocks singles ∷ trees true blocks singles ∷ [])
      (articulations (trees false blocks singles) (trees true blocks singles) blocks singles) switches ≡ true
  made_fit switches =
      let one = trees false blocks singles in
      let other = trees true blocks singles in
      let list = articulations one other blocks singles in
      all_pass (is_articulation (problem_of [] (one ∷ other ∷ []) list switches)) blocks singles small few
      (λ name set have full. fits [] list switches one other name set have)

  pub made_said : list_all is_said (articulations (trees false blocks singles) (trees true blocks singles) blocks singles) ≡ true
  made_said = all_pass is_said blocks singles small few (λ name set have full. ap not full)

-- no more articulations than there may be
length-said_by : (one other : Trees) (number : ℕ) (form : Form) → length (said_by one other number form) ≤ 3
length-said_by one other number Loose = omega arith
length-said_by one other number Children = omega arith
length-said_by one other number WholeAndLeft = omega arith
length-said_by one other number AllThree = omega arith

length-said : (one other : Trees) (blocks : List Block) → length (flat_map (said_of_block one other) blocks) ≤ 3 * length blocks
length-said one other [] = omega arith
length-said one other (block ∷ blocks) =
    omega (arith, length-append (said_of_block one other block) (flat_map (said_of_block one other) blocks), length-said_by one other block.number block.form, length-said one other blocks)

pub length-articulations : (one other : Trees) (blocks : List Block) (singles : ℕ) → length (articulations one other blocks singles) ≤ 3 * length blocks + singles
length-articulations one other blocks singles =
    let f = λ (number : ℕ). said_of one other (single_name number) (only Equals) in
    omega (arith, length-append (flat_map (said_of_block one other) blocks) (map f (range_with_len 1 singles)), length-said one other blocks, length-map-range_with_len f 1 singles)
