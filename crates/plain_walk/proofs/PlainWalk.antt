-- The walk through the prefixes, and what is found on it.
use Rattle.std.proofs.Common.{◌≡◌, ℕ, zero, suc, ◌+◌, ◌<◌, Bool, true, false, ◌||◌, cond, List, [], ◌∷◌, ◌++◌, map, length, get_or, take, drop, length-append, append_assoc, sym, ap, ◌∙◌, arith}
use Rattle.std.specs.Prelude.{Option, Some, filter, flat_map, if◌then◌else◌}
use Rattle.std.proofs.lemmas.List.{take_more, drop_more}
use Rattle.std.proofs.lemmas.List.Elements.{filter-append}
use Rattle.std.proofs.lemmas.List.Folds.{flat_map-map}
use Rattle.rcc5_core.specs.declared.Rel.{Rel}
use Rattle.world_model.specs.Problem.{Problem}
use Rattle.world_model.specs.Alive.{problem_at}
use Rattle.world_model.specs.Trial.{alive_by_trial, next_rels, nodes_below, is_world_by_trial, is_reached, first_spent}

-- what follows a prefix by one relation is longer by one
length_of_image : (m : List Rel) (rels : List Rel) (k : ℕ) (d : List Rel) → k < length (map (λ rel. m ++ rel ∷ []) rels) → length (get_or (map (λ rel. m ++ rel ∷ []) rels) k d) ≡ length m + 1
length_of_image m [] k d h = absurd (omega arith)
length_of_image m (r ∷ rs) zero d h = length-append m (r ∷ [])
length_of_image m (r ∷ rs) (suc k) d h = length_of_image m rs k d (omega arith)

pub longer_by_one : (m : List Rel) (rels : List Rel) (list : List (List Rel)) (k : ℕ) (node : List Rel) → list ≡ map (λ rel. m ++ rel ∷ []) rels →
    k < length list → node ≡ get_or list k node → length node ≡ length m + 1
longer_by_one m rels list k node same within is =
    let there : k < length (map (λ rel. m ++ rel ∷ []) rels) = rw (← same) within in
    ap length (is ∙ ap (λ xs. get_or xs k node) same) ∙ length_of_image m rels k node there

-- a node and all below it, after those that came before
pub walk_end : (p : Problem) (m : List Rel) (left k : ℕ) (before start nodes longer : List (List Rel)) → left ≡ suc k →
    alive_by_trial (problem_at p m) ≡ true → start ≡ before ++ m ∷ [] → nodes ≡ start ++ flat_map (nodes_below p k) longer →
    longer ≡ map (λ rel. m ++ rel ∷ []) (next_rels p m) → nodes ≡ before ++ nodes_below p left m
walk_end p m left k before start nodes longer more alive s n l =
    let below : flat_map (nodes_below p k) longer ≡ flat_map (λ rel. nodes_below p k (m ++ rel ∷ [])) (next_rels p m) =
    ap (flat_map (nodes_below p k)) l ∙ flat_map-map (nodes_below p k) (λ rel. m ++ rel ∷ []) (next_rels p m) in
    let all : nodes_below p (suc k) m ≡ m ∷ flat_map (λ rel. nodes_below p k (m ++ rel ∷ [])) (next_rels p m) =
    ap (λ b. m ∷ (if b then flat_map (λ rel. nodes_below p k (m ++ rel ∷ [])) (next_rels p m) else [])) alive in
    n ∙ ap (λ xs. xs ++ flat_map (nodes_below p k) longer) s ∙ append_assoc before (m ∷ []) (flat_map (nodes_below p k) longer) ∙
    ap (λ xs. before ++ m ∷ xs) below ∙ sym (ap (λ xs. before ++ xs) all) ∙ ap (λ i. before ++ nodes_below p i m) (sym more)

-- one node more
pub spent_step : (p : Problem) (nodes worlds : Option ℕ) (passed found next : ℕ) (list : List (List Rel)) (node : List Rel) → passed < length list →
    node ≡ get_or list passed node → (is_reached nodes passed || is_reached worlds found) ≡ false → next ≡ (if is_world_by_trial p node then found + 1 else found) →
    first_spent p nodes worlds passed found (drop passed list) ≡ first_spent p nodes worlds (passed + 1) next (drop (passed + 1) list)
spent_step p nodes worlds passed found next list node within is below n =
    ap (first_spent p nodes worlds passed found) (drop_more list passed node within ∙ ap (λ m. m ∷ drop (passed + 1) list) (sym is)) ∙
    ap (λ b. if b then Some node else first_spent p nodes worlds (passed + 1) (if is_world_by_trial p node then found + 1 else found) (drop (passed + 1) list)) below ∙
    ap (λ f. first_spent p nodes worlds (passed + 1) f (drop (passed + 1) list)) (sym n)

-- one node more, which is kept or left out
pub kept_more : (test : List Rel → Bool) (list worlds : List (List Rel)) (k : ℕ) (node : List Rel) (b : Bool) → k < length list → node ≡ get_or list k node →
    worlds ≡ filter test (take k list) → b ≡ test node → worlds ++ cond b (node ∷ []) [] ≡ filter test (take (k + 1) list)
kept_more test list worlds k node b within is old same =
    ap (λ ws. ws ++ cond b (node ∷ []) []) old ∙ ap (λ v. filter test (take k list) ++ cond v (node ∷ []) []) same ∙
    sym (ap (filter test) (take_more list k node within ∙ ap (λ m. take k list ++ m ∷ []) (sym is)) ∙ filter-append test (take k list) (node ∷ []))
