-- The plain way to compute: points by trial of every list of bits, nodes and worlds by going through the prefixes.
use Rattle.std.specs.Prelude.{ℕ, ◌+◌, ◌==◌, nat_le, zero, suc, Bool, true, false, ◌&&◌, ◌||◌, List, [], ◌∷◌, ◌++◌, length, map, filter, flat_map, Option, Some, None, if◌then◌else◌}
use Rattle.rcc5_core.specs.declared.Rel.{Rel}
use Rattle.rcc5_core.specs.Relation.{all_rels}
use Rattle.rcc5_core.specs.RelationSet.{has}
use Rattle.world_model.specs.Problem.{Problem, concept_count, pair_count}
use Rattle.world_model.specs.Listing.{is_between}
use Rattle.world_model.specs.Alive.{allowed, forced_pairs, obeys, needs, each_has_one, all_allow, problem_at}
use Rattle.world_model.specs.Node.{pair_at}

-- every list of n bits
abbrev pub bit_lists : ℕ → List (List Bool)
bit_lists zero = [] ∷ []
bit_lists (suc n) = map (λ bits. false ∷ bits) (bit_lists n) ++ map (λ bits. true ∷ bits) (bit_lists n)

-- the points among them
abbrev pub points_by_trial : Problem → List (List Bool)
points_by_trial p = filter (obeys p (forced_pairs p)) (bit_lists (concept_count p))

-- whether a problem is alive
abbrev pub alive_by_trial : Problem → Bool
alive_by_trial p = all_allow p && each_has_one (needs p) (points_by_trial p)

-- the relations that the pair after a prefix allows, in order
abbrev pub next_rels : Problem → List Rel → List Rel
next_rels p m = filter (has (allowed p (pair_at p (length m)))) all_rels

-- a node and all nodes below it, in order, with so many pairs left
abbrev pub nodes_below : Problem → ℕ → List Rel → List (List Rel)
nodes_below p zero m = m ∷ []
nodes_below p (suc left) m =
    m ∷ (if alive_by_trial (problem_at p m) then flat_map (λ rel. nodes_below p left (m ++ rel ∷ [])) (next_rels p m) else [])

-- all nodes, in order
abbrev pub nodes_by_trial : Problem → List (List Rel)
nodes_by_trial p = nodes_below p (pair_count p) []

-- the nodes from one position on and below another
abbrev pub nodes_between : Problem → List Rel → Option (List Rel) → List (List Rel)
nodes_between p from to = filter (is_between from to) (nodes_by_trial p)

-- whether a node is a possible world
abbrev pub is_world_by_trial : Problem → List Rel → Bool
is_world_by_trial p m = (length m == pair_count p) && alive_by_trial (problem_at p m)

-- the possible worlds from one position on and below another
abbrev pub worlds_between : Problem → List Rel → Option (List Rel) → List (List Rel)
worlds_between p from to = filter (is_world_by_trial p) (nodes_between p from to)

-- whether a count has reached a limit, where one is given
abbrev pub is_reached : Option ℕ → ℕ → Bool
is_reached None count = false
is_reached (Some limit) count = nat_le limit count

-- the first of some nodes before which a limit is reached, where so many nodes and worlds stand before them all
abbrev pub first_spent : Problem → Option ℕ → Option ℕ → ℕ → ℕ → List (List Rel) → Option (List Rel)
first_spent p nodes worlds passed found [] = None
first_spent p nodes worlds passed found (m ∷ rest) =
    if is_reached nodes passed || is_reached worlds found then Some m else
    first_spent p nodes worlds (passed + 1) (if is_world_by_trial p m then found + 1 else found) rest

-- the cut
abbrev pub cut_by_trial : Problem → List Rel → Option ℕ → Option ℕ → Option (List Rel)
cut_by_trial p from nodes worlds = first_spent p nodes worlds 0 0 (nodes_between p from None)
