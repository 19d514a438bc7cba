-- The given clauses of a problem's shape, by number. A concept's variable says that the point is in the concept. Three more
-- variables a pair, its selectors, say that its regions are empty, and one more a sum says that the sum holds.
use Rattle.std.specs.Prelude.{ℕ, ◌+◌, ◌*◌, ◌==◌, true, false, List, [], ◌∷◌, ◌++◌, length, map, flat_map, if◌then◌else◌}
use Rattle.std.specs.Option.{option_map, option_to_list}
use Rattle.lits_core.specs.Literals.{literal_of}
use Rattle.world_model.specs.Problem.{Problem, SumRule, concept_count, concepts, parent_of, children_of, pairs, pair_count}
use Rattle.constraint_set.specs.Readers.{all_sums}

-- a variable's literal, and its negation
abbrev pub is_so : ℕ → ℕ
is_so variable = literal_of variable false

abbrev pub is_not : ℕ → ℕ
is_not variable = literal_of variable true

-- the clause that a concept with this parent lies in it
abbrev pub within_clause : ℕ → ℕ → List ℕ
within_clause c parent = is_not c ∷ is_so parent ∷ []

-- for each concept with a parent: it lies in its parent
abbrev pub within_clauses : Problem → List (List ℕ)
within_clauses p = flat_map (λ c. option_to_list (option_map (within_clause c) (parent_of p c))) (concepts p)

-- each two of a list, by the earlier and then the later
abbrev pub each_two : List ℕ → List (ℕ × ℕ)
each_two [] = []
each_two (a ∷ rest) = map (λ b. (a, b)) rest ++ each_two rest

-- the clause that two concepts have nothing in common
abbrev pub apart_clause : ℕ × ℕ → List ℕ
apart_clause two = is_not two.0 ∷ is_not two.1 ∷ []

-- for each two children of one parent, where siblings are disjoint: they have nothing in common
abbrev pub apart_clauses : Problem → List (List ℕ)
apart_clauses p = if p.switches.sibling then flat_map (λ c. map apart_clause (each_two (children_of p c))) (concepts p) else []

-- the clause that what is in a concept is in one of these
abbrev pub covered_clause : ℕ → List ℕ → List ℕ
covered_clause c parts = is_not c ∷ map is_so parts

-- for each concept with children, where parents are covered: what is in it is in one of its children
abbrev pub covered_clauses : Problem → List (List ℕ)
covered_clauses p =
    if p.switches.coverage
    then flat_map (λ c. if length (children_of p c) == 0 then [] else covered_clause c (children_of p c) ∷ []) (concepts p)
    else []

-- the clauses that a pair's selectors, the first of them given, keep the point out of its regions
abbrev pub pair_clauses : ℕ → ℕ × ℕ → List (List ℕ)
pair_clauses first pair =
    (is_not first ∷ is_not pair.0 ∷ is_so pair.1 ∷ []) ∷
    (is_not (first + 1) ∷ is_not pair.0 ∷ is_not pair.1 ∷ []) ∷
    (is_not (first + 2) ∷ is_so pair.0 ∷ is_not pair.1 ∷ []) ∷ []

-- those of pairs in turn, from the first selector on
abbrev pub pairs_clauses : ℕ → List (ℕ × ℕ) → List (List ℕ)
pairs_clauses first [] = []
pairs_clauses first (pair ∷ rest) = pair_clauses first pair ++ pairs_clauses (first + 3) rest

-- the clauses of a sum with its selector: each part lies in the whole, and what is in the whole is in one of the parts
abbrev pub sum_clauses : ℕ → SumRule → List (List ℕ)
sum_clauses selector s =
    map (λ part. is_not selector ∷ is_not part ∷ is_so s.whole ∷ []) s.parts ++
    (is_not selector ∷ is_not s.whole ∷ map is_so s.parts) ∷ []

-- those of sums in turn, from the first selector on
abbrev pub sums_clauses : ℕ → List SumRule → List (List ℕ)
sums_clauses first [] = []
sums_clauses first (s ∷ rest) = sum_clauses first s ++ sums_clauses (first + 1) rest

-- the variable of the first sum's selector
abbrev pub first_sum_selector : Problem → ℕ
first_sum_selector p = concept_count p + 3 * pair_count p

-- the given clauses, in the order of their ids 1, 2 and so on
abbrev pub given_clauses : Problem → List (List ℕ)
given_clauses p =
    within_clauses p ++ apart_clauses p ++ covered_clauses p ++
    pairs_clauses (concept_count p) (pairs p) ++
    sums_clauses (first_sum_selector p) (all_sums p)

-- how many variables there are
abbrev pub variable_count : Problem → ℕ
variable_count p = first_sum_selector p + length (all_sums p)
