-- The selectors that a prefix makes true, and needs by their numbers and literals.
use Rattle.std.specs.Prelude.{◌≡◌, ℕ, ◌+◌, ◌-◌, ◌*◌, ◌/◌, ◌%◌, ◌==◌, nat_lt, Bool, false, List, [], ◌∷◌, ◌++◌, map, filter, if◌then◌else◌, Option, Some, None, slice_index_or, Contains}
use Rattle.rcc5_core.specs.declared.Rel.{Rel}
use Rattle.rcc5_core.specs.declared.Region.{Region}
use Rattle.rcc5_core.specs.declared.Region.TheVariants.{LeftOnly, Both, RightOnly}
use Rattle.rcc5_core.specs.declared.Regions.{Regions}
use Rattle.rcc5_core.specs.declared.Occupancy.TheVariants.{Empty}
use Rattle.rcc5_core.specs.Region.{all_regions, word_at, same_word}
use Rattle.lits_core.specs.Literals.{negation_of}
use Rattle.world_model.specs.Problem.{Problem, concept_count, pair_count}
use Rattle.world_model.specs.Node.{pair_at}
use Rattle.world_model.specs.Alive.{Need, InRegion, InConcept, forced_pairs, problem_at}
use Rattle.constraint_set.specs.Readers.{sum_places}
use Rattle.point_encode.specs.Model.Clauses.{is_so, is_not, first_sum_selector}

-- the number of a region among the three
abbrev pub region_number : Region → ℕ
region_number LeftOnly = 0
region_number Both = 1
region_number RightOnly = 2

-- the region with a number: 0, 1, or another for the third
abbrev pub region_with : ℕ → Region
region_with part = if part == 0 then LeftOnly else (if part == 1 then Both else RightOnly)

-- the selectors of a pair's regions that are forced empty, where the first of its three has this variable
abbrev pub pair_selectors : ℕ → Regions → List ℕ
pair_selectors first regions =
    map (λ region. is_so (first + region_number region)) (filter (λ region. same_word (word_at regions region) Empty) all_regions)

-- those of all pairs, from the first selector on
abbrev pub region_selectors : ℕ → List ((ℕ × ℕ) × Regions) → List ℕ
region_selectors first [] = []
region_selectors first (entry ∷ rest) =
    pair_selectors first entry.1 ++ region_selectors (first + 3) rest

-- the selectors of the sums that are kept, from the first selector on
abbrev pub sum_selectors : List Bool → ℕ → List ℕ → List ℕ
sum_selectors kept first [] = []
sum_selectors kept first (place ∷ rest) =
    (if slice_index_or kept place false then is_so first ∷ [] else []) ++ sum_selectors kept (first + 1) rest

-- the selectors that a prefix makes true, ascending
abbrev pub selectors_of : Problem → List Rel → List ℕ
selectors_of p m =
    region_selectors (concept_count p) (forced_pairs (problem_at p m)) ++
    sum_selectors p.kept (first_sum_selector p) (sum_places p)

-- how many needs may be: three regions a pair, and the concepts
abbrev pub need_count : Problem → ℕ
need_count p = 3 * pair_count p + concept_count p

-- the need with a number below that count: the regions of the pairs come first, then the concepts
abbrev pub need_at : Problem → ℕ → Need
need_at p number =
    if nat_lt number (3 * pair_count p) then InRegion (pair_at p (number / 3)) (region_with (number % 3)) else InConcept (number - 3 * pair_count p)

-- the need with a number, if there is one
abbrev pub need_with : Problem → ℕ → Option Need
need_with p number = if nat_lt number (need_count p) then Some (need_at p number) else None

-- the literals that say that a point is in a need
abbrev pub need_lits : Need → List ℕ
need_lits (InRegion pair LeftOnly) = is_so pair.0 ∷ is_not pair.1 ∷ []
need_lits (InRegion pair Both) = is_so pair.0 ∷ is_so pair.1 ∷ []
need_lits (InRegion pair RightOnly) = is_not pair.0 ∷ is_so pair.1 ∷ []
need_lits (InConcept c) = is_so c ∷ []

-- what must be true where a point of a prefix is in a need
abbrev pub asked_of : Problem → List Rel → Need → List ℕ
asked_of p m need = selectors_of p m ++ need_lits need

-- a clause has only negations of what must be true
abbrev pub IsClosedAt : Problem → List Rel → Need → List ℕ → Type 0
IsClosedAt p m need clause = (lit : ℕ) → Contains clause lit → Contains (asked_of p m need) (negation_of lit)

-- the need is one of a number
abbrev pub IsNeed : Problem → Need → Type 0
IsNeed p need = (number : ℕ) × (need_with p number ≡ Some need)
