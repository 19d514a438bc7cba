-- Single points in place of families: what a problem allows and forces of its pairs, and when it is alive.
use Rattle.std.specs.Prelude.{ℕ, ◌+◌, ◌==◌, Bool, false, not, ◌&&◌, ◌||◌, List, [], ◌∷◌, ◌++◌, length, map, filter, flat_map, slice_index_or, IsTrue, Contains, if◌then◌else◌}
use Rattle.std.specs.List.{list_all, list_any}
use Rattle.rcc5_core.specs.declared.Rel.{Rel}
use Rattle.rcc5_core.specs.declared.RelSet.{RelSet}
use Rattle.rcc5_core.specs.declared.Region.{Region}
use Rattle.rcc5_core.specs.declared.Region.TheVariants.{LeftOnly, Both, RightOnly}
use Rattle.rcc5_core.specs.declared.Regions.{Regions}
use Rattle.rcc5_core.specs.declared.Occupancy.TheVariants.{Empty, Occupied}
use Rattle.rcc5_core.specs.RelationSet.{every_rel, both_of, only, is_empty_set}
use Rattle.rcc5_core.specs.Region.{all_regions, word_at, same_word, forced_regions, is_whole_set}
use Rattle.world_model.specs.Problem.{Problem, Constraint, SumRule, concept_count, concepts, children_of, pairs, constraints, kept_sums}
use Rattle.world_model.specs.Family.{Family, implies}

-- whether a statement is about the pair
abbrev pub is_about : ℕ × ℕ → Constraint → Bool
is_about pair c = (c.left == pair.0) && (c.right == pair.1)

-- what several sets of relations have in common, all five for none
abbrev pub meet_of : List RelSet → RelSet
meet_of [] = every_rel
meet_of (set ∷ sets) = both_of set (meet_of sets)

-- what all statements about a pair have in common
abbrev pub said_of : ℕ × ℕ → List Constraint → RelSet
said_of pair statements = meet_of (map (λ c. c.set) (filter (is_about pair) statements))

-- the allowed set of a pair: what all statements about it have in common
abbrev pub allowed : Problem → ℕ × ℕ → RelSet
allowed p pair = said_of pair (constraints p)

-- each pair of a list with what the problem forces of its regions
abbrev pub forced_of : Problem → List (ℕ × ℕ) → List ((ℕ × ℕ) × Regions)
forced_of p [] = []
forced_of p (pair ∷ rest) = (pair, forced_regions (allowed p pair)) ∷ forced_of p rest

-- what is forced of all pairs, in their order
abbrev pub forced_pairs : Problem → List ((ℕ × ℕ) × Regions)
forced_pairs p = forced_of p (pairs p)

-- the point at a place, and none of all concepts past the last
abbrev pub point_at : List (List Bool) → ℕ → List Bool
point_at points place = slice_index_or points place []

-- a concept's bit in a list of bits, which says of each concept whether a point is in it
abbrev pub bit_of : List Bool → ℕ → Bool
bit_of bits c = slice_index_or bits c false

-- whether what is in the left one of two or not, and in the right one or not, lies in a region of the two
abbrev pub lies_by : Region → Bool → Bool → Bool
lies_by LeftOnly left right = left && not right
lies_by Both left right = left && right
lies_by RightOnly left right = not left && right

-- whether a point lies in a region of a pair
abbrev pub lies_in : Region → ℕ × ℕ → List Bool → Bool
lies_in region pair bits = lies_by region (bit_of bits pair.0) (bit_of bits pair.1)

-- whether the bit of each child implies that of its parent
abbrev pub point_within : Problem → List Bool → Bool
point_within p bits = list_all (λ c. list_all (λ child. implies (bit_of bits child) (bit_of bits c)) (children_of p c)) (concepts p)

-- whether no two different children of one parent have the point
abbrev pub point_apart : Problem → List Bool → Bool
point_apart p bits =
    list_all (λ c. list_all (λ a. list_all (λ b. (a == b) || not (bit_of bits a && bit_of bits b)) (children_of p c)) (children_of p c)) (concepts p)

-- whether each concept that has the point and has children has a child with the point
abbrev pub point_covered : Problem → List Bool → Bool
point_covered p bits =
    list_all (λ c. (length (children_of p c) == 0) || implies (bit_of bits c) (list_any (bit_of bits) (children_of p c))) (concepts p)

-- whether two tests have one answer
abbrev pub same_bool : Bool → Bool → Bool
same_bool a b = (a && b) || not (a || b)

-- whether the whole has the point exactly where one of the parts has
abbrev pub point_sums : List Bool → SumRule → Bool
point_sums bits s = same_bool (bit_of bits s.whole) (list_any (bit_of bits) s.parts)

-- whether what is in the left one of two or not, and in the right one or not, lies in no region that is forced empty
abbrev pub avoids_by : Regions → Bool → Bool → Bool
avoids_by regions left right = list_all (λ region. not (same_word (word_at regions region) Empty && lies_by region left right)) all_regions

-- whether no region that is forced empty has the point
abbrev pub avoids : List Bool → (ℕ × ℕ) × Regions → Bool
avoids bits entry = avoids_by entry.1 (bit_of bits entry.0.0) (bit_of bits entry.0.1)

-- the rules on a point that speak of the trees alone
abbrev pub meets_trees : Problem → List Bool → Bool
meets_trees p bits =
    (length bits == concept_count p) &&
    point_within p bits &&
    implies p.switches.sibling (point_apart p bits) &&
    implies p.switches.coverage (point_covered p bits)

-- the rules on a point that speak of the concepts alone: the trees, and the sums that are kept
abbrev pub meets_structure : Problem → List Bool → Bool
meets_structure p bits = meets_trees p bits && list_all (point_sums bits) (kept_sums p)

-- whether bits meet these rules and avoid what is forced empty, where so much is forced
abbrev pub obeys : Problem → List ((ℕ × ℕ) × Regions) → List Bool → Bool
obeys p forced bits = meets_structure p bits && list_all (avoids bits) forced

-- a list of bits is a point where it obeys what the problem forces
abbrev pub is_point : Problem → List Bool → Bool
is_point p bits = obeys p (forced_pairs p) bits

-- what must have a point: a region of a pair that is forced occupied, or a concept
pub data Need : Type 0 where
  InRegion : ℕ × ℕ → Region → Need
  InConcept : ℕ → Need

-- whether a point is in the need
abbrev pub is_in_need : Need → List Bool → Bool
is_in_need (InRegion pair region) bits = lies_in region pair bits
is_in_need (InConcept c) bits = bit_of bits c

-- the regions of a pair that are forced occupied, as needs
abbrev pub needs_at : (ℕ × ℕ) × Regions → List Need
needs_at entry = map (InRegion entry.0) (filter (λ region. same_word (word_at entry.1 region) Occupied) all_regions)

-- the needs: the regions that are forced occupied by pair and region, then each concept where non-emptiness is on
abbrev pub needs : Problem → List Need
needs p = flat_map needs_at (forced_pairs p) ++ (if p.switches.nonempty then map InConcept (concepts p) else [])

-- whether each pair allows some relation
abbrev pub all_allow : Problem → Bool
all_allow p = list_all (λ pair. not (is_empty_set (allowed p pair))) (pairs p)

-- some point is in the need
abbrev pub HasPoint : Problem → Need → Type 0
HasPoint p need = (bits : List Bool) × IsTrue (is_point p bits) × IsTrue (is_in_need need bits)

-- a problem is alive where each pair allows some relation and each need has a point
pub record IsAlive (p : Problem) : Type 0 where
  pub allow : IsTrue (all_allow p)
  pub points : (need : Need) → Contains (needs p) need → HasPoint p need

-- pairs narrowed to one relation each, as far as both lists go
abbrev pub narrowings_at : List (ℕ × ℕ) → List Rel → List Constraint
narrowings_at [] m = []
narrowings_at (pair ∷ rest) [] = []
narrowings_at (pair ∷ rest) (rel ∷ rels) = record { left = pair.0; right = pair.1; set = only rel } ∷ narrowings_at rest rels

-- the problem at a position: narrowed at each pair in it to the relation there
abbrev pub problem_at : Problem → List Rel → Problem
problem_at p m = record p { narrowings = p.narrowings ++ narrowings_at (pairs p) m }

-- whether each pair allows a whole set
abbrev pub all_whole : Problem → Bool
all_whole p = list_all (λ pair. is_whole_set (allowed p pair)) (pairs p)

-- the places of the points that have the concept's bit
abbrev pub places_with : ℕ → ℕ → List (List Bool) → List ℕ
places_with c place [] = []
places_with c place (bits ∷ rest) = if bit_of bits c then place ∷ places_with c (place + 1) rest else places_with c (place + 1) rest

-- points taken as a family: a concept's set has the places of the points that are in it
abbrev pub family_of : Problem → List (List Bool) → Family
family_of p points = record { universe = length points; sets = map (λ c. places_with c 0 points) (concepts p) }

-- whether each need has one of the points
abbrev pub each_has_one : List Need → List (List Bool) → Bool
each_has_one needs points = list_all (λ need. list_any (is_in_need need) points) needs

-- whether all are points and each need has one of them
abbrev pub serves : Problem → List (List Bool) → Bool
serves p points = list_all (is_point p) points && each_has_one (needs p) points
