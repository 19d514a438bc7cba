-- What a family makes of the variables.
use Rattle.std.proofs.Common.{◌≡◌, ℕ, zero, suc, ◌+◌, ◌*◌, ◌/◌, ◌%◌, ◌<◌, Bool, true, false, not, List, [], ◌++◌, map, length, inl, inr, refl, sym, ap, ◌∙◌, arith}
use Rattle.std.specs.Prelude.{nat_lt, ◌==◌}
use Rattle.std.specs.List.{list_all, range_with_len}
use Rattle.std.proofs.lemmas.Bool.{and_parts, cases_lt, eqb-true, false≢true, ltb-true}
use Rattle.std.proofs.lemmas.List.{get_or_append_left, get_or-append-add, get_or-map, get_or_past, length-map}
use Rattle.std.proofs.lemmas.List.FromFn.{get_or-map-range_with_len, length-map-range_with_len}
use Rattle.rcc5_core.specs.Relation.{is_in, rank_of}
use Rattle.rcc5_core.specs.declared.Rel.{Rel}
use Rattle.rcc5_core.specs.declared.Rel.TheVariants.{Disjoint, Equals, IncludedIn, Includes, Overlaps}
use Rattle.rcc5_core.specs.declared.Region.{Region}
use Rattle.rcc5_core.specs.declared.Region.TheVariants.{LeftOnly, Both, RightOnly}
use Rattle.world_model.specs.Alive.{bit_of, lies_by, lies_in, point_at, same_bool}
use Rattle.world_model.specs.Family.{Family, fits_concepts, set_of}
use Rattle.world_model.specs.Problem.{Problem, concept_count, concepts}
use Rattle.world_model.proofs.Members.{In-get_or, In-range, all_at, all_from, any_at, any_from}
use Rattle.world_model.proofs.PointFamilies.{bits_at, bits_show, in_from_is, is_seen, seen_from}
use Rattle.world_model.proofs.PointSets.{same_bool_at}
use Rattle.world_model.proofs.PointRules.{same_bool_from}
use Rattle.family_solver.specs.Showing.{has_element, has_point, rel_variable, relation_at, shown_bits, truths, variable_count}
use Rattle.family_solver.specs.declared.ground.Ground.{Ground}

-- relations have different numbers, below five
pub number_small : (rel : Rel) → rank_of rel < 5
number_small Equals = omega arith
number_small Includes = omega arith
number_small IncludedIn = omega arith
number_small Overlaps = omega arith
number_small Disjoint = omega arith

abbrev of_number : ℕ → Rel
of_number zero = Equals
of_number (suc zero) = Includes
of_number (suc (suc zero)) = IncludedIn
of_number (suc (suc (suc zero))) = Overlaps
of_number (suc (suc (suc (suc n)))) = Disjoint

numbered : (rel : Rel) → of_number (rank_of rel) ≡ rel
numbered Equals = refl
numbered Includes = refl
numbered IncludedIn = refl
numbered Overlaps = refl
numbered Disjoint = refl

pub same_number : (a b : Rel) → rank_of a ≡ rank_of b → a ≡ b
same_number a b same = sym (numbered a) ∙ ap of_number same ∙ numbered b

-- the bit of a point
pub point_bit : (p : Problem) (g : Ground) (f : Family) (more : List Bool) (k : ℕ) → k < length g.points.items → bit_of (truths p g f more) k ≡ has_point p f (point_at g.points.items k)
point_bit p g f more k within =
    get_or_append_left (map (has_point p f) g.points.items) (shown_bits p g.pairs.items f ++ more) false k (omega (arith, within, length-map g.points.items (has_point p f))) ∙
    get_or-map (has_point p f) g.points.items k [] false within

-- there are five bits a place
shown_length : (p : Problem) (pairs : List ℕ) (f : Family) → length (shown_bits p pairs f) ≡ 5 * length pairs
shown_length p pairs f = length-map-range_with_len (λ k. rank_of (relation_at p pairs f (k / 5)) == k % 5) 0 (5 * length pairs)

-- the bit of a relation at a place
pub rel_bit : (p : Problem) (g : Ground) (f : Family) (more : List Bool) (place : ℕ) (rel : Rel) → place < length g.pairs.items →
    bit_of (truths p g f more) (rel_variable g place rel) ≡ (rank_of (relation_at p g.pairs.items f place) == rank_of rel)
rel_bit p g f more place rel within =
    let pairs = g.pairs.items in
    let small = number_small rel in
    let v = 5 * place + rank_of rel in
    let at : v / 5 ≡ place = omega (arith, small) in
    let rest : v % 5 ≡ rank_of rel = omega (arith, small) in
    let front = map (has_point p f) g.points.items in
    let inside : v < 5 * length pairs = omega (arith, small, within) in
    ap (λ n. bit_of (truths p g f more) (n + v)) (sym (length-map g.points.items (has_point p f))) ∙
    get_or-append-add front (shown_bits p pairs f ++ more) v false ∙
    get_or_append_left (shown_bits p pairs f) more false v (omega (arith, inside, shown_length p pairs f)) ∙
    get_or-map-range_with_len (λ k. rank_of (relation_at p pairs f (k / 5)) == k % 5) 0 (5 * length pairs) v v false inside (omega arith) ∙
    ap (λ k. rank_of (relation_at p pairs f k) == v % 5) at ∙ ap (λ k. rank_of (relation_at p pairs f place) == k) rest

-- the bits of what else is said stand last
pub more_bit : (p : Problem) (g : Ground) (f : Family) (more : List Bool) (k : ℕ) → bit_of (truths p g f more) (variable_count g + k) ≡ bit_of more k
more_bit p g f more k =
    let front = map (has_point p f) g.points.items in
    let shown = shown_bits p g.pairs.items f in
    let one : length front ≡ length g.points.items = length-map g.points.items (has_point p f) in
    let two : length shown ≡ 5 * length g.pairs.items = shown_length p g.pairs.items f in
    let at : variable_count g + k ≡ length front + (length shown + k) = omega (arith, one, two) in
    ap (bit_of (truths p g f more)) at ∙ get_or-append-add front (shown ++ more) (length shown + k) false ∙ get_or-append-add shown more k false

-- a family has a set for each concept
pub sets_full : (p : Problem) (f : Family) → fits_concepts p f ≡ true → length f.sets ≡ concept_count p
sets_full p f fits = eqb-true (length f.sets) (concept_count p) (and_parts (length f.sets == concept_count p) (list_all (list_all (λ x. nat_lt x f.universe)) f.sets) fits).0

-- the elements of a family are below its own number
elem_small : (p : Problem) (f : Family) → fits_concepts p f ≡ true → (x c : ℕ) → is_in x (set_of f c) ≡ true → x < f.universe
elem_small p f fits x c i = elim (cases_lt c (length f.sets)) [
  | inl below ↦
      let each = (and_parts (length f.sets == concept_count p) (list_all (list_all (λ x. nat_lt x f.universe)) f.sets) fits).1 in
      let small = all_at (list_all (λ x. nat_lt x f.universe)) each (In-get_or f.sets c [] below) in
      ltb-true x f.universe (all_at (λ x. nat_lt x f.universe) small (in_from_is x (set_of f c) i))
  | inr past ↦ absurd (false≢true (ap (is_in x) (sym (get_or_past f.sets c [] past)) ∙ i))
]

-- so is what lies in a region of two of its sets
pub lies_small : (p : Problem) (f : Family) → fits_concepts p f ≡ true → (region : Region) (pair : ℕ × ℕ) (x : ℕ) → lies_by region (is_in x (set_of f pair.0)) (is_in x (set_of f pair.1)) ≡ true → x < f.universe
lies_small p f fits LeftOnly pair x h = elem_small p f fits x pair.0 (and_parts (is_in x (set_of f pair.0)) (not (is_in x (set_of f pair.1))) h).0
lies_small p f fits Both pair x h = elem_small p f fits x pair.0 (and_parts (is_in x (set_of f pair.0)) (is_in x (set_of f pair.1)) h).0
lies_small p f fits RightOnly pair x h = elem_small p f fits x pair.1 (and_parts (not (is_in x (set_of f pair.0))) (is_in x (set_of f pair.1)) h).1

-- a family has the point of each of its elements
pub has_own : (p : Problem) (f : Family) → fits_concepts p f ≡ true → (x : ℕ) → x < f.universe → has_point p f (bits_at p f x) ≡ true
has_own p f fits x small =
    let s = bits_show p f (sets_full p f fits) in
    any_from (λ x'. list_all (λ c. same_bool (is_in x' (set_of f c)) (bit_of (bits_at p f x) c)) (concepts p)) (In-range 0 f.universe x (omega arith) (omega (arith, small)))
    (all_from (λ c. same_bool (is_in x (set_of f c)) (bit_of (bits_at p f x) c)) (concepts p) (λ c i. same_bool_from (is_in x (set_of f c)) (bit_of (bits_at p f x) c) (λ h. sym (s.at x c) ∙ h) (λ h. s.at x c ∙ h)))

-- and where it has a point, some element is in just its concepts
pub its_element : (p : Problem) (f : Family) (bits : List Bool) → has_point p f bits ≡ true → (x : ℕ) × ((c : ℕ) → c < concept_count p → is_in x (set_of f c) ≡ bit_of bits c)
its_element p f bits h =
    let found = any_at (λ x. list_all (λ c. same_bool (is_in x (set_of f c)) (bit_of bits c)) (concepts p)) (range_with_len 0 f.universe) h in
    let x = found.item in
    (x, λ c small. same_bool_at (is_in x (set_of f c)) (bit_of bits c) (all_at (λ c. same_bool (is_in x (set_of f c)) (bit_of bits c)) found.passes (In-range 0 (concept_count p) c (omega arith) (omega (arith, small)))))

-- whether a region has an element is said in two ways
pub element_is_seen : (region : Region) (xs ys : List ℕ) → has_element region xs ys ≡ is_seen region xs ys
element_is_seen LeftOnly xs ys = refl
element_is_seen Both xs ys = refl
element_is_seen RightOnly xs ys = refl

-- where the family has a point in a region, the region has an element
pub point_is_seen : (p : Problem) (f : Family) (bits : List Bool) → has_point p f bits ≡ true → (region : Region) (pair : ℕ × ℕ) → pair.0 < concept_count p → pair.1 < concept_count p → lies_in region pair bits ≡ true →
    is_seen region (set_of f pair.0) (set_of f pair.1) ≡ true
point_is_seen p f bits h region pair left right lies =
    let x = its_element p f bits h in
    seen_from region (set_of f pair.0) (set_of f pair.1) x.0
    (ap (λ b. lies_by region b (is_in x.0 (set_of f pair.1))) (x.1 pair.0 left) ∙ ap (λ b. lies_by region (bit_of bits pair.0) b) (x.1 pair.1 right) ∙ lies)
