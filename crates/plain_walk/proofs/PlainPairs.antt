-- What the tests of all pairs come to.
use Rattle.std.proofs.Common.{◌≡◌, ℕ, ◌<◌, ◌+◌, Bool, true, false, ◌&&◌, ◌||◌, not, cond, List, [], ◌∷◌, ◌++◌, map, take, refl, sym, ap, ◌∙◌}
use Rattle.std.specs.Prelude.{flat_map, filter, if◌then◌else◌}
use Rattle.std.specs.List.{list_all, list_any}
use Rattle.std.proofs.lemmas.List.{take_more, map-append}
use Rattle.rcc5_core.specs.declared.Rel.{Rel}
use Rattle.rcc5_core.specs.declared.RelSet.{RelSet}
use Rattle.rcc5_core.specs.declared.Regions.{Regions}
use Rattle.rcc5_core.specs.declared.Region.{Region}
use Rattle.rcc5_core.specs.declared.Occupancy.TheVariants.{Occupied}
use Rattle.rcc5_core.specs.RelationSet.{is_empty_set}
use Rattle.rcc5_core.specs.Region.{forced_regions, all_regions, same_word, word_at}
use Rattle.world_model.specs.Problem.{Problem, concept_count, concepts, pairs, pair_count}
use Rattle.world_model.specs.Family.{implies}
use Rattle.world_model.specs.Alive.{allowed, forced_of, forced_pairs, bit_of, lies_in, Need, InRegion, InConcept, is_in_need, needs_at, needs, each_has_one, obeys, all_allow, problem_at}
use Rattle.world_model.specs.Node.{pair_at}
use Rattle.world_model.specs.Trial.{bit_lists, points_by_trial, alive_by_trial}
use Rattle.plain_walk.specs.Plain.{serves_at}

and_assoc : (a b c : Bool) → ((a && b) && c) ≡ (a && (b && c))
and_assoc true b c = refl
and_assoc false b c = refl

-- a test of all of two lists
all_of_two : {X : Type 0} (g : X → Bool) (xs ys : List X) → list_all g (xs ++ ys) ≡ (list_all g xs && list_all g ys)
all_of_two g [] ys = refl
all_of_two g (x ∷ xs) ys = ap (λ b. g x && b) (all_of_two g xs ys) ∙ sym (and_assoc (g x) (list_all g xs) (list_all g ys))

-- of lists, one after another
all_of_each : {X Y : Type 0} (g : Y → Bool) (h : X → List Y) (xs : List X) → list_all g (flat_map h xs) ≡ list_all (λ x. list_all g (h x)) xs
all_of_each g h [] = refl
all_of_each g h (x ∷ xs) = all_of_two g (h x) (flat_map h xs) ∙ ap (λ b. list_all g (h x) && b) (all_of_each g h xs)

-- two tests that agree
all_same : {X : Type 0} (f g : X → Bool) (xs : List X) → ((x : X) → f x ≡ g x) → list_all f xs ≡ list_all g xs
all_same f g [] h = refl
all_same f g (x ∷ xs) h = ap (λ b. b && list_all f xs) (h x) ∙ ap (λ b. g x && b) (all_same f g xs h)

-- a test of images
all_of_map : {X Y : Type 0} (g : Y → Bool) (f : X → Y) (xs : List X) → list_all g (map f xs) ≡ list_all (λ x. g (f x)) xs
all_of_map g f [] = refl
all_of_map g f (x ∷ xs) = ap (λ b. g (f x) && b) (all_of_map g f xs)

-- what sets force, pair by pair
pub forced_by_sets : (q : Problem) (ps : List (ℕ × ℕ)) → map (λ (entry : (ℕ × ℕ) × RelSet). (entry.0, forced_regions entry.1)) (map (λ pair. (pair, allowed q pair)) ps) ≡ forced_of q ps
forced_by_sets q [] = refl
forced_by_sets q (pair ∷ ps) = ap (λ rest. (pair, forced_regions (allowed q pair)) ∷ rest) (forced_by_sets q ps)

-- each pair allows some relation where each of its sets has one
pub all_allow_by_sets : (q : Problem) (ps : List (ℕ × ℕ)) → list_all (λ (entry : (ℕ × ℕ) × RelSet). not (is_empty_set entry.1)) (map (λ pair. (pair, allowed q pair)) ps) ≡ list_all (λ pair. not (is_empty_set (allowed q pair))) ps
all_allow_by_sets q ps = all_of_map (λ (entry : (ℕ × ℕ) × RelSet). not (is_empty_set entry.1)) (λ pair. (pair, allowed q pair)) ps

-- the needs of a pair
needs_of_pair : (points : List (List Bool)) (pair : ℕ × ℕ) (regions : Regions) (rs : List Region) →
    list_all (λ need. list_any (is_in_need need) points) (map (InRegion pair) (filter (λ region. same_word (word_at regions region) Occupied) rs)) ≡
    list_all (λ region. not (same_word (word_at regions region) Occupied) || list_any (lies_in region pair) points) rs
needs_of_pair points pair regions [] = refl
needs_of_pair points pair regions (r ∷ rs) = step (same_word (word_at regions r) Occupied) (needs_of_pair points pair regions rs)
  where
    later : List Region
    later = filter (λ region. same_word (word_at regions region) Occupied) rs

    step : (b : Bool) →
        list_all (λ need. list_any (is_in_need need) points) (map (InRegion pair) later) ≡ list_all (λ region. not (same_word (word_at regions region) Occupied) || list_any (lies_in region pair) points) rs →
        list_all (λ need. list_any (is_in_need need) points) (map (InRegion pair) (cond b (r ∷ later) later)) ≡
        ((not b || list_any (lies_in r pair) points) && list_all (λ region. not (same_word (word_at regions region) Occupied) || list_any (lies_in region pair) points) rs)
    step true h = ap (λ b. list_any (lies_in r pair) points && b) h
    step false h = h

-- the needs of concepts, where they are asked for
needs_of_concepts : (points : List (List Bool)) (nonempty : Bool) (cs : List ℕ) →
    list_all (λ need. list_any (is_in_need need) points) (if nonempty then map InConcept cs else []) ≡ implies nonempty (list_all (λ c. list_any (λ bits. bit_of bits c) points) cs)
needs_of_concepts points true cs = all_of_map (λ need. list_any (is_in_need need) points) InConcept cs
needs_of_concepts points false cs = refl

-- points serve all needs where they serve each pair and each concept
pub served_by_parts : (q : Problem) (points : List (List Bool)) →
    (list_all (serves_at points) (forced_pairs q) && implies q.switches.nonempty (list_all (λ c. list_any (λ bits. bit_of bits c) points) (concepts q))) ≡ each_has_one (needs q) points
served_by_parts q points =
    let test : Need → Bool = λ need. list_any (is_in_need need) points in
    sym (all_of_two test (flat_map needs_at (forced_pairs q)) (if q.switches.nonempty then map InConcept (concepts q) else []) ∙
    (λ i. (all_of_each test needs_at (forced_pairs q) ∙
    all_same (λ entry. list_all test (needs_at entry)) (serves_at points) (forced_pairs q) (λ entry. needs_of_pair points entry.0 entry.1 all_regions)) i &&
    needs_of_concepts points q.switches.nonempty (concepts q) i))

-- the allowed sets of all pairs at a position
abbrev pub sets_at : Problem → List Rel → List ((ℕ × ℕ) × RelSet)
sets_at p m = map (λ pair. (pair, allowed (problem_at p m) pair)) (pairs p)

-- a problem is dead at a position where one of the sets has no relation
pub dead_by_sets : (p : Problem) (m : List Rel) (sets : List ((ℕ × ℕ) × RelSet)) → sets ≡ sets_at p m →
    list_all (λ (entry : (ℕ × ℕ) × RelSet). not (is_empty_set entry.1)) sets ≡ false → false ≡ alive_by_trial (problem_at p m)
dead_by_sets p m sets same h =
    let q = problem_at p m in
    let none : all_allow q ≡ false = sym (ap (list_all (λ (entry : (ℕ × ℕ) × RelSet). not (is_empty_set entry.1))) same ∙ all_allow_by_sets q (pairs p)) ∙ h in
    sym (ap (λ b. b && each_has_one (needs q) (points_by_trial q)) none)

-- else it is alive where the points serve all needs
pub alive_by_sets : (p : Problem) (m : List Rel) (sets : List ((ℕ × ℕ) × RelSet)) (forced : List ((ℕ × ℕ) × Regions)) (points : List (List Bool)) → sets ≡ sets_at p m →
    list_all (λ (entry : (ℕ × ℕ) × RelSet). not (is_empty_set entry.1)) sets ≡ true → forced ≡ map (λ (entry : (ℕ × ℕ) × RelSet). (entry.0, forced_regions entry.1)) sets →
    points ≡ filter (obeys p forced) (bit_lists (concept_count p)) →
    (list_all (serves_at points) forced && implies p.switches.nonempty (list_all (λ c. list_any (λ bits. bit_of bits c) points) (concepts p))) ≡ alive_by_trial (problem_at p m)
alive_by_sets p m sets forced points same h f e =
    let q = problem_at p m in
    let allow : all_allow q ≡ true = sym (ap (list_all (λ (entry : (ℕ × ℕ) × RelSet). not (is_empty_set entry.1))) same ∙ all_allow_by_sets q (pairs p)) ∙ h in
    let what : forced ≡ forced_pairs q = f ∙ ap (map (λ (entry : (ℕ × ℕ) × RelSet). (entry.0, forced_regions entry.1))) same ∙ forced_by_sets q (pairs p) in
    let all : points ≡ points_by_trial q = e ∙ ap (λ fs. filter (obeys p fs) (bit_lists (concept_count p))) what in
    ap (λ fs. list_all (serves_at points) fs && implies p.switches.nonempty (list_all (λ c. list_any (λ bits. bit_of bits c) points) (concepts p))) what ∙
    served_by_parts q points ∙
    ap (each_has_one (needs q)) all ∙
    sym (ap (λ b. b && each_has_one (needs q) (points_by_trial q)) allow)

-- one pair more with its set
pub sets_more : (p q : Problem) (i : ℕ) (old new : List ((ℕ × ℕ) × RelSet)) (pair : ℕ × ℕ) (set : RelSet) → i < pair_count p → pair ≡ pair_at p i → set ≡ allowed q (pair_at p i) →
    old ≡ map (λ x. (x, allowed q x)) (take i (pairs p)) → new ≡ old ++ (pair, set) ∷ [] → new ≡ map (λ x. (x, allowed q x)) (take (i + 1) (pairs p))
sets_more p q i old new pair set within at is was now =
    let f : ℕ × ℕ → (ℕ × ℕ) × RelSet = λ x. (x, allowed q x) in
    now ∙ (λ j. was j ++ (at j, is j) ∷ []) ∙
    sym (ap (map f) (take_more (pairs p) i (0, 0) within) ∙ map-append f (take i (pairs p)) (pair_at p i ∷ []))
