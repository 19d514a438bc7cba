-- Whole sets of relations, by one table over all sets and all ways in which three regions may have elements; allowed sets.
use Rattle.std.proofs.Common.{◌≡◌, Bool, true, false, not, ◌&&◌, List, [], ◌∷◌, map, refl, sym, ap, ◌∙◌}
use Rattle.std.specs.Prelude.{ℕ, ◌==◌, filter}
use Rattle.std.specs.List.{list_all}
use Rattle.std.proofs.lemmas.Bool.{and_parts, and_from, eqb-true, eq-eqb}
use Rattle.rcc5_core.specs.declared.Rel.{Rel}
use Rattle.rcc5_core.specs.declared.Rel.TheVariants.{Equals, Includes, IncludedIn, Overlaps, Disjoint}
use Rattle.rcc5_core.specs.declared.RelSet.{RelSet}
use Rattle.rcc5_core.specs.declared.Region.{Region}
use Rattle.rcc5_core.specs.declared.Occupancy.TheVariants.{Empty, Occupied}
use Rattle.rcc5_core.specs.Relation.{all_rels, relation_by}
use Rattle.rcc5_core.specs.RelationSet.{has, only, both_of, every_rel, is_empty_set}
use Rattle.rcc5_core.specs.Region.{all_regions, word_at, same_word, forced_regions, is_whole_set}
use Rattle.world_model.specs.Problem.{Constraint}
use Rattle.world_model.specs.Family.{implies}
use Rattle.world_model.specs.Alive.{meet_of, is_about}
use Rattle.world_model.proofs.Members.{In, all_at, all_from, In-map, In-filter, from_map, from_filter, IsImage}
use Rattle.world_model.proofs.PointSets.{implies_at, implies_from, every, every_at, In-all_rels, Forces, IsInside, seen}

-- whether a region's elements are as the set forces
abbrev agrees : RelSet → Bool → Bool → Bool → Region → Bool
agrees set l m r region =
    implies (same_word (word_at (forced_regions set) region) Empty) (not (seen region l m r)) &&
    implies (same_word (word_at (forced_regions set) region) Occupied) (seen region l m r)

abbrev set_by : Bool → Bool → Bool → Bool → Bool → RelSet
set_by a b c d e = record { equals = a; includes = b; included_in = c; overlaps = d; disjoint = e }

abbrev decided_at : RelSet → Bool → Bool → Bool → Bool
decided_at set l m r = implies (is_whole_set set && not (is_empty_set set) && list_all (agrees set l m r) all_regions) (has set (relation_by l m r))

abbrev decided : RelSet → Bool
decided set = every (λ l. every (λ m. every (λ r. decided_at set l m r)))

whole_table : every (λ a. every (λ b. every (λ c. every (λ d. every (λ e. decided (set_by a b c d e)))))) ≡ true
whole_table = refl

abbrev single_at : RelSet → Rel → Bool
single_at set rel = implies (not (is_empty_set set) && list_all (λ other. implies (has set other) (has (only rel) other)) all_rels) (is_whole_set set)

single_table : every (λ a. every (λ b. every (λ c. every (λ d. every (λ e. list_all (single_at (set_by a b c d e)) all_rels))))) ≡ true
single_table = refl

-- what a table says of every set it says of each
at_set : (test : RelSet → Bool) → every (λ a. every (λ b. every (λ c. every (λ d. every (λ e. test (set_by a b c d e)))))) ≡ true →
    (set : RelSet) → test set ≡ true
at_set test h set =
    every_at (λ e. test (set_by set.equals set.includes set.included_in set.overlaps e))
    (every_at (λ d. every (λ e. test (set_by set.equals set.includes set.included_in d e)))
    (every_at (λ c. every (λ d. every (λ e. test (set_by set.equals set.includes c d e))))
    (every_at (λ b. every (λ c. every (λ d. every (λ e. test (set_by set.equals b c d e)))))
    (every_at (λ a. every (λ b. every (λ c. every (λ d. every (λ e. test (set_by a b c d e)))))) h set.equals)
    set.includes)
    set.included_in)
    set.overlaps)
    set.disjoint

agrees_from : (set : RelSet) (l m r : Bool) (region : Region) → ((b : Bool) → Forces set region b → seen region l m r ≡ b) → agrees set l m r region ≡ true
agrees_from set l m r region h =
    and_from _ _
    (implies_from _ _ (λ e. ap not (h false (record { same = e }))))
    (implies_from _ _ (λ e. h true (record { same = e })))

-- two sets of which all is so that a whole set forces have one of its relations
pub whole_has : (set : RelSet) (l m r : Bool) → is_whole_set set ≡ true → is_empty_set set ≡ false →
    ((region : Region) (b : Bool) → Forces set region b → seen region l m r ≡ b) → has set (relation_by l m r) ≡ true
whole_has set l m r whole some so =
    let row = every_at (λ r. decided_at set l m r) (every_at (λ m. every (λ r. decided_at set l m r)) (every_at (λ l. every (λ m. every (λ r. decided_at set l m r))) (at_set decided whole_table set) l) m) r in
    implies_at _ _ row
    (and_from _ _ (and_from _ _ whole (ap not some)) (all_from (agrees set l m r) all_regions (λ region i. agrees_from set l m r region (so region))))

-- a set within one relation is whole where it is not empty
pub single_is_whole : (set : RelSet) (rel : Rel) → is_empty_set set ≡ false → IsInside set (only rel) → is_whole_set set ≡ true
single_is_whole set rel some inside =
    implies_at _ _ (all_at (single_at set) (at_set (λ set. list_all (single_at set) all_rels) single_table set) (In-all_rels rel))
    (and_from _ _ (ap not some) (all_from _ all_rels (λ other i. implies_from (has set other) (has (only rel) other) (inside other))))

pub has-every_rel : (rel : Rel) → has every_rel rel ≡ true
has-every_rel Equals = refl
has-every_rel Includes = refl
has-every_rel IncludedIn = refl
has-every_rel Overlaps = refl
has-every_rel Disjoint = refl

pub has-both_of : (a b : RelSet) (rel : Rel) → has (both_of a b) rel ≡ (has a rel && has b rel)
has-both_of a b Equals = refl
has-both_of a b Includes = refl
has-both_of a b IncludedIn = refl
has-both_of a b Overlaps = refl
has-both_of a b Disjoint = refl

pub has-meet_of : (sets : List RelSet) (rel : Rel) → has (meet_of sets) rel ≡ list_all (λ set. has set rel) sets
has-meet_of [] rel = has-every_rel rel
has-meet_of (set ∷ sets) rel = has-both_of set (meet_of sets) rel ∙ ap (λ b. has set rel && b) (has-meet_of sets rel)

-- what statements allow a pair, each statement about it says
pub allows_at : (cs : List Constraint) (pair : ℕ × ℕ) (rel : Rel) (c : Constraint) → has (meet_of (map (λ c. c.set) (filter (is_about pair) cs))) rel ≡ true →
    In c cs → is_about pair c ≡ true → has c.set rel ≡ true
allows_at cs pair rel c h i about =
    all_at (λ set. has set rel) (sym (has-meet_of (map (λ c. c.set) (filter (is_about pair) cs)) rel) ∙ h) (In-map (λ c. c.set) (In-filter (is_about pair) i about))

pub allows_from : (cs : List Constraint) (pair : ℕ × ℕ) (rel : Rel) → ((c : Constraint) → In c cs → is_about pair c ≡ true → has c.set rel ≡ true) →
    has (meet_of (map (λ c. c.set) (filter (is_about pair) cs))) rel ≡ true
allows_from cs pair rel each =
    has-meet_of (map (λ c. c.set) (filter (is_about pair) cs)) rel ∙
    all_from (λ set. has set rel) (map (λ c. c.set) (filter (is_about pair) cs)) (λ set i.
    let image : IsImage (λ c. c.set) set (filter (is_about pair) cs) = from_map (λ c. c.set) (filter (is_about pair) cs) i in
    let kept = from_filter (is_about pair) cs image.member in
    ap (λ s. has s rel) image.is ∙ each image.source kept.0 kept.1)

-- a statement about a pair has its concepts
pub about_is : (pair : ℕ × ℕ) (c : Constraint) → is_about pair c ≡ true → (c.left ≡ pair.0) × (c.right ≡ pair.1)
about_is pair c h =
    let parts = and_parts (c.left == pair.0) (c.right == pair.1) h in
    (eqb-true c.left pair.0 parts.0, eqb-true c.right pair.1 parts.1)

pub about_from : (pair : ℕ × ℕ) (c : Constraint) → c.left ≡ pair.0 → c.right ≡ pair.1 → is_about pair c ≡ true
about_from pair c l r = and_from (c.left == pair.0) (c.right == pair.1) (eq-eqb c.left pair.0 l) (eq-eqb c.right pair.1 r)
