-- The numbers in a merged taxonomy are those of concepts.
use Rattle.std.proofs.Common.{◌≡◌, ◌<◌, ℕ, List, [], ◌∷◌, length, map, get_or, arith}
use Rattle.std.specs.Prelude.{filter, flat_map, All, nat_lt}
use Rattle.std.proofs.lemmas.List.Elements.{All-nil, All-append, All-head, All-tail, All-map, All-filter, All-weaker, All-from_get_or}
use Rattle.std.proofs.lemmas.List.FromFn.{length-map-range_with_len}
use Rattle.rcc5_core.specs.declared.Rel.{Rel}
use Rattle.world_model.specs.Problem.{Problem, concepts, concept_count, all_pairs, cross_pairs, is_cross}
use Rattle.merge_print.specs.Merged.{leader_of, leaders_of, heads_of, class_of, do_overlap, merged_of}
use Rattle.merge_print.specs.Text.{AreConcepts, IsInRange}
use Rattle.merge_print.proofs.ListLemmas.{range_below, filtered_below}

pub all_flat : {X Y : Type 0} (P : Y → Type 0) (f : X → List Y) (xs : List X) → All (λ x. All P (f x)) xs → All P (flat_map f xs)
all_flat P f [] h = All-nil P
all_flat P f (x ∷ xs) h = All-append P (f x) (flat_map f xs) (All-head (λ x. All P (f x)) x xs h) (all_flat P f xs (All-tail (λ x. All P (f x)) x xs h))

pairs_with : (p : Problem) (i : ℕ) → i < concept_count p → All (AreConcepts p) (map (λ j. (i, j)) (filter (nat_lt i) (concepts p)))
pairs_with p i within =
    All-map (AreConcepts p) (λ j. (i, j)) (filter (nat_lt i) (concepts p))
    (All-weaker (λ j. j < concept_count p) (λ j. AreConcepts p (i, j)) (λ j less. (within, less)) (filter (nat_lt i) (concepts p)) (filtered_below (nat_lt i) (concept_count p)))

all_within : (p : Problem) → All (AreConcepts p) (all_pairs p)
all_within p =
    all_flat (AreConcepts p) (λ i. map (λ j. (i, j)) (filter (nat_lt i) (concepts p))) (concepts p)
    (All-weaker (λ i. i < concept_count p) (λ i. All (AreConcepts p) (map (λ j. (i, j)) (filter (nat_lt i) (concepts p)))) (λ i within. pairs_with p i within) (concepts p) (range_below (concept_count p)))

class_within : (leaders : List ℕ) (n l : ℕ) → length leaders ≡ n → All (λ c. c < n) (class_of leaders l)
class_within leaders n l e =
    All-weaker (λ c. c < length leaders) (λ c. c < n) (λ c less. omega arith) (class_of leaders l) (filtered_below _ (length leaders))

pub merged_in_range : (p : Problem) (table : List Rel) → IsInRange p (merged_of p table)
merged_in_range p table =
    let counted = length-map-range_with_len (leader_of p table) 0 (concept_count p) in
    record {
      classes_within = All-map (All (λ c. c < concept_count p)) (class_of (leaders_of p table)) (heads_of (leaders_of p table))
          (All-from_get_or (λ l. All (λ c. c < concept_count p) (class_of (leaders_of p table) l)) (heads_of (leaders_of p table)) 0
          (λ i _. class_within (leaders_of p table) (concept_count p) (get_or (heads_of (leaders_of p table)) i 0) counted));
      splits_within = All-filter (do_overlap p table) (AreConcepts p) (cross_pairs p) (All-filter (is_cross p) (AreConcepts p) (all_pairs p) (all_within p));
    }
