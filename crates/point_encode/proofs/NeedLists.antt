-- The needs of a prefix, added pair by pair, and which of them are forced.
use Rattle.std.proofs.Common.{◌≡◌, ℕ, ◌+◌, ◌<◌, ◌↔◌, Bool, List, [], ◌∷◌, ◌++◌, map, drop, All, IsTrue, Contains, sym, ap, ◌∙◌, subst, arith}
use Rattle.std.specs.Prelude.{flat_map}
use Rattle.std.specs.List.{range_with_len}
use Rattle.std.proofs.lemmas.List.{append_assoc, at_drop_more, map_push}
use Rattle.std.proofs.lemmas.List.Elements.{All-push}
use Rattle.std.proofs.lemmas.List.FromFn.{map-range_with_len_more}
use Rattle.rcc5_core.specs.declared.Rel.{Rel}
use Rattle.rcc5_core.specs.declared.Region.{Region}
use Rattle.rcc5_core.specs.declared.Occupancy.TheVariants.{Occupied}
use Rattle.rcc5_core.specs.Region.{word_at, same_word, forced_regions}
use Rattle.world_model.specs.Problem.{Problem, concept_count, pairs, pair_count}
use Rattle.world_model.specs.Alive.{allowed, forced_of, problem_at, Need, InRegion, InConcept, needs, needs_at}
use Rattle.world_model.specs.Node.{pair_at}
use Rattle.world_model.proofs.Members.{In-get_or, in_from_contains, contains_from_in}
use Rattle.world_model.proofs.PointPairs.{In-concepts}
use Rattle.world_model.proofs.PointAlive.{In-needs, from_needs}
use Rattle.point_encode.specs.Needs.{need_seen, IsInRange}
use Rattle.point_encode.specs.declared.need.Need.{Need as Stated}
use Rattle.point_encode.specs.declared.need.Need.TheVariants.{Concept}

-- one more pair is looked at
pub pair_needed : (p : Problem) (m : List Rel) (done more all : List Need) (k : ℕ) → k < pair_count p →
    more ≡ done ++ needs_at (pair_at p k, forced_regions (allowed (problem_at p m) (pair_at p k))) →
    done ++ flat_map needs_at (forced_of (problem_at p m) (drop k (pairs p))) ≡ all → more ++ flat_map needs_at (forced_of (problem_at p m) (drop (k + 1) (pairs p))) ≡ all
pair_needed p m done more all k within is left =
    let q = problem_at p m in
    let now = needs_at (pair_at p k, forced_regions (allowed q (pair_at p k))) in
    let rest = flat_map needs_at (forced_of q (drop (k + 1) (pairs p))) in
    ap (λ l. l ++ rest) is
    ∙ append_assoc done now rest
    ∙ ap (λ l. done ++ l) (sym (at_drop_more (λ qs. flat_map needs_at (forced_of q qs)) (pairs p) k (0, 0) within))
    ∙ left

-- one more concept is added
pub concept_added : (p : Problem) (before old new : List Stated) (c : ℕ) → new ≡ old ++ Concept c ∷ [] →
    map (need_seen p) old ≡ map (need_seen p) before ++ map InConcept (range_with_len 0 c) → map (need_seen p) new ≡ map (need_seen p) before ++ map InConcept (range_with_len 0 (c + 1))
concept_added p before old new c now was =
    ap (map (need_seen p)) now ∙ map_push (need_seen p) old (Concept c) ∙ ap (λ l. l ++ InConcept c ∷ []) was
    ∙ append_assoc (map (need_seen p) before) (map InConcept (range_with_len 0 c)) (InConcept c ∷ [])
    ∙ ap (λ l. map (need_seen p) before ++ l) (sym (map-range_with_len_more InConcept 0 c c (omega arith)))

pub concept_in_range : (p : Problem) (old new : List Stated) (c : ℕ) → new ≡ old ++ Concept c ∷ [] → c < concept_count p → All (IsInRange p) old → All (IsInRange p) new
concept_in_range p old new c now within all = subst (All (IsInRange p)) (sym now) (All-push (IsInRange p) old (Concept c) all within)

-- a concept is a need exactly where non-emptiness is on
pub concept_forced : (p : Problem) (m : List Rel) (c : ℕ) (on : Bool) → c < concept_count p → on ≡ p.switches.nonempty →
    IsTrue on ↔ Contains (needs (problem_at p m)) (InConcept c)
concept_forced p m c on within is = (
  (λ t. contains_from_in (In-needs (problem_at p m) (InConcept c) (sym is ∙ t, In-concepts p c within))),
  (λ i. is ∙ (from_needs (problem_at p m) (InConcept c) (in_from_contains (needs (problem_at p m)) i)).0),
)

-- a region is a need exactly where it is forced occupied
pub region_forced : (p : Problem) (m : List Rel) (k : ℕ) (region : Region) (on : Bool) → k < pair_count p →
    on ≡ same_word (word_at (forced_regions (allowed (problem_at p m) (pair_at p k))) region) Occupied →
    IsTrue on ↔ Contains (needs (problem_at p m)) (InRegion (pair_at p k) region)
region_forced p m k region on within is = (
  (λ t. contains_from_in (In-needs (problem_at p m) (InRegion (pair_at p k) region) (In-get_or (pairs p) k (0, 0) within, record { same = sym is ∙ t }))),
  (λ i. is ∙ (from_needs (problem_at p m) (InRegion (pair_at p k) region) (in_from_contains (needs (problem_at p m)) i)).1.same),
)
