-- Possible relations, and families that show them.
use Rattle.std.proofs.Common.{◌≡◌, ℕ, ◌<◌, ◌↔◌, Bool, false, true, not, length, Some, None, List, [], ◌∷◌, refl, sym, ap, ◌∙◌, arith, IsTrue, slice_get, filter, option_map}
use Rattle.std.proofs.lemmas.Bool.{true≢false, not-true}
use Rattle.std.proofs.lemmas.Option.{slice_get-map, slice_get-get_or, slice_get_within}
use Rattle.std.proofs.lemmas.List.{length-append}
use Rattle.rcc5_core.specs.declared.Rel.{Rel}
use Rattle.rcc5_core.specs.declared.RelSet.{RelSet}
use Rattle.rcc5_core.specs.RelationSet.{has, only, is_empty_set}
use Rattle.world_model.specs.Problem.{Problem, pairs, pair_count, cross_pairs, narrowed, all_pairs, is_cross}
use Rattle.world_model.specs.Family.{Family, meets, table_of}
use Rattle.world_model.specs.Alive.{allowed}
use Rattle.world_model.specs.Node.{pair_at}
use Rattle.world_model.specs.Questions.{IsMet, IsPossibleRelation}
use Rattle.world_model.proofs.PointSets.{some_rel, has_some}
use Rattle.world_model.proofs.PointRules.{met_parts}
use Rattle.world_model.proofs.PointAlive.{related}
use Rattle.world_model.proofs.PointPositions.{relation_in}
use Rattle.cert_rules.proofs.Narrowing.{shown_is_met, met_is_shown}
use Rattle.cert_text.specs.declared.line.Subject.TheVariants.{Kept}
use Rattle.pick_search.specs.Blocks.Blocks.{claimed}
use Rattle.mir_report.specs.Possible.{ArePossibleSets, whole_claim}

-- the relation of a pair in the table of a family
pub table_at : (p : Problem) (f : Family) (pair : ℕ) → pair < pair_count p → slice_get (table_of p f) pair ≡ Some (relation_in f (pair_at p pair))
table_at p f pair within =
    slice_get-map (relation_in f) (pairs p) pair ∙ ap (option_map (relation_in f)) (slice_get-get_or (pairs p) pair (0, 0) within)

-- a relation is possible where a family that meets the problem has it
pub possible_by : (p : Problem) (pair : ℕ) (rel : Rel) (f : Family) → pair < pair_count p → IsTrue (meets p f) → relation_in f (pair_at p pair) ≡ rel → IsPossibleRelation p pair rel
possible_by p pair rel f within met there = record {
  table = table_of p f;
  world = (f, met, refl);
  there = table_at p f pair within ∙ ap (λ r. Some r) there;
}

-- what a possible world has at a pair, its family has
had_in_world : (p : Problem) (pair : ℕ) (rel : Rel) → pair < pair_count p → (r : IsPossibleRelation p pair rel) → relation_in r.world.0 (pair_at p pair) ≡ rel
had_in_world p pair rel within r =
    let same : Some (relation_in r.world.0 (pair_at p pair)) ≡ Some rel = sym (table_at p r.world.0 pair within) ∙ ap (λ t. slice_get t pair) r.world.2 ∙ r.there in
    cc

-- a relation is possible at a pair exactly where some family meets the problem with the pair narrowed to it
pub possible_is_met : (p : Problem) (pair : ℕ) (rel : Rel) → pair < pair_count p → IsPossibleRelation p pair rel ↔ IsMet (narrowed p (pair_at p pair) (only rel))
possible_is_met p pair rel within = (
  λ r. (r.world.0, shown_is_met p (pair_at p pair) rel r.world.0 r.world.1 (had_in_world p pair rel within r)),
  λ met.
      let shown = met_is_shown p (pair_at p pair) rel met.0 met.1 in
      possible_by p pair rel met.0 within shown.0 shown.1,
)

-- a relation that a pair does not allow is not possible there
pub refused_is_impossible : (p : Problem) (pair : ℕ) (rel : Rel) → pair < pair_count p → has (allowed p (pair_at p pair)) rel ≡ false → IsPossibleRelation p pair rel → ⊥
refused_is_impossible p pair rel within refused r =
    let m = met_parts p r.world.0 r.world.1 in
    true≢false (sym (related p r.world.0 m.said (pair_at p pair)) ∙ ap (has (allowed p (pair_at p pair))) (had_in_world p pair rel within r) ∙ refused)

-- the pairs across taxonomies are the first ones
pub cross_within : (p : Problem) (pair : ℕ) → pair < length (cross_pairs p) → pair < pair_count p
cross_within p pair h =
    let all = length-append (cross_pairs p) (filter (λ pair. not (is_cross p pair)) (all_pairs p)) in
    omega (arith, h, all)

-- some family meets the problem exactly where the possible set of the first pair is not empty
pub first_set_tells : (p : Problem) (sets : List RelSet) (set : RelSet) → ArePossibleSets p sets → slice_get sets 0 ≡ Some set → not (is_empty_set set) ≡ true ↔ IsMet p
first_set_tells p sets set are got = (
  λ h.
      let some = some_rel set (not-true (is_empty_set set) h) in
      let r = (are.each 0 set got some.0).0 some.1 in
      (r.world.0, r.world.1),
  λ met.
      let rel = relation_in met.0 (pair_at p 0) in
      let room = slice_get_within sets 0 set got in
      let counted = are.count in
      let within : 0 < length (cross_pairs p) = omega (arith, room, counted) in
      ap not (has_some set rel ((are.each 0 set got rel).1 (possible_by p 0 rel met.0 (cross_within p 0 within) met.1 refl))),
)

-- where there is a pair across taxonomies, nothing is claimed of the problem as it is; and where there is none, that is
pub no_whole_claim : (p : Problem) (sets : List RelSet) (set : RelSet) (some : Bool) → slice_get sets 0 ≡ Some set → [] ≡ whole_claim p sets some
no_whole_claim p [] set some first = absurd (cc)
no_whole_claim p (one ∷ sets) set some first = refl

pub whole_claim_made : (p : Problem) (sets : List RelSet) (some : Bool) → slice_get sets 0 ≡ None → claimed (Kept p.kept) some ≡ whole_claim p sets some
whole_claim_made p [] some none = refl
whole_claim_made p (set ∷ sets) some none = absurd (cc)
