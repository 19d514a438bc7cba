-- Points and needs of a problem after one pair was narrowed to a set of relations.
use Rattle.std.proofs.Common.{◌≡◌, ℕ, ◌+◌, ◌<◌, ◌↔◌, ◌⊎◌, Bool, true, false, ◌&&◌, not, List, [], ◌∷◌, ◌++◌, length, get_or, inl, inr, refl, sym, ap, ◌∙◌, subst, arith}
use Rattle.std.proofs.Math.Seq.{get_or-append_seam}
use Rattle.std.proofs.lemmas.List.{get_or_append_left, length-append}
use Rattle.std.proofs.lemmas.Bool.{and_from, and_parts, false≢true, not-true, cases_lt, cases_order, both_ways}
use Rattle.rcc5_core.specs.declared.Rel.{Rel}
use Rattle.rcc5_core.specs.declared.Rel.TheVariants.{Equals, Includes, IncludedIn, Overlaps, Disjoint}
use Rattle.rcc5_core.specs.declared.RelSet.{RelSet}
use Rattle.rcc5_core.specs.declared.Region.{Region}
use Rattle.rcc5_core.specs.declared.Occupancy.TheVariants.{Empty}
use Rattle.rcc5_core.specs.RelationSet.{has, both_of, only, is_empty_set}
use Rattle.rcc5_core.specs.Region.{all_regions, word_at, same_word, forced_regions}
use Rattle.world_model.specs.Problem.{Problem, Constraint, pairs, pair_count}
use Rattle.world_model.specs.Node.{pair_at}
use Rattle.world_model.specs.Alive.{allowed, bit_of, lies_in, avoids, is_point, Need, needs, is_in_need, problem_at, narrowings_at, IsAlive, all_allow, point_at, avoids_by}
use Rattle.world_model.specs.Alive.Need.{InRegion, InConcept}
use Rattle.world_model.proofs.Members.{In, all_at, all_from, In-get_or, place_of, in_from_contains, contains_from_in, IsPlaced}
use Rattle.world_model.proofs.PointSets.{IsInside, Forces, forces_inside, In-all_regions}
use Rattle.world_model.proofs.PointAlive.{Pointed, point_parts, point_whole, IsNeed, In-needs, from_needs}
use Rattle.world_model.proofs.PointOnce.{narrowed_inside, narrowed_beyond}
use Rattle.world_model.proofs.PointPositions.{with_narrowings}
use Rattle.bit_rows.specs.Rows.{SomePlace}
use Rattle.point_frames.specs.Frames.{AreRegionsMet}
use Rattle.point_ladder.specs.Ladders.{bits_at, AreServed}
use Rattle.world_model.proofs.Narrowed.{both_only, none_common, only_some, only_inside}

pub has_both : (a b : RelSet) (rel : Rel) → has (both_of a b) rel ≡ true → has a rel ≡ true
has_both a b Equals h = (and_parts a.equals b.equals h).0
has_both a b Includes h = (and_parts a.includes b.includes h).0
has_both a b IncludedIn h = (and_parts a.included_in b.included_in h).0
has_both a b Overlaps h = (and_parts a.overlaps b.overlaps h).0
has_both a b Disjoint h = (and_parts a.disjoint b.disjoint h).0

-- of two problems that differ in their narrowings, the second allows just a smaller set at one pair, and what the first allows at the others
pub record IsNarrower (b : Problem) (ns ms : List Constraint) (k : ℕ) (set : RelSet) : Type 0 where
  pub within : k < pair_count b
  pub smaller : IsInside set (allowed (with_narrowings b ns) (pair_at b k))
  pub some : is_empty_set set ≡ false
  pub there : allowed (with_narrowings b ms) (pair_at b k) ≡ set
  pub others : (pair : ℕ × ℕ) → In pair (pairs b) → (allowed (with_narrowings b ms) pair ≡ allowed (with_narrowings b ns) pair) ⊎ (pair_at b k ≡ pair)

-- the narrowed pair
pair_there : (b : Problem) (ns ms : List Constraint) (k : ℕ) (set : RelSet) → IsNarrower b ns ms k set → In (pair_at b k) (pairs b)
pair_there b ns ms k set n = In-get_or (pairs b) k (0, 0) n.within

-- what a pair allows: what it allowed, or, at the narrowed pair, the set
allowed_next : (b : Problem) (ns ms : List Constraint) (k : ℕ) (set : RelSet) (pair : ℕ × ℕ) → IsNarrower b ns ms k set → In pair (pairs b) →
    (allowed (with_narrowings b ms) pair ≡ allowed (with_narrowings b ns) pair) ⊎ ((pair_at b k ≡ pair) × (allowed (with_narrowings b ms) pair ≡ set))
allowed_next b ns ms k set pair n i = elim (n.others pair i) [
  | inl same ↦ inl same
  | inr here ↦ inr (here, subst (λ q. allowed (with_narrowings b ms) q ≡ set) here n.there)
]

-- what was forced stays forced
forces_more : (b : Problem) (ns ms : List Constraint) (k : ℕ) (set : RelSet) (pair : ℕ × ℕ) (region : Region) (o : Bool) → IsNarrower b ns ms k set → In pair (pairs b) →
    Forces (allowed (with_narrowings b ns) pair) region o → Forces (allowed (with_narrowings b ms) pair) region o
forces_more b ns ms k set pair region o n i f = elim (allowed_next b ns ms k set pair n i) [
  | inl same ↦ subst (λ s. Forces s region o) (sym same) f
  | inr at ↦
      let less : IsInside set (allowed (with_narrowings b ns) pair) = subst (λ q. IsInside set (allowed (with_narrowings b ns) q)) at.0 n.smaller in
      let one : Forces set region o = forces_inside less n.some f in
      subst (λ s. Forces s region o) (sym at.1) one
]

-- what is forced was forced, or is so by the set
forces_less : (b : Problem) (ns ms : List Constraint) (k : ℕ) (set : RelSet) (pair : ℕ × ℕ) (region : Region) (o : Bool) → IsNarrower b ns ms k set → In pair (pairs b) →
    Forces (allowed (with_narrowings b ms) pair) region o → Forces (allowed (with_narrowings b ns) pair) region o ⊎ ((pair_at b k ≡ pair) × Forces set region o)
forces_less b ns ms k set pair region o n i f = elim (allowed_next b ns ms k set pair n i) [
  | inl same ↦ inl (subst (λ s. Forces s region o) same f)
  | inr at ↦ inr (at.0, subst (λ s. Forces s region o) at.1 f)
]

same_bits : (a b : Bool) → (a ≡ true → b ≡ true) → (b ≡ true → a ≡ true) → a ≡ b
same_bits true b to from = sym (to refl)
same_bits false true to from = from refl
same_bits false false to from = refl

not_both_from : (a b : Bool) → (a ≡ true → b ≡ false) → not (a && b) ≡ true
not_both_from true b h = ap not (h refl)
not_both_from false b h = refl

not_both_at : (a b : Bool) → not (a && b) ≡ true → a ≡ true → b ≡ false
not_both_at true true h e = absurd (false≢true h)
not_both_at true false h e = refl
not_both_at false b h e = absurd (false≢true e)

-- the points then are those that lie in no region that the set forces empty
pub point_next : (b : Problem) (ns ms : List Constraint) (k : ℕ) (set : RelSet) (bits : List Bool) → IsNarrower b ns ms k set →
    is_point (with_narrowings b ms) bits ≡ (is_point (with_narrowings b ns) bits && avoids_by (forced_regions set) (bit_of bits (pair_at b k).0) (bit_of bits (pair_at b k).1))
point_next b ns ms k set bits n = same_bits (is_point r bits) (is_point q bits && avoids bits (pair, forced_regions set)) to from
  where
    q : Problem
    q = with_narrowings b ns

    r : Problem
    r = with_narrowings b ms

    pair : ℕ × ℕ
    pair = pair_at b k

    test : Region → Bool
    test region = not (same_word (word_at (forced_regions set) region) Empty && lies_in region pair bits)

    to : is_point r bits ≡ true → (is_point q bits && avoids bits (pair, forced_regions set)) ≡ true
    to h =
        let parts : Pointed r bits = point_parts r bits h in
        and_from (is_point q bits) (avoids bits (pair, forced_regions set))
        (point_whole q bits (record {
          structure = parts.structure;
          apart = λ other region i f. parts.apart other region i (forces_more b ns ms k set other region false n i f);
        }))
        (all_from test all_regions (λ region i. not_both_from (same_word (word_at (forced_regions set) region) Empty) (lies_in region pair bits) (λ e.
        parts.apart pair region (pair_there b ns ms k set n) (subst (λ s. Forces s region false) (sym n.there) (record { same = e })))))

    from : (is_point q bits && avoids bits (pair, forced_regions set)) ≡ true → is_point r bits ≡ true
    from h =
        let both = and_parts (is_point q bits) (avoids bits (pair, forced_regions set)) h in
        let parts : Pointed q bits = point_parts q bits both.0 in
        point_whole r bits (record {
          structure = parts.structure;
          apart = λ other region i f. elim (forces_less b ns ms k set other region false n i f) [
            | inl before ↦ parts.apart other region i before
            | inr at ↦
                let lacks : lies_in region pair bits ≡ false = not_both_at (same_word (word_at (forced_regions set) region) Empty) (lies_in region pair bits) (all_at test both.1 (In-all_regions region)) at.1.same in
                subst (λ p. lies_in region p bits ≡ false) at.0 lacks
          ];
        })

-- the needs then are those before and the regions that the set forces occupied
pub served_next : (b : Problem) (ns ms : List Constraint) (k : ℕ) (set : RelSet) (points : List (List Bool)) (some : ℕ → Bool) → IsNarrower b ns ms k set →
    AreServed (with_narrowings b ms) points some ↔
    (AreServed (with_narrowings b ns) points some × AreRegionsMet (forced_regions set) (bits_at points (pair_at b k).0) (bits_at points (pair_at b k).1) some)
served_next b ns ms k set points some n = (
  λ s. (
    λ need i. before s need (from_needs q need (in_from_contains (needs q) i)),
    λ region occupied.
        s (InRegion pair region) (contains_from_in (In-needs r (InRegion pair region)
        (pair_there b ns ms k set n, subst (λ s. Forces s region true) (sym n.there) (record { same = occupied })))),
  ),
  λ h need i. after h need (from_needs r need (in_from_contains (needs r) i)),
)
  where
    q : Problem
    q = with_narrowings b ns

    r : Problem
    r = with_narrowings b ms

    pair : ℕ × ℕ
    pair = pair_at b k

    before : AreServed r points some → (need : Need) → IsNeed q need → SomePlace (λ j. some j && is_in_need need (point_at points j))
    before s (InRegion other region) h = s (InRegion other region) (contains_from_in (In-needs r (InRegion other region) (h.0, forces_more b ns ms k set other region true n h.0 h.1)))
    before s (InConcept c) h = s (InConcept c) (contains_from_in (In-needs r (InConcept c) h))

    after : AreServed q points some × AreRegionsMet (forced_regions set) (bits_at points pair.0) (bits_at points pair.1) some → (need : Need) → IsNeed r need →
        SomePlace (λ j. some j && is_in_need need (point_at points j))
    after h (InRegion other region) f = elim (forces_less b ns ms k set other region true n f.0 f.1) [
      | inl old ↦ h.0 (InRegion other region) (contains_from_in (In-needs q (InRegion other region) (f.0, old)))
      | inr at ↦
          subst (λ p. SomePlace (λ j. some j && lies_in region p (point_at points j))) at.0 (h.1 region at.1.same)
    ]
    after h (InConcept c) f = h.0 (InConcept c) (contains_from_in (In-needs q (InConcept c) f))

-- each pair allows something then, where each did before
pub allow_next : (b : Problem) (ns ms : List Constraint) (k : ℕ) (set : RelSet) → all_allow (with_narrowings b ns) ≡ true → IsNarrower b ns ms k set → all_allow (with_narrowings b ms) ≡ true
allow_next b ns ms k set allow n =
    all_from (λ pair. not (is_empty_set (allowed (with_narrowings b ms) pair))) (pairs b) (λ pair i. ap not (elim (allowed_next b ns ms k set pair n i) [
      | inl same ↦ ap is_empty_set same ∙ not-true (is_empty_set (allowed (with_narrowings b ns) pair)) (all_at (λ pair. not (is_empty_set (allowed (with_narrowings b ns) pair))) allow i)
      | inr at ↦ ap is_empty_set at.1 ∙ n.some
    ]))

-- a path that is not full, and a relation that its next pair allows
pub record IsNext (p : Problem) (m : List Rel) (rel : Rel) : Type 0 where
  pub short : length m < pair_count p
  pub allows : has (allowed p (pair_at p (length m))) rel ≡ true

-- the narrowings of a problem at a position
abbrev pub narrowings_of : Problem → List Rel → List Constraint
narrowings_of p m = p.narrowings ++ narrowings_at (pairs p) m

-- one relation more narrows the next pair to it
pub next_is_narrower : (p : Problem) (m : List Rel) (rel : Rel) → IsNext p m rel → IsNarrower p (narrowings_of p m) (narrowings_of p (m ++ rel ∷ [])) (length m) (only rel)
next_is_narrower p m rel next = record {
  within = next.short;
  smaller = λ other h. ap (λ s. has s other) (narrowed_beyond p m (length m) (omega arith) next.short) ∙ only_inside (allowed p (pair_at p (length m))) rel other next.allows h;
  some = only_some rel;
  there =
      narrowed_inside p more (length m) (omega (arith, long)) next.short ∙
      ap (λ r. both_of (allowed p (pair_at p (length m))) (only r)) (get_or-append_seam m rel [] Equals) ∙ both_only (allowed p (pair_at p (length m))) rel next.allows;
  others = λ pair i. by pair (place_of i);
}
  where
    more : List Rel
    more = m ++ rel ∷ []

    long : length more ≡ length m + 1
    long = length-append m (rel ∷ [])

    by : (pair : ℕ × ℕ) → IsPlaced pair (pairs p) → (allowed (problem_at p more) pair ≡ allowed (problem_at p m) pair) ⊎ (pair_at p (length m) ≡ pair)
    by pair placed = elim (cases_order placed.place (length m)) [
      | inl same ↦ inr (ap (pair_at p) (sym same) ∙ placed.is (0, 0))
      | inr (inl before) ↦
          let one = narrowed_inside p more placed.place (omega (arith, long)) placed.within in
          let other = narrowed_inside p m placed.place before placed.within in
          let same = ap (λ s. both_of (allowed p (pair_at p placed.place)) (only s)) (get_or_append_left m (rel ∷ []) Equals placed.place before) in
          inl (subst (λ q. allowed (problem_at p more) q ≡ allowed (problem_at p m) q) (placed.is (0, 0)) (one ∙ same ∙ sym other))
      | inr (inr after) ↦
          let one = narrowed_beyond p more placed.place (omega (arith, long)) placed.within in
          let other = narrowed_beyond p m placed.place (omega arith) placed.within in
          inl (subst (λ q. allowed (problem_at p more) q ≡ allowed (problem_at p m) q) (placed.is (0, 0)) (one ∙ sym other))
    ]

-- a relation that the next pair does not allow leads to a dead path
pub refused_is_dead : (p : Problem) (m : List Rel) (rel : Rel) → length m < pair_count p → has (allowed p (pair_at p (length m))) rel ≡ false → IsAlive (problem_at p (m ++ rel ∷ [])) → ⊥
refused_is_dead p m rel short refused alive =
    let more = m ++ rel ∷ [] in
    let pair = pair_at p (length m) in
    let narrowed : allowed (problem_at p more) pair ≡ both_of (allowed p pair) (only rel) =
    narrowed_inside p more (length m) (omega (arith, length-append m (rel ∷ []))) short ∙ ap (λ s. both_of (allowed p pair) (only s)) (get_or-append_seam m rel [] Equals) in
    both_ways (is_empty_set (allowed (problem_at p more) pair))
    (not-true (is_empty_set (allowed (problem_at p more) pair)) (all_at (λ pair. not (is_empty_set (allowed (problem_at p more) pair))) alive.allow (In-get_or (pairs p) (length m) (0, 0) short)))
    (ap is_empty_set narrowed ∙ none_common (allowed p pair) rel refused)

-- a pair at a path allows only what it allows at the start
allowed_before : (p : Problem) (m : List Rel) (pair : ℕ × ℕ) → In pair (pairs p) → (rel : Rel) → has (allowed (problem_at p m) pair) rel ≡ true → has (allowed p pair) rel ≡ true
allowed_before p m pair i rel h = by (place_of i)
  where
    by : IsPlaced pair (pairs p) → has (allowed p pair) rel ≡ true
    by placed = elim (cases_lt placed.place (length m)) [
      | inl inside ↦
          let set = subst (λ q. allowed (problem_at p m) q ≡ both_of (allowed p q) (only (get_or m placed.place Equals))) (placed.is (0, 0)) (narrowed_inside p m placed.place inside placed.within) in
          has_both (allowed p pair) (only (get_or m placed.place Equals)) rel (ap (λ s. has s rel) (sym set) ∙ h)
      | inr past ↦
          let set = subst (λ q. allowed (problem_at p m) q ≡ allowed p q) (placed.is (0, 0)) (narrowed_beyond p m placed.place past placed.within) in
          ap (λ s. has s rel) (sym set) ∙ h
    ]

-- so the points there are among those at the start
pub point_before : (p : Problem) (m : List Rel) (bits : List Bool) → all_allow (problem_at p m) ≡ true → is_point (problem_at p m) bits ≡ true → is_point p bits ≡ true
point_before p m bits allow h =
    let parts : Pointed (problem_at p m) bits = point_parts (problem_at p m) bits h in
    point_whole p bits (record {
      structure = parts.structure;
      apart = λ pair region i f. parts.apart pair region i (forces_inside (allowed_before p m pair i)
          (not-true (is_empty_set (allowed (problem_at p m) pair)) (all_at (λ pair. not (is_empty_set (allowed (problem_at p m) pair))) allow i)) f);
    })
