-- A problem that a family meets is alive, and one of whole allowed sets that is alive is met by the points of its needs.
use Rattle.std.proofs.Common.{◌≡◌, ℕ, Bool, true, false, not, ◌&&◌, cond, List, [], ◌∷◌, map, length, inl, inr, refl, sym, ap, ◌∙◌, subst}
use Rattle.std.specs.Prelude.{◌==◌, nat_lt, filter, flat_map}
use Rattle.std.specs.List.{list_all}
use Rattle.std.proofs.lemmas.Bool.{and_parts, and_from, false≢true, false_from_ne_true, eqb-true, both_ways}
use Rattle.std.proofs.lemmas.List.FromFn.{length-map-range_with_len}
use Rattle.rcc5_core.specs.declared.RelSet.{RelSet}
use Rattle.rcc5_core.specs.declared.Region.{Region}
use Rattle.rcc5_core.specs.declared.Regions.{Regions}
use Rattle.rcc5_core.specs.declared.Occupancy.TheVariants.{Empty, Occupied}
use Rattle.rcc5_core.specs.Relation.{is_in, is_subset, have_common, relation_of}
use Rattle.rcc5_core.specs.RelationSet.{has, is_empty_set}
use Rattle.rcc5_core.specs.Region.{all_regions, word_at, same_word, forced_regions}
use Rattle.rcc5_core.proofs.Sets.{relation_of-by}
use Rattle.world_model.specs.Problem.{Problem, concept_count, concepts, pairs, constraints}
use Rattle.world_model.specs.Family.{Family, set_of, fits_concepts, none_empty, holds}
use Rattle.world_model.specs.Alive.{allowed, forced_of, forced_pairs, lies_in, avoids, meets_structure, is_point, Need, needs_at, needs, HasPoint, IsAlive}
use Rattle.world_model.specs.Alive.Need.{InRegion, InConcept}
use Rattle.world_model.specs.Questions.{IsMet}
use Rattle.world_model.proofs.Members.{In, here, there, all_at, all_from, In-map, from_map, In-filter, from_filter, In-left, In-right, from_append, In-flat_map, from_flat_map, in_from_contains, IsOf, IsImage}
use Rattle.world_model.proofs.PointSets.{implies_at, In-all_regions, Forces, forced_seen, has_some}
use Rattle.world_model.proofs.PointWhole.{allows_from, about_is}
use Rattle.world_model.proofs.PointFamilies.{shown, is_seen, seen_at, seen_from, lies_shown, bits_at, bits_show}
use Rattle.world_model.proofs.PointRules.{Met, met_parts, structure_at, an_element}

-- what a problem forces of a pair
abbrev entry_of : Problem → ℕ × ℕ → (ℕ × ℕ) × Regions
entry_of p pair = (pair, forced_regions (allowed p pair))

In-forced_of : (p : Problem) (pairs : List (ℕ × ℕ)) (pair : ℕ × ℕ) → In pair pairs → In (entry_of p pair) (forced_of p pairs)
In-forced_of p (q ∷ rest) pair (here e) = here (ap (entry_of p) e)
In-forced_of p (q ∷ rest) pair (there i) = there (In-forced_of p rest pair i)
In-forced_of p [] pair i = elim i [ ]

-- the pair that an entry is of
record IsEntry (p : Problem) (pairs : List (ℕ × ℕ)) (entry : (ℕ × ℕ) × Regions) : Type 0 where
  pair : ℕ × ℕ
  member : In pair pairs
  is : entry ≡ entry_of p pair

from_forced_of : (p : Problem) (pairs : List (ℕ × ℕ)) (entry : (ℕ × ℕ) × Regions) → In entry (forced_of p pairs) → IsEntry p pairs entry
from_forced_of p [] entry i = elim i [ ]
from_forced_of p (q ∷ rest) entry (here e) = record { pair = q; member = here refl; is = e }
from_forced_of p (q ∷ rest) entry (there i) =
    let r = from_forced_of p rest entry i in record { pair = r.pair; member = there r.member; is = r.is }

avoids_at : (set : RelSet) (pair : ℕ × ℕ) (region : Region) (bits : List Bool) → avoids bits (pair, forced_regions set) ≡ true → Forces set region false →
    lies_in region pair bits ≡ false
avoids_at set pair region bits h f = false_from_ne_true (lies_in region pair bits) (λ lies.
    not_both (same_word (word_at (forced_regions set) region) Empty) (lies_in region pair bits)
    (all_at (λ region. not (same_word (word_at (forced_regions set) region) Empty && lies_in region pair bits)) h (In-all_regions region)) f.same lies)
  where
    not_both : (a b : Bool) → not (a && b) ≡ true → a ≡ true → b ≡ true → ⊥
    not_both true true h e g = false≢true h
    not_both true false h e g = false≢true g
    not_both false b h e g = false≢true e

avoids_from : (set : RelSet) (pair : ℕ × ℕ) (bits : List Bool) → ((region : Region) → Forces set region false → lies_in region pair bits ≡ false) →
    avoids bits (pair, forced_regions set) ≡ true
avoids_from set pair bits each = all_from (λ region. not (same_word (word_at (forced_regions set) region) Empty && lies_in region pair bits)) all_regions (λ region i.
    one (same_word (word_at (forced_regions set) region) Empty) (lies_in region pair bits) (λ e. each region (record { same = e })))
  where
    one : (a b : Bool) → (a ≡ true → b ≡ false) → not (a && b) ≡ true
    one true b h = rw (h refl) refl
    one false b h = refl

-- the parts of what makes bits a point
pub record Pointed (p : Problem) (bits : List Bool) : Type 0 where
  pub structure : meets_structure p bits ≡ true
  pub apart : (pair : ℕ × ℕ) (region : Region) → In pair (pairs p) → Forces (allowed p pair) region false → lies_in region pair bits ≡ false

pub point_parts : (p : Problem) (bits : List Bool) → is_point p bits ≡ true → Pointed p bits
point_parts p bits h =
    let parts = and_parts (meets_structure p bits) (list_all (avoids bits) (forced_pairs p)) h in
    record {
      structure = parts.0;
      apart = λ pair region i f. avoids_at (allowed p pair) pair region bits (all_at (avoids bits) parts.1 (In-forced_of p (pairs p) pair i)) f;
    }

pub point_whole : (p : Problem) (bits : List Bool) → Pointed p bits → is_point p bits ≡ true
point_whole p bits h = and_from (meets_structure p bits) (list_all (avoids bits) (forced_pairs p)) h.structure (all_from (avoids bits) (forced_pairs p) (λ entry i.
    let e = from_forced_of p (pairs p) entry i in
    ap (avoids bits) e.is ∙ avoids_from (allowed p e.pair) e.pair bits (λ region f. h.apart e.pair region e.member f)))

-- what a need is of
abbrev pub IsNeed : Problem → Need → Type 0
IsNeed p (InRegion pair region) = In pair (pairs p) × Forces (allowed p pair) region true
IsNeed p (InConcept c) = (p.switches.nonempty ≡ true) × In c (concepts p)

In-needs_at : (pair : ℕ × ℕ) (set : RelSet) (region : Region) → Forces set region true → In (InRegion pair region) (needs_at (pair, forced_regions set))
In-needs_at pair set region f =
    In-map (InRegion pair) (In-filter (λ region. same_word (word_at (forced_regions set) region) Occupied) (In-all_regions region) f.same)

pub In-needs : (p : Problem) (need : Need) → IsNeed p need → In need (needs p)
In-needs p (InRegion pair region) h =
    In-left (cond p.switches.nonempty (map InConcept (concepts p)) [])
    (In-flat_map needs_at (In-forced_of p (pairs p) pair h.0) (In-needs_at pair (allowed p pair) region h.1))
In-needs p (InConcept c) h =
    In-right (flat_map needs_at (forced_pairs p)) (on p.switches.nonempty h.0 (In-map InConcept h.1))
  where
    on : (b : Bool) → b ≡ true → In (InConcept c) (map InConcept (concepts p)) → In (InConcept c) (cond b (map InConcept (concepts p)) [])
    on b e i = rw e i

pub from_needs : (p : Problem) (need : Need) → In need (needs p) → IsNeed p need
from_needs p need i = elim (from_append (flat_map needs_at (forced_pairs p)) i) [
  | inl region ↦ of_region (from_flat_map needs_at (forced_pairs p) region)
  | inr concept ↦ of_concept p.switches.nonempty refl concept
]
  where
    of_region : IsOf needs_at need (forced_pairs p) → IsNeed p need
    of_region of =
        let e = from_forced_of p (pairs p) of.source of.member in
        let image : IsImage (InRegion of.source.0) need (filter (λ region. same_word (word_at of.source.1 region) Occupied) all_regions) =
        from_map (InRegion of.source.0) (filter (λ region. same_word (word_at of.source.1 region) Occupied) all_regions) of.has in
        let occupied = (from_filter (λ region. same_word (word_at of.source.1 region) Occupied) all_regions image.member).1 in
        let forced : Forces (allowed p e.pair) image.source true = record { same = sym (ap (λ entry. same_word (word_at entry.1 image.source) Occupied) e.is) ∙ occupied } in
        let is : need ≡ InRegion e.pair image.source = image.is ∙ ap (λ entry. InRegion entry.0 image.source) e.is in
        subst (λ n. IsNeed p n) (sym is) (e.member, forced)

    of_concept : (b : Bool) → p.switches.nonempty ≡ b → In need (cond b (map InConcept (concepts p)) []) → IsNeed p need
    of_concept true on i =
        let image : IsImage InConcept need (concepts p) = from_map InConcept (concepts p) i in
        subst (λ n. IsNeed p n) (sym image.is) (on, image.member)
    of_concept false on i = elim i [ ]

-- the relation of a pair in a family that keeps all statements is allowed
pub related : (p : Problem) (f : Family) → list_all (holds f) (constraints p) ≡ true → (pair : ℕ × ℕ) →
    has (allowed p pair) (relation_of (set_of f pair.0) (set_of f pair.1)) ≡ true
related p f h pair = allows_from (constraints p) pair (relation_of (set_of f pair.0) (set_of f pair.1)) (λ c i about.
    let e = about_is pair c about in
    ap (λ l. has c.set (relation_of (set_of f l) (set_of f pair.1))) (sym e.0) ∙ ap (λ r. has c.set (relation_of (set_of f c.left) (set_of f r))) (sym e.1) ∙ all_at (holds f) h i)

-- so what is forced of the pair is so
pub forced_so : (p : Problem) (f : Family) → list_all (holds f) (constraints p) ≡ true → (pair : ℕ × ℕ) (region : Region) (b : Bool) →
    Forces (allowed p pair) region b → is_seen region (set_of f pair.0) (set_of f pair.1) ≡ b
forced_so p f h pair region b forced =
    let by = relation_of-by (set_of f pair.0) (set_of f pair.1) in
    forced_seen (not (is_subset (set_of f pair.0) (set_of f pair.1))) (have_common (set_of f pair.0) (set_of f pair.1)) (not (is_subset (set_of f pair.1) (set_of f pair.0)))
    (ap (has (allowed p pair)) (sym by) ∙ related p f h pair) forced

sets_full : (p : Problem) (f : Family) → fits_concepts p f ≡ true → length f.sets ≡ concept_count p
sets_full p f h = eqb-true (length f.sets) (concept_count p) (and_parts (length f.sets == concept_count p) (list_all (list_all (λ x. nat_lt x f.universe)) f.sets) h).0

-- each element of a family that meets a problem is a point
pub element_is_point : (p : Problem) (f : Family) → Met p f → (x : ℕ) → is_point p (bits_at p f x) ≡ true
element_is_point p f m x =
    let s = bits_show p f (sets_full p f m.fits) in
    point_whole p (bits_at p f x) (record {
      structure = structure_at p s m x (length-map-range_with_len (λ c. is_in x (set_of f c)) 0 (concept_count p));
      apart = λ pair region i forced. false_from_ne_true (lies_in region pair (bits_at p f x)) (λ lies.
          both_ways (is_seen region (set_of f pair.0) (set_of f pair.1)) (forced_so p f m.said pair region false forced)
          (seen_from region (set_of f pair.0) (set_of f pair.1) x (sym (lies_shown s region pair x) ∙ lies)));
    })

-- and each need has one
pub need_met : (p : Problem) (f : Family) → Met p f → (need : Need) → IsNeed p need → HasPoint p need
need_met p f m (InRegion pair region) h =
    let s = bits_show p f (sets_full p f m.fits) in
    let x = seen_at region (set_of f pair.0) (set_of f pair.1) (forced_so p f m.said pair region true h.1) in
    (bits_at p f x.0, element_is_point p f m x.0, lies_shown s region pair x.0 ∙ x.1)
need_met p f m (InConcept c) h =
    let s = bits_show p f (sets_full p f m.fits) in
    let x = an_element (set_of f c) (all_at (λ c. not (length (set_of f c) == 0)) (implies_at p.switches.nonempty (none_empty p f) m.nonempty h.0) h.1) in
    (bits_at p f x.0, element_is_point p f m x.0, shown s x.0 c x.1)

-- a problem that a family meets is alive
pub met_is_alive : (p : Problem) → IsMet p → IsAlive p
met_is_alive p met =
    let f = met.0 in
    let m = met_parts p f met.1 in
    record {
      allow = all_from (λ pair. not (is_empty_set (allowed p pair))) (pairs p) (λ pair i.
          ap not (has_some (allowed p pair) (relation_of (set_of f pair.0) (set_of f pair.1)) (related p f m.said pair)));
      points = λ need i. need_met p f m need (from_needs p need (in_from_contains (needs p) i));
    }
