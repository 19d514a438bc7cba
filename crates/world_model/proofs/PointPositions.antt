-- Problems at positions: what narrowings add and take, the tables of families, and prefixes.
use Rattle.std.proofs.Common.{◌≡◌, ℕ, ◌<◌, Bool, true, not, ◌&&◌, List, [], ◌∷◌, ◌++◌, map, length, get_or, ◌⊎◌, inl, inr, refl, sym, ap, ◌∙◌, subst, arith}
use Rattle.std.specs.Prelude.{nat_lt, filter_map}
use Rattle.std.specs.List.{list_all}
use Rattle.std.proofs.lemmas.Bool.{and_parts, and_from, false≢true, lt-ltb}
use Rattle.std.proofs.lemmas.List.{append_assoc, length-map, length-append, get_or-map, get_or_at}
use Rattle.std.proofs.lemmas.List.Folds.{list_all-append}
use Rattle.rcc5_core.specs.declared.Rel.{Rel}
use Rattle.rcc5_core.specs.declared.Rel.TheVariants.{Equals, Includes, IncludedIn, Overlaps, Disjoint}
use Rattle.rcc5_core.specs.declared.Region.{Region}
use Rattle.rcc5_core.specs.Relation.{relation_of}
use Rattle.rcc5_core.specs.RelationSet.{has, only, is_empty_set}
use Rattle.rcc5_core.specs.Region.{is_whole_set}
use Rattle.world_model.specs.Problem.{Problem, Constraint, concept_count, pairs, pair_count, constraints, kept_articulations, as_constraint, is_problem, is_about_pair, is_concept}
use Rattle.world_model.specs.Family.{Family, set_of, holds, meets, table_of, IsPossibleWorld}
use Rattle.world_model.specs.Alive.{allowed, all_allow, all_whole, Need, IsAlive, narrowings_at, problem_at, family_of, serves}
use Rattle.world_model.specs.Alive.Need.{InRegion, InConcept}
use Rattle.world_model.specs.Node.{pair_at, IsStep, IsNode}
use Rattle.world_model.proofs.Members.{In, here, there, all_at, all_from, In-left, In-right, from_append, in_from_contains, contains_from_in}
use Rattle.world_model.proofs.PointSets.{IsInside, Forces, forces_inside, some_rel, has_some}
use Rattle.world_model.proofs.PointWhole.{single_is_whole, allows_at, allows_from, about_from}
use Rattle.world_model.proofs.PointRules.{Met, met_parts, met_whole}
use Rattle.world_model.proofs.PointPairs.{IsPair, from_pairs}
use Rattle.world_model.proofs.PointAlive.{point_parts, point_whole, IsNeed, In-needs, from_needs, related, met_is_alive}
use Rattle.world_model.proofs.PointServed.{alive_is_met, served_meets}
use Rattle.std.proofs.lemmas.Bool.{not-true}

-- a problem with other narrowings
abbrev pub with_narrowings : Problem → List Constraint → Problem
with_narrowings p ns = record p { narrowings = ns }

-- each statement of the one list is in the other
abbrev pub IsAmong : List Constraint → List Constraint → Type 0
IsAmong few more = (c : Constraint) → In c few → In c more

among_stated : (p : Problem) (few more : List Constraint) → IsAmong few more → IsAmong (constraints (with_narrowings p few)) (constraints (with_narrowings p more))
among_stated p few more among c i = elim (from_append (filter_map as_constraint (kept_articulations p)) i) [
  | inl stated ↦ In-left more stated
  | inr narrowed ↦ In-right (filter_map as_constraint (kept_articulations p)) (among c narrowed)
]

-- fewer narrowings allow what more allow
allowed_among : (p : Problem) (few more : List Constraint) → IsAmong few more → (pair : ℕ × ℕ) →
    IsInside (allowed (with_narrowings p more) pair) (allowed (with_narrowings p few) pair)
allowed_among p few more among pair rel h =
    allows_from (constraints (with_narrowings p few)) pair rel (λ c i about.
    allows_at (constraints (with_narrowings p more)) pair rel c h (among_stated p few more among c i) about)

forced_among : (p : Problem) (few more : List Constraint) → IsAmong few more → all_allow (with_narrowings p more) ≡ true → {pair : ℕ × ℕ} {region : Region} {b : Bool} →
    In pair (pairs p) → Forces (allowed (with_narrowings p few) pair) region b → Forces (allowed (with_narrowings p more) pair) region b
forced_among p few more among allow {pair} i f =
    forces_inside (allowed_among p few more among pair)
    (not-true (is_empty_set (allowed (with_narrowings p more) pair)) (all_at (λ pair. not (is_empty_set (allowed (with_narrowings p more) pair))) allow i)) f

-- so a problem with fewer narrowings is alive where one with more is
pub alive_among : (p : Problem) (few more : List Constraint) → IsAmong few more → IsAlive (with_narrowings p more) → IsAlive (with_narrowings p few)
alive_among p few more among alive = record {
  allow = all_from (λ pair. not (is_empty_set (allowed (with_narrowings p few) pair))) (pairs p) (λ pair i.
      let one = some_rel (allowed (with_narrowings p more) pair) (not-true (is_empty_set (allowed (with_narrowings p more) pair)) (all_at (λ pair. not (is_empty_set (allowed (with_narrowings p more) pair))) alive.allow i)) in
      ap not (has_some (allowed (with_narrowings p few) pair) one.0 (allowed_among p few more among pair one.0 one.1)));
  points = λ need i.
      let h = alive.points need (contains_from_in (In-needs (with_narrowings p more) need (needed need (from_needs (with_narrowings p few) need (in_from_contains _ i))))) in
      let q = point_parts (with_narrowings p more) h.0 h.1 in (
        h.0,
        point_whole (with_narrowings p few) h.0 (record {
          structure = q.structure;
          apart = λ pair region j f. q.apart pair region j (forced_among p few more among alive.allow j f);
        }),
        h.2,
      );
}
  where
    needed : (need : Need) → IsNeed (with_narrowings p few) need → IsNeed (with_narrowings p more) need
    needed (InRegion pair region) h = (h.0, forced_among p few more among alive.allow h.0 h.1)
    needed (InConcept c) h = h

-- narrowings by a list of relations, and by a longer one
narrowings_prefix : (qs : List (ℕ × ℕ)) (m rest : List Rel) → IsAmong (narrowings_at qs m) (narrowings_at qs (m ++ rest))
narrowings_prefix [] m rest c i = elim i [ ]
narrowings_prefix (q ∷ qs) [] rest c i = elim i [ ]
narrowings_prefix (q ∷ qs) (rel ∷ m) rest c (here e) = here e
narrowings_prefix (q ∷ qs) (rel ∷ m) rest c (there i) = there (narrowings_prefix qs m rest c i)

among_more : (ns few more : List Constraint) → IsAmong few more → IsAmong (ns ++ few) (ns ++ more)
among_more ns few more among c i = elim (from_append ns i) [ inl l ↦ In-left more l | inr r ↦ In-right ns (among c r) ]

-- a prefix of an alive position is alive
pub prefix_is_alive : (p : Problem) (m rest : List Rel) → IsAlive (problem_at p (m ++ rest)) → IsAlive (problem_at p m)
prefix_is_alive p m rest alive =
    alive_among p (p.narrowings ++ narrowings_at (pairs p) m) (p.narrowings ++ narrowings_at (pairs p) (m ++ rest))
    (among_more p.narrowings (narrowings_at (pairs p) m) (narrowings_at (pairs p) (m ++ rest)) (narrowings_prefix (pairs p) m rest)) alive

-- the relation of a pair in a family
abbrev pub relation_in : Family → ℕ × ℕ → Rel
relation_in f pair = relation_of (set_of f pair.0) (set_of f pair.1)

pub has-only : (rel : Rel) → has (only rel) rel ≡ true
has-only Equals = refl
has-only Includes = refl
has-only IncludedIn = refl
has-only Overlaps = refl
has-only Disjoint = refl

only_has : (rel other : Rel) → has (only rel) other ≡ true → other ≡ rel
only_has Equals Equals h = refl
only_has Equals _ h = absurd (false≢true h)
only_has Includes Includes h = refl
only_has Includes _ h = absurd (false≢true h)
only_has IncludedIn IncludedIn h = refl
only_has IncludedIn _ h = absurd (false≢true h)
only_has Overlaps Overlaps h = refl
only_has Overlaps _ h = absurd (false≢true h)
only_has Disjoint Disjoint h = refl
only_has Disjoint _ h = absurd (false≢true h)

-- a family keeps the narrowings by its own table
table_holds : (f : Family) (qs : List (ℕ × ℕ)) → list_all (holds f) (narrowings_at qs (map (relation_in f) qs)) ≡ true
table_holds f [] = refl
table_holds f (q ∷ qs) = and_from (has (only (relation_in f q)) (relation_in f q)) _ (has-only (relation_in f q)) (table_holds f qs)

-- and a table whose narrowings it keeps is its own
holds_table : (f : Family) (qs : List (ℕ × ℕ)) (t : List Rel) → length t ≡ length qs → list_all (holds f) (narrowings_at qs t) ≡ true → map (relation_in f) qs ≡ t
holds_table f [] [] n h = refl
holds_table f [] (rel ∷ t) n h = absurd (omega arith)
holds_table f (q ∷ qs) [] n h = absurd (omega arith)
holds_table f (q ∷ qs) (rel ∷ t) n h =
    let parts = and_parts (has (only rel) (relation_in f q)) (list_all (holds f) (narrowings_at qs t)) h in
    let head = only_has rel (relation_in f q) parts.0 in
    let tail = holds_table f qs t (omega arith) parts.1 in
    cc

-- a family that meets a problem meets it at its own table
pub met_at_table : (p : Problem) (f : Family) (t : List Rel) → Met p f → table_of p f ≡ t → Met (problem_at p t) f
met_at_table p f t m e = record {
  fits = m.fits;
  within = m.within;
  apart = m.apart;
  covered = m.covered;
  nonempty = m.nonempty;
  said = all_from (holds f) (constraints (problem_at p t)) (λ c i. elim (from_append (filter_map as_constraint (kept_articulations p)) i) [
    | inl stated ↦ all_at (holds f) m.said (In-left p.narrowings stated)
    | inr rest ↦ elim (from_append p.narrowings rest) [
      | inl narrowed ↦ all_at (holds f) m.said (In-right (filter_map as_constraint (kept_articulations p)) narrowed)
      | inr added ↦ all_at (holds f) (subst (λ t. list_all (holds f) (narrowings_at (pairs p) t) ≡ true) e (table_holds f (pairs p))) added
    ]
  ]);
  summed = m.summed;
}

-- and one that meets it at a whole table has that table
pub met_of_table : (p : Problem) (f : Family) (t : List Rel) → length t ≡ pair_count p → Met (problem_at p t) f → Met p f × (table_of p f ≡ t)
met_of_table p f t n m = (
  record {
    fits = m.fits;
    within = m.within;
    apart = m.apart;
    covered = m.covered;
    nonempty = m.nonempty;
    said = all_from (holds f) (constraints p) (λ c i. all_at (holds f) m.said (among_stated p p.narrowings (p.narrowings ++ narrowings_at (pairs p) t) (λ c j. In-left (narrowings_at (pairs p) t) j) c i));
    summed = m.summed;
  },
  holds_table f (pairs p) t n (all_from (holds f) (narrowings_at (pairs p) t) (λ c i.
      all_at (holds f) m.said (In-right (filter_map as_constraint (kept_articulations p)) (In-right p.narrowings i)))),
)

-- a pair that a whole table narrows, with its relation
record IsNarrowed (qs : List (ℕ × ℕ)) (t : List Rel) (pair : ℕ × ℕ) : Type 0 where
  rel : Rel
  member : In (record { left = pair.0; right = pair.1; set = only rel }) (narrowings_at qs t)

narrowed_at : (qs : List (ℕ × ℕ)) (t : List Rel) → length t ≡ length qs → (pair : ℕ × ℕ) → In pair qs → IsNarrowed qs t pair
narrowed_at [] t n pair i = elim i [ ]
narrowed_at (q ∷ qs) [] n pair i = absurd (omega arith)
narrowed_at (q ∷ qs) (rel ∷ t) n pair (here e) =
    record { rel = rel; member = here (ap {B = Constraint} (λ (q : ℕ × ℕ). record { left = q.0; right = q.1; set = only rel }) e) }
narrowed_at (q ∷ qs) (rel ∷ t) n pair (there i) =
    let r = narrowed_at qs t (omega arith) pair i in record { rel = r.rel; member = there r.member }

-- at a whole table each pair that allows something allows a whole set
pub whole_at_table : (p : Problem) (t : List Rel) → length t ≡ pair_count p → all_allow (problem_at p t) ≡ true → all_whole (problem_at p t) ≡ true
whole_at_table p t n allow = all_from (λ pair. is_whole_set (allowed (problem_at p t) pair)) (pairs p) (λ pair i.
    let narrowed = narrowed_at (pairs p) t n pair i in
    single_is_whole (allowed (problem_at p t) pair) narrowed.rel
    (not-true (is_empty_set (allowed (problem_at p t) pair)) (all_at (λ pair. not (is_empty_set (allowed (problem_at p t) pair))) allow i))
    (λ rel h. allows_at (constraints (problem_at p t)) pair rel (record { left = pair.0; right = pair.1; set = only narrowed.rel }) h
    (In-right (filter_map as_constraint (kept_articulations p)) (In-right p.narrowings narrowed.member))
    (about_from pair (record { left = pair.0; right = pair.1; set = only narrowed.rel }) refl refl)))

-- narrowings by a position are about pairs
narrowings_are_pairs : (p : Problem) (qs : List (ℕ × ℕ)) (m : List Rel) → ((pair : ℕ × ℕ) → In pair qs → IsPair p pair) →
    list_all (is_about_pair p) (narrowings_at qs m) ≡ true
narrowings_are_pairs p [] m each = refl
narrowings_are_pairs p (q ∷ qs) [] each = refl
narrowings_are_pairs p (q ∷ qs) (rel ∷ m) each =
    let pair = each q (here refl) in
    and_from (nat_lt q.0 q.1 && is_concept p q.1) (list_all (is_about_pair p) (narrowings_at qs m))
    (and_from (nat_lt q.0 q.1) (is_concept p q.1) (lt-ltb q.0 q.1 pair.order) (lt-ltb q.1 (concept_count p) pair.within))
    (narrowings_are_pairs p qs m (λ r i. each r (there i)))

pub is_problem_at : (p : Problem) (m : List Rel) → is_problem p ≡ true → is_problem (problem_at p m) ≡ true
is_problem_at p m h =
    let parts = and_parts _ (list_all (is_about_pair p) p.narrowings) h in
    and_from _ (list_all (is_about_pair p) (p.narrowings ++ narrowings_at (pairs p) m)) parts.0
    (list_all-append (is_about_pair p) p.narrowings (narrowings_at (pairs p) m) ∙
    and_from (list_all (is_about_pair p) p.narrowings) (list_all (is_about_pair p) (narrowings_at (pairs p) m)) parts.1 (narrowings_are_pairs p (pairs p) m (from_pairs p)))

-- a position with a relation for each pair is a possible world exactly where it is alive
pub world_is_full : (p : Problem) (t : List Rel) → IsPossibleWorld p t → length t ≡ pair_count p
world_is_full p t w = sym (ap length w.2) ∙ length-map (pairs p) (relation_in w.0)

pub world_is_alive : (p : Problem) (t : List Rel) → IsPossibleWorld p t → IsAlive (problem_at p t)
world_is_alive p t w = met_is_alive (problem_at p t) (w.0, met_whole (problem_at p t) w.0 (met_at_table p w.0 t (met_parts p w.0 w.1) w.2))

pub alive_is_world : (p : Problem) → is_problem p ≡ true → (t : List Rel) → length t ≡ pair_count p → IsAlive (problem_at p t) → IsPossibleWorld p t
alive_is_world p problem t n alive =
    let met = alive_is_met (problem_at p t) (is_problem_at p t problem) (whole_at_table p t n alive.allow) alive in
    let r = met_of_table p met.0 t n (met_parts (problem_at p t) met.0 met.1) in
    (met.0, met_whole p met.0 r.0, r.1)

pub served_table : (p : Problem) → is_problem p ≡ true → (t : List Rel) → length t ≡ pair_count p → (points : List (List Bool)) →
    all_allow (problem_at p t) ≡ true → serves (problem_at p t) points ≡ true → (meets p (family_of p points) ≡ true) × (table_of p (family_of p points) ≡ t)
served_table p problem t n points allow served =
    let f = family_of p points in
    let r = met_of_table p f t n (met_parts (problem_at p t) f (served_meets (problem_at p t) (is_problem_at p t problem) (whole_at_table p t n allow) points allow served)) in
    (met_whole p f r.0, r.1)

-- a list is empty or has a last item
record HasLast (m : List Rel) : Type 0 where
  front : List Rel
  last : Rel
  is : m ≡ front ++ last ∷ []

last_of : (m : List Rel) → (m ≡ []) ⊎ HasLast m
last_of [] = inl refl
last_of (rel ∷ m) = elim (last_of m) [
  | inl none ↦ inr (record { front = []; last = rel; is = ap (λ m. rel ∷ m) none })
  | inr some ↦ inr (record { front = rel ∷ some.front; last = some.last; is = ap (λ m. rel ∷ m) some.is })
]

-- each prefix of a possible world is a node
pub prefix_is_node : (p : Problem) (m rest : List Rel) → IsPossibleWorld p (m ++ rest) → IsNode p m
prefix_is_node p m rest w = elim (last_of m) [
  | inl none ↦ inl none
  | inr some ↦ inr (step some)
]
  where
    whole_is : (some : HasLast m) → m ++ rest ≡ some.front ++ (some.last ∷ rest)
    whole_is some = ap (λ m. m ++ rest) some.is ∙ append_assoc some.front (some.last ∷ []) rest

    step : HasLast m → IsStep p m
    step some =
        let within : length some.front < pair_count p =
        omega (arith, world_is_full p (m ++ rest) w, ap length (whole_is some), length-append some.front (some.last ∷ rest)) in
        let there_is : get_or (table_of p w.0) (length some.front) Equals ≡ some.last =
        ap (λ t. get_or t (length some.front) Equals) (w.2 ∙ whole_is some) ∙ get_or_at some.front some.last rest Equals (length some.front) refl in
        let same : relation_in w.0 (pair_at p (length some.front)) ≡ some.last =
        sym (get_or-map (relation_in w.0) (pairs p) (length some.front) (0, 0) Equals within) ∙ there_is in
        record {
          prefix = some.front;
          rel = some.last;
          follows = some.is;
          not_full = within;
          alive = prefix_is_alive p some.front (some.last ∷ rest) (subst (λ t. IsAlive (problem_at p t)) (whole_is some) (world_is_alive p (m ++ rest) w));
          allows = ap (has (allowed p (pair_at p (length some.front)))) (sym same) ∙ related p w.0 (met_parts p w.0 w.1).said (pair_at p (length some.front));
        }
