-- Relations told apart, the least one of a set, and the least one after another.
use Rattle.std.proofs.Common.{◌≡◌, ◌<◌, ◌≤◌, Bool, true, false, ◌&&◌, cond, List, [], ◌∷◌, refl, sym, ap, ◌∙◌, arith}
use Rattle.std.specs.Prelude.{nat_lt, find, Some, None}
use Rattle.std.specs.Ordering.{nat_cmp}
use Rattle.std.specs.List.{list_all}
use Rattle.std.proofs.lemmas.Bool.{true≢false, and_parts, and_from, ltb-true, lt-ltb, eqb-true}
use Rattle.rcc5_core.specs.declared.Rel.{Rel}
use Rattle.rcc5_core.specs.declared.Rel.TheVariants.{Equals, Includes, IncludedIn, Overlaps, Disjoint}
use Rattle.rcc5_core.specs.declared.RelSet.{RelSet}
use Rattle.rcc5_core.specs.Relation.{rank_of, all_rels, same_rel}
use Rattle.rcc5_core.specs.RelationSet.{has, both_of, only, is_empty_set, first_of, next_of}
use Rattle.world_model.proofs.Members.{In, here, there, all_at}
use Rattle.world_model.proofs.OrderPositions.{exact_rels, rel_itself}
use Rattle.world_model.proofs.PointSets.{some_rel}
use Rattle.world_model.proofs.PointWhole.{has-both_of}

-- the ranks tell relations apart
pub same_rank : (r s : Rel) → rank_of r ≡ rank_of s → r ≡ s
same_rank r s e = exact_rels r s (ap (λ k. nat_cmp k (rank_of s)) e ∙ rel_itself s)

-- whether each relation of a list comes before all after it
abbrev pub rises : List Rel → Bool
rises [] = true
rises (r ∷ rs) = list_all (λ s. nat_lt (rank_of r) (rank_of s)) rs && rises rs

in_all : (r : Rel) → In r all_rels
in_all Equals = here refl
in_all Includes = there (here refl)
in_all IncludedIn = there (there (here refl))
in_all Overlaps = there (there (there (here refl)))
in_all Disjoint = there (there (there (there (here refl))))

-- the first that passes a test passes it
found_passes : (test : Rel → Bool) (rs : List Rel) (s : Rel) → find test rs ≡ Some s → test s ≡ true
found_passes test [] s h = cc
found_passes test (r ∷ rs) s h = by (test r) refl h (λ k. found_passes test rs s k)
  where
    by : (b : Bool) → test r ≡ b → cond b (Some r) (find test rs) ≡ Some s → (find test rs ≡ Some s → test s ≡ true) → test s ≡ true
    by true e k rest = let same : r ≡ s = cc in ap test (sym same) ∙ e
    by false e k rest = rest k

-- and comes before all others that do
found_first : (test : Rel → Bool) (rs : List Rel) (s t : Rel) → rises rs ≡ true → find test rs ≡ Some s → In t rs → test t ≡ true → rank_of s ≤ rank_of t
found_first test [] s t up h i ok = elim i [ ]
found_first test (r ∷ rs) s t up h i ok = by (test r) refl h (λ k j. found_first test rs s t parts.1 k j ok) i
  where
    parts : (list_all (λ s. nat_lt (rank_of r) (rank_of s)) rs ≡ true) × (rises rs ≡ true)
    parts = and_parts (list_all (λ s. nat_lt (rank_of r) (rank_of s)) rs) (rises rs) up

    by : (b : Bool) → test r ≡ b → cond b (Some r) (find test rs) ≡ Some s → (find test rs ≡ Some s → In t rs → rank_of s ≤ rank_of t) → In t (r ∷ rs) → rank_of s ≤ rank_of t
    by true e k rest (here same) =
        let first : r ≡ s = cc in
        let one : rank_of r ≡ rank_of s = ap rank_of first in
        let other : rank_of t ≡ rank_of r = ap rank_of same in
        omega arith
    by true e k rest (there j) =
        let first : r ≡ s = cc in
        let one : rank_of r ≡ rank_of s = ap rank_of first in
        let less : rank_of r < rank_of t = ltb-true (rank_of r) (rank_of t) (all_at (λ s. nat_lt (rank_of r) (rank_of s)) parts.0 j) in
        omega arith
    by false e k rest (here same) = absurd (true≢false (sym ok ∙ ap test same ∙ e))
    by false e k rest (there j) = rest k j

-- where none is found, none passes
none_passes : (test : Rel → Bool) (rs : List Rel) (t : Rel) → find test rs ≡ None → In t rs → test t ≡ true → ⊥
none_passes test [] t h i ok = elim i [ ]
none_passes test (r ∷ rs) t h i ok = by (test r) refl h (λ k j. none_passes test rs t k j ok) i
  where
    by : (b : Bool) → test r ≡ b → cond b (Some r) (find test rs) ≡ None → (find test rs ≡ None → In t rs → ⊥) → In t (r ∷ rs) → ⊥
    by true e k rest j = cc
    by false e k rest (here same) = true≢false (sym ok ∙ ap test same ∙ e)
    by false e k rest (there j) = rest k j

-- the first relation of a set is in it, and no other comes before it
pub first_is_in : (set : RelSet) (s : Rel) → first_of set ≡ Some s → has set s ≡ true
first_is_in set s h = found_passes (has set) all_rels s h

pub first_is_least : (set : RelSet) (s t : Rel) → first_of set ≡ Some s → has set t ≡ true → rank_of s ≤ rank_of t
first_is_least set s t h ok = found_first (has set) all_rels s t refl h (in_all t) ok

pub some_has_first_of : (set : RelSet) (r : Rel) → has set r ≡ true → first_of set ≡ None → ⊥
some_has_first_of set r in_set none = none_passes (has set) all_rels r none (in_all r) in_set

pub some_has_first : (set : RelSet) → is_empty_set set ≡ false → first_of set ≡ None → ⊥
some_has_first set some none = let one = some_rel set some in none_passes (has set) all_rels one.0 none (in_all one.0) one.1

-- the next relation of a set after another is in it and comes later, and none lies between
abbrev later : RelSet → Rel → Rel → Bool
later set rel other = has set other && nat_lt (rank_of rel) (rank_of other)

pub next_is_in : (set : RelSet) (rel s : Rel) → next_of set rel ≡ Some s → (has set s ≡ true) × (rank_of rel < rank_of s)
next_is_in set rel s h =
    let parts = and_parts (has set s) (nat_lt (rank_of rel) (rank_of s)) (found_passes (later set rel) all_rels s h) in
    (parts.0, ltb-true (rank_of rel) (rank_of s) parts.1)

pub next_is_least : (set : RelSet) (rel s t : Rel) → next_of set rel ≡ Some s → has set t ≡ true → rank_of rel < rank_of t → rank_of s ≤ rank_of t
next_is_least set rel s t h ok less =
    found_first (later set rel) all_rels s t refl h (in_all t) (and_from (has set t) (nat_lt (rank_of rel) (rank_of t)) ok (lt-ltb (rank_of rel) (rank_of t) less))

pub none_is_next : (set : RelSet) (rel t : Rel) → next_of set rel ≡ None → has set t ≡ true → rank_of rel < rank_of t → ⊥
none_is_next set rel t h ok less =
    none_passes (later set rel) all_rels t h (in_all t) (and_from (has set t) (nat_lt (rank_of rel) (rank_of t)) ok (lt-ltb (rank_of rel) (rank_of t) less))

pub one_rel : (r s : Rel) → same_rel r s ≡ true → r ≡ s
one_rel r s e = same_rank r s (eqb-true (rank_of r) (rank_of s) e)

pub itself : (r : Rel) → same_rel r r ≡ true
itself Equals = refl
itself Includes = refl
itself IncludedIn = refl
itself Overlaps = refl
itself Disjoint = refl

pub only_has : (r q : Rel) → has (only r) q ≡ same_rel r q
only_has r Equals = refl
only_has r Includes = refl
only_has r IncludedIn = refl
only_has r Overlaps = refl
only_has r Disjoint = refl

-- a set has the one relation to which it is narrowed, where any is left
pub narrowed_has : (set : RelSet) (r : Rel) → is_empty_set (both_of set (only r)) ≡ false → has set r ≡ true
narrowed_has set r some =
    let one = some_rel (both_of set (only r)) some in
    let parts = and_parts (has set one.0) (has (only r) one.0) (sym (has-both_of set (only r) one.0) ∙ one.1) in
    let same = same_rank r one.0 (eqb-true (rank_of r) (rank_of one.0) (sym (only_has r one.0) ∙ parts.1)) in
    ap (has set) same ∙ parts.0
