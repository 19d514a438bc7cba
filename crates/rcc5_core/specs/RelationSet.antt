-- Sets of relations.
use Rattle.std.specs.Prelude.{Bool, true, false, ◌||◌, ◌&&◌, not, nat_lt, Option, find}
use Rattle.std.specs.List.{list_all, list_any}
use Rattle.rcc5_core.specs.declared.Rel.{Rel}
use Rattle.rcc5_core.specs.declared.Rel.TheVariants.{Equals, Includes, IncludedIn, Overlaps, Disjoint}
use Rattle.rcc5_core.specs.declared.RelSet.{RelSet}
use Rattle.rcc5_core.specs.Relation.{all_rels, same_rel, converse_of, rank_of}

-- whether the set has the relation
abbrev pub has : RelSet → Rel → Bool
has set Equals = set.equals
has set Includes = set.includes
has set IncludedIn = set.included_in
has set Overlaps = set.overlaps
has set Disjoint = set.disjoint

-- the set of the relations that pass a test
abbrev pub rels_that : (Rel → Bool) → RelSet
rels_that test = record {
  equals = test Equals;
  includes = test Includes;
  included_in = test IncludedIn;
  overlaps = test Overlaps;
  disjoint = test Disjoint;
}

-- the set of no relation
abbrev pub no_rels : RelSet
no_rels = rels_that (λ _. false)

-- the set of all five
abbrev pub every_rel : RelSet
every_rel = rels_that (λ _. true)

-- the set of one relation
abbrev pub only : Rel → RelSet
only rel = rels_that (λ other. same_rel rel other)

-- what two sets have in common
abbrev pub both_of : RelSet → RelSet → RelSet
both_of a b = rels_that (λ rel. has a rel && has b rel)

-- the set with one more relation
abbrev pub adding : RelSet → Rel → RelSet
adding set rel = rels_that (λ other. has set other || same_rel rel other)

-- the converses of a set's relations
abbrev pub converses : RelSet → RelSet
converses set = rels_that (λ rel. has set (converse_of rel))

-- whether the set has no relation
abbrev pub is_empty_set : RelSet → Bool
is_empty_set set = not (list_any (has set) all_rels)

-- whether two sets have the same relations
abbrev pub same_set : RelSet → RelSet → Bool
same_set a b = list_all (λ rel. (has a rel && has b rel) || not (has a rel || has b rel)) all_rels

-- the least relation of the set, if any
abbrev pub first_of : RelSet → Option Rel
first_of set = find (has set) all_rels

-- the least relation of the set that comes after the given one, if any
abbrev pub next_of : RelSet → Rel → Option Rel
next_of set rel = find (λ other. has set other && nat_lt (rank_of rel) (rank_of other)) all_rels
