-- Sets of relations that are narrowed to one.
use Rattle.std.proofs.Common.{◌≡◌, Bool, true, false, ◌&&◌, [], refl}
use Rattle.std.proofs.lemmas.Bool.{false≢true}
use Rattle.rcc5_core.specs.declared.Rel.{Rel}
use Rattle.rcc5_core.specs.declared.Rel.TheVariants.{Equals, Includes, IncludedIn, Overlaps, Disjoint}
use Rattle.rcc5_core.specs.declared.RelSet.{RelSet}
use Rattle.rcc5_core.specs.RelationSet.{has, both_of, only, is_empty_set}
use Rattle.rcc5_core.specs.Region.{forced_regions, row_of}

pub and_false : (b : Bool) → (b && false) ≡ false
and_false true = refl
and_false false = refl

-- a set that has a relation, and the set of this relation alone, have it in common
pub both_only : (set : RelSet) (rel : Rel) → has set rel ≡ true → both_of set (only rel) ≡ only rel
both_only set Equals h = rw (h, and_false set.includes, and_false set.included_in, and_false set.overlaps, and_false set.disjoint) refl
both_only set Includes h = rw (h, and_false set.equals, and_false set.included_in, and_false set.overlaps, and_false set.disjoint) refl
both_only set IncludedIn h = rw (h, and_false set.equals, and_false set.includes, and_false set.overlaps, and_false set.disjoint) refl
both_only set Overlaps h = rw (h, and_false set.equals, and_false set.includes, and_false set.included_in, and_false set.disjoint) refl
both_only set Disjoint h = rw (h, and_false set.equals, and_false set.includes, and_false set.included_in, and_false set.overlaps) refl

-- a set without a relation has nothing in common with the set of this relation
pub none_common : (set : RelSet) (rel : Rel) → has set rel ≡ false → is_empty_set (both_of set (only rel)) ≡ true
none_common set Equals h = rw (h, and_false set.includes, and_false set.included_in, and_false set.overlaps, and_false set.disjoint) refl
none_common set Includes h = rw (h, and_false set.equals, and_false set.included_in, and_false set.overlaps, and_false set.disjoint) refl
none_common set IncludedIn h = rw (h, and_false set.equals, and_false set.includes, and_false set.overlaps, and_false set.disjoint) refl
none_common set Overlaps h = rw (h, and_false set.equals, and_false set.includes, and_false set.included_in, and_false set.disjoint) refl
none_common set Disjoint h = rw (h, and_false set.equals, and_false set.includes, and_false set.included_in, and_false set.overlaps) refl

pub only_some : (rel : Rel) → is_empty_set (only rel) ≡ false
only_some Equals = refl
only_some Includes = refl
only_some IncludedIn = refl
only_some Overlaps = refl
only_some Disjoint = refl

pub only_inside : (set : RelSet) (rel other : Rel) → has set rel ≡ true → has (only rel) other ≡ true → has set other ≡ true
only_inside set Equals Equals h e = h
only_inside set Includes Includes h e = h
only_inside set IncludedIn IncludedIn h e = h
only_inside set Overlaps Overlaps h e = h
only_inside set Disjoint Disjoint h e = h
only_inside set rel other h e = absurd (false≢true e)

pub forced_only : (rel : Rel) → forced_regions (only rel) ≡ row_of rel
forced_only Equals = refl
forced_only Includes = refl
forced_only IncludedIn = refl
forced_only Overlaps = refl
forced_only Disjoint = refl
