-- Counts of worlds by relation.
use Rattle.std.specs.Prelude.{ℕ, ◌+◌, List, slice_index_or}
use Rattle.rcc5_core.specs.declared.Rel.{Rel}
use Rattle.rcc5_core.specs.declared.Rel.TheVariants.{Equals, Includes, IncludedIn, Overlaps, Disjoint}
use Rattle.world_model.specs.Saturated.{saturated}
use Rattle.world_watch.specs.declared.counts.Counts.{Counts}

-- the count of a relation
abbrev pub count_in : Counts → Rel → ℕ
count_in c Equals = c.equals
count_in c Includes = c.includes
count_in c IncludedIn = c.included_in
count_in c Overlaps = c.overlaps
count_in c Disjoint = c.disjoint

-- counts of no world
abbrev pub no_counts : Counts
no_counts = record { equals = 0; includes = 0; included_in = 0; overlaps = 0; disjoint = 0 }

-- counts with one more world that has a relation
abbrev pub counting : Counts → Rel → Counts
counting c Equals = record c { equals = saturated (c.equals + 1) }
counting c Includes = record c { includes = saturated (c.includes + 1) }
counting c IncludedIn = record c { included_in = saturated (c.included_in + 1) }
counting c Overlaps = record c { overlaps = saturated (c.overlaps + 1) }
counting c Disjoint = record c { disjoint = saturated (c.disjoint + 1) }

-- the counts at a place, and those of no world past the end
abbrev pub counts_at : List Counts → ℕ → Counts
counts_at counts k = slice_index_or counts k no_counts
