-- The regions of a pair, the table of relations, and what a set of relations forces.
use Rattle.std.specs.Prelude.{Bool, true, false, ◌||◌, not, if◌then◌else◌, List, [], ◌∷◌}
use Rattle.std.specs.List.{list_all}
use Rattle.rcc5_core.specs.declared.Rel.{Rel}
use Rattle.rcc5_core.specs.declared.Rel.TheVariants.{Equals, Includes, IncludedIn, Overlaps, Disjoint}
use Rattle.rcc5_core.specs.declared.RelSet.{RelSet}
use Rattle.rcc5_core.specs.declared.Occupancy.{Occupancy}
use Rattle.rcc5_core.specs.declared.Occupancy.TheVariants.{Empty, Occupied, Free}
use Rattle.rcc5_core.specs.declared.Region.{Region}
use Rattle.rcc5_core.specs.declared.Region.TheVariants.{LeftOnly, Both, RightOnly}
use Rattle.rcc5_core.specs.declared.Regions.{Regions}
use Rattle.rcc5_core.specs.Relation.{all_rels}
use Rattle.rcc5_core.specs.RelationSet.{has, rels_that, is_empty_set, same_set}

-- the three regions of a pair of sets X, Y: X without Y, X and Y, Y without X
abbrev pub all_regions : List Region
all_regions = LeftOnly ∷ Both ∷ RightOnly ∷ []

-- the word that three words have for a region
abbrev pub word_at : Regions → Region → Occupancy
word_at words LeftOnly = words.left_only
word_at words Both = words.both
word_at words RightOnly = words.right_only

-- three words, in the order of the regions
abbrev pub words : Occupancy → Occupancy → Occupancy → Regions
words l b r = record { left_only = l; both = b; right_only = r }

-- the table of relations: what each says of the three regions
abbrev pub row_of : Rel → Regions
row_of Equals = words Empty Free Empty
row_of Includes = words Occupied Free Empty
row_of IncludedIn = words Empty Free Occupied
row_of Overlaps = words Occupied Occupied Occupied
row_of Disjoint = words Occupied Empty Occupied

-- whether two words are one
abbrev pub same_word : Occupancy → Occupancy → Bool
same_word Empty Empty = true
same_word Empty Occupied = false
same_word Empty Free = false
same_word Occupied Empty = false
same_word Occupied Occupied = true
same_word Occupied Free = false
same_word Free Empty = false
same_word Free Occupied = false
same_word Free Free = true

-- whether every relation of the set has this word in the region
abbrev pub all_say : RelSet → Region → Occupancy → Bool
all_say set region word = list_all (λ rel. not (has set rel) || same_word (word_at (row_of rel) region) word) all_rels

-- what a set of relations forces of a region: the word that all its relations have there, if they are any and it is one of Empty and Occupied
abbrev pub forced_word : RelSet → Region → Occupancy
forced_word set region =
    if is_empty_set set then Free else
    (if all_say set region Empty then Empty else
    (if all_say set region Occupied then Occupied else Free))

-- the forced regions of a pair that allows the set
abbrev pub forced_regions : RelSet → Regions
forced_regions set = words (forced_word set LeftOnly) (forced_word set Both) (forced_word set RightOnly)

-- whether a relation's row has the forced word in each forced region
abbrev pub fits : Regions → Rel → Bool
fits forced rel = list_all (λ region. same_word (word_at forced region) Free || same_word (word_at forced region) (word_at (row_of rel) region)) all_regions

-- whether the set is that of all relations that fit its forced regions
abbrev pub is_whole_set : RelSet → Bool
is_whole_set set = same_set set (rels_that (fits (forced_regions set)))

-- the word of a region that may be empty, or occupied, or both
abbrev pub word_by : Bool → Bool → Occupancy
word_by true false = Empty
word_by false true = Occupied
word_by true true = Free
word_by false false = Free
