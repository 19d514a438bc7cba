-- What an arena is seen as: the list of its records. The Ref of a record is its place in that list.
use Rattle.std.specs.Prelude.{ℕ, ◌==◌, Bool, true, false, List, [], Option, None, slice_index_or, swap, filter, map, if◌then◌else◌}
use Rattle.clause_arena.specs.declared.place.Link.{Link}

-- a clause as the arena keeps it: its literals are codes, and two links lead to other records
pub record Record : Type 0 where
  pub id : ℕ
  pub lits : List ℕ
  pub live : Bool
  pub link_0 : Option Link
  pub link_1 : Option Link

-- a clause that was just put: live, and with no links
abbrev pub new_record : ℕ → List ℕ → Record
new_record i codes = record { id = i; lits = codes; live = true; link_0 = None; link_1 = None }

-- what stands for a record past the end of the list
abbrev pub no_record : Record
no_record = record { id = 0; lits = []; live = false; link_0 = None; link_1 = None }

-- the record under a Ref
abbrev pub record_at : List Record → ℕ → Record
record_at records at = slice_index_or records at no_record

-- the link of a slot, 0 or 1
abbrev pub link_of : Record → ℕ → Option Link
link_of r slot = if slot == 0 then r.link_0 else r.link_1

-- the record with the link of one slot set
abbrev pub with_link : Record → ℕ → Option Link → Record
with_link r slot to = if slot == 0 then record r { link_0 = to } else record r { link_1 = to }

-- the record with two of its literals exchanged
abbrev pub with_lits_swapped : Record → ℕ → ℕ → Record
with_lits_swapped r a b = record r { lits = swap r.lits a b }

-- the record, no longer live
abbrev pub forgotten : Record → Record
forgotten r = record r { live = false }

-- the record with both links none
abbrev pub unlinked : Record → Record
unlinked r = record r { link_0 = None; link_1 = None }

-- what a compaction leaves: the live records in their order, with no links
abbrev pub compacted : List Record → List Record
compacted records = map unlinked (filter (λ r. r.live) records)
