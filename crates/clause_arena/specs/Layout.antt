-- How the arena keeps its records: heads, and one list of literal codes in which each head has a range.
use Rattle.std.specs.Prelude.{ℕ, ◌+◌, ◌==◌, ◌≤◌, Option, if◌then◌else◌, List, [], ◌∷◌, take, drop, map, ◌≡◌, None, slice_set, slice_index_or, length}
use Rattle.std.specs.List.{copy_within}
use Rattle.clause_arena.specs.declared.arena.Head.{Head}
use Rattle.clause_arena.specs.declared.place.Link.{Link}
use Rattle.clause_arena.specs.Records.{Record, compacted}
use Rattle.clause_arena.specs.Movings.{place_after}

-- the record of a head
abbrev pub record_of : List ℕ → Head → Record
record_of codes h = record {
  id = h.id;
  lits = take h.len (drop h.start codes);
  live = h.live;
  link_0 = h.link_0;
  link_1 = h.link_1;
}

-- the records of the heads, in order
abbrev pub records_of : List ℕ → List Head → List Record
records_of codes heads = map (record_of codes) heads

-- the heads' ranges lie one after another, from a place on and up to an end
abbrev pub AreInOrder : ℕ → List Head → ℕ → Type 0
AreInOrder from [] end = from ≤ end
AreInOrder from (h ∷ heads) end = (from ≤ h.start) × AreInOrder (h.start + h.len) heads end

-- the head with the link of one slot set
abbrev pub with_head_link : Head → ℕ → Option Link → Head
with_head_link h slot to = if slot == 0 then record h { link_0 = to } else record h { link_1 = to }

-- the head with its range elsewhere, and no links
abbrev pub head_moved : Head → ℕ → Head
head_moved h start = record { id = h.id; start = start; len = h.len; live = h.live; link_0 = None; link_1 = None }

-- one head moves to a place among the heads and its codes to an end, past which they reach then
pub record MovesDown (heads : List Head) (codes : List ℕ) (h : Head) (kept end : ℕ) (heads_new : List Head) (codes_new : List ℕ) (next : ℕ) : Type 0 where
  pub heads_are : heads_new ≡ slice_set heads kept (head_moved h end)
  pub codes_are : codes_new ≡ copy_within codes h.start (h.start + h.len) end
  pub next_is : next ≡ end + h.len

-- the first heads are now those of the live records, in order and with no links, and the table tells where each went
pub record Packs (heads : List Head) (codes : List ℕ) (heads_new : List Head) (codes_new : List ℕ) (table : List (Option ℕ)) (kept end : ℕ) : Type 0 where
  pub fewer : kept ≤ length heads
  pub within : end ≤ length codes_new
  pub order : AreInOrder 0 (take kept heads_new) end
  pub records : records_of codes_new (take kept heads_new) ≡ compacted (records_of codes heads)
  pub places : (at : ℕ) → slice_index_or table at None ≡ place_after (records_of codes heads) at
