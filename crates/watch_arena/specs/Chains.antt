-- Chains of watches: each begins beside its literal and goes on through the links of the records.
use Rattle.std.specs.Prelude.{◌≡◌, ◌≢◌, ◌⊎◌, ℕ, ◌-◌, ◌<◌, ◌≤◌, true, List, [], ◌∷◌, ◌++◌, length, slice_index, slice_index_or, slice_set, Option, Some, None}
use Rattle.clause_arena.specs.declared.place.Link.{Link}
use Rattle.clause_arena.specs.Records.{Record, record_at, link_of, with_link, with_lits_swapped}

-- where the chain of a literal begins
abbrev pub head_of : List (Option Link) → ℕ → Option Link
head_of chains lit = slice_index_or chains lit None

-- what comes after an entry
abbrev pub next_of : List Record → Link → Option Link
next_of records x = link_of (record_at records x.at) x.slot

-- the records after the link of an entry is set
abbrev pub linked : List Record → Link → Option Link → List Record
linked records x to = slice_set records x.at (with_link (record_at records x.at) x.slot to)

-- the records after two literals of a clause are exchanged
abbrev pub exchanged : List Record → ℕ → ℕ → ℕ → List Record
exchanged records at a b = slice_set records at (with_lits_swapped (record_at records at) a b)

-- the entries from one on, to the end
abbrev pub IsChain : List Record → Option Link → List Link → Type 0
IsChain records from [] = from ≡ None
IsChain records from (x ∷ xs) = (from ≡ Some x) × IsChain records (next_of records x) xs

-- an entry is in a list
abbrev pub Has : List Link → Link → Type 0
Has [] x = ⊥
Has (y ∷ ys) x = (y ≡ x) ⊎ Has ys x

-- an entry is the watch of a clause on a literal: it is at one of the first two literals, and they differ
pub record IsEntry (records : List Record) (lit : ℕ) (x : Link) : Type 0 where
  pub within : x.at < length records
  pub slot_is : x.slot < 2
  pub two : 2 ≤ length (record_at records x.at).lits
  pub lit_is : slice_index (record_at records x.at).lits x.slot ≡ lit
  pub differ : lit ≢ slice_index (record_at records x.at).lits (1 - x.slot)

-- a literal's chain has watches on it alone, and all those of live clauses but for some that stand aside
pub record IsChainOf (records : List Record) (lit : ℕ) (from : Option Link) (IsAside : Link → Type 0) : Type 0 where
  pub list : List Link
  pub chain : IsChain records from list
  pub entries : (x : Link) → Has list x → IsEntry records lit x
  pub apart : (x : Link) → Has list x → IsAside x → ⊥
  pub whole : (x : Link) → IsEntry records lit x → (record_at records x.at).live ≡ true → Has list x ⊎ IsAside x

-- so for the chain of each literal
abbrev pub AreChains : List Record → List (Option Link) → (Link → Type 0) → Type 0
AreChains records chains IsAside =
    (lit : ℕ) → lit < length chains → IsChainOf records lit (head_of chains lit) IsAside

-- no entry, or one alone, stands aside
abbrev pub IsNone : Link → Type 0
IsNone x = ⊥

abbrev pub IsThis : Link → Link → Type 0
IsThis x y = y ≡ x

-- the records, and the beginnings of the chains, after what comes behind an entry is led past it; with no entry before it, its literal's chain begins there
abbrev pub records_past : List Record → Option Link → Option Link → List Record
records_past records None next = records
records_past records (Some p) next = linked records p next

abbrev pub chains_past : List (Option Link) → ℕ → Option Link → Option Link → List (Option Link)
chains_past chains lit None next = slice_set chains lit next
chains_past chains lit (Some p) next = chains

-- the entries up to the one before
abbrev pub led : Option Link → List Link → List Link
led None before = []
led (Some p) before = before ++ p ∷ []

-- two lists of records that differ in links alone
pub record IsSameBody (r s : Record) : Type 0 where
  pub id : s.id ≡ r.id
  pub lits : s.lits ≡ r.lits
  pub live : s.live ≡ r.live

pub record SameBodies (old new : List Record) : Type 0 where
  pub count : length new ≡ length old
  pub each : (at : ℕ) → IsSameBody (record_at old at) (record_at new at)
