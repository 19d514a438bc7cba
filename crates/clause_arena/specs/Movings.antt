-- What a compaction tells: pairs of an old and a new Ref.
use Rattle.std.specs.Prelude.{◌≡◌, ◌==◌, ℕ, ◌+◌, List, [], ◌∷◌, Option, Some, None, take, count_by, if◌then◌else◌, ◌<◌, IfSome, length}
use Rattle.clause_arena.specs.Records.{Record, record_at, unlinked}

-- pairs of an old and a new Ref, and for how many records there is room
pub record Movings : Type 0 where
  pub pairs : List (ℕ × ℕ)
  pub spare : ℕ

-- the new Ref that stands beside an old one, if any
abbrev pub new_ref : List (ℕ × ℕ) → ℕ → Option ℕ
new_ref [] old = None
new_ref (p ∷ pairs) old = if p.0 == old then Some p.1 else new_ref pairs old

-- the pairs of a table that has at each old Ref, from a number on, the new one or none
abbrev pub pairs_from : ℕ → List (Option ℕ) → List (ℕ × ℕ)
pairs_from old [] = []
pairs_from old (None ∷ table) = pairs_from (old + 1) table
pairs_from old (Some to ∷ table) = (old, to) ∷ pairs_from (old + 1) table

-- where a compaction brings a record: a live one to the place that has as many live ones before it
abbrev pub place_after : List Record → ℕ → Option ℕ
place_after records at =
    if (record_at records at).live then Some (count_by (λ r. r.live) (take at records)) else None

-- a pair leads from a live record to that record under its new Ref
abbrev pub AreMoves : List (ℕ × ℕ) → List Record → List Record → Type 0
AreMoves pairs old new =
    (at : ℕ) → IfSome (new_ref pairs at) (λ to. (to < length new) × (record_at new to ≡ unlinked (record_at old at)))
