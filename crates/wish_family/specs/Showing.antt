-- What rows show of a family.
use Rattle.std.specs.Prelude.{ℕ, ◌≡◌, ◌<◌}
use Rattle.rcc5_core.specs.Relation.{is_in}
use Rattle.world_model.specs.Family.{Family, set_of}
use Rattle.bit_rows.specs.Rows.{bit_in}
use Rattle.wish_family.specs.declared.rows.FamilyRows.{FamilyRows}

-- the row of each concept that has one has just the elements of its set
abbrev pub IsShown : Family → FamilyRows → Type 0
IsShown f shown = (c k : ℕ) → c < shown.rows.count → bit_in shown.rows c k ≡ is_in k (set_of f c)
