-- Which clauses may be remembered by their ids.
use Rattle.std.specs.Prelude.{ℕ, Bool}
use Rattle.std.specs.Option.{is_some}
use Rattle.lits_core.specs.Derivation.{State, live_clause}

-- whether an id is that of a live clause
abbrev pub is_live : State → ℕ → Bool
is_live s id = is_some (live_clause s id)
