-- Counts that don't wrap.
use Rattle.std.specs.Prelude.{ℕ, List, length, min}
use Rattle.rcc5_core.specs.declared.Rel.{Rel}

-- a count, which stays at the last value of 64 bits
abbrev pub saturated : ℕ → ℕ
saturated n = min n 18446744073709551615

-- how many worlds there are, as such a count
abbrev pub count_of : List (List Rel) → ℕ
count_of worlds = saturated (length worlds)
