-- What the entries of a map in code stand for.
use Rattle.std.specs.Prelude.{ℕ, map}
use Rattle.std.specs.String.{string_bytes}
use Rattle.std.specs.BTreeMap.{BTreeMap}
use Rattle.std.specs.FinMap.{from_entries}
use Rattle.std.specs.declared.string.String.{String}
use Rattle.std.specs.declared.vec.Vec.{Vec}
use Rattle.std.specs.declared.alloc.Global.{Global}
use Rattle.outer_store.specs.Memory.{Files}

-- each name with its bytes
abbrev pub files_of : BTreeMap (String Global) (Vec ℕ Global) → Files
files_of m = from_entries (map (λ entry. (string_bytes entry.0, entry.1.items)) m.entries)
