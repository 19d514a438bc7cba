-- What is known of the names that a text gives.
use Rattle.std.specs.Prelude.{ℕ, List}
use Rattle.world_model.specs.Problem.{Problem}
use Rattle.world_model.specs.declared.Switches.{Switches}
use Rattle.cleantax_text.specs.Reading.{IsProblemText}
use Rattle.merge_print.specs.Json.{HasUtf8Names}

-- the names of a problem that a text says are UTF-8
abbrev pub ReadNamesAreUtf8 : Type 0
ReadNamesAreUtf8 = (bytes : List ℕ) (switches : Switches) (p : Problem) → IsProblemText bytes switches p → HasUtf8Names p
