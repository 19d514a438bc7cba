-- Requests that ask for a report, and those that don't.
use Rattle.std.specs.Prelude.{◌≡◌, ℕ, Bool, true, false, List}
use Rattle.command_line.specs.declared.request.Request.{Request}
use Rattle.command_line.specs.declared.request.Request.TheVariants.{Report}
use Rattle.command_line.specs.Requests.{IsMade}

-- whether a request asks for a report
abbrev pub is_report : Request → Bool
is_report (Report args) = true
is_report request = false

-- a request that words make, whatever reports are known, and that asks for none
pub record IsPlain (request : Request) : Type 0 where
  pub plain : is_report request ≡ false
  pub known : List (List ℕ)
  pub made : IsMade known request
