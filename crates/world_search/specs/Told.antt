-- What a listing tells a log.
use Rattle.std.specs.Prelude.{◌≡◌, List, [], ◌∷◌, ◌++◌, Option, Some}
use Rattle.lits_core.specs.Derivation.{State}
use Rattle.rcc5_core.specs.declared.Rel.{Rel}
use Rattle.world_model.specs.Problem.{Problem}
use Rattle.point_query.specs.Asking.{AskerState}
use Rattle.cert_text.specs.declared.line.CertLine.{CertLine}
use Rattle.cert_text.specs.declared.line.CertLine.TheVariants.{Certificate, End}
use Rattle.cert_text.specs.Logs.{Told}
use Rattle.cert_rules.specs.Writing.{BeginsAndKeepsUp}

-- a certificate's first line alone is told
abbrev pub IsHeaded : Problem → List Rel → Told → Type 0
IsHeaded p from told = told ≡ Some (Certificate p.switches from ∷ [])

-- where just the first line was told, lines are told now that begin a certificate and keep up with an asker, up to a place
abbrev pub IsKeptIn : Problem → List Rel → Told → Told → AskerState → Option (List Rel) → Type 0
IsKeptIn p from first now asker at =
    IsHeaded p from first → (lines : List CertLine) × (now ≡ Some lines) × BeginsAndKeepsUp p from asker.solver.waiting asker.solver.state at lines

-- they are told so far, and no line waits
abbrev pub IsToldTo : Problem → List Rel → Told → Option (List Rel) → Told → Type 0
IsToldTo p from first at now =
    IsHeaded p from first → (lines : List CertLine) × (state : State) × (now ≡ Some lines) × BeginsAndKeepsUp p from [] state at lines

-- where it was told that there is no line, a certificate is told now, with its end line
abbrev pub IsToldWhole : Problem → List Rel → Told → Option (List Rel) → Told → Type 0
IsToldWhole p from first to now =
    first ≡ Some [] → (lines : List CertLine) × (state : State) × (now ≡ Some (lines ++ End to ∷ [])) × BeginsAndKeepsUp p from [] state to lines
