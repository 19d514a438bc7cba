-- What a listing tells a log, step by step.
use Rattle.std.proofs.Common.{◌≡◌, List, [], ◌∷◌, ◌++◌, Option, Some, None, IfSome, sym, subst}
use Rattle.lits_core.specs.declared.Line.{Line}
use Rattle.rcc5_core.specs.declared.Rel.{Rel}
use Rattle.world_model.specs.Problem.{Problem}
use Rattle.point_query.specs.Asking.{AskerState, IsNewAsker}
use Rattle.cert_text.specs.declared.line.CertLine.TheVariants.{Certificate, End}
use Rattle.cert_text.specs.Logs.{Told, IsToldWith}
use Rattle.cert_rules.specs.Writing.{BeginsAndKeepsUp}
use Rattle.cert_rules.proofs.Told.{told_stays_up_law}
use Rattle.world_search.specs.Logging.{AddsLines, KeepsOn}
use Rattle.world_search.specs.Told.{IsKeptIn, IsToldTo, IsToldWhole}

-- the first line alone keeps up with a new asker
pub begun_kept : (p : Problem) (from : List Rel) (told : Told) (asker : AskerState) → IsNewAsker p asker → IsKeptIn p from told told asker (Some [])
begun_kept p from told asker new headed = (
  Certificate p.switches from ∷ [],
  headed,
  subst (λ (waiting : List Line). BeginsAndKeepsUp p from waiting asker.solver.state (Some []) (Certificate p.switches from ∷ [])) (sym new.none_waits)
      (told_stays_up_law.begins p from asker.solver.state new.first),
)

-- what kept up keeps up after a step
pub kept_on : (p : Problem) (from : List Rel) (first mid new : Told) (one other : AskerState) (at next : Option (List Rel)) → IsKeptIn p from first mid one at → AddsLines mid new
    → KeepsOn p from mid new one other at next → IsKeptIn p from first new other next
kept_on p from first mid new one other at next kept adds keeps headed =
    let so_far = kept headed in
    let more = subst (λ told. AddsLines told new) so_far.1 adds in
    let told : new ≡ Some (so_far.0 ++ more.0) = more.1 in
    (so_far.0 ++ more.0, told, subst (λ told. IfSome told (BeginsAndKeepsUp p from other.solver.waiting other.solver.state next)) told (keeps so_far.0 so_far.1 so_far.2))

-- and so at the last step, where no line waits
pub told_to : (p : Problem) (from : List Rel) (first mid new : Told) (one other : AskerState) (at next cut : Option (List Rel)) → IsKeptIn p from first mid one at → AddsLines mid new
    → KeepsOn p from mid new one other at next → other.solver.waiting ≡ [] → IfSome mid (λ _. next ≡ cut) → IsToldTo p from first cut new
told_to p from first mid new one other at next cut kept adds keeps none stands headed =
    let later = kept_on p from first mid new one other at next kept adds keeps headed in
    let is : next ≡ cut = subst (λ told. IfSome told (λ _. next ≡ cut)) (kept headed).1 stands in (
      later.0,
      other.solver.state,
      later.1,
      subst (λ (waiting : List Line). BeginsAndKeepsUp p from waiting other.solver.state cut later.0) none
          (subst (λ at. BeginsAndKeepsUp p from other.solver.waiting other.solver.state at later.0) is later.2),
    )

-- a whole certificate: the first line, what is told of the walk, and the end line
pub told_whole : (p : Problem) (from : List Rel) (cut : Option (List Rel)) (one two three four : Told) → IsToldWith one (Certificate p.switches from) two → IsToldTo p from two cut three
    → IsToldWith three (End cut) four → IsToldWhole p from one cut four
told_whole p from cut one two three four first walked last empty =
    let headed : two ≡ Some (Certificate p.switches from ∷ []) = subst (λ told. IsToldWith told (Certificate p.switches from) two) empty first in
    let told = walked headed in
    (told.0, told.1, subst (λ lines. IsToldWith lines (End cut) four) told.2 last, told.3)

-- a fact is so where lines are told
pub if_told : (told : Told) (P : Type 0) → P → IfSome told (λ _. P)
if_told None P h = tt
if_told (Some lines) P h = h
