-- Calls one after another.
use Rattle.std.proofs.Common.{◌≡◌, ◌∙◌, List, [], ◌++◌, sym, ap, append_assoc, arith}
use Rattle.std.proofs.lemmas.List.{append-nil}
use Rattle.std.proofs.lemmas.List.Elements.{All-append}
use Rattle.lits_core.specs.declared.Line.{Line}
use Rattle.lits_core.specs.Derivation.{SameState}
use Rattle.learn_solver.specs.Solving.{FromOne, SolverState, GoesTo}
use Rattle.learn_solver.proofs.SameStates.{Leads-same, Leads-trans}

-- a call that adds no line, and changes at most the order of literals
pub GoesTo-same : (old new : SolverState) → new.variables ≡ old.variables → new.waiting ≡ old.waiting → SameState old.state new.state → GoesTo old new
GoesTo-same old new variables waiting state = record {
  variables = variables;
  added = [];
  waits = waiting ∙ sym (append-nil old.waiting);
  leads = Leads-same old.state new.state state;
  from_one = λ k d lt. absurd (omega arith);
}

pub GoesTo-trans : (one two three : SolverState) → GoesTo one two → GoesTo two three → GoesTo one three
GoesTo-trans one two three h k = record {
  variables = k.variables ∙ h.variables;
  added = h.added ++ k.added;
  waits = k.waits ∙ ap (λ (lines : List Line). lines ++ k.added) h.waits ∙ append_assoc one.waiting h.added k.added;
  leads = Leads-trans one.state two.state three.state h.added k.added h.leads k.leads;
  from_one = All-append FromOne h.added k.added h.from_one k.from_one;
}
