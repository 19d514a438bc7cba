-- The derivation that the lines of a log and those that wait in an asker make.
use Rattle.std.specs.Prelude.{List, [], ◌∷◌, ◌++◌, IfSome}
use Rattle.std.specs.List.{flat_map}
use Rattle.lits_core.specs.declared.Line.{Line}
use Rattle.lits_core.specs.Derivation.{State}
use Rattle.learn_solver.specs.Solving.{Leads}
use Rattle.point_query.specs.Asking.{AskerState}
use Rattle.cert_text.specs.declared.line.CertLine.{CertLine}
use Rattle.cert_text.specs.declared.line.CertLine.TheVariants.{Proof}
use Rattle.cert_text.specs.Logs.{Told}

-- the derivation line in a line of a certificate, if it is one
abbrev pub derivation_of : CertLine → List Line
derivation_of (Proof line) = line ∷ []
derivation_of other = []

-- the derivation lines among these, then those that wait in an asker, are valid from a state on and lead to the asker's state
abbrev pub LeadToAsker : State → List CertLine → AskerState → Type 0
LeadToAsker first lines asker = Leads first (flat_map derivation_of lines ++ asker.solver.waiting) asker.solver.state

-- where told lines lead to an asker, those that are told later lead to the asker as it is later, from each state
abbrev pub KeepsLeading : Told → Told → AskerState → AskerState → Type 0
KeepsLeading old new one other =
    (first : State) → IfSome old (λ lines. LeadToAsker first lines one → IfSome new (λ later. LeadToAsker first later other))
