-- What a line, and a call, makes of told claims with a tree open or none.
use Rattle.std.specs.Prelude.{◌≡◌, List, [], ◌∷◌, ◌++◌, Option, Some, None, Result, Ok, Err, ⊤}
use Rattle.rcc5_core.specs.declared.Rel.{Rel}
use Rattle.lits_core.specs.Derivation.{State}
use Rattle.world_model.specs.Problem.{Problem}
use Rattle.point_query.specs.Asking.{AskerState}
use Rattle.cert_text.specs.declared.line.CertLine.{CertLine}
use Rattle.cert_text.specs.Logs.{Told}
use Rattle.cert_rules.specs.ClaimLists.{Claim, Block}
use Rattle.cert_rules.specs.ClaimWriting.{ClaimsKeepUp}
use Rattle.search_log.specs.declared.fault.StepFault.{StepFault}
use Rattle.split_search.specs.declared.choice.Choice.{Choice}
use Rattle.split_search.specs.declared.choice.Choice.TheVariants.{Met, Refuted}
use Rattle.split_search.specs.Claiming.{ClaimsBegin, ToldClaims}
use Rattle.pick_search.specs.Blocks.Blocks.{AreClaimsTold}

-- whatever lines came before it, a line leads from this open tree, or none, and these claims to that tree and those claims
abbrev pub LineLeads : Problem → State → CertLine → Option Block → List Claim → Option Block → List Claim → Type 0
LineLeads p state line block claims next more =
    (lines : List CertLine) → ClaimsKeepUp p lines [] state block claims → ClaimsKeepUp p (lines ++ line ∷ []) [] state next more

-- so does a call, from told lines that keep up with an asker to those that keep up with it afterwards
abbrev pub ClaimsLeadTo : Problem → Told → Told → AskerState → AskerState → Option Block → List Claim → Option Block → List Claim → Type 0
ClaimsLeadTo p old new one other block claims next more =
    (lines : List CertLine) → old ≡ Some lines → ClaimsBegin p one.solver.waiting one.solver.state block claims lines →
    ToldClaims p new other.solver.waiting other.solver.state next more

-- or it leads to some tree, or none, and some claims
abbrev pub LeadsSomewhere : Problem → Told → Told → AskerState → AskerState → Option Block → List Claim → Type 0
LeadsSomewhere p old new one other block claims =
    (lines : List CertLine) → old ≡ Some lines → ClaimsBegin p one.solver.waiting one.solver.state block claims lines → AreClaimsTold p new other

-- to that tree and those claims after Ok, and to some after a fault
abbrev pub LeadsIf : {T : Type 0} → Problem → Result T StepFault → Told → Told → AskerState → AskerState → Option Block → List Claim → Option Block → List Claim → Type 0
LeadsIf p (Ok value) old new one other block claims next more = ClaimsLeadTo p old new one other block claims next more
LeadsIf p (Err fault) old new one other block claims next more = LeadsSomewhere p old new one other block claims

-- after a refutation a tree is whole, so that no node is expected; a family may turn up anywhere
abbrev pub MayEndAt : Choice → Option (List Rel) → Type 0
MayEndAt (Met f) at = ⊤
MayEndAt Refuted at = at ≡ None
