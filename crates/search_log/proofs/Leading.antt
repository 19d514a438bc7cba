-- What leads to an asker before a call leads to it afterwards.
use Rattle.std.proofs.Common.{◌≡◌, inl, inr, List, [], ◌∷◌, ◌++◌, map, Some, None, Result, Ok, Err, OnOk, OnErr, refl, sym, ap, ap₂, ◌∙◌, subst, append_assoc, append-nil}
use Rattle.std.specs.Prelude.{◌⊎◌, IfSome}
use Rattle.std.specs.List.{flat_map}
use Rattle.std.proofs.lemmas.Grind.{flat_map-append}
use Rattle.lits_core.specs.declared.Line.{Line}
use Rattle.lits_core.specs.Derivation.{State}
use Rattle.lits_core.proofs.LiteralSets.{same-line_fault, same-next_state, same-truth}
use Rattle.learn_solver.specs.Solving.{Leads}
use Rattle.point_query.specs.Asking.{AskerState, AskerGoes}
use Rattle.point_query.proofs.Querying.{leads_chain}
use Rattle.cert_text.specs.declared.line.CertLine.{CertLine}
use Rattle.cert_text.specs.declared.line.CertLine.TheVariants.{Proof}
use Rattle.cert_text.specs.Logs.{Told, IsToldWith}
use Rattle.search_log.specs.declared.fault.StepFault.{StepFault}
use Rattle.search_log.specs.Logging.{AddsLines, AllTold, NoneTold, IsFlushed, IsSameButLines}
use Rattle.search_log.specs.Leading.{derivation_of, LeadToAsker, KeepsLeading}

-- no call
pub led_still : (told : Told) (one : AskerState) → KeepsLeading told told one one
led_still None one = λ first. tt
led_still (Some lines) one = λ first led. led

-- where no line was told
pub led_untold : (old new : Told) (one other : AskerState) → old ≡ None → KeepsLeading old new one other
led_untold None new one other none = λ first. tt
led_untold (Some lines) new one other none = absurd (cc)

-- two calls, the first of which told more lines
pub led_joins : (a b c : Told) (one two three : AskerState) → AddsLines a b → KeepsLeading a b one two → KeepsLeading b c two three → KeepsLeading a c one three
led_joins None b c one two three adds step next = λ first. tt
led_joins (Some lines) b c one two three adds step next = λ first led.
    let there : KeepsLeading (Some (lines ++ adds.0)) c two three = subst (λ b. KeepsLeading b c two three) adds.1 next in
    there first (subst (λ b. IfSome b (λ later. LeadToAsker first later two)) adds.1 (step first led))

-- an asker that went on
pub led_goes : (told : Told) (one two : AskerState) → AskerGoes one two → KeepsLeading told told one two
led_goes None one two goes = λ first. tt
led_goes (Some lines) one two goes = λ first led.
    let before = flat_map derivation_of lines in
    let more = goes.solver in
    let all = leads_chain (record { faults = same-line_fault; next = same-next_state; truth = same-truth }) first one.solver.state two.solver.state (before ++ one.solver.waiting) more.added led more.leads in
    subst (λ lines. Leads first lines two.solver.state) (append_assoc before one.solver.waiting more.added ∙ ap (λ waiting. before ++ waiting) (sym more.waits)) all

-- before a call, and after it
pub led_after : (old new : Told) (one two three : AskerState) → AskerGoes one two → KeepsLeading old new two three → KeepsLeading old new one three
led_after None new one two three goes next = λ first. tt
led_after (Some lines) new one two three goes next = λ first led. next first (led_goes (Some lines) one two goes first led)

-- after a call that ended well
pub led_before : (a b : Told) (one two three : AskerState) → KeepsLeading a b one two → AskerGoes two three → KeepsLeading a b one three
led_before None b one two three step goes = λ first. tt
led_before (Some lines) None one two three step goes = λ first led. tt
led_before (Some lines) (Some later) one two three step goes = λ first led. led_goes (Some later) two three goes first (step first led)

-- the derivation lines of lines that wait
derivation_told : (waiting : List Line) → flat_map derivation_of (map Proof waiting) ≡ waiting
derivation_told [] = refl
derivation_told (line ∷ waiting) = ap (λ lines. line ∷ lines) (derivation_told waiting)

-- lines that waited, told
told_leads : (first : State) (lines : List CertLine) (one other : AskerState) → other.solver.state ≡ one.solver.state → other.solver.waiting ≡ [] → LeadToAsker first lines one →
    LeadToAsker first (lines ++ map Proof one.solver.waiting) other
told_leads first lines one other state none led =
    let waiting = one.solver.waiting in
    let same : flat_map derivation_of (lines ++ map Proof waiting) ++ other.solver.waiting ≡ flat_map derivation_of lines ++ waiting =
    ap (λ more. flat_map derivation_of (lines ++ map Proof waiting) ++ more) none ∙ append-nil _ ∙ flat_map-append derivation_of lines (map Proof waiting)
    ∙ ap (λ more. flat_map derivation_of lines ++ more) (derivation_told waiting) in
    subst (λ state. Leads first (flat_map derivation_of (lines ++ map Proof waiting) ++ other.solver.waiting) state) (sym state)
    (subst (λ lines. Leads first lines one.solver.state) (sym same) led)

-- the lines that wait, put
pub led_flushed : {T : Type 0} (r : Result T StepFault) (old new : Told) (one other : AskerState) → IsSameButLines one other → IsFlushed r old new one other → KeepsLeading old new one other
led_flushed r None new one other same flushed = λ first. tt
led_flushed (Ok v) (Some lines) new one other same flushed = λ first led.
    subst (λ told. IfSome told (λ later. LeadToAsker first later other)) (sym flushed.ok.told) (told_leads first lines one other same.state flushed.ok.none_waits led)
led_flushed (Err f) (Some lines) new one other same flushed = λ first led. by first led flushed.err
  where
    by : (first : State) → LeadToAsker first lines one → ((new ≡ None) ⊎ NoneTold (Some lines) new one other) → IfSome new (λ later. LeadToAsker first later other)
    by first led (inl none) = subst (λ told. IfSome told (λ later. LeadToAsker first later other)) (sym none) tt
    by first led (inr still) =
        subst (λ told. IfSome told (λ later. LeadToAsker first later other)) (sym still.told)
        (subst (λ waiting. Leads first (flat_map derivation_of lines ++ waiting) other.solver.state) (sym still.waits)
        (subst (λ state. Leads first (flat_map derivation_of lines ++ one.solver.waiting) state) (sym same.state) led))

-- a line that is of no derivation, put
pub led_put : {T : Type 0} (r : Result T StepFault) (old new : Told) (asker : AskerState) (line : CertLine) → derivation_of line ≡ [] → OnOk r (IsToldWith old line new) → OnErr r (new ≡ None) →
    KeepsLeading old new asker asker
led_put r None new asker line other told err = λ first. tt
led_put (Err f) (Some lines) new asker line other told err = λ first led. subst (λ told. IfSome told (λ later. LeadToAsker first later asker)) (sym err) tt
led_put (Ok v) (Some lines) new asker line other told err = λ first led.
    let same : flat_map derivation_of (lines ++ line ∷ []) ≡ flat_map derivation_of lines =
    flat_map-append derivation_of lines (line ∷ []) ∙ ap (λ more. flat_map derivation_of lines ++ more) (append-nil (derivation_of line) ∙ other) ∙ append-nil _ in
    subst (λ told. IfSome told (λ later. LeadToAsker first later asker)) (sym told) (subst (λ derived. Leads first (derived ++ asker.solver.waiting) asker.solver.state) (sym same) led)
