use Rattle.std.proofs.Common.{◌≡◌, Ok, OnOk, sym, ap, subst, ◌∙◌}
use Rattle.lits_core.specs.declared.Line.TheVariants.{Derive, Forget}
use Rattle.lits_core.specs.Derivation.{FromOne}
use Rattle.proof_text.specs.Lines.{line_of, line_text}
use Rattle.proof_text.proofs.TextLemmas.{ids_from}
use Rattle.proof_text.proofs.LineLemmas.{text_reads, line_text_reads}
use Rattle.proof_text.proofs.printing.put_line.Goals as goal

pub returns-in-Derive-clause-read : goal.returns-in-Derive-clause-read
returns-in-Derive-clause-read c =
    let id = c.in-Derive.id in
    let lits = c.lits.result.now in
    let hints = c.list.result.now in
    let line_is : c.args.line.now ≡ Derive id lits hints =
    c.in-Derive.is ∙ ap (λ l. Derive id l c.in-Derive.hints) (sym c.lits.ensures) ∙ ap (λ h. Derive id lits h) (sym c.list.ensures) in
    let ids : FromOne (Derive id lits hints) = subst FromOne line_is c.requires in
    let bounds = c.put_derive.ensures.ids in
    let reads = text_reads (Derive id lits hints) c.put_derive.result c.put_derive.ensures.literals
    (λ small. ((ids.0, bounds.0), small, ids_from hints ids.1 bounds.1)) in
    subst (λ line. OnOk c.put_derive.result (line_of (line_text line) ≡ Ok line)) (sym line_is) reads

pub returns-in-Forget-clause-read : goal.returns-in-Forget-clause-read
returns-in-Forget-clause-read c =
    let ids = c.list-in-Forget.result.now in
    let line_is : c.args.line.now ≡ Forget ids = c.in-Forget.is ∙ ap Forget (sym c.list-in-Forget.ensures) in
    let above : FromOne (Forget ids) = subst FromOne line_is c.requires in
    let reads = line_text_reads (Forget ids) c.put_forget.result (ids_from ids above c.put_forget.ensures.ids) in
    subst (λ line. OnOk c.put_forget.result (line_of (line_text line) ≡ Ok line)) (sym line_is) reads
