use Rattle.std.proofs.Common.{◌≡◌, sym, subst, Ok, Err, IfErr}
use Rattle.std.specs.Prelude.{IfOk, ◌≢◌}
use Rattle.cleantax_text.specs.declared.TextKind.TheVariants.{NoMemory}
use Rattle.cleantax_text.specs.Kept.{meant}
use Rattle.cleantax_text.proofs.TextLemmas.{whole_reading}
use Rattle.cleantax_text.proofs.text.read_marked.Goals as goal

pub returns-clause-ok : goal.returns-clause-ok
returns-clause-ok c =
    subst (λ lines. IfOk c.read_lines.result (λ r. lines ≡ Ok (meant r)))
    (sym (whole_reading c.args.bytes.now c.without_mark.result.now _ c.valid_len-valid.ensures c.if-valid-bytes.false c.without_mark.ensures)) c.read_lines.ensures.ok

pub returns-clause-fault : goal.returns-clause-fault
returns-clause-fault c =
    subst (λ lines. IfErr c.read_lines.result (λ f. f.kind ≢ NoMemory → lines ≡ Err (f.line, f.kind)))
    (sym (whole_reading c.args.bytes.now c.without_mark.result.now _ c.valid_len-valid.ensures c.if-valid-bytes.false c.without_mark.ensures)) c.read_lines.ensures.fault
