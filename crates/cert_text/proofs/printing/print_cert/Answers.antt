use Rattle.std.proofs.Common.{[], ◌∷◌, ◌++◌, append-nil, sym, ap, ◌∙◌}
use Rattle.cert_text.specs.Lines.{cert_text}
use Rattle.cert_text.specs.Logs.{lines_in}
use Rattle.cert_text.proofs.StoreLemmas.{lines_in-text}
use Rattle.cert_text.proofs.printing.print_cert.Goals as goal

pub returns-clause-read : goal.returns-clause-read
returns-clause-read c =
    let whole = cert_text c.args.line.now ++ 10 ∷ [] in
    ap lines_in (c.in_ok-put_whole.ensures.text ∙ ap (λ front. front ++ whole) c.new-out.ensures.items ∙ sym (append-nil whole))
    ∙ lines_in-text (c.args.line.now ∷ []) (c.in_ok-put_whole.ensures.small, tt)
