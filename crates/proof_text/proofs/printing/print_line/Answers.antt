use Rattle.std.proofs.Common.{◌++◌, ap, ◌∙◌}
use Rattle.proof_text.specs.Lines.{line_of, line_text}
use Rattle.proof_text.proofs.printing.print_line.Goals as goal

pub returns-clause-read : goal.returns-clause-read
returns-clause-read c =
    ap line_of (c.in_ok-put_line.ensures.text ∙ ap (λ front. front ++ line_text c.args.line.now) c.new-out.ensures.items) ∙ c.in_ok-put_line.ensures.read
