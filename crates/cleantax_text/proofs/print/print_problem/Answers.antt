use Rattle.std.proofs.Common.{◌∙◌, ◌++◌, ap}
use Rattle.cleantax_text.specs.Canonical.{canonical_text}
use Rattle.cleantax_text.proofs.ReadsBackLemmas.{text_reads_back}
use Rattle.cleantax_text.proofs.print.print_problem.Goals as goal

pub returns-clause-reads_back : goal.returns-clause-reads_back
returns-clause-reads_back c =
    text_reads_back c.put_problem.new.out.items c.args.problem.now (c.in_ok-put_problem.ensures ∙ ap (λ l. l ++ canonical_text c.args.problem.now) c.new-text.ensures.items)
