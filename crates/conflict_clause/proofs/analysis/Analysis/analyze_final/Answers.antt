use Rattle.std.proofs.Common.{arith}
use Rattle.conflict_clause.proofs.SearchEnds.{IsClosing-ended}
use Rattle.conflict_clause.proofs.analysis.Analysis.analyze_final.Goals as goal

pub returns-clause-closing : goal.returns-clause-closing
returns-clause-closing c =
    IsClosing-ended c.args.trail.now _ _ c.start.new.self c.descend.new.self _ _ c.facts.ensures (omega arith) c.in_ok-descend.ensures.search c.in_ok-descend.ensures.finds
    (λ lit has. let none = (c.in_ok-start.ensures.lower lit has).below in absurd (omega arith)) c.in_ok-closing.ensures.lits c.in_ok-closing.ensures.hints
