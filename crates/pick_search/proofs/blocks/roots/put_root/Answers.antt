use Rattle.std.proofs.Common.{[], Some, None}
use Rattle.cert_rules.specs.ClaimWriting.{open_at}
use Rattle.pick_search.proofs.blocks.RootLemmas.{root_passed}
use Rattle.pick_search.proofs.blocks.roots.put_root.Goals as goal

pub returns-clause-keeps : goal.returns-clause-keeps
returns-clause-keeps g c = λ p claims closed.
    let subject = c.args.subject.now in
    c.put_behind.ensures.keeps p (open_at subject (Some [])) (open_at subject None) claims claims
    (root_passed p c.args.asker.now.solver.state subject claims c.args.need c.args.clause closed)
