use Rattle.std.proofs.Common.{sym}
use Rattle.taxon_tree.proofs.ForestLemmas.{name_of-number, absent-number}
use Rattle.taxon_tree.proofs.Forest.find.Goals as goal

pub returns-in_err-number-clause-absent : goal.returns-in_err-number-clause-absent
returns-in_err-number-clause-absent c =
    rw (c.from_residual.ensures, ← c.self.view_is) (absent-number c.self.inside.nodes c.args.name.now (sym c.in_err-number.ensures))

pub returns-clause-found : goal.returns-clause-found
returns-clause-found c = rw (← c.self.view_is) (name_of-number c.self.inside.nodes c.args.name.now c.in_ok-number.number (sym c.in_ok-number.ensures))
