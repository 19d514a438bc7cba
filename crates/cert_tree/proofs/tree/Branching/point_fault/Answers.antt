use Rattle.std.proofs.Common.{◌≡◌, ◌∙◌, sym, ap, None}
use Rattle.lits_core.specs.Derivation.{live_clause}
use Rattle.point_encode.specs.Model.Forced.{need_with}
use Rattle.cert_rules.specs.Trees.{node_problem, need_fault}
use Rattle.cert_tree.proofs.tree.Branching.point_fault.Goals as goal

pub returns-in-None : goal.returns-in-None
returns-in-None c =
    let q = node_problem c.args.self.now c.args.path.now in
    let none : need_with q c.args.need ≡ None = ap (λ t. need_with t.subject c.args.need) (sym c.self.view_is) ∙ sym c.in-None.ensures.value in
    sym (ap (λ need. need_fault q need (live_clause c.args.book.now c.args.clause)) none)
