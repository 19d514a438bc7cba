use Rattle.std.proofs.Common.{◌≡◌, ◌∙◌, ◌≤◌, ◌++◌, ◌-◌, List, ℕ, ap, sym, subst, length, take, drop}
use Rattle.learn_solver.specs.Guides.{AssumptionsState}
use Rattle.learn_solver.proofs.CommonPrefix.{added_part, added_all}
use Rattle.learn_solver.proofs.assumptions.Assumptions.set.Goals as goal

pub returns-clause-agreed : goal.returns-clause-agreed
returns-clause-agreed c =
    let before = c.args.assumptions.now in
    let first = c.min-first.result in
    added_part c.extend_from_slice-2.result c.args.agreed first c.self.inside.lits.items c.extend_from_slice.new.self.items c.extend_from_slice-2.new.self.items before c.args.more.now
    (record {
      is = c.min-first.ensures;
      within = subst (λ (a : AssumptionsState). c.args.agreed ≤ length a.lits) (sym c.self.view_is) c.requires.assumptions;
      same = subst (λ (a : AssumptionsState). take c.args.agreed a.lits ≡ take c.args.agreed (before ++ c.args.more.now)) (sym c.self.view_is) c.requires.same;
      some_is = c.in_ok-extend_from_slice.ensures.items ∙ ap (λ (kept : List ℕ). kept ++ take (length before - first) (drop first before)) c.truncate.ensures.items;
      now_is = c.extend_from_slice-2.ensures.items;
    })

pub returns-clause-ok : goal.returns-clause-ok
returns-clause-ok c =
    let before = c.args.assumptions.now in
    let first = c.min-first.result in
    added_all c.extend_from_slice-2.result c.args.agreed first c.self.inside.lits.items c.extend_from_slice.new.self.items c.extend_from_slice-2.new.self.items before c.args.more.now
    (record {
      is = c.min-first.ensures;
      within = subst (λ (a : AssumptionsState). c.args.agreed ≤ length a.lits) (sym c.self.view_is) c.requires.assumptions;
      same = subst (λ (a : AssumptionsState). take c.args.agreed a.lits ≡ take c.args.agreed (before ++ c.args.more.now)) (sym c.self.view_is) c.requires.same;
      some_is = c.in_ok-extend_from_slice.ensures.items ∙ ap (λ (kept : List ℕ). kept ++ take (length before - first) (drop first before)) c.truncate.ensures.items;
      now_is = c.extend_from_slice-2.ensures.items;
    })
