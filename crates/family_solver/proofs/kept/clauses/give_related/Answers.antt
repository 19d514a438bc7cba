use Rattle.std.proofs.Common.{[], ◌∷◌, sym, ap, ◌∙◌, subst}
use Rattle.std.specs.Prelude.{Contains}
use Rattle.std.proofs.lemmas.List.Elements.{Contains-append_left, Contains-push}
use Rattle.world_model.specs.Node.{pair_at}
use Rattle.family_solver.specs.Kept.Keeping.{IsSoKept}
use Rattle.family_solver.proofs.kept.Telling.{related_so}
use Rattle.family_solver.proofs.kept.clauses.give_related.Goals as goal

pub give-requires-clause-so : goal.give-requires-clause-so
give-requires-clause-so c =
    let p = c.args.problem.now in
    let g = c.args.ground.now in
    let lits = c.in_ok-lits.lits.items in
    let new = c.push.new.self.items in
    let flag = c.flag_lit.result in
    subst (IsSoKept p g) (sym c.deref.ensures.value)
    (related_so p g c.in-Some.place c.args.index c.args.pair c.args.set lits new c.in_ok-lits.ensures
    (λ lit i. subst (λ ls. Contains ls lit) (sym c.in_ok-push.ensures.items) (Contains-append_left lits (flag ∷ []) lit i))
    (subst (Contains new) c.flag_lit.ensures (subst (λ ls. Contains ls flag) (sym c.in_ok-push.ensures.items) (Contains-push lits flag)))
    c.in-Some.ensures.within (ap (pair_at p) c.in-Some.ensures.is ∙ c.pair_index.ensures.at) c.requires.said)
