use Rattle.std.proofs.Common.{◌≡◌, true, not, [], ◌∷◌, sym, ap, ◌∙◌, refl, subst, arith}
use Rattle.std.specs.Prelude.{Contains}
use Rattle.world_model.specs.Alive.{point_at, point_sums}
use Rattle.family_solver.proofs.Ruling.{same_default}
use Rattle.family_solver.proofs.kept.Telling.{barred_so}
use Rattle.family_solver.proofs.kept.clauses.give_barred.Goals as goal

pub give-requires-clause-so : goal.give-requires-clause-so
give-requires-clause-so c =
    let points = c.args.ground.now.points.items in
    let lits = c.flag_lit.result ∷ c.new.result ∷ [] in
    let breaks : not (point_sums (point_at points c.args.point) (record { whole = c.args.whole; parts = c.args.parts.now })) ≡ true =
    ap (λ bits. not (point_sums bits (record { whole = c.args.whole; parts = c.args.parts.now }))) (sym (c.index.ensures ∙ same_default points c.args.point c.index.result.now [] c.requires.point)) ∙ sym c.breaks.ensures ∙ c.if-breaks.true in
    barred_so c.args.problem.now c.args.ground.now c.args.index c.args.point c.args.whole c.args.parts.now lits c.requires.said c.requires.fit c.requires.point breaks
    (subst (Contains lits) c.flag_lit.ensures (0, omega arith, refl)) (subst (Contains lits) c.new.ensures (1, omega arith, refl))
