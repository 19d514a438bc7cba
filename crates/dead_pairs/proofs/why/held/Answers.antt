use Rattle.std.proofs.Common.{◌≡◌, ◌∙◌, Some, sym, ap, arith}
use Rattle.std.specs.Prelude.{option_map}
use Rattle.point_encode.specs.Model.Forced.{need_with}
use Rattle.point_encode.specs.Needs.{need_seen}
use Rattle.dead_pairs.proofs.Deads.{closed_alone}
use Rattle.dead_pairs.proofs.why.held.Goals as goal

pub returns-then-closes : goal.returns-then-closes
returns-then-closes c =
    let p = c.args.problem.now in
    let need = need_seen p c.in-Some.need in
    let named : need_with p c.args.number ≡ Some need = sym c.need_of.ensures.value ∙ ap (option_map (need_seen p)) c.in-Some.is in
    let both = closed_alone c.clauses_are_points.ensures c.needs_are_literals.ensures c.law_literals_are_sets.ensures p c.args.lone c.args.asker.now need c.args.number c.args.clause c.facts.ensures.built c.requires.within
    c.facts-2.ensures c.requires.shape named (sym c.is_forced.ensures ∙ c.if-not-is_forced.false) (c.closes.ensures c.if-closes.true) in
    record { closed = both.0; from_one = omega (arith, c.if-clause-lt1.false); dead = both.1 }
