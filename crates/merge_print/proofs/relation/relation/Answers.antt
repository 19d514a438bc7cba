use Rattle.std.proofs.Common.{refl, ap, ◌∙◌}
use Rattle.std.proofs.lemmas.Bool.{eq-eqb, ne_eqb, lt-ltb, le-ltb}
use Rattle.rcc5_core.specs.Relation.{converse_of}
use Rattle.merge_print.specs.Merged.{relation_between}
use Rattle.merge_print.proofs.relation.relation.Goals as goal

pub returns-then-x-y : goal.returns-then-x-y
unfolding relation_between
returns-then-x-y c = rw (eq-eqb c.args.x c.args.y c.if-x-y.true) refl

pub returns-then-x-y-2 : goal.returns-then-x-y-2
unfolding relation_between
returns-then-x-y-2 c = rw (ne_eqb c.args.x c.args.y c.if-x-y.false, lt-ltb c.args.x c.args.y c.if-x-y-2.true) c.at_pair.ensures

pub returns-else-x-y-2 : goal.returns-else-x-y-2
unfolding relation_between
returns-else-x-y-2 c = rw (ne_eqb c.args.x c.args.y c.if-x-y.false, le-ltb c.args.x c.args.y c.if-x-y-2.false) (c.converse.ensures ∙ ap converse_of c.at_pair-else-x-y-2.ensures)
