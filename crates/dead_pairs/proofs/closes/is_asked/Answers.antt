use Rattle.std.proofs.Common.{[]}
use Rattle.std.proofs.lemmas.List.Elements.{Contains-append_left, Contains-append_right}
use Rattle.point_encode.specs.Model.Forced.{selectors_of, need_lits}
use Rattle.point_encode.specs.Needs.{need_seen}
use Rattle.dead_pairs.specs.Lone.{lone_problem}
use Rattle.dead_pairs.proofs.closes.is_asked.Goals as goal

pub returns-then-is_selector : goal.returns-then-is_selector
returns-then-is_selector c = λ yes.
    Contains-append_left (selectors_of (lone_problem c.args.problem.now c.args.lone) []) (need_lits (need_seen c.args.problem.now c.args.need)) c.args.lit (c.is_selector.ensures c.if-is_selector.true)

pub returns : goal.returns
returns c = λ yes.
    Contains-append_right (selectors_of (lone_problem c.args.problem.now c.args.lone) []) (need_lits (need_seen c.args.problem.now c.args.need)) c.args.lit (c.is_need_lit.ensures yes)
