use Rattle.std.proofs.Common.{◌≡◌, ◌∙◌, ap}
use Rattle.part_join.specs.Parts.{Part}
use Rattle.part_join.proofs.GapLemmas.{lower_here, lower_kept}
use Rattle.part_join.proofs.sweep.lower.Goals as goal

pub returns-then-begins_between : goal.returns-then-begins_between
returns-then-begins_between c =
    let copied : c.in_ok-copy.field-0 ≡ c.args.part.now.from = c.in_ok-copy.ensures ∙ ap (λ (q : Part). q.from) c.part.view_is in
    lower_here c.args.part.now c.args.reach.now c.in_ok-copy.field-0 c.args.least c.begins_between.result c.begins_between.ensures c.if-begins_between.true copied

pub returns : goal.returns
returns c = lower_kept c.args.part.now c.args.reach.now c.args.least c.begins_between.result c.begins_between.ensures c.if-begins_between.false
