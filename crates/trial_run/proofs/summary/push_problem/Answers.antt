use Rattle.std.proofs.Common.{◌∙◌, codes}
use Rattle.trial_run.proofs.SummaryLemmas.{three_counts}
use Rattle.trial_run.proofs.summary.push_problem.Goals as goal

pub returns : goal.returns
returns c =
    three_counts c.push_count-3.result c.args.text.now.items c.push_count.new.text.items c.push_count-2.new.text.items c.push_count-3.new.text.items
    (codes "concepts") (codes "articulations") (codes "pairs") _ _ _ _ _ _
    c.in_ok-push_count.ensures (c.from.ensures ∙ c.concept_count.ensures) c.in_ok-push_count-2.ensures (c.from-2.ensures ∙ c.articulation_count.ensures)
    c.push_count-3.ensures (c.from-3.ensures ∙ c.pair_count.ensures)
