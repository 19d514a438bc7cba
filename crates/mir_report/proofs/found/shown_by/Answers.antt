use Rattle.std.proofs.Common.{◌≡◌, ◌∙◌, Some, ap, sym, rules}
use Rattle.std.specs.Slice.Iter.{iter_rest}
use Rattle.std.specs.Iterator.Adapters.{rev_source}
use Rattle.std.proofs.lemmas.List.Elements.{All-pop}
use denote.Enum.Bare.{same_true}
use Rattle.rcc5_core.specs.contracts.Rel.{the_type}
use Rattle.world_model.proofs.PointPositions.{relation_in}
use Rattle.set_family.specs.Meeting.{IsMetBy}
use Rattle.mir_report.proofs.found.shown_by.Goals as goal

pub returns-then-eq : goal.returns-then-eq
returns-then-eq c =
    let same : c.relation.result ≡ c.args.rel = same_true the_type (search rules) _ _ (sym c.eq.ensures ∙ c.if-eq.true) in
    let all = All-pop (IsMetBy c.args.problem.now) (iter_rest (rev_source c.loop-family.family-iterator)) (iter_rest (rev_source c.next.new.self)) (Some c.in-Some.family.now) c.in-Some.ensures.steps c.loop-family.invariant in
    record {
      met_by = all.1;
      there = ap (relation_in c.in-Some.family.now) (sym c.pair_at-left.ensures.value) ∙ sym c.relation.ensures ∙ same;
    }

pub loop-family-preserved : goal.loop-family-preserved
loop-family-preserved c =
    (All-pop (IsMetBy c.args.problem.now) (iter_rest (rev_source c.loop-family.family-iterator)) (iter_rest (rev_source c.next.new.self)) (Some c.in-Some.family.now) c.in-Some.ensures.steps c.loop-family.invariant).0
