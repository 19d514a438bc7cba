use Rattle.std.proofs.Common.{sym, subst}
use Rattle.point_table.specs.Growing.{AreImplied, AreExcluded, AreRules}
use Rattle.point_table.proofs.build.rules_of.Goals as goal
use Rattle.point_table.proofs.build.rules_of.Goals.{then-switches+in_ok-cover_parents, else-switches}

pub add_trees-requires-clause-implied_rules : goal.add_trees-requires-clause-implied_rules
add_trees-requires-clause-implied_rules c = (c.in_ok-rules.ensures.rules c.args.problem.now).implied

pub add_trees-requires-clause-excluded_rules : goal.add_trees-requires-clause-excluded_rules
add_trees-requires-clause-excluded_rules c = (c.in_ok-rules.ensures.rules c.args.problem.now).excluded

pub cover_parents-requires-clause-covers : goal.cover_parents-requires-clause-covers
cover_parents-requires-clause-covers c = (c.in_ok-rules.ensures.rules c.args.problem.now).covers

pub returns-clause-rules : goal.returns-clause-rules
returns-clause-rules c =
    let p = c.args.problem.now in
    let implied : AreImplied p c.close.new.implied = c.in_ok-close.ensures.implied_rules p c.add_pairs.ensures.implied_rules in
    let excluded : AreExcluded p c.close.new.excluded = c.in_ok-close.ensures.excluded_rules p c.add_pairs.ensures.implied_rules c.add_pairs.ensures.excluded_rules in
    elim c.if-switches.branch [
      | then-switches+in_ok-cover_parents w ↦ subst (AreRules p) (sym w.rules-is) (record {
        implied = subst (AreImplied p) (sym w.in_ok-cover_parents.ensures.same.implied) implied;
        excluded = subst (AreExcluded p) (sym w.in_ok-cover_parents.ensures.same.excluded) excluded;
        covers = w.in_ok-cover_parents.ensures.covers;
      })
      | else-switches w ↦ subst (AreRules p) (sym w.rules-is) (record {
        implied = implied;
        excluded = excluded;
        covers = (c.in_ok-rules.ensures.rules p).covers;
      })
    ]
