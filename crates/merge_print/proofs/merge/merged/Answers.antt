use Rattle.std.proofs.Common.{◌≡◌, sym, subst, rules}
use Rattle.merge_print.specs.declared.taxonomy.MergedTaxonomy.{MergedTaxonomy}
use Rattle.merge_print.specs.Merged.{merged_of}
use Rattle.merge_print.specs.Text.{IsInRange}
use Rattle.merge_print.proofs.RangeLemmas.{merged_in_range}
use Rattle.merge_print.proofs.merge.merged.Goals as goal

pub returns-clause-range : goal.returns-clause-range
returns-clause-range c =
    let m : MergedTaxonomy = record { classes = c.in_ok-classes.classes; under = c.in_ok-under.under; splits = c.in_ok-splits.splits } in
    let e : m ≡ merged_of c.args.problem.now c.args.table.now = search rules in
    subst (IsInRange c.args.problem.now) (sym e) (merged_in_range c.args.problem.now c.args.table.now)
