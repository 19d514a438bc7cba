use Rattle.std.proofs.Common.{◌≡◌, ◌∙◌, ap, subst, length, ℕ, IfOk}
use Rattle.merge_print.specs.Merged.{under_of, row_has, is_below}
use Rattle.merge_print.proofs.MergeLemmas.{under_by_rows, if_ok}
use Rattle.merge_print.proofs.order.under.Goals as goal

pub returns : goal.returns
returns c =
    if_ok (λ u. u ≡ under_of (row_has c.in_ok-below.below) (length c.args.heads.now)) (λ u. u ≡ under_of (is_below c.args.problem.now c.args.table.now c.args.heads.now) (length c.args.heads.now))
    c.list_under.result (λ u e. e ∙ ap (λ rows. under_of (row_has rows) (length c.args.heads.now)) c.in_ok-below.ensures ∙ under_by_rows c.args.problem.now c.args.table.now c.args.heads.now)
    (subst (λ (n : ℕ). IfOk c.list_under.result (λ u. u ≡ under_of (row_has c.in_ok-below.below) n)) c.count_of.ensures c.list_under.ensures)
