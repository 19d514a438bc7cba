use Rattle.std.proofs.Common.{◌≡◌, ℕ, List, All, not, IfOk, ◌<◌, sym, subst, ◌∙◌}
use Rattle.std.specs.Prelude.{filter}
use Rattle.std.specs.List.{list_any}
use Rattle.merge_print.specs.Merged.{row_has, just_above}
use Rattle.merge_print.proofs.MergeLemmas.{just_below, if_ok}
use Rattle.merge_print.proofs.order.Below.just_above.Goals as goal

pub returns-clause-above : goal.returns-clause-above
returns-clause-above c =
    subst (λ (above : List ℕ). IfOk c.lowest.result (λ v. v.items ≡ filter (λ q. not (list_any (λ m. row_has c.args.self.now m q) above)) above)) (c.deref.ensures.value ∙ c.in_ok-above.ensures) c.lowest.ensures

pub returns-clause-within : goal.returns-clause-within
returns-clause-within c =
    if_ok (λ v. v.items ≡ just_above (row_has c.args.self.now) c.args.count c.args.class) (λ v. All (λ q. q < c.args.count) v.items) c.lowest.result
    (λ v e. subst (All (λ q. q < c.args.count)) (sym e) (just_below (row_has c.args.self.now) c.args.count c.args.class))
    (subst (λ (above : List ℕ). IfOk c.lowest.result (λ v. v.items ≡ filter (λ q. not (list_any (λ m. row_has c.args.self.now m q) above)) above)) (c.deref.ensures.value ∙ c.in_ok-above.ensures) c.lowest.ensures)
