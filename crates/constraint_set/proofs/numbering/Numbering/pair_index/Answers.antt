use Rattle.std.proofs.Common.{◌≡◌, ◌+◌, ◌-◌, length, ap, sym, ◌∙◌, arith}
use Rattle.world_model.specs.Node.{pair_at}
use Rattle.world_model.proofs.PointOnce.{pairs_once}
use Rattle.constraint_set.specs.Numbers.{with_owners}
use Rattle.constraint_set.proofs.Rows.{at_inside, at_crossing, fits, within_pairs}
use Rattle.constraint_set.proofs.numbering.Numbering.pair_index.Goals as goal

pub overflow_add-result : goal.overflow_add-result
overflow_add-result c =
    let at : pair_at (with_owners c.self.inside.owners.items) (c.index.result.now + (c.args.y - c.args.x - 1)) ≡ (c.args.x, c.args.y) = at_inside _ _ _ _ _ _ c.self.invariant c.args.x c.args.y _ _ c.requires.order (omega (arith, c.requires.within, ap length c.self.view_is)) c.index-end.ensures c.index.ensures c.if-y-end.true in
    omega (arith, fits c.self.inside.owners.items _ c.args.x c.args.y c.self.invariant.few c.requires.order at)

pub returns-then-y-end-clause-at : goal.returns-then-y-end-clause-at
returns-then-y-end-clause-at c = rw (← c.self.view_is) (at_inside _ _ _ _ _ _ c.self.invariant c.args.x c.args.y _ _ c.requires.order (omega (arith, c.requires.within, ap length c.self.view_is)) c.index-end.ensures c.index.ensures c.if-y-end.true)

pub returns-then-y-end-clause-within : goal.returns-then-y-end-clause-within
returns-then-y-end-clause-within c = within_pairs (with_owners c.args.self.now) _ c.args.x c.args.y c.requires.order (returns-then-y-end-clause-at c)

pub returns-then-y-end-clause-only : goal.returns-then-y-end-clause-only
returns-then-y-end-clause-only c = λ k in_pairs is.
    pairs_once (with_owners c.args.self.now) k _ in_pairs (returns-then-y-end-clause-within c) (is ∙ sym (returns-then-y-end-clause-at c))

pub overflow_add-result-else-y-end : goal.overflow_add-result-else-y-end
overflow_add-result-else-y-end c =
    let at : pair_at (with_owners c.self.inside.owners.items) (c.index-else-y-end.result.now + (c.args.y - c.index-end.result.now)) ≡ (c.args.x, c.args.y) = at_crossing _ _ _ _ _ _ c.self.invariant c.args.x c.args.y _ _ c.requires.order (omega (arith, c.requires.within, ap length c.self.view_is)) c.index-end.ensures c.index-else-y-end.ensures c.if-y-end.false in
    omega (arith, fits c.self.inside.owners.items _ c.args.x c.args.y c.self.invariant.few c.requires.order at)

pub returns-else-y-end-clause-at : goal.returns-else-y-end-clause-at
returns-else-y-end-clause-at c = rw (← c.self.view_is) (at_crossing _ _ _ _ _ _ c.self.invariant c.args.x c.args.y _ _ c.requires.order (omega (arith, c.requires.within, ap length c.self.view_is)) c.index-end.ensures c.index-else-y-end.ensures c.if-y-end.false)

pub returns-else-y-end-clause-within : goal.returns-else-y-end-clause-within
returns-else-y-end-clause-within c = within_pairs (with_owners c.args.self.now) _ c.args.x c.args.y c.requires.order (returns-else-y-end-clause-at c)

pub returns-else-y-end-clause-only : goal.returns-else-y-end-clause-only
returns-else-y-end-clause-only c = λ k in_pairs is.
    pairs_once (with_owners c.args.self.now) k _ in_pairs (returns-else-y-end-clause-within c) (is ∙ sym (returns-else-y-end-clause-at c))
