use Rattle.std.proofs.Common.{sym, subst}
use Rattle.std.proofs.lemmas.List.Elements.{All-push}
use Rattle.pick_search.specs.Picking.{AreClashes, IsClash}
use Rattle.pick_search.specs.declared.picks.Clash.{Clash}
use Rattle.pick_search.proofs.Deciding.{dead_clash}
use Rattle.pick_search.proofs.Narrowing.{same_pairs}
use Rattle.pick_search.proofs.known.note_clash.Goals as goal

pub is_dead_if-requires-clause-pairs : goal.is_dead_if-requires-clause-pairs
is_dead_if-requires-clause-pairs c = same_pairs c.args.problem.now c.args.wide.now c.args.pairs.now (sym c.requires.part.shape) c.requires.pairs

pub returns-then-branch-clause-known : goal.returns-then-branch-clause-known
returns-then-branch-clause-known c =
    let wide = c.args.wide.now in
    let pairs = c.args.pairs.now in
    let few : Clash = record { picks = c.in_ok-blame.blame.picks } in
    subst (AreClashes wide pairs) (sym c.in_ok-push.ensures.items)
    (All-push (λ clash. IsClash wide pairs clash.picks.items) c.args.known.now.items few c.requires.known
    (subst (IsClash wide pairs) c.deref-2.ensures.value (c.in_ok-is_dead_if.ensures.clash c.if-branch.true)))

pub returns-then-branch-2-clause-own : goal.returns-then-branch-2-clause-own
returns-then-branch-2-clause-own c =
    let p = c.args.problem.now in
    let pairs = c.args.pairs.now in
    let few : Clash = record { picks = c.in_ok-blame.blame.picks } in
    subst (AreClashes p pairs) (sym c.in_ok-push-2.ensures.items)
    (All-push (λ clash. IsClash p pairs clash.picks.items) c.args.own.now.items few c.requires.own
    (subst (IsClash p pairs) c.deref-3.ensures.value (c.in_ok-is_dead_with.ensures.clash c.if-branch-2.true)))

pub returns-clause-own : goal.returns-clause-own
returns-clause-own c =
    let p = c.args.problem.now in
    let pairs = c.args.pairs.now in
    let all : Clash = record { picks = c.args.picks } in
    subst (AreClashes p pairs) (sym c.in_ok-push-3.ensures.items)
    (All-push (λ clash. IsClash p pairs clash.picks.items) c.args.own.now.items all c.requires.own
    (dead_clash c.whole_sets_are_decided.ensures p c.args.node.now pairs c.args.picks.items c.requires.node c.requires.dead))
