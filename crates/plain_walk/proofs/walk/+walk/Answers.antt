use Rattle.std.proofs.Common.{◌≡◌, ◌+◌, ◌-◌, ◌++◌, ◌∷◌, [], map, length, take, true, ap, ◌∙◌, sym, arith}
use Rattle.std.specs.Prelude.{flat_map}
use Rattle.std.proofs.lemmas.List.{take_all}
use Rattle.world_model.specs.Alive.{problem_at}
use Rattle.world_model.specs.Trial.{alive_by_trial, next_rels, nodes_below}
use Rattle.plain_walk.proofs.PlainWalk.{longer_by_one, walk_end}
use Rattle.plain_walk.proofs.walk.+walk.Goals as goal

pub walk-requires : goal.walk-requires
walk-requires t c =
    let list : c.deref-node-items.result.now ≡ map (λ rel. c.args.prefix.now ++ rel ∷ []) (next_rels c.args.problem.now c.args.prefix.now) = c.deref-node-items.ensures.value ∙ c.in_ok-longer.ensures in
    let longer : length c.node-item.result ≡ length c.args.prefix.now + 1 =
    longer_by_one c.args.prefix.now (next_rels c.args.problem.now c.args.prefix.now) c.deref-node-items.result.now c.loop-node.node-index c.node-item.result list c.loop-node-test.true c.node-item.is in
    (omega arith, omega arith)

pub returns : goal.returns
returns t c =
    let list : c.deref-node-items.result.now ≡ map (λ rel. c.args.prefix.now ++ rel ∷ []) (next_rels c.args.problem.now c.args.prefix.now) = c.deref-node-items.ensures.value ∙ c.in_ok-longer.ensures in
    let alive : alive_by_trial (problem_at c.args.problem.now c.args.prefix.now) ≡ true = sym c.in_ok-is_alive.ensures.by_trial ∙ c.if-not-branch.false in
    let start : c.push.new.self.items ≡ c.args.nodes.now.items ++ c.args.prefix.now ∷ [] = c.in_ok-push.ensures.items ∙ ap (λ m. c.args.nodes.now.items ++ m ∷ []) c.in_ok-copy.ensures in
    let all : take c.loop-node.node-index c.deref-node-items.result.now ≡ c.deref-node-items.result.now = take_all c.loop-node.node-index c.deref-node-items.result.now c.loop-node-test.false in
    walk_end c.args.problem.now c.args.prefix.now c.args.left (c.args.left - 1) c.args.nodes.now.items c.push.new.self.items c.loop-node.nodes.items c.deref-node-items.result.now
    (omega arith) alive start
    (c.loop-node.invariant ∙ ap (λ xs. c.push.new.self.items ++ flat_map (nodes_below c.args.problem.now (c.args.left - 1)) xs) all)
    list
