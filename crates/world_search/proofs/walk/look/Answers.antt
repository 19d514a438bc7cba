use Rattle.std.proofs.Common.{◌≡◌, length, true≢false, sym, ◌∙◌, arith}
use Rattle.world_model.specs.Problem.{pair_count}
use Rattle.world_model.proofs.Nodes.{node_within}
use Rattle.world_search.proofs.walk.look.Goals as goal

pub returns-then-not-branch-clause-found : goal.returns-then-not-branch-clause-found
returns-then-not-branch-clause-found c =
    let p = c.args.problem.now in
    let m = c.args.walk.now.path in
    let law = c.alive_tables_are_worlds.ensures in (
      λ alive. true≢false (sym (c.in_ok-is_here_alive.ensures.alive.1 alive) ∙ c.if-not-branch.true),
      λ world. true≢false (sym (c.in_ok-is_here_alive.ensures.alive.1 ((law.worlds p c.facts.ensures.built.valid m (law.full p m world)).0 world)) ∙ c.if-not-branch.true),
    )

pub returns-clause-found : goal.returns-clause-found
returns-clause-found c =
    let p = c.args.problem.now in
    let m = c.args.walk.now.path in
    let within = node_within p m c.requires.node in
    let full : length m ≡ pair_count p = omega arith in
    (c.alive_tables_are_worlds.ensures.worlds p c.facts.ensures.built.valid m full).1 (c.in_ok-is_here_alive.ensures.alive.0 c.if-not-branch.false)
