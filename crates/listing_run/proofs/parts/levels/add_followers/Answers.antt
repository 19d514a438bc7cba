use Rattle.std.proofs.Common.{◌++◌, ap, ◌∙◌, sym, append-nil, true≢false}
use Rattle.world_model.specs.Alive.{problem_at, IsAlive}
use Rattle.listing_run.proofs.parts.LevelLemmas.{alive_followers, dead_followers}
use Rattle.listing_run.proofs.parts.levels.add_followers.Goals as goal

pub returns-in_ok-append-clause-nodes : goal.returns-in_ok-append-clause-nodes
returns-in_ok-append-clause-nodes c =
    let alive = c.in_ok-is_alive.ensures.alive.0 c.if-branch.true in
    c.in_ok-append.ensures.items ∙ ap (λ more. c.args.nodes.now.items ++ more) (c.in_ok-longer.ensures ∙ alive_followers c.args.problem.now c.args.node.now alive)

pub returns-else-branch-clause-nodes : goal.returns-else-branch-clause-nodes
returns-else-branch-clause-nodes c =
    let dead = λ (alive : IsAlive (problem_at c.args.problem.now c.args.node.now)). true≢false (sym (c.in_ok-is_alive.ensures.alive.1 alive) ∙ c.if-branch.false) in
    sym (append-nil c.args.nodes.now.items) ∙ ap (λ more. c.args.nodes.now.items ++ more) (dead_followers c.args.problem.now c.args.node.now dead)
