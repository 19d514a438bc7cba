use Rattle.std.proofs.Common.{◌≡◌, length, true≢false, sym, ◌∙◌, subst}
use Rattle.std.specs.Prelude.{slice_get, Some}
use Rattle.point_ladder.specs.Ladders.{IsPushed}
use Rattle.world_search.proofs.Guiding.{ladder_step, dead_at, dead_behind}
use Rattle.world_search.proofs.guide.climb_to.Goals as goal

pub returns-then-not-is_alive-clause-alive : goal.returns-then-not-is_alive-clause-alive
returns-then-not-is_alive-clause-alive c = (
  λ none. absurd (true≢false (sym none)),
  λ alive. absurd (dead_at c.args.ladder.now.problem c.args.prefix.now c.args.ladder.now c.prefixes_of_the_alive_are_alive.ensures c.requires.ladder
      (λ start. true≢false (sym (c.is_alive.ensures.1 start) ∙ c.if-not-is_alive.true)) alive),
)

pub returns-then-not-branch-clause-alive : goal.returns-then-not-branch-clause-alive
returns-then-not-branch-clause-alive c =
    let next : slice_get c.args.prefix.now (length c.loop-ladder.ladder.path) ≡ Some c.at-rel.result =
    subst (λ path. slice_get c.args.prefix.now (length path) ≡ Some c.at-rel.result) c.path-in-loop-ladder.ensures c.at-rel.ensures in
    let stays = subst (IsPushed c.loop-ladder.ladder c.push.new.self c.at-rel.result) c.if-not-branch.true c.in_ok-push.ensures.pushed in (
      λ none. absurd (true≢false (sym none)),
      λ alive. absurd (dead_behind c.args.ladder.now.problem c.args.prefix.now c.at-rel.result c.loop-ladder.ladder c.prefixes_of_the_alive_are_alive.ensures
          c.loop-ladder.invariant.along next stays.0 alive),
    )

pub loop-ladder-preserved : goal.loop-ladder-preserved
loop-ladder-preserved c =
    let next : slice_get c.args.prefix.now (length c.loop-ladder.ladder.path) ≡ Some c.at-rel.result =
    subst (λ path. slice_get c.args.prefix.now (length path) ≡ Some c.at-rel.result) c.path-in-loop-ladder.ensures c.at-rel.ensures in
    let goes = subst (IsPushed c.loop-ladder.ladder c.push.new.self c.at-rel.result) c.if-not-branch.false c.in_ok-push.ensures.pushed in
    record {
      along = ladder_step c.args.ladder.now.problem c.args.prefix.now c.at-rel.result c.loop-ladder.ladder c.push.new.self c.loop-ladder.invariant.along next goes.1;
      alive = rw goes.1 goes.0;
    }
