use Rattle.std.proofs.Common.{◌≡◌, [], refl, sym, ap, ◌∙◌, subst}
use Rattle.std.specs.Prelude.{IsTrue, None}
use Rattle.std.proofs.lemmas.Bool.{true≢false}
use Rattle.world_model.specs.Alive.{IsAlive, problem_at}
use Rattle.world_model.specs.Problem.{Problem, is_problem}
use Rattle.point_ladder.specs.Ladders.{LadderState}
use Rattle.world_walk.specs.declared.way.Stage.TheVariants.{Standing, Past}
use Rattle.world_walk.specs.Ways.{HasBegun}
use Rattle.world_walk.proofs.HasBegun.{fresh_way, dead_way}
use Rattle.world_walk.proofs.start.way_from.Goals as goal
use Rattle.world_walk.proofs.start.way_from.Goals.{then-alive+in_ok-go_to, else-alive}

pub go_to-requires-clause-way : goal.go_to-requires-clause-way
go_to-requires-clause-way c =
    let same : c.is_alive.new.self ≡ c.args.along = c.is_alive.ensures.same in
    (fresh_way (record { along = c.is_alive.new.self; waiting = None; levels = c.new.result; stage = Standing })
    (subst (λ (l : LadderState). IsTrue (is_problem l.problem)) (sym same) c.requires.valid) (subst (λ (l : LadderState). l.path ≡ []) (sym same) c.requires.empty) refl c.new.ensures.items refl
    (subst (λ (l : LadderState). IsAlive (problem_at l.problem l.path)) (sym same) (c.in_ok-alive.ensures.alive.0 c.if-alive.true))).0

pub returns : goal.returns
returns c =
    let same : c.is_alive.new.self ≡ c.args.along = c.is_alive.ensures.same in
    let here : c.is_alive.new.self.problem ≡ c.args.along.problem = ap (λ (l : LadderState). l.problem) same in
    elim c.if-alive.branch [
      | then-alive+in_ok-go_to w ↦ subst (HasBegun c.args.along.problem c.args.from.now) (sym w.way'-is) (subst (λ (p : Problem). HasBegun p c.args.from.now w.go_to.new.way) here w.in_ok-go_to.ensures)
      | else-alive w ↦
          subst (HasBegun c.args.along.problem c.args.from.now) (sym w.way'-is)
          (subst (λ (p : Problem). HasBegun p c.args.from.now (record { along = c.is_alive.new.self; waiting = None; levels = c.new.result; stage = Past })) here
          (dead_way (record { along = c.is_alive.new.self; waiting = None; levels = c.new.result; stage = Past }) c.args.from.now
          (subst (λ (l : LadderState). IsTrue (is_problem l.problem)) (sym same) c.requires.valid) (subst (λ (l : LadderState). l.path ≡ []) (sym same) c.requires.empty) refl
          (λ alive. true≢false (sym (c.in_ok-alive.ensures.alive.1 (subst (λ (l : LadderState). IsAlive (problem_at l.problem l.path)) same alive)) ∙ w.if-alive.false))))
    ]
