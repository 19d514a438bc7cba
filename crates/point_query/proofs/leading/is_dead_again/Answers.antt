use Rattle.std.proofs.Common.{◌≡◌, ◌∙◌, ◌∷◌, ◌++◌, [], length, take, ℕ, List, ap, subst, arith}
use Rattle.std.proofs.lemmas.List.{take-append-le, take_all}
use Rattle.rcc5_core.specs.declared.Rel.{Rel}
use Rattle.world_model.specs.Alive.{IsAlive, problem_at}
use Rattle.point_pool.specs.Cursors.{CursorState}
use Rattle.point_query.proofs.leading.is_dead_again.Goals as goal

-- a relation more, and off again
off_again : (m : List Rel) (rel : Rel) → take (length m) (m ++ rel ∷ []) ≡ m
off_again m rel = take-append-le (length m) m (rel ∷ []) (omega arith) ∙ take_all (length m) m (omega arith)

pub returns-clause-same : goal.returns-clause-same
returns-clause-same c =
    let p = c.args.pool.now.cursor.problem in
    let m = c.args.pool.now.cursor.path in
    let rel = c.args.rel in
    let pushed : c.push.new.self ≡ record { problem = p; path = m ++ rel ∷ [] } = c.in_ok-push.ensures.ok in
    let back : c.back_to.new.self ≡ record { problem = p; path = m } =
    c.back_to.ensures ∙ ap (λ (s : CursorState). record { problem = s.problem; path = take c.len-pair.result s.path }) pushed
    ∙ ap (λ (n : ℕ). record { problem = p; path = take n (m ++ rel ∷ []) }) c.len-pair.ensures
    ∙ ap (λ (path : List Rel). record { problem = p; path = path }) (off_again m rel) in
    ap (λ (s : CursorState). record c.args.pool.now { cursor = s }) back

pub returns-clause-dead : goal.returns-clause-dead
returns-clause-dead c = λ yes.
    let p = c.args.pool.now.cursor.problem in
    let m = c.args.pool.now.cursor.path in
    let pushed : c.push.new.self ≡ record { problem = p; path = m ++ c.args.rel ∷ [] } = c.in_ok-push.ensures.ok in
    subst (λ (s : CursorState). IsAlive (problem_at s.problem s.path) → ⊥) pushed (c.is_closed_again-dead.ensures yes)
