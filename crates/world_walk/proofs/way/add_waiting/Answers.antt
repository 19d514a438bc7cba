use Rattle.std.proofs.Common.{◌≡◌, ◌++◌, [], ◌∷◌, append-nil, Bool, true, false, refl, sym, ap, ◌∙◌, subst}
use Rattle.std.specs.Prelude.{None}
use Rattle.std.specs.Option.{option_to_list}
use Rattle.rcc5_core.specs.declared.Rel.{Rel}
use Rattle.point_ladder.specs.Ladders.{LadderState, IsPushed}
use Rattle.world_model.specs.Alive.{problem_at, IsAlive}
use Rattle.world_model.proofs.PointPositions.{prefix_is_alive}
use Rattle.world_walk.proofs.WentOn.{under, same_way, stays}
use Rattle.world_walk.proofs.way.add_waiting.Goals as goal

pub push-requires-clause-alive : goal.push-requires-clause-alive
push-requires-clause-alive c =
    let w = c.args.way.now in
    prefix_is_alive w.along.problem w.along.path (option_to_list w.waiting) (under w c.requires.way c.requires.standing).alive

pub returns-in_err-push-clause-went : goal.returns-in_err-push-clause-went
returns-in_err-push-clause-went c =
    let w = c.args.way.now in
    let same = c.in_err-push.ensures.err in
    same_way w (record { along = c.push.new.self; waiting = w.waiting; levels = w.levels; stage = w.stage }) c.requires.way c.requires.standing
    (ap (λ l. l.problem) same) (ap (λ l. l.path ++ option_to_list w.waiting) same) refl refl

pushed : (old new : LadderState) (rel : Rel) (b : Bool) → IsPushed old new rel b → IsAlive (problem_at old.problem (old.path ++ rel ∷ [])) →
    (new.problem ≡ old.problem) × (new.path ++ [] ≡ old.path ++ rel ∷ [])
pushed old new rel true h alive = (ap (λ l. l.problem) h.1, append-nil new.path ∙ ap (λ l. l.path) h.1)
pushed old new rel false h alive = absurd (h.0 alive)

pub returns-in_ok-push-clause-went : goal.returns-in_ok-push-clause-went
returns-in_ok-push-clause-went c =
    let w = c.args.way.now in
    let alive : IsAlive (problem_at w.along.problem (w.along.path ++ c.in-Some.rel ∷ [])) =
    subst (λ o. IsAlive (problem_at w.along.problem (w.along.path ++ option_to_list o))) c.in-Some.is (under w c.requires.way c.requires.standing).alive in
    let done = pushed w.along c.push.new.self c.in-Some.rel c.in_ok-push.field-0 c.in_ok-push.ensures.pushed alive in
    same_way w (record { along = c.push.new.self; waiting = None; levels = w.levels; stage = w.stage }) c.requires.way c.requires.standing
    done.0 (done.1 ∙ ap (λ o. w.along.path ++ option_to_list o) (sym c.in-Some.is)) refl refl

pub returns-in_default-clause-went : goal.returns-in_default-clause-went
returns-in_default-clause-went c = stays c.args.way.now c.requires.way c.requires.standing
