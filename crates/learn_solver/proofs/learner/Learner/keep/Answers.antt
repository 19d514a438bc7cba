use Rattle.std.proofs.Common.{◌∙◌, List, [], ◌∷◌, ◌++◌, refl, ap}
use Rattle.lits_core.specs.declared.Line.{Line}
use Rattle.lits_core.specs.declared.Line.TheVariants.{Forget}
use Rattle.watch_arena.specs.Trails.{TrailState}
use Rattle.learn_solver.specs.declared.learner.Learner.{Learner}
use Rattle.learn_solver.specs.Guides.{by_trail}
use Rattle.learn_solver.specs.Learners.{gone_of}
use Rattle.learn_solver.proofs.StepInvariant.{IsLearner-kept, Steps-kept, Steps-refl}
use Rattle.learn_solver.proofs.Tidied.{HasForgotten-none, HasForgotten-from, empty-list, some-element}
use Rattle.learn_solver.proofs.learner.Learner.keep.Goals as goal

pub returns-in_err-ids-clause-steps : goal.returns-in_err-ids-clause-steps
returns-in_err-ids-clause-steps c = Steps-refl c.args.self.now c.requires.sound

pub returns-then-is_empty-clause-steps : goal.returns-then-is_empty-clause-steps
returns-then-is_empty-clause-steps c = Steps-refl c.args.self.now c.requires.sound

pub returns-then-is_empty-clause-ok : goal.returns-then-is_empty-clause-ok
returns-then-is_empty-clause-ok c =
    (HasForgotten-none c.args.self.now c.args.kept.now c.requires.sound (empty-list (gone_of c.args.self.now c.args.kept.now) c.list.result.now c.if-is_empty.ensures (c.list.ensures ∙ c.in_ok-ids.ensures))).clears

pub returns-in_err-reserve-clause-steps : goal.returns-in_err-reserve-clause-steps
returns-in_err-reserve-clause-steps c = Steps-kept c.args.self.now _ c.requires.sound (record { records = refl; trail_variables = refl; variables = refl; analyzer = refl; order = refl; given = refl; last = refl; waiting = c.reserve.ensures.items }) refl

pub returns-in_err-reserve-2-clause-steps : goal.returns-in_err-reserve-2-clause-steps
returns-in_err-reserve-2-clause-steps c = Steps-kept c.args.self.now _ c.requires.sound (record { records = ap (λ (t : TrailState). t.records) c.reserve-2.ensures.same; trail_variables = ap (λ (t : TrailState). t.variables) c.reserve-2.ensures.same; variables = refl; analyzer = refl; order = refl; given = refl; last = refl; waiting = c.reserve.ensures.items }) (ap (λ (t : TrailState). by_trail t c.args.self.now.assumptions) c.reserve-2.ensures.same)

pub forget_others-requires-clause-sound : goal.forget_others-requires-clause-sound
forget_others-requires-clause-sound c = IsLearner-kept c.args.self.now _ c.requires.sound (record { records = ap (λ (t : TrailState). t.records) c.reserve-2.ensures.same; trail_variables = ap (λ (t : TrailState). t.variables) c.reserve-2.ensures.same; variables = refl; analyzer = refl; order = refl; given = refl; last = refl; waiting = c.reserve.ensures.items }) (ap (λ (t : TrailState). by_trail t c.args.self.now.assumptions) c.reserve-2.ensures.same)

pub returns-clause-steps : goal.returns-clause-steps
returns-clause-steps c = (HasForgotten-from c.args.self.now (record c.forget_others.new.self { trail = c.compact.new.self; waiting = c.push_reserved.new.self }) c.args.kept.now c.reserve-2.new.self c.forget_others.new.self.trail c.in_ok-ids.ids c.requires.sound c.requires.kept c.reserve-2.ensures.same c.in_ok-ids.ensures (some-element c.in_ok-ids.ids c.list.result.now c.if-is_empty.ensures c.list.ensures) c.forget_others.ensures.forgets c.compact.ensures
    (ap (λ (l : Learner). l.variables) c.forget_others.ensures.same) (ap (λ (l : Learner). l.analyzer) c.forget_others.ensures.same) (ap (λ (l : Learner). l.order) c.forget_others.ensures.same) (ap (λ (l : Learner). l.given) c.forget_others.ensures.same) (ap (λ (l : Learner). l.last) c.forget_others.ensures.same) (ap (λ (l : Learner). l.assumptions) c.forget_others.ensures.same)
    (c.push_reserved.ensures.items ∙ ap (λ (ls : List Line). ls ++ Forget c.in_ok-ids.ids ∷ []) (ap (λ (l : Learner). l.waiting.items) c.forget_others.ensures.same ∙ c.reserve.ensures.items))
    c.facts.ensures c.facts-2.ensures).steps

pub returns-clause-burden : goal.returns-clause-burden
returns-clause-burden c = (HasForgotten-from c.args.self.now (record c.forget_others.new.self { trail = c.compact.new.self; waiting = c.push_reserved.new.self }) c.args.kept.now c.reserve-2.new.self c.forget_others.new.self.trail c.in_ok-ids.ids c.requires.sound c.requires.kept c.reserve-2.ensures.same c.in_ok-ids.ensures (some-element c.in_ok-ids.ids c.list.result.now c.if-is_empty.ensures c.list.ensures) c.forget_others.ensures.forgets c.compact.ensures
    (ap (λ (l : Learner). l.variables) c.forget_others.ensures.same) (ap (λ (l : Learner). l.analyzer) c.forget_others.ensures.same) (ap (λ (l : Learner). l.order) c.forget_others.ensures.same) (ap (λ (l : Learner). l.given) c.forget_others.ensures.same) (ap (λ (l : Learner). l.last) c.forget_others.ensures.same) (ap (λ (l : Learner). l.assumptions) c.forget_others.ensures.same)
    (c.push_reserved.ensures.items ∙ ap (λ (ls : List Line). ls ++ Forget c.in_ok-ids.ids ∷ []) (ap (λ (l : Learner). l.waiting.items) c.forget_others.ensures.same ∙ c.reserve.ensures.items))
    c.facts.ensures c.facts-2.ensures).burden

pub returns-clause-ok : goal.returns-clause-ok
returns-clause-ok c = (HasForgotten-from c.args.self.now (record c.forget_others.new.self { trail = c.compact.new.self; waiting = c.push_reserved.new.self }) c.args.kept.now c.reserve-2.new.self c.forget_others.new.self.trail c.in_ok-ids.ids c.requires.sound c.requires.kept c.reserve-2.ensures.same c.in_ok-ids.ensures (some-element c.in_ok-ids.ids c.list.result.now c.if-is_empty.ensures c.list.ensures) c.forget_others.ensures.forgets c.compact.ensures
    (ap (λ (l : Learner). l.variables) c.forget_others.ensures.same) (ap (λ (l : Learner). l.analyzer) c.forget_others.ensures.same) (ap (λ (l : Learner). l.order) c.forget_others.ensures.same) (ap (λ (l : Learner). l.given) c.forget_others.ensures.same) (ap (λ (l : Learner). l.last) c.forget_others.ensures.same) (ap (λ (l : Learner). l.assumptions) c.forget_others.ensures.same)
    (c.push_reserved.ensures.items ∙ ap (λ (ls : List Line). ls ++ Forget c.in_ok-ids.ids ∷ []) (ap (λ (l : Learner). l.waiting.items) c.forget_others.ensures.same ∙ c.reserve.ensures.items))
    c.facts.ensures c.facts-2.ensures).clears
