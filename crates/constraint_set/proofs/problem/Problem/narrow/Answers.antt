use Rattle.std.proofs.Common.{◌<◌, ◌++◌, ◌∷◌, [], refl, sym, ap, ◌∙◌, subst}
use Rattle.std.proofs.lemmas.Result.{on_ok_weaker}
use Rattle.world_model.specs.Problem.{pair_count, Constraint}
use Rattle.world_model.specs.Node.{pair_at}
use Rattle.constraint_set.proofs.Saying.{narrowed_is}
use Rattle.constraint_set.proofs.problem.Problem.narrow.Goals as goal

pub pair_at-left-requires : goal.pair_at-left-requires
pair_at-left-requires c =
    subst (λ p. c.args.pair < pair_count p) (sym c.deref.ensures) (subst (λ p. c.args.pair < pair_count p) (sym c.self.view_is) c.requires)

pub returns-in-Some-clause-value : goal.returns-in-Some-clause-value
returns-in-Some-clause-value c =
    let s = c.self.inside in
    let pair = c.pair_at-left.result in
    let more : Constraint = record { left = pair.0; right = pair.1; set = c.args.set } in
    rw (← c.self.view_is)
    (on_ok_weaker c.add.result
    (λ grown. narrowed_is s.shape.value s.shape.value s.kept.value.flags.items s.kept.value.flags.items s.narrowed.value.list.items c.add.new.self.list.items
    (pair_at s.shape.value c.args.pair) pair c.args.set refl refl
    (grown ∙ ap (λ n. n.list.items ++ more ∷ []) c.in-Some.ensures.value)
    (c.pair_at-left.ensures.value ∙ ap (λ p. pair_at p c.args.pair) c.deref.ensures))
    c.add.ensures.list)

pub returns-clause-value : goal.returns-clause-value
returns-clause-value c =
    let s = c.self.inside in
    let pair = c.pair_at-left.result in
    let more : Constraint = record { left = pair.0; right = pair.1; set = c.args.set } in
    rw (← c.self.view_is)
    (narrowed_is s.shape.value s.shape.value s.kept.value.flags.items s.kept.value.flags.items s.narrowed.value.list.items c.in_ok-self-inside.field-0.value.list.items
    (pair_at s.shape.value c.args.pair) pair c.args.set refl refl
    (ap (λ n. n.list.items) c.in_ok-self-inside.ensures.ok ∙ c.in_ok-narrowed.ensures.list ∙ ap (λ n. n.list.items ++ more ∷ []) c.deref-2.ensures)
    (c.pair_at-left.ensures.value ∙ ap (λ p. pair_at p c.args.pair) c.deref.ensures))
