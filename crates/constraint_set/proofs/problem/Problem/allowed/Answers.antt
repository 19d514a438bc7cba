use Rattle.std.proofs.Common.{◌≡◌, ◌<◌, sym, ap, ◌∙◌, subst}
use Rattle.rcc5_core.specs.RelationSet.{both_of}
use Rattle.world_model.specs.Problem.{pair_count}
use Rattle.constraint_set.specs.Sets.{set_at, kept_statements}
use Rattle.constraint_set.proofs.Saying.{both_said}
use Rattle.constraint_set.proofs.problem.Problem.allowed.Goals as goal

pub returns : goal.returns
returns c =
    let s = c.self.inside in
    let shape = s.shape.value in
    let kept : c.at.result ≡ set_at s.kept.value.sets c.args.pair = c.at.ensures ∙ ap (λ k. set_at k.sets c.args.pair) c.deref.ensures in
    let narrowed : c.at-2.result ≡ set_at s.narrowed.value.sets c.args.pair = c.at-2.ensures ∙ ap (λ n. set_at n.sets c.args.pair) c.deref-2.ensures in
    rw (← c.self.view_is)
    (c.meet.ensures ∙ ap (λ a. both_of a c.at-2.result) kept ∙ ap (both_of (set_at s.kept.value.sets c.args.pair)) narrowed
    ∙ both_said shape (kept_statements s.kept.value.flags.items shape.articulations) s.narrowed.value.list.items s.kept.value.sets s.narrowed.value.sets c.args.pair
    (subst (λ p. c.args.pair < pair_count p) (sym c.self.view_is) c.requires) c.self.invariant.kept_said c.self.invariant.narrowed_said)
