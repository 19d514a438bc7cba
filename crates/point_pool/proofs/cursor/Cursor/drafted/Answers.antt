use Rattle.std.proofs.Common.{◌≡◌, ◌∙◌, true, sym, ap, subst}
use Rattle.point_encode.specs.Model.Forced.{need_at}
use Rattle.world_model.specs.Alive.{is_in_need, is_point, problem_at}
use Rattle.point_pool.proofs.cursor.Cursor.drafted.Goals as goal

pub returns : goal.returns
returns c =
    let s = c.args.self.now in
    let same = c.deref.ensures.value ∙ sym c.deref-2.ensures.value ∙ sym c.in_ok-point.ensures in
    let need = c.by_concepts.ensures.value ∙ ap (λ p. need_at p c.args.number) c.problem.ensures in (
      subst (λ bits. is_point (problem_at s.problem s.path) bits ≡ true) same (c.has_point.ensures c.if-not-has_point.false),
      subst (λ n. is_in_need n c.in_ok-point.point ≡ true) need (sym c.if-not-is_in.ensures),
    )
