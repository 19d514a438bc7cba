use Rattle.std.proofs.Common.{inl, inr, sym, subst, arith}
use Rattle.std.specs.Prelude.{Contains, IsTrue}
use Rattle.std.proofs.lemmas.Bool.{cases_eq}
use Rattle.point_encode.specs.Model.Clauses.{is_so}
use Rattle.world_model.specs.Alive.{lies_in, point_at}
use Rattle.family_solver.proofs.clauses.push_points.Goals as goal

pub loop-place-preserved : goal.loop-place-preserved
loop-place-preserved c = record {
  there = λ k small lies. elim (cases_eq k c.loop-place.place) [
    | inl last ↦ subst (λ j. Contains c.push_if.new.lits.items (is_so j)) (sym last) (c.in_ok-push_if.ensures.there (subst (λ j. IsTrue (lies_in c.args.region c.args.pair (point_at c.args.points.now j))) last lies))
    | inr other ↦ c.in_ok-push_if.ensures.stay (is_so k) (c.loop-place.invariant.there k (omega (arith, small, other)) lies)
  ];
  stay = λ lit there. c.in_ok-push_if.ensures.stay lit (c.loop-place.invariant.stay lit there);
  range = λ count few before. c.in_ok-push_if.ensures.range count few (c.loop-place.invariant.range count few before);
}
