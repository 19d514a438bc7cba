use Rattle.std.proofs.Common.{◌≤◌, ◌++◌, [], length, inl, refl, sym, ap, subst}
use Rattle.world_model.specs.Problem.{pair_count}
use Rattle.world_search.specs.Guiding.{IsGuideOf}
use Rattle.world_search.proofs.search.begin_at.Goals as goal

pub invariant_of-result : goal.invariant_of-result
invariant_of-result c = record {
  within = subst (λ p. length c.args.from ≤ pair_count p) (sym c.in_ok-problem.ensures) c.requires.from;
  walk = record {
    placed = record {
      begun = refl;
      node = inl (ap (λ m. m ++ []) c.new.ensures);
      rest = c.args.from;
      begins = ap (λ m. (m ++ []) ++ c.args.from) (sym c.new.ensures);
    };
    knows = λ depth set kept. absurd (c.new-2.ensures depth set kept);
    guide = subst (λ m. IsGuideOf c.in_ok-problem.problem m c.args.guide) (sym c.new.ensures) (subst (λ p. IsGuideOf p [] c.args.guide) (sym c.in_ok-problem.ensures) c.requires.guide);
  };
}
