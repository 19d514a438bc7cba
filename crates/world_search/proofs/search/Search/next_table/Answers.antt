use Rattle.std.proofs.Common.{◌≡◌, sym, ap, ◌∙◌, subst}
use Rattle.world_search.specs.Searching.{SearchState}
use Rattle.world_search.specs.Guiding.{IsUnderWay}
use Rattle.world_search.proofs.search.Search.next_table.Goals as goal

pub table_step-requires-clause-walk : goal.table_step-requires-clause-walk
table_step-requires-clause-walk c =
    let same : c.self.inside.problem ≡ c.args.problem.now = ap (λ (s : SearchState). s.problem) c.self.view_is ∙ c.requires.problem in
    subst (λ p. IsUnderWay p c.self.inside.span.from c.self.inside.span.to c.self.inside.walk c.self.inside.guide) same c.self.invariant.walk

pub invariant_of-self : goal.invariant_of-self
invariant_of-self c =
    let same : c.self.inside.problem ≡ c.args.problem.now = ap (λ (s : SearchState). s.problem) c.self.view_is ∙ c.requires.problem in
    record {
      within = c.self.invariant.within;
      walk = subst (λ p. IsUnderWay p c.self.inside.span.from c.self.inside.span.to c.table_step.new.walk c.table_step.new.guide) (sym same) c.table_step.ensures.walk;
    }

pub invariant_of-self-2 : goal.invariant_of-self-2
invariant_of-self-2 c =
    let same : c.self.inside.problem ≡ c.args.problem.now = ap (λ (s : SearchState). s.problem) c.self.view_is ∙ c.requires.problem in
    record {
      within = c.self.invariant.within;
      walk = subst (λ p. IsUnderWay p c.self.inside.span.from c.self.inside.span.to c.table_step.new.walk c.table_step.new.guide) (sym same) c.table_step.ensures.walk;
    }
