use Rattle.std.proofs.Common.{◌≡◌, sym, ap, ◌∙◌, subst}
use Rattle.world_search.specs.Searching.{SearchState}
use Rattle.world_search.specs.Guiding.{IsUnderWay}
use Rattle.world_search.specs.Walking.{expected}
use Rattle.world_search.specs.Logging.{KeepsOn}
use Rattle.world_search.proofs.search.Search.next.Goals as goal

pub family_step-requires-clause-walk : goal.family_step-requires-clause-walk
family_step-requires-clause-walk g c =
    let same : c.self.inside.problem ≡ c.args.problem.now = ap (λ (s : SearchState). s.problem) c.self.view_is ∙ c.requires.problem in
    subst (λ p. IsUnderWay p c.self.inside.span.from c.self.inside.span.to c.self.inside.walk c.self.inside.guide) same c.self.invariant.walk

pub invariant_of-self : goal.invariant_of-self
invariant_of-self g c =
    let same : c.self.inside.problem ≡ c.args.problem.now = ap (λ (s : SearchState). s.problem) c.self.view_is ∙ c.requires.problem in
    record {
      within = c.self.invariant.within;
      walk = subst (λ p. IsUnderWay p c.self.inside.span.from c.self.inside.span.to c.family_step.new.walk c.family_step.new.guide) (sym same) c.family_step.ensures.walk;
    }

pub returns-clause-keeps : goal.returns-clause-keeps
returns-clause-keeps g c =
    let p = c.args.problem.now in
    let a = g.L.TreeLog.lines c.args.log.now in
    let b = g.L.TreeLog.lines c.family_step.new.log in
    let one = c.args.asker.now in
    let two = c.family_step.new.asker in
    let last = expected c.family_step.new.walk in
    let from_is : c.self.inside.span.from ≡ c.args.self.now.from = ap (λ (s : SearchState). s.from) c.self.view_is in
    let expects_is : expected c.self.inside.walk ≡ c.args.self.now.expects = ap (λ (s : SearchState). s.expects) c.self.view_is in
    subst (λ from. KeepsOn p from a b one two c.args.self.now.expects last) from_is
    (subst (λ at. KeepsOn p c.self.inside.span.from a b one two at last) expects_is c.family_step.ensures.keeps)
