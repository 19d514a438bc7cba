use Rattle.std.proofs.Common.{◌≡◌, [], ◌∷◌, ◌++◌, take, get_or, subst, sym, ap, ◌∙◌}
use Rattle.std.proofs.lemmas.List.{get_or_read, take_more}
use Rattle.world_model.proofs.Members.{In, In-get_or}
use Rattle.watch_arena.specs.Trails.{AreInRange}
use Rattle.point_encode.specs.Model.Clauses.{variable_count}
use Rattle.lits_core.specs.Derivation.{first_state, SameState}
use Rattle.point_query.proofs.Querying.{one_more_given}
use Rattle.point_query.proofs.Ranges.{given_in_range}
use Rattle.point_query.proofs.given.add_each.Goals as goal

pub add-requires-clause-range : goal.add-requires-clause-range
add-requires-clause-range c =
    let p = c.args.problem.now in
    let i = c.loop-clause.clause-index in
    let clause : c.lits.result.now ≡ get_or c.args.clauses.now i [] = c.lits.ensures ∙ get_or_read c.args.clauses.now i c.clause-item.result c.loop-clause-test.true c.clause-item.is [] in
    let there = In-get_or c.args.clauses.now i [] c.loop-clause-test.true in
    let small = given_in_range p c.facts.ensures.built (get_or c.args.clauses.now i []) (subst (λ cs. In (get_or c.args.clauses.now i []) cs) c.requires.all there) in
    subst (λ v. AreInRange c.lits.result.now v) (sym (c.loop-clause.invariant.variables ∙ c.requires.variables)) (subst (λ ls. AreInRange ls (variable_count p)) (sym clause) small)

pub loop-clause-preserved : goal.loop-clause-preserved
loop-clause-preserved c =
    let i = c.loop-clause.clause-index in
    let clause : c.lits.result.now ≡ get_or c.args.clauses.now i [] = c.lits.ensures ∙ get_or_read c.args.clauses.now i c.clause-item.result c.loop-clause-test.true c.clause-item.is [] in
    let adds = c.in_ok-add.ensures.ok in
    let more = one_more_given (take i c.args.clauses.now) c.lits.result.now c.loop-clause.solver c.add.new.self c.loop-clause.invariant.given adds in
    record {
      variables = adds.variables ∙ c.loop-clause.invariant.variables;
      given = subst (λ cs. SameState (first_state cs) c.add.new.self.state) (ap (λ l. take i c.args.clauses.now ++ l ∷ []) clause ∙ sym (take_more c.args.clauses.now i [] c.loop-clause-test.true)) more;
      quiet = adds.waiting ∙ c.loop-clause.invariant.quiet;
      idle = adds.idle ∙ c.loop-clause.invariant.idle;
    }
