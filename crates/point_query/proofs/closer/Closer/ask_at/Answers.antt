use Rattle.std.proofs.Common.{◌∙◌, sym, ap, subst}
use Rattle.std.specs.Prelude.{Contains}
use Rattle.point_encode.specs.Model.Forced.{selectors_of}
use Rattle.point_query.proofs.Querying.{keeps_still}
use Rattle.point_query.proofs.closer.Closer.ask_at.Goals as goal

pub returns-in_err-selectors-clause-solver : goal.returns-in_err-selectors-clause-solver
returns-in_err-selectors-clause-solver c = keeps_still _ _ c.requires.solver

pub query-requires-clause-selectors : goal.query-requires-clause-selectors
query-requires-clause-selectors c =
    let same = c.deref.ensures.value ∙ c.in_ok-selectors.ensures ∙ ap (selectors_of c.args.problem.now) (sym c.rels.ensures) in
    record {
      there = λ lit h. subst (λ ls. Contains ls lit) (sym same) h;
      no_others = λ lit h. subst (λ ls. Contains ls lit) same h;
    }
