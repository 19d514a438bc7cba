use Rattle.std.proofs.Common.{◌≡◌, ◌∙◌, ◌∷◌, ◌++◌, [], take, get_or, true≢false, refl, sym, ap, subst, arith}
use Rattle.std.proofs.lemmas.List.{take_more}
use Rattle.rcc5_core.specs.declared.Rel.TheVariants.{Equals}
use Rattle.rcc5_core.specs.Relation.{all_rels}
use Rattle.rcc5_core.specs.RelationSet.{has}
use Rattle.world_model.specs.Questions.{IsPossibleRelation}
use Rattle.world_model.proofs.Members.{contains_from_in}
use Rattle.world_model.proofs.PointSets.{In-all_rels}
use Rattle.point_query.proofs.Choosing.{HasThose, one_in, one_out, has_none}
use Rattle.mir_report.proofs.bare.ask_pair.Goals as goal
use Rattle.mir_report.proofs.bare.ask_pair.Goals.{then-branch, else-branch}

pub rels-init : goal.rels-init
rels-init c = record {
  shape = refl;
  help = c.requires.help;
  seen = c.requires.seen;
  each = λ q. (λ h. absurd (true≢false (sym h ∙ ap (λ set. has set q) c.none-set.ensures ∙ has_none q)), λ h. absurd (omega (arith, h.0.1)));
}

pub rels-preserved : goal.rels-preserved
rels-preserved c =
    let p = c.args.problem.now in
    let pair = c.args.pair in
    let i = c.rels.rel-index in
    let rel = get_or all_rels i Equals in
    let more = take_more all_rels i Equals c.rels-test.true in
    let said = c.in_ok-ask_if_among.ensures in
    let each : HasThose (IsPossibleRelation p pair) (take i all_rels ++ rel ∷ []) c.if-branch.set = elim c.if-branch.branch [
      | then-branch w ↦ rw (w.set-is, w.with-set.ensures) (one_in (IsPossibleRelation p pair) (take i all_rels) rel c.rels.set c.rels.invariant.each (said.answer.0 w.if-branch.true))
      | else-branch w ↦ rw w.set-is (one_out (IsPossibleRelation p pair) (take i all_rels) rel c.rels.set c.rels.invariant.each (λ r. true≢false (sym (said.answer.1 r) ∙ w.if-branch.false)))
    ] in
    record {
      shape = c.ask_if_among.ensures.shape ∙ c.rels.invariant.shape;
      help = said.help;
      seen = said.seen;
      each = subst (λ rels. HasThose (IsPossibleRelation p pair) rels c.if-branch.set) (sym more) each;
    }

pub returns-clause-answer : goal.returns-clause-answer
returns-clause-answer c = λ rel.
    let p = c.args.problem.now in
    let pair = c.args.pair in
    let all : c.rels.rel-index ≡ 5 = omega arith in
    let each = subst (λ i. HasThose (IsPossibleRelation p pair) (take i all_rels) c.rels.set) all c.rels.invariant.each in
    (λ h. ((each rel).0 h).1, λ r. (each rel).1 (contains_from_in (In-all_rels rel), r))
