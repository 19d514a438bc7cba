use Rattle.std.proofs.Common.{◌≡◌, ◌∙◌, get_or, Some, inl, inr, sym, ap, subst, arith}
use Rattle.std.specs.Prelude.{MatchOption, Contains}
use Rattle.std.proofs.lemmas.Bool.{cases_lt}
use Rattle.watch_arena.proofs.WatchedPair.{index_of}
use Rattle.lits_core.specs.Literals.{negation_of}
use Rattle.lits_core.specs.Derivation.{live_clause}
use Rattle.point_encode.specs.Model.Forced.{asked_of, IsClosedAt, need_at}
use Rattle.point_query.proofs.closes.closes.Goals as goal

pub loop-place-preserved : goal.loop-place-preserved
loop-place-preserved c =
    let p = c.args.cursor.now.problem in
    let m = c.args.cursor.now.path in
    let need = need_at p c.args.number in
    record {
      each = λ k lt. elim (cases_lt k c.loop-place.place) [
        | inl early ↦ c.loop-place.invariant.each k early
        | inr late ↦
            let here : k ≡ c.loop-place.place = omega arith in
            let asked : Contains (asked_of p m need) c.negate.result = c.is_asked.ensures c.if-not-is_asked.false in
            subst (λ l. Contains (asked_of p m need) l) (c.negate.ensures ∙ ap negation_of (c.lit.ensures ∙ ap (λ n. get_or c.in-Some.lits n 0) (sym here))) asked
      ];
    }

pub returns : goal.returns
returns c = λ yes.
    let p = c.args.cursor.now.problem in
    let m = c.args.cursor.now.path in
    let need = need_at p c.args.number in
    let end = c.loop-place-test.false in
    let count = c.count-place-end.ensures in
    let closed : IsClosedAt p m need c.in-Some.lits = λ lit has.
    let index = index_of c.in-Some.lits lit has in
    let lt = index.1 in
    subst (λ l. Contains (asked_of p m need) (negation_of l)) index.2 (c.loop-place.invariant.each index.0 (omega arith)) in
    let found : live_clause c.args.solver.now.state c.args.id ≡ Some c.in-Some.lits = sym c.clause.ensures ∙ c.in-Some.is in
    let here : MatchOption (Some c.in-Some.lits) ⊥ (IsClosedAt p m need) = closed in
    subst (λ o. MatchOption o ⊥ (IsClosedAt p m need)) (sym found) here
