use Rattle.std.proofs.Common.{◌≡◌, ◌*◌, ◌≤◌, inl, inr, true, length, subst, arith}
use Rattle.std.specs.Prelude.{Contains}
use Rattle.std.proofs.lemmas.Bool.{cases_lt}
use Rattle.point_table.specs.Places.Places.{is_at_risk}
use Rattle.point_table.proofs.places.Clearing.{more_words, past_risk}
use Rattle.point_table.proofs.places.places.Places.at_risk.Goals as goal

pub loop-at-preserved : goal.loop-at-preserved
loop-at-preserved c =
    let s = c.args.self.now in
    more_words (λ place. is_at_risk s c.args.pair c.args.regions place ≡ true → Contains c.push_at_risk.new.list.items place) c.loop-at.at
    (λ place small risk. c.in_ok-push_at_risk.ensures.stay place (c.loop-at.invariant place small risk)) c.in_ok-push_at_risk.ensures.there

pub returns : goal.returns
returns c = λ place risk.
    let inside : length c.self.inside.used ≤ c.loop-at.at = omega (arith, c.len-at-end.ensures, c.loop-at-test.false) in
    let long = subst (λ v. length v.used ≤ c.loop-at.at) c.self.view_is inside in
    elim (cases_lt place (64 * c.loop-at.at)) [
      | inl before ↦ c.loop-at.invariant place before risk
      | inr past ↦ absurd (past_risk c.args.self.now c.args.pair c.args.regions c.loop-at.at place long past risk)
    ]
