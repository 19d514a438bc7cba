use Rattle.std.proofs.Common.{◌≡◌, ◌∙◌, ℕ, true, length, get_or, sym, ap, subst, arith}
use Rattle.std.specs.Prelude.{Contains}
use Rattle.std.proofs.lemmas.List.{get_or_default}
use Rattle.world_model.specs.Node.{pair_at}
use Rattle.point_table.specs.Places.Places.{is_at_risk}
use Rattle.point_pool.specs.Pools.{HasOwn, served_at}
use Rattle.point_pool.proofs.Losing.{more_below, risk_known}
use Rattle.point_pool.proofs.pool.Pool.at_risk.Goals as goal

pub loop-place-init : goal.loop-place-init
loop-place-init c = record {
  own = subst (λ n. HasOwn c.in_ok-list.list.items n c.args.rel) c.len-pair.ensures c.in_ok-list.ensures;
  listed = λ k small. absurd (omega (arith, small));
}

pub loop-place-preserved : goal.loop-place-preserved
loop-place-preserved c =
    let serves = c.args.self.now.serves.items in
    let said = c.in_ok-push_served.ensures in
    record {
      own = λ part small occupied. said.stay _ (c.loop-place.invariant.own part small occupied);
      listed = more_below (λ k. (number : ℕ) → Contains (served_at serves (get_or c.deref-place-items.result.now k 0)) number → Contains c.push_served.new.list.items number) c.loop-place.place-index
          (λ k small number h. said.stay number (c.loop-place.invariant.listed k small number h)) said.there;
    }

pub returns : goal.returns
returns c =
    let w = c.args.self.now in
    let m = w.cursor.path in
    let places = c.in_ok-places.places.items in
    let pair = c.pair_at-concepts.ensures.value ∙ ap (λ p. pair_at p c.len-pair.result) c.problem-2.ensures ∙ ap (pair_at w.cursor.problem) c.len-pair.ensures in
    let first = subst (λ q. (place : ℕ) → is_at_risk w.places q c.row.result place ≡ true → Contains places place) pair c.in_ok-places.ensures in
    let at_risk = subst (λ r. (place : ℕ) → is_at_risk w.places (pair_at w.cursor.problem (length m)) r place ≡ true → Contains places place) c.row.ensures first in
    risk_known c.positions_narrow.ensures w c.args.rel c.loop-place.list.items places c.requires.pool c.requires.settled c.facts.ensures c.requires.within c.requires.allowed c.loop-place.invariant.own at_risk
    (λ place number given listed.
    let h = subst (λ ps. Contains ps place) (sym c.deref-place-items.ensures.value) given in
    let same : get_or c.deref-place-items.result.now h.0 0 ≡ place = get_or_default c.deref-place-items.result.now h.0 0 place h.1 ∙ h.2 in
    c.loop-place.invariant.listed h.0 (omega (arith, h.1, c.loop-place-test.false)) number (subst (λ k. Contains (served_at w.serves.items k) number) (sym same) listed))
