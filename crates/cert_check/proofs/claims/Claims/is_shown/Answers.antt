use Rattle.std.proofs.Common.{◌≡◌, true, ◌∙◌, ap, sym}
use Rattle.rcc5_core.specs.RelationSet.{has, only}
use Rattle.world_model.specs.Node.{pair_at}
use Rattle.world_model.specs.Family.{meets}
use Rattle.world_model.proofs.PointPositions.{relation_in}
use Rattle.cert_check.proofs.KnownLemmas.{shown_exactly, not_shown}
use Rattle.cert_check.proofs.claims.Claims.is_shown.Goals as goal

pub returns-then-not-is_met-clause-shown : goal.returns-then-not-is_met-clause-shown
returns-then-not-is_met-clause-shown c =
    sym (not_shown c.args.self.now.problem (pair_at c.args.self.now.problem c.args.pair) c.args.rel c.args.family.now (sym c.is_met.ensures ∙ c.if-not-is_met.true))

pub returns-clause-shown : goal.returns-clause-shown
returns-clause-shown c =
    let pair = pair_at c.args.self.now.problem c.args.pair in
    let met : meets c.args.self.now.problem c.args.family.now ≡ true = sym c.is_met.ensures ∙ c.if-not-is_met.false in
    let there : c.relation.result ≡ relation_in c.args.family.now pair = c.relation.ensures ∙ ap (relation_in c.args.family.now) c.pair_at-left.ensures.value in
    let told : c.has.result ≡ has (only c.args.rel) (relation_in c.args.family.now pair) = c.has.ensures ∙ ap (λ s. has s c.relation.result) c.one.ensures ∙ ap (has (only c.args.rel)) there in
    told ∙ shown_exactly c.args.self.now.problem pair c.args.rel c.args.family.now met

pub returns-clause-met : goal.returns-clause-met
returns-clause-met c shown = sym c.is_met.ensures ∙ c.if-not-is_met.false
