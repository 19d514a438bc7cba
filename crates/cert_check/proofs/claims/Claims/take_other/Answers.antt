use Rattle.std.proofs.Common.{◌≡◌, None, Err, rules, sym, subst}
use Rattle.cert_text.specs.declared.line.CertLine.TheVariants.{End, Quit}
use Rattle.cert_check.specs.Claiming.{block_of, claim_stand, with_block, IsClaimStep}
use Rattle.cert_check.proofs.BareLemmas.{stray_rejected}
use Rattle.cert_check.proofs.claims.Claims.take_other.Goals as goal

pub returns-in-End-None-clause-step : goal.returns-in-End-None-clause-step
returns-in-End-None-clause-step c proof =
    let line_is : c.args.line ≡ End None = search rules in
    subst (λ line. IsClaimStep c.args.self.now.problem (with_block proof c.args.self.now c.args.block) line (claim_stand proof c.take_end.new.self) c.take_end.result)
    (sym line_is) (c.take_end.ensures.step proof)

pub returns-in_default-clause-step : goal.returns-in_default-clause-step
returns-in_default-clause-step c proof =
    let claims = c.args.self.now in
    let quit : (c.args.line ≡ Quit → ⊥) = λ e. search rules in
    let ended : (c.args.line ≡ End None → ⊥) = λ e. search rules in
    subst (λ why. IsClaimStep claims.problem (with_block proof claims c.args.block) c.args.line (claim_stand proof claims) (Err why)) (sym c.stray.ensures)
    (stray_rejected claims.problem (with_block proof claims c.args.block) (block_of c.args.block) c.args.line c.requires.other c.requires.node quit ended)
