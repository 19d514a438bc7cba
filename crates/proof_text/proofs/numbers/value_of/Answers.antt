use Rattle.std.proofs.Common.{◌∙◌, sym, get_or, arith}
use Rattle.proof_text.proofs.NumberLemmas.{digits_in_is, continued_none, continued_some, continued_all, digit_after-small}
use Rattle.proof_text.proofs.numbers.value_of.Goals as goal

pub loop-digit-init : goal.loop-digit-init
loop-digit-init c = record {
  small = omega arith;
  given = sym (digits_in_is c.args.digits.now);
}

pub returns-in_err-number : goal.returns-in_err-number
returns-in_err-number c =
    c.from_residual.ensures
    ∙ sym (continued_none c.loop-digit.number c.loop-digit.digit-index c.args.digits.now (omega arith) (sym c.with_digit.ensures ∙ c.in_err-number.was))
    ∙ c.loop-digit.invariant.given

pub loop-digit-preserved : goal.loop-digit-preserved
loop-digit-preserved c =
    let n = c.loop-digit.number in
    let m = c.in_ok-number.number in
    let i = c.loop-digit.digit-index in
    let digits = c.args.digits.now in
    let added = sym c.with_digit.ensures ∙ c.in_ok-number.was in
    record {
      small = digit_after-small n (get_or digits i 0) m added;
      given = sym (continued_some n m i digits (omega arith) added) ∙ c.loop-digit.invariant.given;
    }

pub returns : goal.returns
returns c =
    sym (continued_all c.loop-digit.number c.loop-digit.digit-index c.args.digits.now (omega arith) c.loop-digit.invariant.small)
    ∙ c.loop-digit.invariant.given
