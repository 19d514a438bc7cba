use Rattle.std.proofs.Common.{◌++◌, ◌∷◌, [], refl, sym, ◌∙◌, subst}
use Rattle.bit_rows.specs.Rows.{has_bit, bit_in}
use Rattle.bit_rows.proofs.RowBits.{shown_common}
use Rattle.point_table.specs.Growing.{NoneBegins}
use Rattle.point_table.proofs.Begins.{off_is_dead, on_is_dead, implied_is_dead, excluded_is_dead, not_false}
use Rattle.point_table.proofs.rules.Rules.may_add.Goals as goal

pub returns-then-not-bit : goal.returns-then-not-bit
returns-then-not-bit c = λ h p begin are tried is.
    subst (λ b. NoneBegins p (begin ++ b ∷ [])) (sym c.if-not-bit.true)
    (off_is_dead p begin c.args.known.now c.args.concept tried is (sym (c.row-yes.ensures.bits c.args.concept) ∙ sym c.has_bit.ensures ∙ not_false c.has_bit.result h))

pub returns-then-has_bit : goal.returns-then-has_bit
returns-then-has_bit c = λ h p begin are tried is.
    subst (λ b. NoneBegins p (begin ++ b ∷ [])) (sym c.if-not-bit.false)
    (on_is_dead p begin c.args.known.now c.args.concept tried is (sym (c.row-none.ensures.bits c.args.concept) ∙ sym c.if-has_bit.ensures))

pub returns-then-have_common : goal.returns-then-have_common
returns-then-have_common c = λ h p begin are tried is.
    subst (λ b. NoneBegins p (begin ++ b ∷ [])) (sym c.if-not-bit.false)
    (implied_is_dead p begin c.args.known.now c.args.self.now c.args.concept are tried is
    (shown_common (has_bit c.row.result.now) (has_bit c.row-none.result.now) (bit_in c.args.self.now.implied c.args.concept) (bit_in c.args.known.now 1) c.row.ensures.bits c.row-none.ensures.bits (c.if-have_common.ensures.0 refl)))

pub returns : goal.returns
returns c = λ h p begin are tried is.
    subst (λ b. NoneBegins p (begin ++ b ∷ [])) (sym c.if-not-bit.false)
    (excluded_is_dead p begin c.args.known.now c.args.self.now c.args.concept are tried is
    (shown_common (has_bit c.row-2.result.now) (has_bit c.row-yes.result.now) (bit_in c.args.self.now.excluded c.args.concept) (bit_in c.args.known.now 0) c.row-2.ensures.bits c.row-yes.ensures.bits
    (c.have_common-2.ensures.0 (not_false c.have_common-2.result h))))
