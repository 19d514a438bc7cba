use Rattle.std.proofs.Common.{◌+◌, ◌-◌, ◌*◌, ◌≡◌, take, drop, ap, ◌∙◌, arith}
use Rattle.bit_rows.specs.Rows.{has_bit, bit_in}
use Rattle.bit_rows.proofs.rows.Rows.row.Goals as goal

pub returns-clause-bits : goal.returns-clause-bits
unfolding bit_in
returns-clause-bits c =
    let s = c.self.inside in
    let n : c.args.row * s.width + s.width - c.args.row * s.width ≡ s.width = omega arith in
    λ k. ap (λ words. has_bit (take (c.args.row * s.width + s.width - c.args.row * s.width) (drop (c.args.row * s.width) words)) k) c.as_slice-words.ensures.value ∙
    ap (λ m. has_bit (take m (drop (c.args.row * s.width) s.words.items)) k) n ∙
    ap (λ v. bit_in v c.args.row k) c.self.view_is
