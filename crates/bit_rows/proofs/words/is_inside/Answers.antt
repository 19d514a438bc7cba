use Rattle.std.proofs.Common.{subst}
use Rattle.std.specs.Prelude.{◌↔◌, IsTrue}
use Rattle.bit_rows.specs.Rows.{SomePlace, meets_at}
use Rattle.bit_rows.proofs.WordBits.{inside_by_meets}
use Rattle.bit_rows.proofs.words.is_inside.Goals as goal

pub returns : goal.returns
returns c =
    let one = c.args.one.now in
    let other = c.args.other.now in
    inside_by_meets one other c.meets.result (subst (λ cells. IsTrue c.meets.result ↔ SomePlace (meets_at one one other other cells)) c.neither.ensures c.meets.ensures)
