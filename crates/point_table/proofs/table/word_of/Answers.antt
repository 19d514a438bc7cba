use Rattle.std.proofs.Common.{arith}
use Rattle.bit_rows.proofs.WordBits.{word_zero}
use Rattle.point_table.proofs.table.word_of.Goals as goal

pub loop-i-init : goal.loop-i-init
loop-i-init c = record { done = λ j h. absurd (omega arith); rest = λ j low high. word_zero j }
