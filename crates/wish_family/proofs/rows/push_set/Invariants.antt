use Rattle.std.proofs.Common.{◌≡◌, take}
use Rattle.rcc5_core.specs.Relation.{is_in}
use Rattle.bit_rows.specs.Rows.{IsPushed}
use Rattle.wish_family.proofs.rows.push_set.Given as goal

abbrev pub invariant-loop-n : goal.invariant-loop-n
invariant-loop-n l = record {
  last : l.last ≡ l.fn.rows.count;
  pushed : IsPushed l.fn.rows l.rows (λ k. is_in k (take l.n l.set));
}
