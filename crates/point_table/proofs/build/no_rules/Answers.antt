use Rattle.std.proofs.Common.{◌∙◌, sym, arith}
use Rattle.std.proofs.lemmas.Bool.{true≢false}
use Rattle.point_table.proofs.build.no_rules.Goals as goal

pub returns-clause-rules : goal.returns-clause-rules
returns-clause-rules c = λ p. record {
  implied = λ a b h bits point has. absurd (true≢false (sym h ∙ c.in_ok-empty_rows.ensures.empty a b));
  excluded = λ a b h bits point has. absurd (true≢false (sym h ∙ c.in_ok-empty_rows-2.ensures.empty a b));
  covers = λ r d small bits point has. absurd (omega (arith, small, c.new-2.ensures.count));
}
