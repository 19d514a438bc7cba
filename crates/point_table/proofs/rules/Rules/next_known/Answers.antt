use Rattle.std.proofs.Common.{◌++◌, ◌∷◌, [], true, false, refl, sym, ◌∙◌, subst, arith}
use Rattle.bit_rows.specs.Rows.{has_bit, IsPushed}
use Rattle.point_table.specs.Growing.{IsTried}
use Rattle.point_table.proofs.Begins.{IsCopy, copied_row, known_on, known_off}
use Rattle.point_table.proofs.rules.Rules.next_known.Goals as goal
use Rattle.point_table.proofs.rules.Rules.next_known.Goals.{then-bit, else-bit}

pub returns-clause-tried : goal.returns-clause-tried
returns-clause-tried c = λ p begin are tried is.
    let known = c.args.known.now in
    let yes = c.row-yes.result.now in
    let none = c.row-none.result.now in
    let first : IsPushed c.new-next.result c.push_copy.new.self (has_bit yes) = c.in_ok-push_copy.ensures in
    let second : IsPushed c.push_copy.new.self c.push_copy-2.new.self (has_bit none) = c.in_ok-push_copy-2.ensures in
    let started = c.new-next.ensures.count in
    let one = first.count in
    let copied : IsCopy known c.push_copy-2.new.self = record {
      two = omega (arith, second.count, first.count, started);
      width = second.width ∙ first.width ∙ c.new-next.ensures.width ∙ c.width.ensures;
      yes = λ k. second.before 0 k (omega (arith, first.count, started)) ∙ copied_row c.new-next.result c.push_copy.new.self yes (has_bit yes) first (λ k. refl) 0 (sym started) k ∙ c.row-yes.ensures.bits k;
      none = λ k. copied_row c.push_copy.new.self c.push_copy-2.new.self none (has_bit none) second (λ k. refl) 1 (omega (arith, first.count, started)) k ∙ c.row-none.ensures.bits k;
    } in
    elim c.if-bit.branch [
      | then-bit w ↦
          subst (λ b. IsTried p (begin ++ b ∷ []) c.if-bit.next) (sym w.if-bit.true)
          (subst (IsTried p (begin ++ true ∷ [])) (sym w.next-is)
          (known_on p begin known c.push_copy-2.new.self w.join.new.self w.join-then-bit.new.self c.args.self.now c.args.concept w.row.result.now w.row-then-bit.result.now are tried is copied
          w.row.ensures.bits w.row-then-bit.ensures.bits w.join.ensures w.join-then-bit.ensures))
      | else-bit w ↦
          subst (λ b. IsTried p (begin ++ b ∷ []) c.if-bit.next) (sym w.if-bit.false)
          (subst (IsTried p (begin ++ false ∷ [])) (sym w.next-is)
          (known_off p begin known c.push_copy-2.new.self w.set.new.self c.args.concept tried is copied w.set.ensures))
    ]
