use Rattle.std.proofs.Common.{◌≡◌, ℕ, Bool, List, true, false, set, ap, ◌∙◌, subst}
use Rattle.proof_check.specs.Marks.{is_marked}
use Rattle.proof_check.proofs.MarkLemmas.{cleared}
use Rattle.proof_check.proofs.held.Held.clear.Goals as goal

pub loop-lit-preserved : goal.loop-lit-preserved
loop-lit-preserved c =
    let table : c.unmark.new.table.items ≡ set c.loop-lit.self-inside.table.items c.in-Some.lit false = c.unmark.ensures ∙ ap (λ (code : ℕ). set c.loop-lit.self-inside.table.items code false) c.code.ensures in
    record {
      none = c.loop-lit.invariant.none;
      listed = λ code h.
          cleared c.loop-lit.self-inside.table.items c.loop-lit.self-inside.others c.loop-lit.self-inside.lits.items c.pop.new.self.items c.in-Some.lit code c.loop-lit.invariant.none c.in-Some.ensures.items (c.loop-lit.invariant.listed code)
          (subst (λ (t : List Bool). is_marked t c.loop-lit.self-inside.others code ≡ true) table h);
    }
