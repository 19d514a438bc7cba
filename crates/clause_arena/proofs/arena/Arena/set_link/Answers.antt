use Rattle.clause_arena.specs.Records.{with_link}
use Rattle.clause_arena.proofs.Ranges.{records_of-changed, AreInOrder-replaced, record_of-linked, linked-range}
use Rattle.std.proofs.Common.{◌∙◌, ap}
use Rattle.clause_arena.specs.declared.arena.Head.{Head}
use Rattle.clause_arena.proofs.arena.Arena.set_link.Goals as goal

pub invariant_of-self : goal.invariant_of-self
invariant_of-self c =
    let kept = linked-range c.index_mut-head.result.now c.args.slot c.args.to in
    AreInOrder-replaced c.self.inside.heads.items _ c.index.result c.index_mut-head.result.now c.linked.result c.self.invariant c.index_mut-head.ensures.value
    (ap (λ (h : Head). h.start) c.linked.ensures ∙ kept.0)
    (ap (λ (h : Head). h.len) c.linked.ensures ∙ kept.1)

pub returns : goal.returns
returns c =
    records_of-changed c.self.inside.codes.items c.self.inside.heads.items c.index.result c.index_mut-head.result.now c.linked.result (λ r. with_link r c.args.slot c.args.to) c.args.self.now c.args.at c.self.view_is c.index.ensures c.requires.of_the_list c.index_mut-head.ensures.value
    (record_of-linked c.self.inside.codes.items c.index_mut-head.result.now c.linked.result c.args.slot c.args.to c.linked.ensures)
