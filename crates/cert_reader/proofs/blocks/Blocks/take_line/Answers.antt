use Rattle.std.proofs.Common.{rules, ◌∙◌, ◌++◌, ap, take}
use Rattle.cert_reader.proofs.BlockLemmas.{moved_some, moved_all}
use Rattle.cert_reader.proofs.blocks.Blocks.take_line.Goals as goal

pub returns-in_ok-extend_from_slice-in-Some : goal.returns-in_ok-extend_from_slice-in-Some
returns-in_ok-extend_from_slice-in-Some c =
    moved_some c.args.self.now c.args.line.now.items c.extend_from_slice.new.self.items c.skip.new.self c.in-Some.place
    (search rules)
    (c.in_ok-extend_from_slice-in-Some.ensures.items ∙ ap (λ xs. c.args.line.now.items ++ take c.in-Some.place xs) c.pending-in-Some.ensures.value)
    c.skip.ensures

pub returns-in_ok-extend_from_slice-in-None : goal.returns-in_ok-extend_from_slice-in-None
returns-in_ok-extend_from_slice-in-None c =
    moved_all c.args.self.now c.args.line.now.items c.extend_from_slice-in-None.new.self.items c.skip-in-None.new.self
    (search rules)
    (c.in_ok-extend_from_slice-in-None.ensures.items ∙ ap (λ xs. c.args.line.now.items ++ xs) c.pending-in-None.ensures.value)
    (search rules)
