use Rattle.std.proofs.Common.{rules, [], refl, take}
use Rattle.cert_reader.proofs.BlockLemmas.{moved_some, moved_all}
use Rattle.cert_reader.proofs.blocks.Blocks.pass_line.Goals as goal

pub returns-in-Some-clause-moved : goal.returns-in-Some-clause-moved
returns-in-Some-clause-moved c = (take c.in-Some.place c.args.self.now, moved_some c.args.self.now [] (take c.in-Some.place c.args.self.now) c.skip.new.self c.in-Some.place (search rules) refl c.skip.ensures)

pub returns-in-None-clause-moved : goal.returns-in-None-clause-moved
returns-in-None-clause-moved c = (c.args.self.now, moved_all c.args.self.now [] c.args.self.now c.skip-in-None.new.self (search rules) refl (search rules))
