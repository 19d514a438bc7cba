use Rattle.std.proofs.Common.{arith}
use Rattle.watch_arena.proofs.Promises.{place_of-even, place_of-odd, place_of-neither, place_of-past}
use Rattle.watch_arena.proofs.engine.Engine.place_of.Goals as goal

pub returns-then-positive-ne0-clause-place : goal.returns-then-positive-ne0-clause-place
returns-then-positive-ne0-clause-place c = place_of-even c.args.self.now c.args.variable c.get-positive.result c.requires.sound c.get-positive.ensures c.if-positive-ne0.true

pub returns-then-negative-ne0-clause-place : goal.returns-then-negative-ne0-clause-place
returns-then-negative-ne0-clause-place c = place_of-odd c.args.self.now c.args.variable c.get-negative.result c.requires.sound c.get-negative.ensures c.if-negative-ne0.true

pub returns-clause-place : goal.returns-clause-place
returns-clause-place c = place_of-neither c.args.self.now c.args.variable c.get-positive.result c.get-negative.result c.requires.sound c.get-positive.ensures c.get-negative.ensures c.if-positive-ne0.false c.if-negative-ne0.false

pub returns-then-variable-self-clause-place : goal.returns-then-variable-self-clause-place
returns-then-variable-self-clause-place c = place_of-past c.args.self.now c.args.variable c.requires.sound (let past = c.if-variable-self.true in omega arith)
