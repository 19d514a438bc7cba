use Rattle.std.proofs.Common.{◌∙◌, ap, drop, length, arith}
use Rattle.cert_reader.proofs.BlockLemmas.{skip_part}
use Rattle.cert_reader.proofs.blocks.Blocks.skip.Goals as goal

pub returns : goal.returns
returns c =
    skip_part c.self.inside.block.items c.self.inside.from c.self.inside.upto c.args.count (omega (arith, c.requires, ap length c.self.view_is))
    ∙ ap (λ xs. drop c.args.count xs) c.self.view_is
