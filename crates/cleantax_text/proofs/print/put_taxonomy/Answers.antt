use Rattle.std.proofs.Common.{◌≡◌, ◌++◌, OnOk, subst}
use Rattle.cleantax_text.proofs.PieceLemmas.{taxonomy_is}
use Rattle.cleantax_text.proofs.print.put_taxonomy.Goals as goal

pub returns : goal.returns
returns c = subst (λ t. OnOk c.put_pieces.result (c.put_pieces.new.out.items ≡ c.args.out.now.items ++ t)) (taxonomy_is c.args.problem.now c.args.which) c.put_pieces.ensures
