use Rattle.std.proofs.Common.{codes}
use Rattle.cert_text.specs.Lines.{node_words, family_words}
use Rattle.std.proofs.lemmas.Result.{on_ok_weaker}
use Rattle.cert_text.proofs.TextLemmas.{two_put}
use Rattle.cert_text.proofs.printing.put_world.Goals as goal

pub returns-clause-text : goal.returns-clause-text
returns-clause-text c =
    on_ok_weaker c.put_family.result
    (two_put (codes "w") (node_words c.args.node.0 c.args.node.1) (family_words c.args.family.now) c.args.out.now.items c.push.new.self.items c.put_node.new.out.items c.put_family.new.out.items
    c.in_ok-push.ensures.items c.in_ok-put_node.ensures)
    c.put_family.ensures.text
