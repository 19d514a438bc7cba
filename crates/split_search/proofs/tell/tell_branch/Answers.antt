use Rattle.cert_rules.proofs.NodeLines.{named}
use Rattle.split_search.proofs.tell.tell_branch.Goals as goal

pub returns-clause-keeps : goal.returns-clause-keeps
returns-clause-keeps g c =
    let q = c.args.walk.now.subject in
    let m = c.args.walk.now.path in
    c.put_node.ensures.keeps q m (record {
      tells = (named m c.depth.result c.last.result c.depth.ensures c.last.ensures, c.requires.room);
      alive = λ yes. c.requires.alive;
    })
