use Rattle.std.proofs.Common.{◌≡◌, ◌∙◌, false, not, sym, ap, subst}
use Rattle.std.proofs.lemmas.Bool.{false≢true}
use Rattle.world_model.specs.Alive.{IsAlive}
use Rattle.pick_search.proofs.Deciding.{at_root, dead_clash}
use Rattle.pick_search.proofs.known.is_dead_with.Goals as goal

pub returns-clause-clash : goal.returns-clause-clash
returns-clause-clash c = λ dead.
    let q = c.in_ok-node.node in
    dead_clash c.whole_sets_are_decided.ensures c.args.problem.now q c.args.pairs.now c.args.picks.now c.in_ok-node.ensures
    (λ alive. let no : not c.in_ok-alive.alive ≡ false = ap not (c.in_ok-alive.ensures.alive.1 (subst IsAlive (sym (at_root q c.new.result c.new.ensures)) alive)) in false≢true (sym no ∙ dead))
