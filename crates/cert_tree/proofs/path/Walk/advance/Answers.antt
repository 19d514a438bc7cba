use Rattle.std.proofs.Common.{◌++◌, ◌∷◌, []}
use Rattle.cert_tree.proofs.WalkLemmas.{below_shown}
use Rattle.cert_tree.proofs.path.Walk.advance.Goals as goal

pub go_down-requires-clause-shown : goal.go_down-requires-clause-shown
go_down-requires-clause-shown c =
    below_shown c.args.self.now.tree c.args.self.now.path (c.args.self.now.path ++ c.in-Some.rel ∷ []) c.args.branches c.requires.shown c.in-Some.ensures.next
