use Rattle.std.proofs.Common.{◌≡◌, ◌++◌, ◌∷◌, [], length, Some, subst, sym, ap, ◌∙◌, arith}
use Rattle.cert_tree.specs.Levels.{AreDepths}
use Rattle.cert_tree.proofs.LevelLemmas.{depth_added, depth_skipped}
use Rattle.cert_tree.proofs.levels.Levels.add.Goals as goal

pub returns-in_ok-push-2-clause-depths : goal.returns-in_ok-push-2-clause-depths
returns-in_ok-push-2-clause-depths c =
    let list = c.args.self.now.list.items in
    let depths = c.args.self.now.depths.items in
    let counted : c.len.result ≡ length list = omega arith in
    let more : c.push.new.self.items ≡ depths ++ Some (length list) ∷ [] = c.in_ok-push.ensures.items ∙ ap (λ n. depths ++ Some n ∷ []) counted in
    subst (λ xs. AreDepths xs c.push.new.self.items) (sym c.in_ok-push-2.ensures.items)
    (subst (AreDepths (list ++ c.args.pair ∷ [])) (sym more) (depth_added list depths c.args.pair c.requires.next c.requires.depths))

pub returns-in_ok-push-3-clause-depths : goal.returns-in_ok-push-3-clause-depths
returns-in_ok-push-3-clause-depths c =
    subst (AreDepths c.args.self.now.list.items) (sym c.in_ok-push-3.ensures.items) (depth_skipped c.args.self.now.list.items c.args.self.now.depths.items c.requires.depths)
