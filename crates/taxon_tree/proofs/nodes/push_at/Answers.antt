use Rattle.std.proofs.Common.{◌++◌, ◌∷◌, []}
use Rattle.std.proofs.lemmas.Result.{err_from_is_err_and}
use Rattle.taxon_tree.proofs.ListLemmas.{map-set_kept, map-set_changed}
use Rattle.taxon_tree.proofs.nodes.push_at.Goals as goal

pub returns-in_err-push-clause-err : goal.returns-in_err-push-clause-err
returns-in_err-push-clause-err c =
    let p = err_from_is_err_and c.from_residual.result c.from_residual.ensures.1 in
    rw p.1 (map-set_kept (λ v. v.items) c.args.lists.now c.args.at c.index-lists-at.result c.push.new.self c.requires c.in_err-push.ensures.items)

pub returns-clause-ok : goal.returns-clause-ok
returns-clause-ok c =
    map-set_changed (λ v. v.items) [] (λ l. l ++ c.args.x ∷ []) c.args.lists.now c.args.at c.index-lists-at.result c.push.new.self c.requires c.in_ok-push.ensures.items
