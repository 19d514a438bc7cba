use Rattle.std.proofs.Common.{◌≡◌, ◌∙◌, Ok, map, ap, subst}
use Rattle.std.specs.Prelude.{OnOk}
use Rattle.taxon_tree.specs.Row.{add_row}
use Rattle.trial_run.proofs.taxonomy.put_block.Goals as goal

pub returns-clause-ok : goal.returns-clause-ok
returns-clause-ok c =
    subst (λ row. OnOk c.put_row.result (add_row 1024 c.args.forest.now row ≡ Ok c.put_row.new.forest))
    (ap (map (λ name. name.items)) c.deref.ensures.value ∙ c.in_ok-row.ensures) c.put_row.ensures.ok
