use Rattle.std.proofs.Common.{◌≡◌, string_bytes, ap, ◌∙◌}
use Rattle.std.specs.FinMap.{insert}
use Rattle.std.proofs.lemmas.Map.Text.{btree_map_updates_text}
use Rattle.std.proofs.lemmas.Result.{IfOk-at_ok}
use Rattle.outer_store.proofs.MapLemmas.{files_of-updated, bytes_of-insert, others_of-insert}
use Rattle.outer_store.proofs.file_map.FileMap.put.Goals as goal

pub returns-clause-ok : goal.returns-clause-ok
returns-clause-ok c =
    let key_is_name = IfOk-at_ok (λ s. string_bytes s ≡ c.args.name.now) c.in_ok-name.was c.from_str.ensures.ok in
    let updates = btree_map_updates_text (string_bytes c.in_ok-name.name) c.self.inside.files c.insert.new.self _ c.in_ok-insert.ensures.updates in
    files_of-updated c.self.inside.files c.insert.new.self c.args.name.now c.args.bytes (rw key_is_name at updates)
    ∙ ap (λ files. insert files c.args.name.now c.args.bytes.items) c.self.view_is

pub returns-clause-holds : goal.returns-clause-holds
returns-clause-holds c = bytes_of-insert c.args.self.now _ c.args.name.now c.args.bytes.items (returns-clause-ok c)

pub returns-clause-others : goal.returns-clause-others
returns-clause-others c = others_of-insert c.args.self.now _ c.args.name.now c.args.bytes.items (returns-clause-ok c)
