use Rattle.std.proofs.Common.{◌≡◌, ◌++◌, OnOk, sym, ap, subst, ◌∙◌, rules}
use Rattle.std.specs.FinMap as map
use Rattle.std.proofs.lemmas.Map.Text.{btree_map_updates_text}
use Rattle.outer_store.specs.Memory.{bytes_of}
use Rattle.outer_store.specs.Entries.{files_of}
use Rattle.outer_store.proofs.MapLemmas.{files_of-kept, files_of-grown, bytes_of-none, bytes_of-insert, bytes_of-on_ok, others_of-insert, others_of-kept}
use Rattle.outer_store.proofs.file_map.FileMap.extend.Goals as goal

pub returns-in_err-extend_from_slice-clause-err : goal.returns-in_err-extend_from_slice-clause-err
returns-in_err-extend_from_slice-clause-err c =
    let m = c.self.inside.files in
    let n = c.get_mut.follows.lender c.extend_from_slice.new.self in
    let updated = btree_map_updates_text c.args.name.now m n _ ((c.get_mut.follows.holds c.extend_from_slice.new.self).3 (search rules)) in
    let kept = files_of-kept m n c.args.name.now c.in-Some.bytes.now c.extend_from_slice.new.self c.in-Some.ensures.value updated c.in_err-extend_from_slice.ensures.items in
    let same = kept ∙ c.self.view_is in
    search rules

pub returns-in_err-extend_from_slice-clause-others : goal.returns-in_err-extend_from_slice-clause-others
returns-in_err-extend_from_slice-clause-others c =
    let m = c.self.inside.files in
    let n = c.get_mut.follows.lender c.extend_from_slice.new.self in
    let updated = btree_map_updates_text c.args.name.now m n _ ((c.get_mut.follows.holds c.extend_from_slice.new.self).3 (search rules)) in
    let kept = files_of-kept m n c.args.name.now c.in-Some.bytes.now c.extend_from_slice.new.self c.in-Some.ensures.value updated c.in_err-extend_from_slice.ensures.items in
    others_of-kept c.args.self.now _ c.args.name.now (kept ∙ c.self.view_is)

pub returns-in-Some-clause-ok : goal.returns-in-Some-clause-ok
returns-in-Some-clause-ok c =
    let m = c.self.inside.files in
    let n = c.get_mut.follows.lender c.extend_from_slice.new.self in
    let updated = btree_map_updates_text c.args.name.now m n _ ((c.get_mut.follows.holds c.extend_from_slice.new.self).3 (search rules)) in
    files_of-grown m n c.args.name.now c.in-Some.bytes.now c.extend_from_slice.new.self c.in-Some.ensures.value updated c.args.piece.now c.in_ok-extend_from_slice.ensures.items
    ∙ ap (λ files. map.insert files c.args.name.now (bytes_of files c.args.name.now ++ c.args.piece.now)) c.self.view_is

pub returns-in-Some-clause-holds : goal.returns-in-Some-clause-holds
returns-in-Some-clause-holds c = bytes_of-insert c.args.self.now _ c.args.name.now _ (returns-in-Some-clause-ok c)

pub returns-in-Some-clause-others : goal.returns-in-Some-clause-others
returns-in-Some-clause-others c = others_of-insert c.args.self.now _ c.args.name.now _ (returns-in-Some-clause-ok c)

pub returns-clause-ok : goal.returns-clause-ok
returns-clause-ok c =
    let m = c.self.inside.files in
    let none = bytes_of-none m c.args.name.now (sym c.in_default.ensures.value) in
    let files = ap files_of c.get_mut.follows.holds-at-none ∙ c.self.view_is in
    let whole : c.in_ok-from_slice.field-0.items ≡ bytes_of c.args.self.now c.args.name.now ++ c.args.piece.now =
    c.in_ok-from_slice.ensures.items
    ∙ ap (λ bytes. bytes ++ c.args.piece.now) (sym none ∙ ap (λ files. bytes_of files c.args.name.now) c.self.view_is) in
    subst (λ target. OnOk c.put.result (c.put.new.self ≡ target)) (ap (λ files. map.insert files c.args.name.now c.in_ok-from_slice.field-0.items) files ∙ ap (map.insert c.args.self.now c.args.name.now) whole) c.put.ensures.ok

pub returns-clause-holds : goal.returns-clause-holds
returns-clause-holds c = bytes_of-on_ok c.put.result c.args.self.now c.put.new.self c.args.name.now (bytes_of c.args.self.now c.args.name.now ++ c.args.piece.now) (returns-clause-ok c)
