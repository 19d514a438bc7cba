use Rattle.std.proofs.Common.{ℕ, Some, Vec, Global, sym, ap, ◌∙◌}
use Rattle.std.specs.Option.{option_map}
use Rattle.std.specs.FinMap.{get}
use Rattle.outer_store.proofs.MapLemmas.{get-files_of}
use Rattle.outer_store.proofs.file_map.FileMap.get.Goals as goal

pub returns-in-Some : goal.returns-in-Some
returns-in-Some c =
    ap Some c.as_slice.ensures.value
    ∙ ap (option_map (λ (w : Vec ℕ Global). w.items)) c.in-Some.ensures.value
    ∙ sym (get-files_of c.self.inside.files c.args.name.now)
    ∙ ap (λ files. get files c.args.name.now) c.self.view_is

pub returns-in-None : goal.returns-in-None
returns-in-None c =
    ap (option_map (λ (w : Vec ℕ Global). w.items)) c.in-None.ensures.value
    ∙ sym (get-files_of c.self.inside.files c.args.name.now)
    ∙ ap (λ files. get files c.args.name.now) c.self.view_is
