use Rattle.std.proofs.Common.{◌≡◌, ◌∷◌, [], ◌++◌, length, false, inl, inr, refl, sym, ap, ◌∙◌}
use Rattle.std.specs.Prelude.{Option, Some, None, is_some}
use Rattle.std.proofs.lemmas.Bool.{true≢false}
use Rattle.rcc5_core.specs.declared.Rel.{Rel}
use Rattle.rcc5_core.specs.RelationSet.{next_of}
use Rattle.world_walk.specs.declared.way.Way.{Way}
use Rattle.world_walk.proofs.WentOn.{IsAtFork, gone_on}
use Rattle.world_walk.proofs.way.go_on.Goals as goal
use Rattle.world_walk.proofs.way.go_on.Goals.{then-is_some+in_ok-push, else-is_some}

none : (o n : Option Rel) → n ≡ o → is_some o ≡ false → n ≡ None
none o None same h = refl
none o (Some x) same h = absurd (true≢false (ap is_some same ∙ h))

pub returns-clause-way : goal.returns-clause-way
returns-clause-way c =
    let old = c.args.way.now in
    let set = c.args.set in
    let new : Way = record { along = c.if-is_some.way'.along; waiting = Some c.args.rel; levels = c.if-is_some.way'.levels; stage = c.if-is_some.way'.stage } in
    let fork : IsAtFork old set = record { way = c.requires.way; standing = c.requires.standing; ready = c.requires.ready; short = c.requires.short; next = c.requires.next } in
    elim c.if-is_some.branch [
      | then-is_some+in_ok-push w ↦
          gone_on old new set c.args.rel fork
          (record { kept = ap (λ (x : Way). x.along) w.way'-is; waiting = refl; standing = ap (λ (x : Way). x.stage) w.way'-is ∙ c.requires.standing }) c.requires.among
          (inr (ap (λ (x : Way). x.levels.items) w.way'-is ∙ w.in_ok-push.ensures.items ∙ ap (λ ps. old.levels.items ++ record { depth = length ps; set = set } ∷ []) w.path.ensures))
      | else-is_some w ↦
          gone_on old new set c.args.rel fork
          (record { kept = ap (λ (x : Way). x.along) w.way'-is; waiting = refl; standing = ap (λ (x : Way). x.stage) w.way'-is ∙ c.requires.standing }) c.requires.among
          (inl (none c.after.result (next_of set c.args.rel) (sym c.after.ensures) (sym c.is_some.ensures ∙ w.if-is_some.false), ap (λ (x : Way). x.levels.items) w.way'-is))
    ]
