use Rattle.std.proofs.Common.{◌≡◌, ◌∙◌, ℕ, Option, get_or, set, refl, sym, ap, arith}
use Rattle.std.specs.Prelude.{option_and_then}
use Rattle.std.proofs.lemmas.List.{get_or_default}
use Rattle.std.proofs.lemmas.List.Edits.{map_over_more}
use Rattle.clause_arena.specs.Movings.{new_ref}
use Rattle.watch_arena.specs.declared.places.Place.{Place}
use Rattle.watch_arena.proofs.places.rename.Goals as goal

pub loop-at-init : goal.loop-at-init
loop-at-init c = refl

pub loop-at-preserved : goal.loop-at-preserved
loop-at-preserved c =
    let x : Place = c.index-places-at-in-loop-at.result in
    let name : ℕ → Option ℕ = new_ref c.args.moves.now.pairs in
    let f : Place → Place = λ (p : Place). let q : Place = record p { reason = option_and_then (new_ref c.args.moves.now.pairs) p.reason } in q in
    let lt = c.loop-at-test.true in
    let long = c.loop-at.auto.places in
    let here : get_or c.loop-at.places c.loop-at.at c.index-places-at.result ≡ x = get_or_default c.loop-at.places c.loop-at.at c.index-places-at.result c.index-places-at-in-loop-at.result (omega arith) ∙ sym c.index-places-at-in-loop-at.is in
    let reason : c.renamed-reason.result ≡ option_and_then name x.reason = c.renamed-reason.ensures ∙ ap (λ (p : Place). option_and_then name p.reason) here in
    let first : ◌≡◌ {A = Place} (record (get_or c.loop-at.places c.loop-at.at c.index-places-at-in-loop-at.result) { reason = c.renamed-reason.result }) (record x { reason = c.renamed-reason.result }) = ap (λ (p : Place). let q : Place = record p { reason = c.renamed-reason.result } in q) (sym c.index-places-at-in-loop-at.is) in
    let second : ◌≡◌ {A = Place} (record x { reason = c.renamed-reason.result }) (f x) = ap (λ (r : Option ℕ). let q : Place = record x { reason = r } in q) reason in
    ap (λ (p : Place). set c.loop-at.places c.loop-at.at p) (first ∙ second)
    ∙ map_over_more f c.args.places.now c.loop-at.places c.loop-at.at c.index-places-at-in-loop-at.result (omega arith) c.loop-at.invariant c.index-places-at-in-loop-at.is
