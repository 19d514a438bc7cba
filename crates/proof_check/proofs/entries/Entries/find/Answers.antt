use Rattle.std.proofs.Common.{◌≡◌, ℕ, List, Some, None, ap, ◌∙◌, sym, arith}
use Rattle.std.specs.Option.{option_copied}
use Rattle.lits_core.specs.Derivation.{derived_clause}
use Rattle.proof_check.specs.Slots.{place_of}
use Rattle.proof_check.proofs.PlaceLemmas.{found-clause, missing-clause, found-within}
use Rattle.proof_check.proofs.SlotLemmas.{lits_of, at-read}
use Rattle.proof_check.proofs.entries.Entries.find.Goals as goal

pub returns-in_err-place : goal.returns-in_err-place
returns-in_err-place c =
    let none : place_of c.self.inside.places c.args.id ≡ None = sym c.in_err-place.ensures in
    ap option_copied c.from_residual.ensures ∙ sym (missing-clause c.self.inside.slots.items c.self.inside.places c.args.id c.self.invariant none) ∙ ap (λ (es : List (ℕ × List ℕ)). derived_clause es c.args.id) c.self.view_is

pub index-requires : goal.index-requires
index-requires c = omega (arith, c.self.inside.slots.ok.0, found-within c.self.inside.slots.items c.self.inside.places c.args.id c.in_ok-place.place c.self.invariant (sym c.in_ok-place.ensures))

pub returns-in-Some : goal.returns-in-Some
returns-in-Some c =
    let at : place_of c.self.inside.places c.args.id ≡ Some c.in_ok-place.place = sym c.in_ok-place.ensures in
    let found = found-clause c.self.inside.slots.items c.self.inside.places c.args.id c.in_ok-place.place c.self.invariant at in
    let within = found-within c.self.inside.slots.items c.self.inside.places c.args.id c.in_ok-place.place c.self.invariant at in
    let slot = at-read c.self.inside.slots.items c.in_ok-place.place c.index.result.now within in
    ap Some c.lits.ensures ∙ sym (ap lits_of c.in-Some.is) ∙ ap lits_of (c.index.ensures ∙ slot) ∙ sym found ∙ ap (λ (es : List (ℕ × List ℕ)). derived_clause es c.args.id) c.self.view_is

pub returns-in-None : goal.returns-in-None
returns-in-None c =
    let at : place_of c.self.inside.places c.args.id ≡ Some c.in_ok-place.place = sym c.in_ok-place.ensures in
    let found = found-clause c.self.inside.slots.items c.self.inside.places c.args.id c.in_ok-place.place c.self.invariant at in
    let within = found-within c.self.inside.slots.items c.self.inside.places c.args.id c.in_ok-place.place c.self.invariant at in
    let slot = at-read c.self.inside.slots.items c.in_ok-place.place c.index.result.now within in
    sym (ap lits_of c.in-None.is) ∙ ap lits_of (c.index.ensures ∙ slot) ∙ sym found ∙ ap (λ (es : List (ℕ × List ℕ)). derived_clause es c.args.id) c.self.view_is
