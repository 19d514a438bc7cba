use Rattle.std.proofs.Common.{◌≡◌, ℕ, List, Some, None, ap, ◌∙◌, sym, arith}
use Rattle.lits_core.specs.Derivation.{without_id}
use Rattle.proof_check.specs.Slots.{filled, place_of}
use Rattle.proof_check.proofs.PlaceLemmas.{found-without, missing-without, found-within, places-remove}
use Rattle.proof_check.proofs.entries.Entries.remove.Goals as goal

pub empty_slot-requires : goal.empty_slot-requires
empty_slot-requires c = omega (arith, c.self.inside.slots.ok.0, found-within c.self.inside.slots.items c.self.inside.places c.args.id c.in-Some.place c.self.invariant (sym c.in-Some.ensures.value))

pub invariant_of-self : goal.invariant_of-self
invariant_of-self c =
    let at : place_of c.self.inside.places c.args.id ≡ Some c.in-Some.place = sym c.in-Some.ensures.value in
    rw c.empty_slot.ensures (places-remove c.self.inside.slots.items c.self.inside.places c.remove.new.self c.args.id c.in-Some.place c.self.invariant at (λ q. c.remove.ensures.out q))

pub returns-in-Some : goal.returns-in-Some
returns-in-Some c =
    let at : place_of c.self.inside.places c.args.id ≡ Some c.in-Some.place = sym c.in-Some.ensures.value in
    ap filled c.empty_slot.ensures ∙ found-without c.self.inside.slots.items c.self.inside.places c.args.id c.in-Some.place c.self.invariant at ∙ ap (λ (es : List (ℕ × List ℕ)). without_id es c.args.id) c.self.view_is

pub returns-in_default : goal.returns-in_default
returns-in_default c =
    let none : place_of c.self.inside.places c.args.id ≡ None = sym c.remove.ensures.value ∙ c.in_default.is in
    sym (missing-without c.self.inside.slots.items c.self.inside.places c.args.id c.self.invariant none) ∙ ap (λ (es : List (ℕ × List ℕ)). without_id es c.args.id) c.self.view_is
