use Rattle.std.proofs.Common.{◌≡◌, ℕ, List, ◌++◌, ◌∷◌, [], Option, Some, None, refl, ap, ◌∙◌, length, cond, eqb, arith}
use Rattle.lits_core.specs.Derivation.{derived_clause}
use Rattle.proof_check.specs.Slots.{filled, place_of}
use Rattle.proof_check.proofs.PlaceLemmas.{missing-place, places-push}
use Rattle.proof_check.proofs.SlotLemmas.{filled-push}
use Rattle.proof_check.proofs.entries.Entries.push.Goals as goal

pub insert-requires : goal.insert-requires
insert-requires c =
    let free : derived_clause (filled c.self.inside.slots.items) c.args.id ≡ None = rw c.self.view_is c.requires in
    missing-place c.self.inside.slots.items c.self.inside.places c.args.id (place_of c.self.inside.places c.args.id) c.self.invariant free refl

pub invariant_of-self-2 : goal.invariant_of-self-2
invariant_of-self-2 c =
    let all = c.push_reserved.ensures.items ∙ ap (λ (slots : List (Option (ℕ × List ℕ))). slots ++ Some (c.args.id, c.args.lits) ∷ []) c.reserve.ensures.items in
    let free : derived_clause (filled c.self.inside.slots.items) c.args.id ≡ None = rw c.self.view_is c.requires in
    let place : c.len-place.result ≡ length c.self.inside.slots.items = omega (arith, c.self.inside.slots.ok.0) in
    rw all (places-push c.self.inside.slots.items c.self.inside.places c.insert.new.self c.args.id c.args.lits c.self.invariant free (λ q. c.in_ok-insert.ensures.ok q ∙ ap (λ (n : ℕ). cond (eqb c.args.id q) (Some n) (place_of c.self.inside.places q)) place))

pub returns-clause-ok : goal.returns-clause-ok
returns-clause-ok c =
    let all = c.push_reserved.ensures.items ∙ ap (λ (slots : List (Option (ℕ × List ℕ))). slots ++ Some (c.args.id, c.args.lits) ∷ []) c.reserve.ensures.items in
    ap filled all ∙ filled-push c.self.inside.slots.items (c.args.id, c.args.lits) ∙ ap (λ (es : List (ℕ × List ℕ)). es ++ (c.args.id, c.args.lits) ∷ []) c.self.view_is
