-- A clause's literals one after the other, and hints by the sets of their literals.
use Rattle.std.proofs.Common.{◌≡◌, ℕ, List, ◌∷◌, Option, Some, None, sym, ap, ◌∙◌, drop, length, get_or, Bor, ◌<◌, ◌+◌}
use Rattle.lits_core.specs.Derivation.{State, open_lits, hint_of, hint_fault, hints_fault, named_fault, live_clause, SameLits}
use Rattle.std.specs.Option.{option_copied}
use Rattle.std.proofs.lemmas.List.{at_drop_more}
use Rattle.lits_core.specs.Literals.{negation_of}
use Rattle.lits_core.proofs.LiteralSets.{same-hints, same-self}
use Rattle.lits_core.specs.declared.Hint.{Hint}
use Rattle.lits_core.specs.declared.Hint.TheVariants.{Implies}

-- what the further literals of a clause come to, after the first open one so far
abbrev pub hint_after : Option ℕ → List ℕ → Hint
hint_after None lits = hint_of lits
hint_after (Some first) lits = hint_of (first ∷ lits)

abbrev pub hint_from : List ℕ → Option ℕ → List ℕ → Hint
hint_from held first lits = hint_after first (open_lits held lits)

-- after a hint that implies a literal, the rest of the hints comes to what the hints from here on do
pub implied-next : (state : State) (hints : List ℕ) (place : ℕ) (held next : List ℕ) (found : Option (Bor (List ℕ))) (clause : List ℕ) (lit : ℕ) → place < length hints → option_copied found ≡ live_clause state (get_or hints place 0) → option_copied found ≡ Some clause → hint_of (open_lits held clause) ≡ Implies lit → SameLits next (negation_of lit ∷ held) → hints_fault state (drop (place + 1) hints) next ≡ hints_fault state (drop place hints) held
implied-next state hints place held next found clause lit l e is implied same =
    let further = λ (implied_lit : ℕ). hints_fault state (drop (place + 1) hints) (negation_of implied_lit ∷ held) in
    same-hints state state (drop (place + 1) hints) next (negation_of lit ∷ held) (same-self state) same
    ∙ sym (at_drop_more (λ hs. hints_fault state hs held) hints place 0 l
    ∙ ap (λ (o : Option (List ℕ)). named_fault o held further) (sym e ∙ is)
    ∙ ap (λ (hint : Hint). hint_fault hint further) implied)
