-- A book stays sound.
use Rattle.std.proofs.Common.{◌≡◌, ℕ, Bool, false, List, Option, Some, None, Result, Ok, Err, Bor, sym, subst, ◌∙◌}
use Rattle.std.specs.Prelude.{IsTrue, IfSome, OnOk, OnErr, is_some}
use Rattle.std.specs.Option.{option_copied}
use Rattle.lits_core.specs.Literals.{meets_all, clause_true}
use Rattle.lits_core.specs.Derivation.{State, live_clause, hints_fault, line_fault, next_state, DerivedFollow}
use Rattle.lits_core.specs.declared.Line.{Line}
use Rattle.lits_core.specs.declared.Line.TheVariants.{Derive}
use Rattle.std.proofs.lemmas.Bool.{cond-false}
use Rattle.proof_check.proofs.EntryLemmas.{found-some}
use Rattle.lits_core.specs.declared.LineFault.{LineFault}
use Rattle.lits_core.proofs.DerivationLemmas.{live-true, DerivedFollow-next}
use Rattle.lits_core.proofs.DistinctIds.{distinct-next}
use Rattle.proof_check.specs.Check.{Gives, IsSound}

-- a valid line leaves a sound state
pub sound-next : (state next : State) (line : Line) → IsSound state → line_fault state line ≡ None → next ≡ next_state state line → IsSound next
sound-next state next line sound fault is =
    subst IsSound (sym is) (record { follow = DerivedFollow-next state line sound.follow fault; distinct = distinct-next state line sound.distinct fault })

-- and so does a call that takes it in or refuses it
pub sound-after : {T : Type 0} (state next : State) (line : Line) (result : Result T LineFault) → IsSound state → Gives (line_fault state line) result → OnOk result (next ≡ next_state state line) → OnErr result (next ≡ state) → IsSound next
sound-after state next line (Ok x) sound fault is same = sound-next state next line sound fault is
sound-after state next line (Err f) sound fault is same = subst IsSound (sym same) sound

-- a clause that is found is true under all bits that meet the given clauses
pub found-follows : (state : State) (id : ℕ) (found : Option (Bor (List ℕ))) → DerivedFollow state → option_copied found ≡ live_clause state id → IfSome found (λ lits. (bits : List Bool) → IsTrue (meets_all bits state.given) → IsTrue (clause_true bits lits.now))
found-follows state id None follow e = tt
found-follows state id (Some lits) follow e = λ bits h. live-true state bits h (follow bits h) id lits.now (sym e)

-- a derive line with an id of no live clause has the fault of its hints
pub fault-new : (state : State) (id : ℕ) (lits hints : List ℕ) (found : Option (Bor (List ℕ))) → option_copied found ≡ live_clause state id → is_some found ≡ false → line_fault state (Derive id lits hints) ≡ hints_fault state hints lits
fault-new state id lits hints found e free =
    cond-false (is_some (live_clause state id)) _ _ (found-some found (live_clause state id) e ∙ free)
