-- States whose clauses have the same literals.
use Rattle.std.proofs.Common.{◌≡◌, ◌∙◌, ℕ, zero, suc, Bool, true, List, [], ◌∷◌, ◌++◌, map, length, take, drop, refl, sym, subst, arith}
use Rattle.std.specs.Prelude.{◌==◌, is_none}
use Rattle.std.specs.List.Sorted.{IsPermutation}
use Rattle.std.proofs.lemmas.List.Sorted.{list_any-IsPermutation}
use Rattle.std.proofs.lemmas.Bool.{and_parts, and_from}
use Rattle.lits_core.specs.Literals.{meets_all}
use Rattle.lits_core.specs.Derivation.{State, SameLits, SameGiven, SameDerived, SameState, SameLine, DerivedFollow, line_fault, next_state, state_after, is_valid_derivation}
use Rattle.lits_core.specs.declared.Line.{Line}
use Rattle.lits_core.specs.declared.Line.TheVariants.{Derive, Forget}
use Rattle.lits_core.proofs.LiteralSets.{same-truth, same-line_fault, same-next_state}
use Rattle.clause_arena.specs.Records.{Record, record_at}
use Rattle.watch_arena.specs.Trails.{IsSameRecord, SameRecords}
use Rattle.learn_solver.specs.States.{state_of}
use Rattle.learn_solver.specs.Solving.{Leads}

-- a clause has the same literals in another order
pub SameLits-permuted : (a b : List ℕ) → IsPermutation a b → SameLits a b
SameLits-permuted a b h lit = list_any-IsPermutation (λ (l : ℕ). l == lit) a b h

-- being the same goes both ways, and on
SameLits-sym : (a b : List ℕ) → SameLits a b → SameLits b a
SameLits-sym a b h lit = sym (h lit)

given-sym : (cs ds : List (List ℕ)) → SameGiven cs ds → SameGiven ds cs
given-sym [] [] h = tt
given-sym [] (d ∷ ds) h = absurd h
given-sym (c ∷ cs) [] h = absurd h
given-sym (c ∷ cs) (d ∷ ds) h = (SameLits-sym c d h.0, given-sym cs ds h.1)

derived-sym : (cs ds : List (ℕ × List ℕ)) → SameDerived cs ds → SameDerived ds cs
derived-sym [] [] h = tt
derived-sym [] (d ∷ ds) h = absurd h
derived-sym (c ∷ cs) [] h = absurd h
derived-sym (c ∷ cs) (d ∷ ds) h = (sym h.0, SameLits-sym c.1 d.1 h.1, derived-sym cs ds h.2)

pub SameState-sym : (a b : State) → SameState a b → SameState b a
SameState-sym a b h = record {
  same_given = given-sym a.given b.given h.same_given;
  same_derived = derived-sym a.derived b.derived h.same_derived;
}

given-trans : (a b c : List (List ℕ)) → SameGiven a b → SameGiven b c → SameGiven a c
given-trans [] [] [] h k = tt
given-trans [] [] (z ∷ c) h k = absurd k
given-trans [] (y ∷ b) c h k = absurd h
given-trans (x ∷ a) [] c h k = absurd h
given-trans (x ∷ a) (y ∷ b) [] h k = absurd k
given-trans (x ∷ a) (y ∷ b) (z ∷ c) h k = (λ lit. h.0 lit ∙ k.0 lit, given-trans a b c h.1 k.1)

derived-trans : (a b c : List (ℕ × List ℕ)) → SameDerived a b → SameDerived b c → SameDerived a c
derived-trans [] [] [] h k = tt
derived-trans [] [] (z ∷ c) h k = absurd k
derived-trans [] (y ∷ b) c h k = absurd h
derived-trans (x ∷ a) [] c h k = absurd h
derived-trans (x ∷ a) (y ∷ b) [] h k = absurd k
derived-trans (x ∷ a) (y ∷ b) (z ∷ c) h k = (h.0 ∙ k.0, λ lit. h.1 lit ∙ k.1 lit, derived-trans a b c h.2 k.2)

pub SameState-trans : (a b c : State) → SameState a b → SameState b c → SameState a c
SameState-trans a b c h k = record {
  same_given = given-trans a.given b.given c.given h.same_given k.same_given;
  same_derived = derived-trans a.derived b.derived c.derived h.same_derived k.same_derived;
}

-- records that stayed themselves stand for one state
given_same : (one other : List Record) (n : ℕ) → length other ≡ length one → ((at : ℕ) → IsSameRecord (record_at one at) (record_at other at)) → SameGiven (map (λ r. r.lits) (take n one)) (map (λ r. r.lits) (take n other))
given_same one other zero count each = tt
given_same [] [] (suc n) count each = tt
given_same [] (o ∷ other) (suc n) count each = absurd (omega arith)
given_same (r ∷ one) [] (suc n) count each = absurd (omega arith)
given_same (r ∷ one) (o ∷ other) (suc n) count each =
    (SameLits-permuted r.lits o.lits (each 0).lits, given_same one other n (omega arith) (λ at. each (suc at)))

derived_same : (one other : List Record) (n : ℕ) → length other ≡ length one → ((at : ℕ) → IsSameRecord (record_at one at) (record_at other at)) → SameDerived (map (λ r. (r.id, r.lits)) (drop n one)) (map (λ r. (r.id, r.lits)) (drop n other))
derived_same [] [] zero count each = tt
derived_same [] [] (suc n) count each = tt
derived_same [] (o ∷ other) n count each = absurd (omega arith)
derived_same (r ∷ one) [] n count each = absurd (omega arith)
derived_same (r ∷ one) (o ∷ other) zero count each =
    (sym (each 0).id, SameLits-permuted r.lits o.lits (each 0).lits, derived_same one other zero (omega arith) (λ at. each (suc at)))
derived_same (r ∷ one) (o ∷ other) (suc n) count each = derived_same one other n (omega arith) (λ at. each (suc at))

pub SameState-records : (one other : List Record) (given : ℕ) → SameRecords one other → SameState (state_of one given) (state_of other given)
unfolding state_of
SameState-records one other given h = record {
  same_given = given_same one other given h.count h.each;
  same_derived = derived_same one other given h.count h.each;
}

-- bits meet the same clauses
given-meets : (bits : List Bool) (cs ds : List (List ℕ)) → SameGiven cs ds → meets_all bits cs ≡ meets_all bits ds
given-meets bits [] [] h = refl
given-meets bits [] (d ∷ ds) h = absurd h
given-meets bits (c ∷ cs) [] h = absurd h
given-meets bits (c ∷ cs) (d ∷ ds) h = rw (same-truth bits c d h.0, given-meets bits cs ds h.1) refl

derived-meets : (bits : List Bool) (cs ds : List (ℕ × List ℕ)) → SameDerived cs ds → meets_all bits (map (λ entry. entry.1) cs) ≡ meets_all bits (map (λ entry. entry.1) ds)
derived-meets bits [] [] h = refl
derived-meets bits [] (d ∷ ds) h = absurd h
derived-meets bits (c ∷ cs) [] h = absurd h
derived-meets bits (c ∷ cs) (d ∷ ds) h = rw (same-truth bits c.1 d.1 h.1, derived-meets bits cs ds h.2) refl

pub DerivedFollow-same : (one other : State) → SameState one other → DerivedFollow one → DerivedFollow other
DerivedFollow-same one other h follow bits meets =
    sym (derived-meets bits one.derived other.derived h.same_derived) ∙ follow bits (given-meets bits one.given other.given h.same_given ∙ meets)

-- a line is the same as itself
SameLine-refl : (line : Line) → SameLine line line
SameLine-refl (Derive i lits hints) = (refl, λ lit. refl, refl)
SameLine-refl (Forget ids) = refl

-- lines lead on from the same state alike
valid-same : (one other : State) (lines : List Line) → SameState one other → is_valid_derivation one lines ≡ is_valid_derivation other lines
valid-same one other [] h = refl
valid-same one other (line ∷ lines) h =
    let fault = same-line_fault one other line line h (SameLine-refl line) in
    let rest = valid-same (next_state one line) (next_state other line) lines (same-next_state one other line line h (SameLine-refl line)) in
    rw (fault, rest) refl

after-same : (one other : State) (lines : List Line) → SameState one other → SameState (state_after one lines) (state_after other lines)
after-same one other [] h = h
after-same one other (line ∷ lines) h = after-same (next_state one line) (next_state other line) lines (same-next_state one other line line h (SameLine-refl line))

-- lines and then more
after-append : (state : State) (lines more : List Line) → state_after state (lines ++ more) ≡ state_after (state_after state lines) more
after-append state [] more = refl
after-append state (line ∷ lines) more = after-append (next_state state line) lines more

valid-append : (state : State) (lines more : List Line) → is_valid_derivation state lines ≡ true → is_valid_derivation (state_after state lines) more ≡ true → is_valid_derivation state (lines ++ more) ≡ true
valid-append state [] more h k = k
valid-append state (line ∷ lines) more h k =
    let parts = and_parts (is_none (line_fault state line)) (is_valid_derivation (next_state state line) lines) h in
    and_from (is_none (line_fault state line)) (is_valid_derivation (next_state state line) (lines ++ more)) parts.0 (valid-append (next_state state line) lines more parts.1 k)

pub Leads-same : (one other : State) → SameState one other → Leads one [] other
Leads-same one other h = record { valid = refl; after = h }

pub Leads-trans : (one two three : State) (lines more : List Line) → Leads one lines two → Leads two more three → Leads one (lines ++ more) three
Leads-trans one two three lines more h k = record {
  valid = valid-append one lines more h.valid (valid-same (state_after one lines) two more h.after ∙ k.valid);
  after =
      subst (λ (s : State). SameState s three) (sym (after-append one lines more))
      (SameState-trans (state_after (state_after one lines) more) (state_after two more) three (after-same (state_after one lines) two more h.after) k.after);
}
