-- What a log tells keeps up, line by line.
use Rattle.std.proofs.Common.{◌≡◌, ◌+◌, ◌≤◌, List, [], ◌∷◌, ◌++◌, length, Option, Some, None, refl, sym, ap, ◌∙◌, subst, IsTrue, append-nil}
use Rattle.std.specs.Prelude.{IfSome, is_none}
use Rattle.std.proofs.lemmas.Bool.{true≢false, and_parts}
use Rattle.rcc5_core.specs.declared.Rel.{Rel}
use Rattle.lits_core.specs.declared.Line.{Line}
use Rattle.lits_core.specs.Derivation.{State, line_fault, next_state, state_after, is_valid_derivation, SameState}
use Rattle.lits_core.proofs.DerivationLemmas.{is_none-None}
use Rattle.world_model.specs.Problem.{Problem, pair_count}
use Rattle.cert_text.specs.declared.line.CertLine.{CertLine}
use Rattle.cert_text.specs.declared.line.CertLine.TheVariants.{Certificate, Proof, End}
use Rattle.cert_text.specs.Logs.{with_line}
use Rattle.cert_rules.specs.Trees.{is_branch}
use Rattle.cert_rules.specs.Listings.{Going, after_proof, step, listing_tree, listing_next, start}
use Rattle.cert_rules.specs.ShownNodes.{AllBranchesAlive}
use Rattle.cert_rules.specs.Writing.{KeepsUp, ToldKeepsUp, TellsOf, IsAcceptedTo, ToldStaysUp}
use Rattle.cert_rules.proofs.Writing.{steps_append, alive_append, line_leads, put_keeps_up_law}

-- the first of the lines that wait
one_flushed : (p : Problem) (from : List Rel) (lines : List CertLine) (line : Line) (waiting : List Line) (state : State) (at : Option (List Rel)) →
    KeepsUp p from lines (line ∷ waiting) state at → KeepsUp p from (lines ++ Proof line ∷ []) waiting state at
one_flushed p from lines line waiting state at k =
    let tree = listing_tree p from in
    let parts = and_parts (is_none (line_fault k.stand.proof line)) (is_valid_derivation (next_state k.stand.proof line) waiting) k.valid in
    record {
      number = k.number + 1;
      stand = after_proof k.stand line;
      reached = steps_append tree (Going 1 (start p)) lines (Proof line ∷ []) ∙ ap (λ status. step tree status (Proof line)) k.reached ∙
          line_leads tree k.number k.stand line (is_none-None (line_fault k.stand.proof line) parts.0);
      expects = k.expects;
      valid = parts.1;
      same = k.same;
      alive = alive_append tree (Going 1 (start p)) lines (Proof line ∷ []) k.alive
          (subst (λ status. AllBranchesAlive tree status (Proof line ∷ [])) (sym k.reached) (λ none. absurd (true≢false (sym none)), tt));
    }

-- one more line behind the first
behind_first : (p : Problem) (from : List Rel) (told lines : List CertLine) (line : CertLine) → told ≡ Certificate p.switches from ∷ lines → told ++ line ∷ [] ≡ Certificate p.switches from ∷ (lines ++ line ∷ [])
behind_first p from told lines line e = ap (λ told. told ++ line ∷ []) e

goes : (p : Problem) (from : List Rel) (told : Option (List CertLine)) (waiting added : List Line) (one other : State) (at : Option (List Rel)) →
    ToldKeepsUp p from told waiting one at → IsTrue (is_valid_derivation one added) → SameState (state_after one added) other → ToldKeepsUp p from told (waiting ++ added) other at
goes p from None waiting added one other at k valid same = tt
goes p from (Some told) waiting added one other at k valid same =
    record { lines = k.lines; begins = k.begins; keeps_up = put_keeps_up_law.goes p from k.lines waiting added one other at k.keeps_up valid same }

flushed : (p : Problem) (from : List Rel) (told : Option (List CertLine)) (line : Line) (waiting : List Line) (state : State) (at : Option (List Rel)) →
    ToldKeepsUp p from told (line ∷ waiting) state at → ToldKeepsUp p from (with_line told (Proof line)) waiting state at
flushed p from None line waiting state at k = tt
flushed p from (Some told) line waiting state at k = record {
  lines = k.lines ++ Proof line ∷ [];
  begins = behind_first p from told k.lines (Proof line) k.begins;
  keeps_up = one_flushed p from k.lines line waiting state at k.keeps_up;
}

put : (p : Problem) (from : List Rel) (told : Option (List CertLine)) (state : State) (m : List Rel) (line : CertLine) →
    ToldKeepsUp p from told [] state (Some m) → TellsOf p state m line → ToldKeepsUp p from (with_line told line) [] state (listing_next p from (is_branch line) m)
put p from None state m line k tells = tt
put p from (Some told) state m line k tells = record {
  lines = k.lines ++ line ∷ [];
  begins = behind_first p from told k.lines line k.begins;
  keeps_up = subst (λ lines. KeepsUp p from (lines ++ line ∷ []) [] state (listing_next p from (is_branch line) m)) (append-nil k.lines)
      (put_keeps_up_law.put p from k.lines [] state m line k.keeps_up tells);
}

ends : (p : Problem) (from : List Rel) (told : Option (List CertLine)) (state : State) (at : Option (List Rel)) → length from ≤ pair_count p →
    ToldKeepsUp p from told [] state at → IfSome (with_line told (End at)) (IsAcceptedTo p from at)
ends p from None state at room k = tt
ends p from (Some told) state at room k =
    let last = put_keeps_up_law.ends p from k.lines state at room k.keeps_up in
    record { lines = k.lines ++ End at ∷ []; begins = behind_first p from told k.lines (End at) k.begins; worlds = last.0; accepted = last.1 }

pub told_stays_up_law : ToldStaysUp
told_stays_up_law = record {
  begins = λ p from state same. record { lines = []; begins = refl; keeps_up = put_keeps_up_law.begins p from state same };
  goes = goes;
  flushed = flushed;
  put = put;
  ends = ends;
}
