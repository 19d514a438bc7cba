-- What keeps up with a listing, with an end behind it, is read whole and accepted.
use Rattle.std.proofs.Common.{◌≡◌, ℕ, ◌+◌, ◌≤◌, true, false, cond, List, [], ◌∷◌, ◌++◌, length, Option, Some, None, refl, sym, ap, ◌∙◌}
use Rattle.std.specs.Prelude.{◌^◌}
use Rattle.rcc5_core.specs.declared.Rel.{Rel}
use Rattle.world_model.specs.Problem.{Problem}
use Rattle.lits_core.specs.Derivation.{State}
use Rattle.lits_core.specs.declared.Line.TheVariants.{Derive, Forget}
use Rattle.cert_text.specs.declared.line.CertLine.{CertLine}
use Rattle.cert_text.specs.declared.line.CertLine.TheVariants.{Certificate, Claims, Proof, Branch, NoPoint, NoRelation, World, Holds, Fails, End, Quit, Done}
use Rattle.cert_text.specs.Ends.{Whole}
use Rattle.cert_text.specs.Logs.{lines_in}
use Rattle.cert_reader.specs.declared.mode.Mode.TheVariants.{Header, Listing as InListing}
use Rattle.cert_reader.specs.Reading.{Reading, reading}
use Rattle.cert_reader.specs.Laws.{stands}
use Rattle.cert_reader.proofs.WholeLemmas.{standing_lines_are_read_law}
use Rattle.cert_rules.specs.declared.RejectKind.{RejectKind}
use Rattle.cert_rules.specs.declared.RejectKind.TheVariants.{MissingBranch, ExtraBranch}
use Rattle.cert_rules.specs.Trees.{Branching, names, node_fault, tree_fault, end_fault}
use Rattle.cert_rules.specs.Listings.{Stand, Status, Going, Ended, Rejected, Listed, ForTree, role_of, unless, after_node, take_by, step, steps, listing_tree, start}
use Rattle.cert_rules.specs.Files.{as_listing, settle, answer_of}
use Rattle.cert_rules.specs.Writing.{BeginsAndKeepsUp}
use Rattle.cert_rules.proofs.Whole.{listing_law}
use Rattle.cert_rules.proofs.Writing.{put_keeps_up_law}
use Rattle.cert_check.specs.Laws.{WrittenIsAccepted}
use Rattle.cert_check.proofs.WholeLemmas.{steps_ended, steps_rejected}

-- a line that names no node has a fault
stray_fault : (tree : Branching) (proof : State) (at : Option (List Rel)) (line : CertLine) → ((m : List Rel) → names m line ≡ false) → (kind : RejectKind) × (tree_fault tree proof at line ≡ Some kind)
stray_fault tree proof None line none = (ExtraBranch, refl)
stray_fault tree proof (Some m) line none = (MissingBranch, ap (λ b. cond b (node_fault tree proof m line) (Some MissingBranch)) (none m))

-- so a listing does not go on after it
stray : (tree : Branching) (status : Status Stand Listed) (line : CertLine) (lines : List CertLine) (number : ℕ) (stand : Stand) → role_of line ≡ ForTree → ((m : List Rel) → names m line ≡ false) →
    steps tree (step tree status line) lines ≡ Going number stand → ⊥
stray tree (Going n s) line lines number stand for_tree none e =
    let fault = stray_fault tree s.proof s.at line none in
    let is : step tree (Going n s) line ≡ Rejected (n + 1) fault.0 =
    ap (take_by tree n s line) for_tree ∙ ap (λ fault. unless fault (n + 1) (Going (n + 1) (after_node tree s line))) fault.1 in
    let no : Rejected (n + 1) fault.0 ≡ Going number stand = sym (steps_rejected tree (n + 1) fault.0 lines) ∙ sym (ap (λ status. steps tree status lines) is) ∙ e in
    cc
stray tree (Ended listed) line lines number stand for_tree none e = let no : Ended listed ≡ Going number stand = sym (steps_ended tree listed lines) ∙ e in cc
stray tree (Rejected n kind) line lines number stand for_tree none e = let no : Rejected n kind ≡ Going number stand = sym (steps_rejected tree n kind lines) ∙ e in cc

-- nor after an end
past_end : (tree : Branching) (fault : Option RejectKind) (n : ℕ) (listed : Listed) (lines : List CertLine) (number : ℕ) (stand : Stand) →
    steps tree (unless fault n (Ended listed)) lines ≡ Going number stand → ⊥
past_end tree None n listed lines number stand e = let no : Ended listed ≡ Going number stand = sym (steps_ended tree listed lines) ∙ e in cc
past_end tree (Some kind) n listed lines number stand e = let no : Rejected n kind ≡ Going number stand = sym (steps_rejected tree n kind lines) ∙ e in cc

ended : (tree : Branching) (status : Status Stand Listed) (to : Option (List Rel)) (lines : List CertLine) (number : ℕ) (stand : Stand) →
    steps tree (step tree status (End to)) lines ≡ Going number stand → ⊥
ended tree (Going n s) to lines number stand e = past_end tree (end_fault s.at to) (n + 1) (record { to = to; worlds = s.worlds }) lines number stand e
ended tree (Ended listed) to lines number stand e = let no : Ended listed ≡ Going number stand = sym (steps_ended tree listed lines) ∙ e in cc
ended tree (Rejected n kind) to lines number stand e = let no : Rejected n kind ≡ Going number stand = sym (steps_rejected tree n kind lines) ∙ e in cc

-- so lines after which a listing goes on may stand in one, with an end behind them
goes_on_stands : (tree : Branching) (status : Status Stand Listed) (lines : List CertLine) (number : ℕ) (stand : Stand) (at : Option (List Rel)) → steps tree status lines ≡ Going number stand →
    stands InListing (lines ++ End at ∷ []) ≡ true
goes_on_stands tree status [] number stand at e = refl
goes_on_stands tree status (Certificate switches from ∷ lines) number stand at e = absurd (stray tree status (Certificate switches from) lines number stand refl (λ m. refl) e)
goes_on_stands tree status (Claims switches ∷ lines) number stand at e = absurd (stray tree status (Claims switches) lines number stand refl (λ m. refl) e)
goes_on_stands tree status (Proof (Derive id lits hints) ∷ lines) number stand at e = goes_on_stands tree (step tree status (Proof (Derive id lits hints))) lines number stand at e
goes_on_stands tree status (Proof (Forget ids) ∷ lines) number stand at e = goes_on_stands tree (step tree status (Proof (Forget ids))) lines number stand at e
goes_on_stands tree status (Branch depth last ∷ lines) number stand at e = goes_on_stands tree (step tree status (Branch depth last)) lines number stand at e
goes_on_stands tree status (NoPoint depth last need clause ∷ lines) number stand at e = goes_on_stands tree (step tree status (NoPoint depth last need clause)) lines number stand at e
goes_on_stands tree status (NoRelation depth last pair ∷ lines) number stand at e = goes_on_stands tree (step tree status (NoRelation depth last pair)) lines number stand at e
goes_on_stands tree status (World depth last family ∷ lines) number stand at e = goes_on_stands tree (step tree status (World depth last family)) lines number stand at e
goes_on_stands tree status (Holds subject family ∷ lines) number stand at e = absurd (stray tree status (Holds subject family) lines number stand refl (λ m. refl) e)
goes_on_stands tree status (Fails subject ∷ lines) number stand at e = absurd (stray tree status (Fails subject) lines number stand refl (λ m. refl) e)
goes_on_stands tree status (End to ∷ lines) number stand at e = absurd (ended tree status to lines number stand e)
goes_on_stands tree status (Quit ∷ lines) number stand at e = absurd (stray tree status Quit lines number stand refl (λ m. refl) e)
goes_on_stands tree status (Done ∷ lines) number stand at e = absurd (stray tree status Done lines number stand refl (λ m. refl) e)

-- so what keeps up, with an end behind it, is read whole
pub written_is_read : (p : Problem) (from : List Rel) (told : List CertLine) (state : State) (at : Option (List Rel)) (bytes : List ℕ) → BeginsAndKeepsUp p from [] state at told →
    lines_in bytes ≡ Some (told ++ End at ∷ []) → length bytes ≤ 2 ^ 36 → reading bytes ≡ record { lines = told ++ End at ∷ []; ends = Whole }
written_is_read p from told state at bytes keeps spelled short =
    let k = keeps.keeps_up in
    let begins : told ++ End at ∷ [] ≡ Certificate p.switches from ∷ (keeps.lines ++ End at ∷ []) = ap (λ told. told ++ End at ∷ []) keeps.begins in
    let stood = goes_on_stands (listing_tree p from) (Going 1 (start p)) keeps.lines k.number k.stand at k.reached in
    let standing : stands Header (told ++ End at ∷ []) ≡ true = ap (stands Header) begins ∙ stood in
    standing_lines_are_read_law.whole bytes (told ++ End at ∷ []) spelled standing short

pub written_is_accepted_law : WrittenIsAccepted
written_is_accepted_law = record {
  accepted = λ p from told state at bytes built room keeps spelled short.
      let begins : told ++ End at ∷ [] ≡ Certificate p.switches from ∷ (keeps.lines ++ End at ∷ []) = ap (λ told. told ++ End at ∷ []) keeps.begins in
      let read = written_is_read p from told state at bytes keeps spelled short in
      let last = put_keeps_up_law.ends p from keeps.lines state at room keeps.keeps_up in
      let is_listing = listing_law p built p.switches from (keeps.lines ++ End at ∷ []) (record { to = at; worlds = last.0 }) last.1 in (
        last.0,
        is_listing,
        ap (λ (read : Reading). answer_of p read.lines read.ends) read
            ∙ ap (λ lines. answer_of p lines Whole) begins
            ∙ ap (λ status. settle (as_listing from) status Whole) last.1,
      );
}
