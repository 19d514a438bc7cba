-- What keeps up with a list of claims, with `done` behind it, is read whole and accepted.
use Rattle.std.proofs.Common.{◌≡◌, ℕ, ◌+◌, ◌≤◌, true, false, List, [], ◌∷◌, ◌++◌, length, Option, Some, None, sym, ap, ◌∙◌}
use Rattle.std.specs.Prelude.{◌^◌}
use Rattle.lits_core.specs.Derivation.{State, next_state}
use Rattle.lits_core.specs.declared.Line.TheVariants.{Derive, Forget}
use Rattle.world_model.specs.Problem.{Problem}
use Rattle.cert_text.specs.declared.line.CertLine.{CertLine}
use Rattle.cert_text.specs.declared.line.CertLine.TheVariants.{Claims, Proof, Branch, NoPoint, NoRelation, Holds, Fails, End, Quit, Done}
use Rattle.cert_text.specs.Ends.{Whole}
use Rattle.cert_text.specs.Logs.{lines_in}
use Rattle.cert_reader.specs.declared.mode.Mode.{Mode}
use Rattle.cert_reader.specs.declared.mode.Mode.TheVariants.{Header, Between, Block as InBlock}
use Rattle.cert_reader.specs.Reading.{Reading, reading}
use Rattle.cert_reader.specs.Laws.{stands}
use Rattle.cert_reader.proofs.WholeLemmas.{standing_lines_are_read_law}
use Rattle.cert_rules.specs.declared.RejectKind.{RejectKind}
use Rattle.cert_rules.specs.declared.RejectKind.TheVariants.{ExtraBranch}
use Rattle.cert_rules.specs.Trees.{tree_fault, tree_next, end_fault}
use Rattle.cert_rules.specs.Listings.{Going, Ended, Rejected, unless, proof_fault}
use Rattle.cert_rules.specs.ClaimLists.{subject_fault, subject_tree, Claim, Block, ClaimStand, holds_fault, stray_kind, claim_steps, claim_start}
use Rattle.cert_rules.specs.ClaimWriting.{ClaimsKeepUp, one_more, open_at}
use Rattle.cert_rules.specs.Files.{ClaimList, settle, answer_of}
use Rattle.cert_rules.proofs.ClaimWriting.{claims_put_keep_up_law, stand_of}
use Rattle.cert_check.specs.Laws.{WrittenClaimsAreAccepted}
use Rattle.cert_check.proofs.WholeLemmas.{claims_ended, claims_rejected}

-- where a line stands, by whether a tree is open
abbrev mode_of : Option Block → Mode
mode_of None = Between
mode_of (Some block) = InBlock

-- the tree, after a line of one of its nodes
abbrev node_after : Problem → Block → CertLine → Option Block
node_after p block line = Some (record block { at = tree_next (subject_tree p block.subject) block.at line })

-- claims do not go on after a line that is rejected, nor after the last one
stray : (p : Problem) (n : ℕ) (kind : RejectKind) (lines : List CertLine) (number : ℕ) (stand : ClaimStand) → claim_steps p (Rejected n kind) lines ≡ Going number stand → ⊥
stray p n kind lines number stand e = let no : Rejected n kind ≡ Going number stand = sym (claims_rejected p n kind lines) ∙ e in cc

past_done : (p : Problem) (claims : List Claim) (lines : List CertLine) (number : ℕ) (stand : ClaimStand) → claim_steps p (Ended claims) lines ≡ Going number stand → ⊥
past_done p claims lines number stand e = let no : Ended claims ≡ Going number stand = sym (claims_ended p claims lines) ∙ e in cc

-- so a line after which they go on has no fault
faultless : (p : Problem) (fault : Option RejectKind) (n : ℕ) (next : ClaimStand) (lines : List CertLine) (number : ℕ) (stand : ClaimStand) →
    claim_steps p (unless fault n (Going n next)) lines ≡ Going number stand → claim_steps p (Going n next) lines ≡ Going number stand
faultless p None n next lines number stand e = e
faultless p (Some kind) n next lines number stand e = absurd (stray p n kind lines number stand e)

-- so lines after which claims go on with no tree open may stand in a list of claims, with `done` behind them
goes_on_stands : (p : Problem) (lines : List CertLine) (n : ℕ) (proof : State) (block : Option Block) (made : List Claim) (number : ℕ) (after : State) (claims : List Claim) →
    claim_steps p (Going n (stand_of proof block made)) lines ≡ Going number (stand_of after None claims) → stands (mode_of block) (lines ++ Done ∷ []) ≡ true
goes_on_stands p [] n proof block made number after claims e =
    let same : stand_of proof block made ≡ stand_of after None claims = cc in
    ap (λ (s : ClaimStand). stands (mode_of s.block) (Done ∷ [])) same
goes_on_stands p (Proof (Derive id lits hints) ∷ lines) n proof None made number after claims e =
    let line = Derive id lits hints in
    goes_on_stands p lines (n + 1) (next_state proof line) None made number after claims
    (faultless p (proof_fault proof line) (n + 1) (stand_of (next_state proof line) None made) lines number (stand_of after None claims) e)
goes_on_stands p (Proof (Forget ids) ∷ lines) n proof None made number after claims e =
    let line = Forget ids in
    goes_on_stands p lines (n + 1) (next_state proof line) None made number after claims
    (faultless p (proof_fault proof line) (n + 1) (stand_of (next_state proof line) None made) lines number (stand_of after None claims) e)
goes_on_stands p (Proof (Derive id lits hints) ∷ lines) n proof (Some block) made number after claims e =
    let line = Derive id lits hints in
    goes_on_stands p lines (n + 1) (next_state proof line) (Some block) made number after claims
    (faultless p (proof_fault proof line) (n + 1) (stand_of (next_state proof line) (Some block) made) lines number (stand_of after None claims) e)
goes_on_stands p (Proof (Forget ids) ∷ lines) n proof (Some block) made number after claims e =
    let line = Forget ids in
    goes_on_stands p lines (n + 1) (next_state proof line) (Some block) made number after claims
    (faultless p (proof_fault proof line) (n + 1) (stand_of (next_state proof line) (Some block) made) lines number (stand_of after None claims) e)
goes_on_stands p (Holds subject f ∷ lines) n proof None made number after claims e =
    goes_on_stands p lines (n + 1) proof None (one_more made subject true) number after claims
    (faultless p (holds_fault p subject f) (n + 1) (stand_of proof None (one_more made subject true)) lines number (stand_of after None claims) e)
goes_on_stands p (Fails subject ∷ lines) n proof None made number after claims e =
    goes_on_stands p lines (n + 1) proof (open_at subject (Some [])) made number after claims
    (faultless p (subject_fault p subject) (n + 1) (stand_of proof (open_at subject (Some [])) made) lines number (stand_of after None claims) e)
goes_on_stands p (Done ∷ lines) n proof None made number after claims e = absurd (past_done p made lines number (stand_of after None claims) e)
goes_on_stands p (End None ∷ lines) n proof None made number after claims e = absurd (stray p (n + 1) ExtraBranch lines number (stand_of after None claims) e)
goes_on_stands p (End (Some to) ∷ lines) n proof None made number after claims e = absurd (stray p (n + 1) ExtraBranch lines number (stand_of after None claims) e)
goes_on_stands p (line ∷ lines) n proof None made number after claims e = absurd (stray p (n + 1) ExtraBranch lines number (stand_of after None claims) e)
goes_on_stands p (Branch depth last ∷ lines) n proof (Some block) made number after claims e =
    let line = Branch depth last in
    goes_on_stands p lines (n + 1) proof (node_after p block line) made number after claims
    (faultless p (tree_fault (subject_tree p block.subject) proof block.at line) (n + 1) (stand_of proof (node_after p block line) made) lines number (stand_of after None claims) e)
goes_on_stands p (NoPoint depth last need clause ∷ lines) n proof (Some block) made number after claims e =
    let line = NoPoint depth last need clause in
    goes_on_stands p lines (n + 1) proof (node_after p block line) made number after claims
    (faultless p (tree_fault (subject_tree p block.subject) proof block.at line) (n + 1) (stand_of proof (node_after p block line) made) lines number (stand_of after None claims) e)
goes_on_stands p (NoRelation depth last pair ∷ lines) n proof (Some block) made number after claims e =
    let line = NoRelation depth last pair in
    goes_on_stands p lines (n + 1) proof (node_after p block line) made number after claims
    (faultless p (tree_fault (subject_tree p block.subject) proof block.at line) (n + 1) (stand_of proof (node_after p block line) made) lines number (stand_of after None claims) e)
goes_on_stands p (End None ∷ lines) n proof (Some block) made number after claims e =
    goes_on_stands p lines (n + 1) proof None (one_more made block.subject false) number after claims
    (faultless p (end_fault block.at None) (n + 1) (stand_of proof None (one_more made block.subject false)) lines number (stand_of after None claims) e)
goes_on_stands p (End (Some to) ∷ lines) n proof (Some block) made number after claims e =
    absurd (stray p (n + 1) (stray_kind block.at) lines number (stand_of after None claims) e)
goes_on_stands p (Quit ∷ lines) n proof (Some block) made number after claims e = goes_on_stands p lines (n + 1) proof None made number after claims e
goes_on_stands p (line ∷ lines) n proof (Some block) made number after claims e =
    absurd (stray p (n + 1) (stray_kind block.at) lines number (stand_of after None claims) e)

-- so claims that keep up, with `done` behind them, are read whole
pub written_claims_are_read : (p : Problem) (lines : List CertLine) (state : State) (claims : List Claim) (bytes : List ℕ) → ClaimsKeepUp p lines [] state None claims →
    lines_in bytes ≡ Some (Claims p.switches ∷ (lines ++ Done ∷ [])) → length bytes ≤ 2 ^ 36 → reading bytes ≡ record { lines = Claims p.switches ∷ (lines ++ Done ∷ []); ends = Whole }
written_claims_are_read p lines state claims bytes k spelled short =
    let all = Claims p.switches ∷ (lines ++ Done ∷ []) in
    let standing : stands Header all ≡ true = goes_on_stands p lines 1 (claim_start p).proof None [] k.number k.proof claims k.reached in
    standing_lines_are_read_law.whole bytes all spelled standing short

pub written_claims_are_accepted_law : WrittenClaimsAreAccepted
written_claims_are_accepted_law p lines state claims bytes k spelled short =
    ap (λ (read : Reading). answer_of p read.lines read.ends) (written_claims_are_read p lines state claims bytes k spelled short)
    ∙ ap (λ status. settle ClaimList status Whole) (claims_put_keep_up_law.done p lines state claims k)
