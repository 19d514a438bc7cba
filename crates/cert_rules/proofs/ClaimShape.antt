-- Each claim of an accepted list that no family meets its subject has its whole tree there.
use Rattle.std.proofs.Common.{◌≡◌, ℕ, ◌+◌, true, false, List, [], ◌∷◌, ◌++◌, ◌⊎◌, Option, Some, None, inl, inr, refl, sym, ap, ◌∙◌, subst}
use Rattle.std.specs.Prelude.{is_none}
use Rattle.std.proofs.lemmas.Bool.{true≢false, and_from}
use Rattle.lits_core.specs.declared.Line.{Line}
use Rattle.lits_core.specs.Derivation.{State, line_fault, next_state, state_after, is_valid_derivation}
use Rattle.world_model.specs.Problem.{Problem}
use Rattle.world_model.proofs.Members.{In, here, there, none_in, from_append, in_from_contains}
use Rattle.cert_text.specs.declared.line.Subject.{Subject}
use Rattle.cert_text.specs.declared.line.CertLine.{CertLine}
use Rattle.cert_text.specs.declared.line.CertLine.TheVariants.{Proof, Branch, NoPoint, NoRelation, Holds, Fails, End, Quit, Done}
use Rattle.cert_rules.specs.declared.RejectKind.{RejectKind}
use Rattle.cert_rules.specs.Trees.{tree_fault, tree_next, end_fault}
use Rattle.cert_rules.specs.Listings.{Status, Going, Ended, Rejected, unless, proof_fault}
use Rattle.cert_rules.specs.ClaimLists.{Claim, Block, ClaimStand, subject_tree, subject_fault, holds_fault, claims_fault, claim_start, stray_kind, claim_steps}
use Rattle.cert_rules.specs.Shape.{proof_lines, other_lines, IsTreeUpTo, HasTreeFrom, AcceptedClaimsHaveTrees}
use Rattle.cert_rules.proofs.Sound.{no_line_fault, ends_there}
use Rattle.cert_rules.proofs.Shape.{Leads, leads_is_tree}
use Rattle.cert_rules.proofs.Whole.{goes_on}

-- what is rejected or has ended stays so
rejected_stays : (p : Problem) (number : ℕ) (kind : RejectKind) (lines : List CertLine) → claim_steps p (Rejected number kind) lines ≡ Rejected number kind
rejected_stays p number kind [] = refl
rejected_stays p number kind (line ∷ lines) = rejected_stays p number kind lines

ended_stays : (p : Problem) (claims : List Claim) (lines : List CertLine) → claim_steps p (Ended claims) lines ≡ Ended claims
ended_stays p claims [] = refl
ended_stays p claims (line ∷ lines) = ended_stays p claims lines

not_rejected : (p : Problem) (number : ℕ) (kind : RejectKind) (lines : List CertLine) (listed : List Claim) → claim_steps p (Rejected number kind) lines ≡ Ended listed → ⊥
not_rejected p number kind lines listed e = let wrong : Rejected number kind ≡ Ended listed = sym (rejected_stays p number kind lines) ∙ e in cc

no_fault : (p : Problem) (fault : Option RejectKind) (number : ℕ) (next : Status ClaimStand (List Claim)) (lines : List CertLine) (listed : List Claim) →
    claim_steps p (unless fault number next) lines ≡ Ended listed → (fault ≡ None) × (claim_steps p next lines ≡ Ended listed)
no_fault p None number next lines listed e = (refl, e)
no_fault p (Some kind) number next lines listed e = absurd (not_rejected p number kind lines listed e)

-- the rest of the open tree, at whose end the claim is
record IsRest (p : Problem) (proof : State) (block : Block) (lines : List CertLine) (claim : Claim) : Type 0 where
  body : List CertLine
  after : List CertLine
  split : lines ≡ body ++ End None ∷ after
  derivation : is_valid_derivation proof (proof_lines body) ≡ true
  leads : Leads (subject_tree p block.subject) block.at (other_lines proof body) None
  is : claim.subject ≡ block.subject

abbrev IsOpen : Problem → State → Option Block → List CertLine → Claim → Type 0
IsOpen p proof None lines claim = ⊥
IsOpen p proof (Some block) lines claim = IsRest p proof block lines claim

-- where a claim comes from: it was there, or its tree is still to come, or is open
abbrev Comes : Problem → State → Option Block → List Claim → List CertLine → Claim → Type 0
Comes p proof block claims lines claim = In claim claims ⊎ (HasTreeFrom p proof lines claim.subject ⊎ IsOpen p proof block lines claim)

-- one line of the derivation earlier
proof_tree : (p : Problem) (proof : State) (derives : Line) (lines : List CertLine) (subject : Subject) → line_fault proof derives ≡ None →
    HasTreeFrom p (next_state proof derives) lines subject → HasTreeFrom p proof (Proof derives ∷ lines) subject
proof_tree p proof derives lines subject none has = record {
  before = Proof derives ∷ has.before;
  body = has.body;
  after = has.after;
  split = ap (λ l. Proof derives ∷ l) has.split;
  derivation = and_from (is_none (line_fault proof derives)) (is_valid_derivation (next_state proof derives) (proof_lines has.before ++ proof_lines has.body)) (ap is_none none) has.derivation;
  tree = has.tree;
}

proof_rest : (p : Problem) (proof : State) (block : Option Block) (derives : Line) (lines : List CertLine) (claim : Claim) → line_fault proof derives ≡ None →
    IsOpen p (next_state proof derives) block lines claim → IsOpen p proof block (Proof derives ∷ lines) claim
proof_rest p proof None derives lines claim none rest = rest
proof_rest p proof (Some block) derives lines claim none rest = record {
  body = Proof derives ∷ rest.body;
  after = rest.after;
  split = ap (λ l. Proof derives ∷ l) rest.split;
  derivation = and_from (is_none (line_fault proof derives)) (is_valid_derivation (next_state proof derives) (proof_lines rest.body)) (ap is_none none) rest.derivation;
  leads = rest.leads;
  is = rest.is;
}

proof_comes : (p : Problem) (proof : State) (block : Option Block) (claims : List Claim) (derives : Line) (lines : List CertLine) (claim : Claim) → proof_fault proof derives ≡ None →
    Comes p (next_state proof derives) block claims lines claim → Comes p proof block claims (Proof derives ∷ lines) claim
proof_comes p proof block claims derives lines claim none (inl i) = inl i
proof_comes p proof block claims derives lines claim none (inr (inl has)) =
    inr (inl (proof_tree p proof derives lines claim.subject (no_line_fault (line_fault proof derives) none) has))
proof_comes p proof block claims derives lines claim none (inr (inr rest)) =
    inr (inr (proof_rest p proof block derives lines claim (no_line_fault (line_fault proof derives) none) rest))

-- another line earlier
tree_earlier : (p : Problem) (proof : State) (line : CertLine) (lines : List CertLine) (subject : Subject) → ((more : List CertLine) → proof_lines (line ∷ more) ≡ proof_lines more) →
    HasTreeFrom p proof lines subject → HasTreeFrom p proof (line ∷ lines) subject
tree_earlier p proof line lines subject none has = record {
  before = line ∷ has.before;
  body = has.body;
  after = has.after;
  split = ap (λ l. line ∷ l) has.split;
  derivation = subst (λ l. is_valid_derivation proof (l ++ proof_lines has.body) ≡ true) (sym (none has.before)) has.derivation;
  tree = subst (λ l. IsTreeUpTo (subject_tree p subject) None (other_lines (state_after proof l) has.body)) (sym (none has.before)) has.tree;
}

-- a claim behind others is one of these, or the last
behind : (p : Problem) (proof : State) (block : Option Block) (line : CertLine) (lines : List CertLine) (claims : List Claim) (new claim : Claim) →
    ((more : List CertLine) → proof_lines (line ∷ more) ≡ proof_lines more) → (claim ≡ new → Comes p proof block claims (line ∷ lines) claim) →
    Comes p proof None (claims ++ new ∷ []) lines claim → Comes p proof block claims (line ∷ lines) claim
behind p proof block line lines claims new claim none last (inl i) = elim (from_append claims i) [ inl old ↦ inl old | inr j ↦ by j ]
  where
    by : In claim (new ∷ []) → Comes p proof block claims (line ∷ lines) claim
    by (here e) = last e
    by (there j) = absurd (none_in j)
behind p proof block line lines claims new claim none last (inr (inl has)) = inr (inl (tree_earlier p proof line lines claim.subject none has))
behind p proof block line lines claims new claim none last (inr (inr rest)) = absurd rest

-- a line of a tree
node_comes : (p : Problem) (proof : State) (block : Block) (claims : List Claim) (line : CertLine) (lines : List CertLine) (claim : Claim) →
    ((more : List CertLine) → proof_lines (line ∷ more) ≡ proof_lines more) →
    ((more : List CertLine) → other_lines proof (line ∷ more) ≡ record { proof = proof; line = line } ∷ other_lines proof more) →
    tree_fault (subject_tree p block.subject) proof block.at line ≡ None →
    Comes p proof (Some (record block { at = tree_next (subject_tree p block.subject) block.at line })) claims lines claim → Comes p proof (Some block) claims (line ∷ lines) claim
node_comes p proof block claims line lines claim none one right (inl i) = inl i
node_comes p proof block claims line lines claim none one right (inr (inl has)) = inr (inl (tree_earlier p proof line lines claim.subject none has))
node_comes p proof block claims line lines claim none one right (inr (inr rest)) = inr (inr (record {
  body = line ∷ rest.body;
  after = rest.after;
  split = ap (λ l. line ∷ l) rest.split;
  derivation = ap (is_valid_derivation proof) (none rest.body) ∙ rest.derivation;
  leads = subst (λ l. Leads (subject_tree p block.subject) block.at l None) (sym (one rest.body)) (right, rest.leads);
  is = rest.is;
}))

-- a tree that begins
begins : (p : Problem) (proof : State) (subject : Subject) (claims : List Claim) (lines : List CertLine) (claim : Claim) →
    Comes p proof (Some (record { subject = subject; at = Some [] })) claims lines claim → Comes p proof None claims (Fails subject ∷ lines) claim
begins p proof subject claims lines claim (inl i) = inl i
begins p proof subject claims lines claim (inr (inl has)) = inr (inl (tree_earlier p proof (Fails subject) lines claim.subject (λ more. refl) has))
begins p proof subject claims lines claim (inr (inr rest)) = inr (inl (subst (HasTreeFrom p proof (Fails subject ∷ lines)) (sym rest.is) (record {
  before = [];
  body = rest.body;
  after = rest.after;
  split = ap (λ l. Fails subject ∷ l) rest.split;
  derivation = rest.derivation;
  tree = leads_is_tree (subject_tree p subject) (other_lines proof rest.body) None rest.leads;
})))

-- a tree that ends
ends : (p : Problem) (proof : State) (block : Block) (claims : List Claim) (lines : List CertLine) (claim : Claim) → block.at ≡ None →
    claim ≡ record { subject = block.subject; holds = false } → Comes p proof (Some block) claims (End None ∷ lines) claim
ends p proof block claims lines claim whole is = inr (inr (record {
  body = [];
  after = lines;
  split = refl;
  derivation = refl;
  leads = whole;
  is = ap (λ (c : Claim). c.subject) is;
}))

-- a tree that is left, or none
left : (p : Problem) (proof : State) (block : Option Block) (line : CertLine) (lines : List CertLine) (claims : List Claim) (claim : Claim) →
    ((more : List CertLine) → proof_lines (line ∷ more) ≡ proof_lines more) → Comes p proof None claims lines claim → Comes p proof block claims (line ∷ lines) claim
left p proof block line lines claims claim none (inl i) = inl i
left p proof block line lines claims claim none (inr (inl has)) = inr (inl (tree_earlier p proof line lines claim.subject none has))
left p proof block line lines claims claim none (inr (inr rest)) = absurd rest

comes : (p : Problem) (lines : List CertLine) (n : ℕ) (proof : State) (block : Option Block) (claims listed : List Claim) (claim : Claim) →
    claim_steps p (Going n (record { proof = proof; block = block; claims = claims })) lines ≡ Ended listed → In claim listed → claim.holds ≡ false →
    Comes p proof block claims lines claim
comes p [] n proof block claims listed claim e i fails = cc
comes p (Proof derives ∷ lines) n proof None claims listed claim e i fails =
    let parts = no_fault p (proof_fault proof derives) (n + 1) _ lines listed e in
    proof_comes p proof None claims derives lines claim parts.0 (comes p lines (n + 1) (next_state proof derives) None claims listed claim parts.1 i fails)
comes p (Holds subject f ∷ lines) n proof None claims listed claim e i fails =
    let parts = no_fault p (holds_fault p subject f) (n + 1) _ lines listed e in
    let new : Claim = record { subject = subject; holds = true } in
    behind p proof None (Holds subject f) lines claims new claim (λ more. refl) (λ same. absurd (true≢false (sym (ap (λ (c : Claim). c.holds) same) ∙ fails)))
    (comes p lines (n + 1) proof None (claims ++ new ∷ []) listed claim parts.1 i fails)
comes p (Fails subject ∷ lines) n proof None claims listed claim e i fails =
    let parts = no_fault p (subject_fault p subject) (n + 1) _ lines listed e in
    begins p proof subject claims lines claim (comes p lines (n + 1) proof (Some (record { subject = subject; at = Some [] })) claims listed claim parts.1 i fails)
comes p (Done ∷ lines) n proof None claims listed claim e i fails =
    let last : Ended claims ≡ Ended listed = sym (ended_stays p claims lines) ∙ e in let same : claims ≡ listed = cc in inl (subst (In claim) (sym same) i)
comes p (End None ∷ lines) n proof None claims listed claim e i fails = absurd (not_rejected p (n + 1) RejectKind.ExtraBranch lines listed e)
comes p (End (Some to) ∷ lines) n proof None claims listed claim e i fails = absurd (not_rejected p (n + 1) RejectKind.ExtraBranch lines listed e)
comes p (line ∷ lines) n proof None claims listed claim e i fails = absurd (not_rejected p (n + 1) RejectKind.ExtraBranch lines listed e)
comes p (Proof derives ∷ lines) n proof (Some block) claims listed claim e i fails =
    let parts = no_fault p (proof_fault proof derives) (n + 1) _ lines listed e in
    proof_comes p proof (Some block) claims derives lines claim parts.0 (comes p lines (n + 1) (next_state proof derives) (Some block) claims listed claim parts.1 i fails)
comes p (Branch depth last ∷ lines) n proof (Some block) claims listed claim e i fails =
    let tree = subject_tree p block.subject in
    let parts = no_fault p (tree_fault tree proof block.at (Branch depth last)) (n + 1) _ lines listed e in
    node_comes p proof block claims (Branch depth last) lines claim (λ more. refl) (λ more. refl) parts.0
    (comes p lines (n + 1) proof (Some (record block { at = tree_next tree block.at (Branch depth last) })) claims listed claim parts.1 i fails)
comes p (NoPoint depth last need clause ∷ lines) n proof (Some block) claims listed claim e i fails =
    let tree = subject_tree p block.subject in
    let parts = no_fault p (tree_fault tree proof block.at (NoPoint depth last need clause)) (n + 1) _ lines listed e in
    node_comes p proof block claims (NoPoint depth last need clause) lines claim (λ more. refl) (λ more. refl) parts.0
    (comes p lines (n + 1) proof (Some (record block { at = tree_next tree block.at (NoPoint depth last need clause) })) claims listed claim parts.1 i fails)
comes p (NoRelation depth last pair ∷ lines) n proof (Some block) claims listed claim e i fails =
    let tree = subject_tree p block.subject in
    let parts = no_fault p (tree_fault tree proof block.at (NoRelation depth last pair)) (n + 1) _ lines listed e in
    node_comes p proof block claims (NoRelation depth last pair) lines claim (λ more. refl) (λ more. refl) parts.0
    (comes p lines (n + 1) proof (Some (record block { at = tree_next tree block.at (NoRelation depth last pair) })) claims listed claim parts.1 i fails)
comes p (End None ∷ lines) n proof (Some block) claims listed claim e i fails =
    let parts = no_fault p (end_fault block.at None) (n + 1) _ lines listed e in
    let new : Claim = record { subject = block.subject; holds = false } in
    behind p proof (Some block) (End None) lines claims new claim (λ more. refl) (ends p proof block claims lines claim (ends_there block.at None parts.0))
    (comes p lines (n + 1) proof None (claims ++ new ∷ []) listed claim parts.1 i fails)
comes p (End (Some to) ∷ lines) n proof (Some block) claims listed claim e i fails = absurd (not_rejected p (n + 1) (stray_kind block.at) lines listed e)
comes p (Quit ∷ lines) n proof (Some block) claims listed claim e i fails =
    left p proof (Some block) Quit lines claims claim (λ more. refl) (comes p lines (n + 1) proof None claims listed claim e i fails)
comes p (line ∷ lines) n proof (Some block) claims listed claim e i fails = absurd (not_rejected p (n + 1) (stray_kind block.at) lines listed e)

pub accepted_claims_have_trees_law : AcceptedClaimsHaveTrees
accepted_claims_have_trees_law p switches lines claims e claim there_is fails =
    let begun = goes_on (claims_fault p switches) 1 (claim_steps p (Going 1 (claim_start p)) lines) claims e in
    by (comes p lines 1 (claim_start p).proof None [] claims claim begun (in_from_contains claims there_is) fails)
  where
    by : Comes p (claim_start p).proof None [] lines claim → HasTreeFrom p (claim_start p).proof lines claim.subject
    by (inl i) = absurd (none_in i)
    by (inr (inl has)) = has
    by (inr (inr rest)) = absurd rest
