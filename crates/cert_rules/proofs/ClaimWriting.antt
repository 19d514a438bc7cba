-- What is written of claims keeps up.
use Rattle.std.proofs.Common.{◌≡◌, ℕ, ◌+◌, true, false, cond, List, [], ◌∷◌, ◌++◌, length, Option, Some, None, refl, sym, ap, ◌∙◌, subst, IsTrue}
use Rattle.std.specs.Prelude.{is_none}
use Rattle.std.specs.Option.{option_map}
use Rattle.std.proofs.lemmas.Bool.{and_parts}
use Rattle.rcc5_core.specs.declared.Rel.{Rel}
use Rattle.lits_core.specs.declared.Line.{Line}
use Rattle.lits_core.specs.Derivation.{State, line_fault, next_state, state_after, is_valid_derivation, SameState}
use Rattle.lits_core.proofs.DerivationLemmas.{is_none-None}
use Rattle.world_model.specs.Problem.{Problem}
use Rattle.world_model.specs.Family.{Family}
use Rattle.world_model.proofs.PointOnce.{at_empty}
use Rattle.set_family.specs.Sets.{family_from}
use Rattle.cert_text.specs.declared.line.Subject.{Subject}
use Rattle.cert_text.specs.declared.line.CertLine.{CertLine}
use Rattle.cert_text.specs.declared.line.CertLine.TheVariants.{Proof, Branch, NoPoint, NoRelation, Holds, Fails, End, Quit, Done}
use Rattle.cert_rules.specs.declared.RejectKind.{RejectKind}
use Rattle.cert_rules.specs.Trees.{Branching, node_problem, fault_or, node_fault, tree_fault, tree_next, family_fault, point_fault}
use Rattle.cert_rules.specs.Listings.{Status, Going, unless, as_kind}
use Rattle.cert_rules.specs.ClaimLists.{subject_problem, subject_tree, Claim, Block, ClaimStand, with_block, holds_fault, ForNode, claim_role, take_inside, claim_step, claim_steps, claim_start}
use Rattle.cert_rules.specs.ClaimWriting.{ClaimsKeepUp, IsSoWithin, TellsWithin, ShowsSubject, open_at, one_more, ClaimsPutKeepUp}
use Rattle.cert_rules.proofs.Writing.{alike, same_trans, valid_append, after_append, point_is_faultless, pair_is_faultless, branch_is_faultless, switches_same}

-- lines, and then more
steps_append : (p : Problem) (status : Status ClaimStand (List Claim)) (a b : List CertLine) → claim_steps p status (a ++ b) ≡ claim_steps p (claim_steps p status a) b
steps_append p status [] b = refl
steps_append p status (line ∷ a) b = steps_append p (claim_step p status line) a b

-- a stand by its parts
abbrev pub stand_of : State → Option Block → List Claim → ClaimStand
stand_of proof block claims = record { proof = proof; block = block; claims = claims }

-- a derivation line, whether a tree is open or none
line_leads : (p : Problem) (n : ℕ) (proof : State) (block : Option Block) (claims : List Claim) (line : Line) → line_fault proof line ≡ None →
    claim_step p (Going n (stand_of proof block claims)) (Proof line) ≡ Going (n + 1) (stand_of (next_state proof line) block claims)
line_leads p n proof None claims line none = ap (λ fault. unless (option_map as_kind fault) (n + 1) (Going (n + 1) (stand_of (next_state proof line) None claims))) none
line_leads p n proof (Some block) claims line none = ap (λ fault. unless (option_map as_kind fault) (n + 1) (Going (n + 1) (stand_of (next_state proof line) (Some block) claims))) none

keeps_goes : (p : Problem) (lines : List CertLine) (waiting added : List Line) (one other : State) (block : Option Block) (claims : List Claim) →
    ClaimsKeepUp p lines waiting one block claims → IsTrue (is_valid_derivation one added) → SameState (state_after one added) other →
    ClaimsKeepUp p lines (waiting ++ added) other block claims
keeps_goes p lines waiting added one other block claims k valid same =
    let go = alike one (state_after k.proof waiting) added k.same valid in
    record {
      number = k.number;
      proof = k.proof;
      reached = k.reached;
      valid = valid_append k.proof waiting added k.valid go.valid;
      same = subst (λ state. SameState state other) (sym (after_append k.proof waiting added))
          (same_trans (state_after (state_after k.proof waiting) added) (state_after one added) other go.same same);
    }

one_flushed : (p : Problem) (lines : List CertLine) (line : Line) (waiting : List Line) (state : State) (block : Option Block) (claims : List Claim) →
    ClaimsKeepUp p lines (line ∷ waiting) state block claims → ClaimsKeepUp p (lines ++ Proof line ∷ []) waiting state block claims
one_flushed p lines line waiting state block claims k =
    let parts = and_parts (is_none (line_fault k.proof line)) (is_valid_derivation (next_state k.proof line) waiting) k.valid in
    record {
      number = k.number + 1;
      proof = next_state k.proof line;
      reached = steps_append p (Going 1 (claim_start p)) lines (Proof line ∷ []) ∙ ap (λ status. claim_step p status (Proof line)) k.reached ∙
          line_leads p k.number k.proof block claims line (is_none-None (line_fault k.proof line) parts.0);
      valid = parts.1;
      same = k.same;
    }

-- one more line, where none waits
one_line : (p : Problem) (lines : List CertLine) (state : State) (block next : Option Block) (claims more : List Claim) (line : CertLine) → (k : ClaimsKeepUp p lines [] state block claims) →
    claim_step p (Going k.number (stand_of k.proof block claims)) line ≡ Going (k.number + 1) (stand_of k.proof next more) → ClaimsKeepUp p (lines ++ line ∷ []) [] state next more
one_line p lines state block next claims more line k is = record {
  number = k.number + 1;
  proof = k.proof;
  reached = steps_append p (Going 1 (claim_start p)) lines (line ∷ []) ∙ ap (λ status. claim_step p status line) k.reached ∙ is;
  valid = refl;
  same = k.same;
}

-- a claim that holds has no fault
holds_is_faultless : (p : Problem) (subject : Subject) (f : Family) → ShowsSubject p subject f → holds_fault p subject f ≡ None
holds_is_faultless p subject f s =
    let q = subject_problem p subject in
    let made : family_from f.universe f.sets ≡ Some f = ap (λ b. cond b (Some f) None) s.sets in
    ap (λ fault. fault_or fault (family_fault q (family_from f.universe f.sets))) s.subject_is ∙ ap (family_fault q) made ∙ ap (λ b. cond b None (Some RejectKind.FamilyDoesNotMeet)) s.met

-- nor has a line that says what is so of its node
node_is_faultless : (tree : Branching) (proof state : State) (m : List Rel) (line : CertLine) → SameState proof state → IsSoWithin tree state m line → node_fault tree proof m line ≡ None
node_is_faultless tree proof state m (Branch depth last) same so = branch_is_faultless m (length tree.levels) so
node_is_faultless tree proof state m (NoPoint depth last need clause) same so =
    subst (λ q. point_fault q proof need clause ≡ None) (at_empty (node_problem tree m)) (point_is_faultless (node_problem tree m) [] proof state need clause same so)
node_is_faultless tree proof state m (NoRelation depth last pair) same so = pair_is_faultless (node_problem tree m) pair so.0 so.1
node_is_faultless tree proof state m line same so = absurd so

node_role : (tree : Branching) (state : State) (m : List Rel) (line : CertLine) → IsSoWithin tree state m line → claim_role line ≡ ForNode
node_role tree state m (Branch depth last) so = refl
node_role tree state m (NoPoint depth last need clause) so = refl
node_role tree state m (NoRelation depth last pair) so = refl
node_role tree state m line so = absurd so

node_leads : (p : Problem) (n : ℕ) (proof state : State) (claims : List Claim) (subject : Subject) (m : List Rel) (line : CertLine) → SameState proof state →
    TellsWithin (subject_tree p subject) state m line →
    claim_step p (Going n (stand_of proof (open_at subject (Some m)) claims)) line ≡
    Going (n + 1) (stand_of proof (open_at subject (tree_next (subject_tree p subject) (Some m) line)) claims)
node_leads p n proof state claims subject m line same tells =
    let tree = subject_tree p subject in
    let block : Block = record { subject = subject; at = Some m } in
    let s = stand_of proof (Some block) claims in
    let none : tree_fault tree proof (Some m) line ≡ None =
    ap (λ b. cond b (node_fault tree proof m line) (Some RejectKind.MissingBranch)) tells.0 ∙ node_is_faultless tree proof state m line same tells.1 in
    ap (take_inside p n s block line) (node_role tree state m line tells.1) ∙
    ap (λ fault. unless fault (n + 1) (Going (n + 1) (with_block s (record block { at = tree_next tree (Some m) line })))) none

pub claims_put_keep_up_law : ClaimsPutKeepUp
claims_put_keep_up_law = record {
  begins = λ p state same. record { number = 1; proof = (claim_start p).proof; reached = refl; valid = refl; same = same };
  goes = keeps_goes;
  flushed = one_flushed;
  holds = λ p lines state claims subject f k shows. one_line p lines state None None claims (one_more claims subject true) (Holds subject f) k
      (ap (λ fault. unless fault (k.number + 1) (Going (k.number + 1) (stand_of k.proof None (one_more claims subject true)))) (holds_is_faultless p subject f shows));
  fails = λ p lines state claims subject k none. one_line p lines state None (open_at subject (Some [])) claims claims (Fails subject) k
      (ap (λ fault. unless fault (k.number + 1) (Going (k.number + 1) (stand_of k.proof (open_at subject (Some [])) claims))) none);
  node = λ p lines state claims subject m line k tells.
      one_line p lines state (open_at subject (Some m)) (open_at subject (tree_next (subject_tree p subject) (Some m) line)) claims claims line k
      (node_leads p k.number k.proof state claims subject m line k.same tells);
  whole = λ p lines state claims subject k. one_line p lines state (open_at subject None) None claims (one_more claims subject false) (End None) k refl;
  quit = λ p lines state claims block k. one_line p lines state (Some block) None claims claims Quit k refl;
  done = λ p lines state claims k.
      ap (λ fault. unless fault 1 (claim_steps p (Going 1 (claim_start p)) (lines ++ Done ∷ []))) (ap (λ b. cond b None (Some RejectKind.WrongHeader)) (switches_same p.switches)) ∙
      steps_append p (Going 1 (claim_start p)) lines (Done ∷ []) ∙ ap (λ status. claim_step p status Done) k.reached;
}
