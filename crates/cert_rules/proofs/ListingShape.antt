-- The lines of an accepted listing are those of a tree, and the lines of such a tree are accepted.
use Rattle.std.proofs.Common.{◌≡◌, ℕ, ◌+◌, true, List, [], ◌∷◌, ◌++◌, Option, Some, None, refl, sym, ap, ◌∙◌, subst, append_assoc, append-nil}
use Rattle.std.specs.Prelude.{is_none, option_to_list}
use Rattle.std.specs.List.{cons_option}
use Rattle.std.proofs.lemmas.Bool.{and_parts, and_from}
use Rattle.rcc5_core.specs.declared.Rel.{Rel}
use Rattle.lits_core.specs.declared.Line.{Line}
use Rattle.lits_core.specs.Derivation.{State, line_fault, next_state, is_valid_derivation}
use Rattle.lits_core.proofs.DerivationLemmas.{is_none-None}
use Rattle.set_family.specs.Sets.{family_from}
use Rattle.cert_text.specs.declared.line.CertLine.{CertLine}
use Rattle.cert_text.specs.declared.line.CertLine.TheVariants.{Proof, World, End}
use Rattle.cert_rules.specs.declared.RejectKind.{RejectKind}
use Rattle.cert_rules.specs.Trees.{Branching, table_along, same_position, family_fault, table_fault, node_fault, tree_fault, tree_next, end_fault}
use Rattle.cert_rules.specs.Listings.{Going, Ended, unless, proof_fault, Stand, Listed, ForTree, role_of, with_world, after_proof, after_node, take_by, steps, listing_tree, start, header_fault}
use Rattle.cert_rules.specs.Shape.{proof_lines, other_lines, world_shown, worlds_shown, AcceptedIsATree}
use Rattle.cert_rules.proofs.Sound.{no_line_fault, ends_there, both_none, same_positions, passes}
use Rattle.cert_rules.proofs.Refuting.{no_fault, ended_stays, tree_parts}
use Rattle.cert_rules.proofs.Headers as headers
use Rattle.cert_rules.proofs.Writing.{line_leads, end_is_faultless}
use Rattle.cert_rules.proofs.Shape.{Leads, leads_is_tree, tree_is_led}

-- lines that lead from a stand to an end
pub record IsRead (tree : Branching) (proof : State) (at : Option (List Rel)) (worlds : List (List Rel)) (lines : List CertLine) (listed : Listed) : Type 0 where
  pub body : List CertLine
  pub rest : List CertLine
  pub split : lines ≡ body ++ End listed.to ∷ rest
  pub derivation : is_valid_derivation proof (proof_lines body) ≡ true
  pub leads : Leads tree at (other_lines proof body) listed.to
  pub shown : listed.worlds ≡ worlds ++ worlds_shown tree (other_lines proof body)

-- a line of the tree is none of the derivation
other_first : (line : CertLine) → role_of line ≡ ForTree → (proof : State) (lines : List CertLine) →
    other_lines proof (line ∷ lines) ≡ record { proof = proof; line = line } ∷ other_lines proof lines
other_first (Proof derives) r proof lines = cc
other_first line r proof lines = refl

pub no_proof_first : (line : CertLine) → role_of line ≡ ForTree → (lines : List CertLine) → proof_lines (line ∷ lines) ≡ proof_lines lines
no_proof_first (Proof derives) r lines = cc
no_proof_first line r lines = refl

-- what a world's line shows is its node
world_is_node : (tree : Branching) (proof : State) (m : List Rel) (worlds : List (List Rel)) (line : CertLine) → node_fault tree proof m line ≡ None →
    with_world worlds (Some m) line ≡ worlds ++ option_to_list (world_shown tree line)
world_is_node tree proof m worlds (World depth last f) none =
    let both = both_none (family_fault tree.subject (family_from f.universe f.sets)) (table_fault tree m f) none in
    let same = same_positions (table_along tree.levels f) m (passes (same_position (table_along tree.levels f) m) RejectKind.FamilyHasOtherTable both.1) in
    ap (λ t. worlds ++ t ∷ []) (sym same)
world_is_node tree proof m worlds line none = sym (append-nil worlds)

shown_first : (worlds : List (List Rel)) (shown : Option (List Rel)) (rest : List (List Rel)) → worlds ++ cons_option shown rest ≡ (worlds ++ option_to_list shown) ++ rest
shown_first worlds None rest = ap (λ l. l ++ rest) (sym (append-nil worlds))
shown_first worlds (Some t) rest = sym (append_assoc worlds (t ∷ []) rest)

end_read : (tree : Branching) (to : Option (List Rel)) (lines : List CertLine) (n : ℕ) (proof : State) (at : Option (List Rel)) (worlds : List (List Rel)) (listed : Listed) →
    steps tree (unless (end_fault at to) (n + 1) (Ended (record { to = to; worlds = worlds }))) lines ≡ Ended listed → IsRead tree proof at worlds (End to ∷ lines) listed
end_read tree to lines n proof at worlds listed e =
    let parts = no_fault tree (end_fault at to) (n + 1) (Ended (record { to = to; worlds = worlds })) lines listed e in
    let last : Ended (record { to = to; worlds = worlds }) ≡ Ended listed = sym (ended_stays tree (record { to = to; worlds = worlds }) lines) ∙ parts.1 in
    let same : record { to = to; worlds = worlds } ≡ listed = cc in
    subst (IsRead tree proof at worlds (End to ∷ lines)) same
    (record { body = []; rest = lines; split = refl; derivation = refl; leads = ends_there at to parts.0; shown = sym (append-nil worlds) })

proof_read : (tree : Branching) (derives : Line) (lines : List CertLine) (proof : State) (at : Option (List Rel)) (worlds : List (List Rel)) (listed : Listed) →
    proof_fault proof derives ≡ None → IsRead tree (next_state proof derives) at worlds lines listed → IsRead tree proof at worlds (Proof derives ∷ lines) listed
proof_read tree derives lines proof at worlds listed none read = record {
  body = Proof derives ∷ read.body;
  rest = read.rest;
  split = ap (λ l. Proof derives ∷ l) read.split;
  derivation =
      and_from (is_none (line_fault proof derives)) (is_valid_derivation (next_state proof derives) (proof_lines read.body)) (ap is_none (no_line_fault (line_fault proof derives) none)) read.derivation;
  leads = read.leads;
  shown = read.shown;
}

node_read : (tree : Branching) (line : CertLine) (lines : List CertLine) (n : ℕ) (proof : State) (at : Option (List Rel)) (worlds : List (List Rel)) (listed : Listed) → role_of line ≡ ForTree →
    steps tree (take_by tree n (record { proof = proof; at = at; worlds = worlds }) line (role_of line)) lines ≡ Ended listed →
    ((n : ℕ) (at : Option (List Rel)) (worlds : List (List Rel)) → steps tree (Going n (record { proof = proof; at = at; worlds = worlds })) lines ≡ Ended listed →
    IsRead tree proof at worlds lines listed) → IsRead tree proof at worlds (line ∷ lines) listed
node_read tree line lines n proof at worlds listed r e further =
    let s : Stand = record { proof = proof; at = at; worlds = worlds } in
    let taken : steps tree (take_by tree n s line ForTree) lines ≡ Ended listed = subst (λ role. steps tree (take_by tree n s line role) lines ≡ Ended listed) r e in
    let parts = no_fault tree (tree_fault tree proof at line) (n + 1) (Going (n + 1) (after_node tree s line)) lines listed taken in
    by at parts.0 (further (n + 1) (tree_next tree at line) (with_world worlds at line) parts.1)
  where
    by : (at : Option (List Rel)) → tree_fault tree proof at line ≡ None → IsRead tree proof (tree_next tree at line) (with_world worlds at line) lines listed →
        IsRead tree proof at worlds (line ∷ lines) listed
    by None none read = cc
    by (Some m) none read = record {
      body = line ∷ read.body;
      rest = read.rest;
      split = ap (λ l. line ∷ l) read.split;
      derivation = ap (is_valid_derivation proof) (no_proof_first line r read.body) ∙ read.derivation;
      leads = subst (λ l. Leads tree (Some m) l listed.to) (sym (other_first line r proof read.body)) (none, read.leads);
      shown =
          read.shown ∙ ap (λ l. l ++ worlds_shown tree (other_lines proof read.body)) (world_is_node tree proof m worlds line (tree_parts tree proof m line none).1)
          ∙ sym (shown_first worlds (world_shown tree line) (worlds_shown tree (other_lines proof read.body)))
          ∙ ap (λ l. worlds ++ worlds_shown tree l) (sym (other_first line r proof read.body));
    }

pub from_steps : (tree : Branching) (lines : List CertLine) (n : ℕ) (proof : State) (at : Option (List Rel)) (worlds : List (List Rel)) (listed : Listed) →
    steps tree (Going n (record { proof = proof; at = at; worlds = worlds })) lines ≡ Ended listed → IsRead tree proof at worlds lines listed
from_steps tree [] n proof at worlds listed e = cc
from_steps tree (Proof derives ∷ lines) n proof at worlds listed e =
    let s : Stand = record { proof = proof; at = at; worlds = worlds } in
    let parts = no_fault tree (proof_fault proof derives) (n + 1) (Going (n + 1) (after_proof s derives)) lines listed e in
    proof_read tree derives lines proof at worlds listed parts.0 (from_steps tree lines (n + 1) (next_state proof derives) at worlds listed parts.1)
from_steps tree (End to ∷ lines) n proof at worlds listed e = end_read tree to lines n proof at worlds listed e
from_steps tree (line ∷ lines) n proof at worlds listed e =
    node_read tree line lines n proof at worlds listed refl e (λ n at worlds e. from_steps tree lines n proof at worlds listed e)

-- and back
end_steps : (tree : Branching) (rest : List CertLine) (n : ℕ) (proof : State) (at : Option (List Rel)) (worlds : List (List Rel)) (listed : Listed) → at ≡ listed.to → listed.worlds ≡ worlds ++ [] →
    steps tree (Going n (record { proof = proof; at = at; worlds = worlds })) (End listed.to ∷ rest) ≡ Ended listed
end_steps tree rest n proof at worlds listed ends shown =
    ap (λ fault. steps tree (unless fault (n + 1) (Ended (record { to = listed.to; worlds = worlds }))) rest) (ap (λ at. end_fault at listed.to) ends ∙ end_is_faultless listed.to)
    ∙ ended_stays tree (record { to = listed.to; worlds = worlds }) rest
    ∙ ap (λ w. Ended (record { to = listed.to; worlds = w })) (sym (shown ∙ append-nil worlds))

no_end : (tree : Branching) (proof : State) (at to : Option (List Rel)) → tree_fault tree proof at (End to) ≡ None → ⊥
no_end tree proof None to none = cc
no_end tree proof (Some m) to none = cc

node_steps : (tree : Branching) (line : CertLine) (lines : List CertLine) (n : ℕ) (proof : State) (at : Option (List Rel)) (worlds : List (List Rel)) (listed : Listed) → role_of line ≡ ForTree →
    tree_fault tree proof at line ≡ None → (shown : List (List Rel)) → listed.worlds ≡ worlds ++ cons_option (world_shown tree line) shown →
    ((n : ℕ) (worlds : List (List Rel)) → listed.worlds ≡ worlds ++ shown →
    steps tree (Going n (record { proof = proof; at = tree_next tree at line; worlds = worlds })) lines ≡ Ended listed) →
    steps tree (Going n (record { proof = proof; at = at; worlds = worlds })) (line ∷ lines) ≡ Ended listed
node_steps tree line lines n proof at worlds listed r none shown is further =
    let s : Stand = record { proof = proof; at = at; worlds = worlds } in
    ap (λ role. steps tree (take_by tree n s line role) lines) r ∙ ap (λ fault. steps tree (unless fault (n + 1) (Going (n + 1) (after_node tree s line))) lines) none
    ∙ further (n + 1) (with_world worlds at line) (is ∙ shown_first worlds (world_shown tree line) shown ∙ ap (λ l. l ++ shown) (by at none))
  where
    by : (at : Option (List Rel)) → tree_fault tree proof at line ≡ None → worlds ++ option_to_list (world_shown tree line) ≡ with_world worlds at line
    by None none = cc
    by (Some m) none = sym (world_is_node tree proof m worlds line (tree_parts tree proof m line none).1)

to_steps : (tree : Branching) (body rest : List CertLine) (n : ℕ) (proof : State) (at : Option (List Rel)) (worlds : List (List Rel)) (listed : Listed) →
    is_valid_derivation proof (proof_lines body) ≡ true → Leads tree at (other_lines proof body) listed.to → listed.worlds ≡ worlds ++ worlds_shown tree (other_lines proof body) →
    steps tree (Going n (record { proof = proof; at = at; worlds = worlds })) (body ++ End listed.to ∷ rest) ≡ Ended listed
to_steps tree [] rest n proof at worlds listed valid leads shown = end_steps tree rest n proof at worlds listed leads shown
to_steps tree (Proof derives ∷ body) rest n proof at worlds listed valid leads shown =
    let s : Stand = record { proof = proof; at = at; worlds = worlds } in
    let parts = and_parts (is_none (line_fault proof derives)) (is_valid_derivation (next_state proof derives) (proof_lines body)) valid in
    ap (λ status. steps tree status (body ++ End listed.to ∷ rest)) (line_leads tree n s derives (is_none-None (line_fault proof derives) parts.0))
    ∙ to_steps tree body rest (n + 1) (next_state proof derives) at worlds listed parts.1 leads shown
to_steps tree (End to ∷ body) rest n proof at worlds listed valid leads shown = absurd (no_end tree proof at to leads.0)
to_steps tree (line ∷ body) rest n proof at worlds listed valid leads shown =
    node_steps tree line (body ++ End listed.to ∷ rest) n proof at worlds listed refl leads.0 (worlds_shown tree (other_lines proof body)) shown
    (λ n worlds shown. to_steps tree body rest n proof (tree_next tree at line) worlds listed valid leads.1 shown)

pub accepted_is_a_tree_law : AcceptedIsATree
accepted_is_a_tree_law p switches from lines listed = (
  λ e.
      let parts = headers.no_fault (header_fault p switches from) 1 (steps tree (Going 1 (start p)) lines) listed e in
      let read = from_steps tree lines 1 (start p).proof (Some []) [] listed parts.1 in
      record {
        header = parts.0;
        body = read.body;
        rest = read.rest;
        split = read.split;
        derivation = read.derivation;
        tree = leads_is_tree tree (other_lines (start p).proof read.body) listed.to read.leads;
        worlds = read.shown;
      },
  λ is.
      ap (λ fault. unless fault 1 (steps tree (Going 1 (start p)) lines)) is.header ∙ ap (steps tree (Going 1 (start p))) is.split
      ∙ to_steps tree is.body is.rest 1 (start p).proof (Some []) [] listed is.derivation (tree_is_led tree (other_lines (start p).proof is.body) listed.to is.tree) is.worlds,
)
  where
    tree : Branching
    tree = listing_tree p from
