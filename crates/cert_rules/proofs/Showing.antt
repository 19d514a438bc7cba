-- Each world of an accepted listing has a line with its family, and each other table one that refutes it.
use Rattle.std.proofs.Common.{◌≡◌, ℕ, ◌+◌, ◌<◌, Bool, true, false, cond, List, [], ◌∷◌, ◌++◌, length, Option, Some, None, inl, inr, refl, sym, ap, ◌∙◌, subst, append_assoc, IsTrue, Contains}
use Rattle.std.specs.Prelude.{nat_lt, is_none, MatchOption, ◌⊎◌}
use Rattle.std.specs.List.{list_all}
use Rattle.std.proofs.lemmas.Bool.{true≢false, and_parts, and_from, ltb-true}
use Rattle.rcc5_core.specs.declared.Rel.{Rel}
use Rattle.rcc5_core.specs.RelationSet.{is_empty_set}
use Rattle.lits_core.specs.declared.Line.{Line}
use Rattle.lits_core.specs.Literals.{negation_of}
use Rattle.lits_core.specs.Derivation.{State, has_lit, line_fault, next_state, state_after, is_valid_derivation}
use Rattle.world_model.specs.declared.Switches.{Switches}
use Rattle.world_model.specs.Problem.{Problem, pairs, pair_count}
use Rattle.world_model.specs.Family.{Family}
use Rattle.world_model.specs.Alive.{Need, allowed, problem_at}
use Rattle.world_model.specs.Node.{pair_at}
use Rattle.world_model.specs.Listing.{is_between}
use Rattle.world_model.proofs.Members.{In, here, there, all_at, from_filter_map, in_from_contains, contains_from_in}
use Rattle.world_model.proofs.PointAlive.{In-needs}
use Rattle.constraint_set.specs.Facts.{IsBuilt}
use Rattle.point_encode.specs.Model.Forced.{asked_of, IsClosedAt}
use Rattle.set_family.specs.Sets.{family_from, is_set_below}
use Rattle.cert_text.specs.declared.line.CertLine.{CertLine}
use Rattle.cert_text.specs.declared.line.CertLine.TheVariants.{Certificate, Claims, Proof, Branch, NoPoint, NoRelation, World, End}
use Rattle.cert_rules.specs.declared.RejectKind.{RejectKind}
use Rattle.cert_rules.specs.Trees.{Branching, table_along, same_position, names, is_branch, is_closed, point_fault, pair_fault, family_fault, table_fault, node_fault, tree_fault, tree_next, end_fault}
use Rattle.cert_rules.specs.Listings.{Status, Going, Ended, Rejected, unless, proof_fault, Stand, Listed, ForTree, role_of, after_proof, after_node, take_by, steps, listing_tree, start, header_fault, listing_status}
use Rattle.cert_rules.specs.ClaimLists.{claims_status}
use Rattle.cert_rules.specs.Files.{Verdict, Listing, ClaimList, as_listing}
use Rattle.cert_rules.specs.Laws.{LeavesAllowed, is_leaf}
use Rattle.cert_rules.specs.Shape.{Placed, proof_lines, other_lines, world_shown}
use Rattle.cert_rules.specs.Showing.{SaysOf, IsShownThere, IsRefutedThere, ShowsAll, AcceptedShowsAll}
use Rattle.cert_rules.specs.Writing.{IsClosedNeed, IsSoAt, TellsOf}
use Rattle.cert_rules.proofs.Leaves.{point_parts, forced_is_need}
use Rattle.cert_rules.proofs.Sound.{no_line_fault, both_none, family_met, same_positions, passes}
use Rattle.cert_rules.proofs.Refuting.{ended_stays, rejected_stays, tree_parts}
use Rattle.cert_rules.proofs.Refutations.{missing_are_refuted_law}
use Rattle.cert_rules.proofs.Headers.{no_fault}
use Rattle.cert_rules.proofs.ClosedClauses.{closed_at}
use Rattle.cert_rules.proofs.Shape.{Leads}
use Rattle.cert_rules.proofs.ListingShape.{IsRead, from_steps, no_proof_first}
use Rattle.cert_rules.proofs.Whole.{settled, bare_fails, listing_law}

-- a leaf or a world that has no fault says what is so
point_is_so : (p : Problem) (m : List Rel) (proof : State) (number clause : ℕ) → point_fault (problem_at p m) proof number clause ≡ None → IsClosedNeed p proof m number clause
point_is_so p m proof number clause none =
    let q = problem_at p m in
    let r = point_parts q proof number clause none in
    record {
      need = r.need;
      named = r.named;
      among = contains_from_in (In-needs q r.need (forced_is_need q number r.need r.named r.forced));
      closed = subst (λ live. MatchOption live ⊥ (IsClosedAt p m r.need)) (sym r.live) (closed_at p m r.need r.clause r.closed);
    }

pair_is_so : (p : Problem) (m : List Rel) (pair : ℕ) → pair_fault (problem_at p m) pair ≡ None →
    (pair < pair_count p) × IsTrue (is_empty_set (allowed (problem_at p m) (pair_at p pair)))
pair_is_so p m pair none =
    let both = and_parts (nat_lt pair (pair_count p)) (is_empty_set (allowed (problem_at p m) (pair_at p pair))) (passes _ RejectKind.PairNotEmpty none) in
    (ltb-true pair (pair_count p) both.0, both.1)

sets_are_such : (p : Problem) (f : Family) → family_fault p (family_from f.universe f.sets) ≡ None → list_all (is_set_below f.universe) f.sets ≡ true
sets_are_such p f none = by (list_all (is_set_below f.universe) f.sets) refl none
  where
    by : (b : Bool) → list_all (is_set_below f.universe) f.sets ≡ b → family_fault p (cond b (Some f) None) ≡ None → list_all (is_set_below f.universe) f.sets ≡ true
    by true e none = e
    by false e none = cc

line_is_so : (p : Problem) (from m : List Rel) (proof : State) (line : CertLine) → names m line ≡ true → is_branch line ≡ false → node_fault (listing_tree p from) proof m line ≡ None →
    IsSoAt p proof m line
line_is_so p from m proof (Branch depth last) named leaf none = absurd (true≢false leaf)
line_is_so p from m proof (NoPoint depth last need clause) named leaf none = point_is_so p m proof need clause none
line_is_so p from m proof (NoRelation depth last pair) named leaf none = pair_is_so p m pair none
line_is_so p from m proof (World depth last f) named leaf none =
    let both = both_none (family_fault p (family_from f.universe f.sets)) (table_fault (listing_tree p from) m f) none in
    record {
      sets = sets_are_such p f both.0;
      met = family_met p f both.0;
      table = same_positions (table_along (pairs p) f) m (passes (same_position (table_along (pairs p) f) m) RejectKind.FamilyHasOtherTable both.1);
    }
line_is_so p from m proof line named leaf none = absurd (true≢false (sym named))

tells_of : (p : Problem) (from m : List Rel) (proof : State) (line : CertLine) → is_branch line ≡ false → tree_fault (listing_tree p from) proof (Some m) line ≡ None → TellsOf p proof m line
tells_of p from m proof line leaf none =
    let parts = tree_parts (listing_tree p from) proof m line none in (parts.0, line_is_so p from m proof line parts.0 leaf parts.1)

-- what lines derive
record HasDerived (proof : State) (before : List CertLine) (after : State) : Type 0 where
  valid : is_valid_derivation proof (proof_lines before) ≡ true
  is : after ≡ state_after proof (proof_lines before)

one_more : (proof after : State) (derives : Line) (before : List CertLine) → line_fault proof derives ≡ None → HasDerived (next_state proof derives) before after →
    HasDerived proof (Proof derives ∷ before) after
one_more proof after derives before none has = record {
  valid = and_from (is_none (line_fault proof derives)) (is_valid_derivation (next_state proof derives) (proof_lines before)) (ap is_none none) has.valid;
  is = has.is;
}

none_more : (proof after : State) (line : CertLine) (before : List CertLine) → role_of line ≡ ForTree → HasDerived proof before after → HasDerived proof (line ∷ before) after
none_more proof after line before r has = record {
  valid = ap (is_valid_derivation proof) (no_proof_first line r before) ∙ has.valid;
  is = has.is ∙ ap (state_after proof) (sym (no_proof_first line r before));
}

-- where a stand was reached, no line before it has a fault
goes_on : (tree : Branching) (fault : Option RejectKind) (n : ℕ) (next : Status Stand Listed) (lines : List CertLine) (number : ℕ) (stand : Stand) →
    steps tree (unless fault n next) lines ≡ Going number stand → (fault ≡ None) × (steps tree next lines ≡ Going number stand)
goes_on tree None n next lines number stand e = (refl, e)
goes_on tree (Some kind) n next lines number stand e =
    let stays = rejected_stays tree n kind lines in let wrong : Rejected n kind ≡ Going number stand = sym stays ∙ e in cc

ends : (tree : Branching) (fault : Option RejectKind) (n : ℕ) (listed : Listed) (lines : List CertLine) (number : ℕ) (stand : Stand) →
    steps tree (unless fault n (Ended listed)) lines ≡ Going number stand → ⊥
ends tree fault n listed lines number stand e =
    let parts = goes_on tree fault n (Ended listed) lines number stand e in
    let wrong : Ended listed ≡ Going number stand = sym (ended_stays tree listed lines) ∙ parts.1 in
    cc

node_derived : (tree : Branching) (line : CertLine) (before : List CertLine) (n : ℕ) (s : Stand) (number : ℕ) (stand : Stand) → role_of line ≡ ForTree →
    steps tree (take_by tree n s line (role_of line)) before ≡ Going number stand →
    (steps tree (Going (n + 1) (after_node tree s line)) before ≡ Going number stand → HasDerived s.proof before stand.proof) → HasDerived s.proof (line ∷ before) stand.proof
node_derived tree line before n s number stand r e further =
    let taken : steps tree (take_by tree n s line ForTree) before ≡ Going number stand = subst (λ role. steps tree (take_by tree n s line role) before ≡ Going number stand) r e in
    let parts = goes_on tree (tree_fault tree s.proof s.at line) (n + 1) (Going (n + 1) (after_node tree s line)) before number stand taken in
    none_more s.proof stand.proof line before r (further parts.1)

has_derived : (tree : Branching) (before : List CertLine) (n : ℕ) (s : Stand) (number : ℕ) (stand : Stand) → steps tree (Going n s) before ≡ Going number stand →
    HasDerived s.proof before stand.proof
has_derived tree [] n s number stand e = let same : s ≡ stand = cc in record { valid = refl; is = ap (λ (s : Stand). s.proof) (sym same) }
has_derived tree (Proof derives ∷ before) n s number stand e =
    let parts = goes_on tree (proof_fault s.proof derives) (n + 1) (Going (n + 1) (after_proof s derives)) before number stand e in
    one_more s.proof stand.proof derives before (no_line_fault (line_fault s.proof derives) parts.0) (has_derived tree before (n + 1) (after_proof s derives) number stand parts.1)
has_derived tree (End to ∷ before) n s number stand e = absurd (ends tree (end_fault s.at to) (n + 1) (record { to = to; worlds = s.worlds }) before number stand e)
has_derived tree (line ∷ before) n s number stand e =
    node_derived tree line before n s number stand refl e (λ e. has_derived tree before (n + 1) (after_node tree s line) number stand e)

-- where one of the tree's lines stands among all lines
record HasPlace (proof : State) (lines : List CertLine) (placed : Placed) : Type 0 where
  before : List CertLine
  after : List CertLine
  split : lines ≡ before ++ placed.line ∷ after
  derived : HasDerived proof before placed.proof

place_of : (lines : List CertLine) (proof : State) (placed : Placed) → is_valid_derivation proof (proof_lines lines) ≡ true → In placed (other_lines proof lines) → HasPlace proof lines placed
place_of [] proof placed valid i = elim i [ ]
place_of (Proof derives ∷ lines) proof placed valid i =
    let parts = and_parts (is_none (line_fault proof derives)) (is_valid_derivation (next_state proof derives) (proof_lines lines)) valid in
    let place = place_of lines (next_state proof derives) placed parts.1 i in
    record {
      before = Proof derives ∷ place.before;
      after = place.after;
      split = ap (λ l. Proof derives ∷ l) place.split;
      derived = record { valid = and_from (is_none (line_fault proof derives)) (is_valid_derivation (next_state proof derives) (proof_lines place.before)) parts.0 place.derived.valid; is = place.derived.is };
    }
place_of (line ∷ lines) proof placed valid i = by i (place_of lines proof placed valid)
  where
    by : In placed (record { proof = proof; line = line } ∷ other_lines proof lines) → (In placed (other_lines proof lines) → HasPlace proof lines placed) → HasPlace proof (line ∷ lines) placed
    by (here e) further = record {
      before = [];
      after = lines;
      split = ap (λ (x : Placed). x.line ∷ lines) (sym e);
      derived = record { valid = refl; is = ap (λ (x : Placed). x.proof) e };
    }
    by (there j) further =
        let place = further j in record {
          before = line ∷ place.before;
          after = place.after;
          split = ap (λ l. line ∷ l) place.split;
          derived = record { valid = place.derived.valid; is = place.derived.is };
        }

-- each of them is right at some node
right_somewhere : (tree : Branching) (at : Option (List Rel)) (lines : List Placed) (to : Option (List Rel)) (placed : Placed) → Leads tree at lines to → In placed lines →
    (m : List Rel) × (tree_fault tree placed.proof (Some m) placed.line ≡ None)
right_somewhere tree at [] to placed leads i = elim i [ ]
right_somewhere tree None (x ∷ lines) to placed leads i = let none = leads.0 in cc
right_somewhere tree (Some m) (x ∷ lines) to placed leads (here e) = (m, subst (λ (x : Placed). tree_fault tree x.proof (Some m) x.line ≡ None) (sym e) leads.0)
right_somewhere tree (Some m) (x ∷ lines) to placed leads (there i) = right_somewhere tree (tree_next tree (Some m) x.line) lines to placed leads.1 i

-- what is said behind the first line
said : (p : Problem) (from m : List Rel) (switches : Switches) (lines before after : List CertLine) (line : CertLine) (proof : State) → lines ≡ before ++ line ∷ after →
    HasDerived (start p).proof before proof → TellsOf p proof m line → SaysOf p (Certificate switches from ∷ lines) m line
said p from m switches lines before after line proof split derived tells = record {
  before = Certificate switches from ∷ before;
  after = after;
  split = ap (λ l. Certificate switches from ∷ l) split;
  derivation = derived.valid;
  tells = subst (λ state. TellsOf p state m line) derived.is tells;
}

-- a line that shows a world
world_line : (p : Problem) (switches : Switches) (from : List Rel) (lines : List CertLine) (table m : List Rel) (proof : State) (line : CertLine) (before after : List CertLine) →
    lines ≡ before ++ line ∷ after → HasDerived (start p).proof before proof → world_shown (listing_tree p from) line ≡ Some table →
    tree_fault (listing_tree p from) proof (Some m) line ≡ None → IsShownThere p (Certificate switches from ∷ lines) table
world_line p switches from lines table m proof (World depth last f) before after split derived shown none =
    let tells = tells_of p from m proof (World depth last f) refl none in
    let at : table_along (pairs p) f ≡ table = cc in
    let same : m ≡ table = sym tells.1.table ∙ at in
    record {
      depth = depth;
      last = last;
      family = f;
      says = subst (λ t. SaysOf p (Certificate switches from ∷ lines) t (World depth last f)) same (said p from m switches lines before after (World depth last f) proof split derived tells);
    }
world_line p switches from lines table m proof line before after split derived shown none = cc

leaf_no_branch : (line : CertLine) → is_leaf line ≡ true → is_branch line ≡ false
leaf_no_branch (Branch depth last) leaf = absurd (true≢false (sym leaf))
leaf_no_branch line leaf = refl

shows_all : (p : Problem) → IsBuilt p → (switches : Switches) (from : List Rel) (lines : List CertLine) (listed : Listed) → listing_status p switches from lines ≡ Ended listed →
    ShowsAll p from listed.to listed.worlds (Certificate switches from ∷ lines)
shows_all p built switches from lines listed e = record { worlds_are_shown = world; missing_are_refuted = missing }
  where
    tree : Branching
    tree = listing_tree p from

    parts : (header_fault p switches from ≡ None) × (steps (listing_tree p from) (Going 1 (start p)) lines ≡ Ended listed)
    parts = no_fault (header_fault p switches from) 1 (steps (listing_tree p from) (Going 1 (start p)) lines) listed e

    read : IsRead (listing_tree p from) (start p).proof (Some []) [] lines listed
    read = from_steps (listing_tree p from) lines 1 (start p).proof (Some []) [] listed parts.1

    world : (table : List Rel) → Contains listed.worlds table → IsShownThere p (Certificate switches from ∷ lines) table
    world table there_is =
        let i = subst (In table) read.shown (in_from_contains listed.worlds there_is) in
        let given = from_filter_map (λ (x : Placed). world_shown (listing_tree p from) x.line) (other_lines (start p).proof read.body) i in
        let place = place_of read.body (start p).proof given.source read.derivation given.member in
        let right = right_somewhere (listing_tree p from) (Some []) (other_lines (start p).proof read.body) listed.to given.source read.leads given.member in
        let after : List CertLine = place.after ++ End listed.to ∷ read.rest in
        let split : lines ≡ place.before ++ given.source.line ∷ after = joined read.body place.before place.after given.source.line read.split place.split in
        world_line p switches from lines table right.0 given.source.proof given.source.line place.before after split place.derived given.is right.1
      where
        joined : (body before after : List CertLine) (line : CertLine) → lines ≡ body ++ End listed.to ∷ read.rest → body ≡ before ++ line ∷ after →
            lines ≡ before ++ line ∷ (after ++ End listed.to ∷ read.rest)
        joined body before after line all split =
            all ∙ ap (λ l. l ++ End listed.to ∷ read.rest) split ∙ append_assoc before (line ∷ after) (End listed.to ∷ read.rest)

    missing : (table : List Rel) → length table ≡ pair_count p → IsTrue (is_between from listed.to table) → (Contains listed.worlds table → ⊥) →
        LeavesAllowed p table ⊎ IsRefutedThere p (Certificate switches from ∷ lines) table
    missing table long between out =
        let is = listing_law p built switches from lines listed e in
        elim (missing_are_refuted_law p built switches from lines listed e table long between (λ w. out ((is.members table).1 (w, between)))) [
          | inl leaves ↦ inl leaves
          | inr r ↦
              let derived = has_derived (listing_tree p from) r.place.before 1 (start p) r.place.number r.stand r.place.reached in
              inr (record {
                prefix = r.prefix;
                begins = r.begins;
                line = r.line;
                leaf = r.leaf;
                says =
                    said p from r.prefix switches lines r.place.before r.place.after r.line r.stand.proof r.place.split derived
                    (tells_of p from r.prefix r.stand.proof r.line (leaf_no_branch r.line r.leaf) r.faultless);
                dead = r.dead;
              })
        ]

-- a verdict's listing is shown
abbrev IsShownVerdict : Problem → List CertLine → Verdict → Type 0
IsShownVerdict p lines (Listing from to worlds) = ShowsAll p from to worlds lines
IsShownVerdict p lines (ClaimList claims) = Unit {0}

pub accepted_shows_all_law : {K : Type 0} → AcceptedShowsAll K
accepted_shows_all_law p built [] end from to worlds e = absurd (bare_fails end (Listing from to worlds) e)
accepted_shows_all_law p built (Certificate switches start_at ∷ lines) end from to worlds e =
    let h = settled (as_listing start_at) (listing_status p switches start_at lines) end (Listing from to worlds) e in
    subst (IsShownVerdict p (Certificate switches start_at ∷ lines)) h.is (shows_all p built switches start_at lines h.end h.ended)
accepted_shows_all_law p built (Claims switches ∷ lines) end from to worlds e =
    let h = settled ClaimList (claims_status p switches lines) end (Listing from to worlds) e in let wrong = h.is in cc
accepted_shows_all_law p built (line ∷ lines) end from to worlds e = cc
