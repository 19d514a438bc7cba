-- What the lines of a list of claims leave so: each claim is so, and an open tree has found no table before its expected node.
use Rattle.std.proofs.Common.{◌≡◌, ℕ, ◌+◌, Bool, true, false, not, ◌||◌, ◌&&◌, List, [], ◌∷◌, ◌++◌, length, Option, Some, None, inl, inr, refl, sym, ◌∙◌, subst, arith}
use Rattle.std.specs.Prelude.{nat_lt, ◌==◌}
use Rattle.std.specs.List.{list_all}
use Rattle.std.proofs.lemmas.Bool.{true≢false, and_parts, and_from, eqb-true, eq-eqb, ltb-true, lt-ltb}
use Rattle.std.proofs.lemmas.List.Folds.{list_all-append}
use Rattle.rcc5_core.specs.declared.Rel.{Rel}
use Rattle.rcc5_core.specs.RelationSet.{only, is_empty_set}
use Rattle.rcc5_core.specs.Region.{is_whole_set}
use Rattle.lits_core.specs.declared.Line.{Line}
use Rattle.lits_core.specs.Derivation.{State, DerivedFollow, next_state}
use Rattle.lits_core.proofs.DerivationLemmas.{given-state_after}
use Rattle.world_model.specs.Problem.{Problem, Constraint, pairs, pair_count, restricted, is_problem, is_about_pair, is_concept, concept_count, is_full, is_articulation}
use Rattle.world_model.specs.Listing.{is_below}
use Rattle.world_model.specs.Alive.{allowed}
use Rattle.world_model.specs.Node.{pair_at}
use Rattle.world_model.specs.Questions.{IsMet}
use Rattle.world_model.proofs.Members.{In, here, there, none_in, from_append, from_filter, In-get_or}
use Rattle.world_model.proofs.PointPairs.{from_pairs}
use Rattle.world_model.proofs.OrderLists.{IsExactly, Between, between_from, between_parts}
use Rattle.constraint_set.specs.Facts.{IsBuilt}
use Rattle.point_encode.specs.Model.Clauses.{given_clauses}
use Rattle.cert_text.specs.declared.line.Subject.{Subject}
use Rattle.cert_text.specs.declared.line.Subject.TheVariants.{Narrowed, Kept}
use Rattle.cert_text.specs.declared.line.CertLine.{CertLine}
use Rattle.cert_text.specs.declared.line.CertLine.TheVariants.{World}
use Rattle.cert_rules.specs.declared.RejectKind.{RejectKind}
use Rattle.cert_rules.specs.Order.{is_shown}
use Rattle.cert_rules.specs.Trees.{Branching, table_along, family_fault, tree_fault, tree_next, end_fault}
use Rattle.cert_rules.specs.Listings.{Status, Going, Ended, Rejected, unless, proof_fault, Stand, with_world}
use Rattle.cert_rules.specs.ClaimLists.{subject_problem, subject_fault, subject_tree, Claim, Block, ClaimStand, holds_fault, ClaimRole, ForProof, ForHolding, ForFailing, ForNode, ForEnd, ForQuit, ForDone, ForNothing, claim_role, take_proof, take_outside, take_inside, take_claim, claim_step, claim_steps}
use Rattle.set_family.specs.Sets.{family_from}
use Rattle.cert_rules.specs.Laws.{IsSettled}
use Rattle.cert_rules.proofs.Nexts.{below_nothing}
use Rattle.cert_rules.proofs.Leaves.{built_with}
use Rattle.cert_rules.proofs.Sound.{IsTableOf, IsBranchingOf, IsSoundStand, tree_sound, proof_sound, proof_follows, ends_there, both_none, family_met, passes}

-- the problem of a subject is one
flags_fit : (p : Problem) (kept : List Bool) → is_problem p ≡ true → length kept ≡ length p.articulations → is_problem (restricted p kept) ≡ true
flags_fit p kept valid full = by
    (is_full p p.names && is_full p p.parents && is_full p p.children && list_all (λ owner. nat_lt owner (length p.taxonomies)) p.owners && list_all (list_all (is_concept p)) p.children)
    (length p.kept == length p.articulations) (length kept == length p.articulations) (list_all (is_articulation p) p.articulations) (list_all (is_about_pair p) p.narrowings)
    (eq-eqb (length kept) (length p.articulations) full) valid
  where
    by : (a b c d e : Bool) → c ≡ true → (a && b && d && e) ≡ true → (a && c && d && e) ≡ true
    by true b true true true k h = refl
    by false b c d e k h = h
    by a b false d e k h = absurd (true≢false (sym k))
    by true true true false e k h = h
    by true false true false e k h = h
    by true true true true false k h = h
    by true false true true false k h = h

pub subject_built : (p : Problem) (subject : Subject) → IsBuilt p → subject_fault p subject ≡ None → IsBuilt (subject_problem p subject)
subject_built p (Narrowed pair rel) b none =
    let within = ltb-true pair (pair_count p) (passes (nat_lt pair (pair_count p)) RejectKind.WrongSubject none) in
    let q = from_pairs p (pair_at p pair) (In-get_or (pairs p) pair (0, 0) within) in
    let c : Constraint = record { left = (pair_at p pair).0; right = (pair_at p pair).1; set = only rel } in
    let parts = and_parts _ (list_all (is_about_pair p) p.narrowings) b.valid in
    built_with p p.kept (p.narrowings ++ c ∷ []) b
    (and_from _ (list_all (is_about_pair p) (p.narrowings ++ c ∷ [])) parts.0
    (list_all-append (is_about_pair p) p.narrowings (c ∷ []) ∙
    and_from (list_all (is_about_pair p) p.narrowings) (list_all (is_about_pair p) (c ∷ [])) parts.1
    (and_from (is_about_pair p c) true (and_from (nat_lt c.left c.right) (is_concept p c.right) (lt-ltb c.left c.right q.order) (lt-ltb c.right (concept_count p) q.within)) refl)))
subject_built p (Kept flags) b none =
    built_with p flags p.narrowings b
    (flags_fit p flags b.valid (eqb-true (length flags) (length p.articulations) (passes (length flags == length p.articulations) RejectKind.WrongSubject none)))

-- its clauses are the given ones
subject_clauses : (p : Problem) (subject : Subject) → given_clauses (subject_problem p subject) ≡ given_clauses p
subject_clauses p (Narrowed pair rel) = refl
subject_clauses p (Kept flags) = refl

-- its tree is one
subject_is_tree : (p : Problem) (subject : Subject) (given : List (List ℕ)) → IsBuilt p → subject_fault p subject ≡ None → given ≡ given_clauses p → IsBranchingOf (subject_tree p subject) given
subject_is_tree p subject given b none same = record {
  built = subject_built p subject b none;
  clauses = same ∙ sym (subject_clauses p subject);
  levels = λ pair i.
      let q = subject_problem p subject in (from_filter (λ pair. not (is_empty_set (allowed q pair) || is_whole_set (allowed q pair))) (pairs q) i).0;
  room = omega arith;
}

-- an open tree, as a stand of its own that has no worlds
abbrev pub block_stand : State → Option (List Rel) → Stand
block_stand proof at = record { proof = proof; at = at; worlds = [] }

abbrev pub IsSoundBlock : Problem → State → Option Block → Type 0
IsSoundBlock p proof None = Unit {0}
IsSoundBlock p proof (Some block) = IsSoundStand (subject_tree p block.subject) (block_stand proof block.at)

-- what is so where a list of claims stands
pub record IsSoundClaims (p : Problem) (proof : State) (block : Option Block) (claims : List Claim) : Type 0 where
  pub built : IsBuilt p
  pub given : proof.given ≡ given_clauses p
  pub follow : DerivedFollow proof
  pub settled : (claim : Claim) → In claim claims → IsSettled p claim claim.holds
  pub block_is : IsSoundBlock p proof block

abbrev pub IsSoundEnd : Problem → Status ClaimStand (List Claim) → Type 0
IsSoundEnd p (Going n s) = IsSoundClaims p s.proof s.block s.claims
IsSoundEnd p (Ended claims) = (claim : Claim) → In claim claims → IsSettled p claim claim.holds
IsSoundEnd p (Rejected number kind) = Unit {0}

unless_sound : (p : Problem) (fault : Option RejectKind) (number : ℕ) (next : Status ClaimStand (List Claim)) → (fault ≡ None → IsSoundEnd p next) → IsSoundEnd p (unless fault number next)
unless_sound p None number next sound = sound refl
unless_sound p (Some kind) number next sound = tt

-- no position comes before the empty one, where no table is found
pub begins_sound : (tree : Branching) (proof : State) → IsBranchingOf tree proof.given → DerivedFollow proof → IsSoundStand tree (block_stand proof (Some []))
begins_sound tree proof is follow = record {
  tree_is = is;
  follow = follow;
  shown = λ n e. let empty : [] ≡ n = cc in subst (λ n. is_shown tree.from n ≡ true) empty (empty_shown tree.from);
  exact = record {
    ascending = refl;
    sound = λ t i. absurd (none_in i);
    complete = λ t w. absurd (below_nothing t (between_parts tree.from (Some []) t w.1).1);
  };
}
  where
    empty_shown : (from : List Rel) → is_shown from [] ≡ true
    empty_shown [] = refl
    empty_shown (f ∷ from) = refl

-- one more claim
one_more : (p : Problem) (proof : State) (block : Option Block) (claims : List Claim) (claim : Claim) → IsSoundClaims p proof block claims → IsSettled p claim claim.holds →
    IsSoundClaims p proof None (claims ++ claim ∷ [])
one_more p proof block claims claim is settled = record {
  built = is.built;
  given = is.given;
  follow = is.follow;
  settled = λ c i. elim (from_append claims i) [ inl old ↦ is.settled c old | inr new ↦ last c new ];
  block_is = tt;
}
  where
    last : (c : Claim) → In c (claim ∷ []) → IsSettled p c c.holds
    last c (here e) = subst (λ c. IsSettled p c c.holds) (sym e) settled
    last c (there i) = absurd (none_in i)

-- a line of the derivation
block_follows : (p : Problem) (proof : State) (block : Option Block) (line : Line) → IsSoundBlock p proof block → proof_fault proof line ≡ None → IsSoundBlock p (next_state proof line) block
block_follows p proof None line is none = tt
block_follows p proof (Some block) line is none = proof_sound (subject_tree p block.subject) (block_stand proof block.at) line is none

proof_line : (p : Problem) (n : ℕ) (proof : State) (block : Option Block) (claims : List Claim) (line : Line) → IsSoundClaims p proof block claims →
    IsSoundEnd p (take_proof n (record { proof = proof; block = block; claims = claims }) line)
proof_line p n proof block claims line is = unless_sound p (proof_fault proof line) (n + 1) _ (λ none. record {
  built = is.built;
  given = given-state_after proof (line ∷ []) ∙ is.given;
  follow = proof_follows proof line is.follow none;
  settled = is.settled;
  block_is = block_follows p proof block line is.block_is none;
})

-- a line where no tree is open
outside : (p : Problem) (n : ℕ) (proof : State) (claims : List Claim) (role : ClaimRole) → IsSoundClaims p proof None claims →
    IsSoundEnd p (take_outside p n (record { proof = proof; block = None; claims = claims }) role)
outside p n proof claims (ForProof line) is = proof_line p n proof None claims line is
outside p n proof claims (ForHolding subject f) is = unless_sound p (holds_fault p subject f) (n + 1) _ (λ none.
    let both = both_none (subject_fault p subject) (family_fault (subject_problem p subject) (family_from f.universe f.sets)) none in
    one_more p proof None claims (record { subject = subject; holds = true }) is (f, family_met (subject_problem p subject) f both.1))
outside p n proof claims (ForFailing subject) is = unless_sound p (subject_fault p subject) (n + 1) _ (λ none. record {
  built = is.built;
  given = is.given;
  follow = is.follow;
  settled = is.settled;
  block_is = begins_sound (subject_tree p subject) proof (subject_is_tree p subject proof.given is.built none is.given) is.follow;
})
outside p n proof claims ForNode is = tt
outside p n proof claims ForEnd is = tt
outside p n proof claims ForQuit is = tt
outside p n proof claims ForDone is = is.settled
outside p n proof claims ForNothing is = tt

-- a node's line in a tree of a claim is no world
no_world : (at : Option (List Rel)) (line : CertLine) → claim_role line ≡ ForNode → with_world [] at line ≡ []
no_world None line e = refl
no_world (Some m) (World depth last family) e = cc
no_world (Some m) line e = refl

-- where the tree is whole, no family meets the problem of its subject
whole_tree : (p : Problem) (proof : State) (block : Block) → IsSoundStand (subject_tree p block.subject) (block_stand proof block.at) → block.at ≡ None →
    IsMet (subject_problem p block.subject) → ⊥
whole_tree p proof block is whole met =
    let tree = subject_tree p block.subject in
    let t = table_along tree.levels met.0 in
    let exact : IsExactly (Between (IsTableOf tree) [] None) [] = subst (λ at. IsExactly (Between (IsTableOf tree) [] at) []) whole is.exact in
    none_in (exact.complete t ((met.0, met.1, refl), between_from [] None t (low t) refl))
  where
    low : (t : List Rel) → is_below t [] ≡ false
    low [] = refl
    low (r ∷ t) = refl

-- a line within a tree
inside : (p : Problem) (n : ℕ) (proof : State) (block : Block) (claims : List Claim) (line : CertLine) (role : ClaimRole) → claim_role line ≡ role →
    IsSoundClaims p proof (Some block) claims → IsSoundEnd p (take_inside p n (record { proof = proof; block = Some block; claims = claims }) block line role)
inside p n proof block claims line (ForProof proof_of) e is = proof_line p n proof (Some block) claims proof_of is
inside p n proof block claims line (ForHolding subject f) e is = tt
inside p n proof block claims line (ForFailing subject) e is = tt
inside p n proof block claims line ForNode e is =
    let tree = subject_tree p block.subject in
    unless_sound p (tree_fault tree proof block.at line) (n + 1) _ (λ none. record {
      built = is.built;
      given = is.given;
      follow = is.follow;
      settled = is.settled;
      block_is =
          subst (λ worlds. IsSoundStand tree (record { proof = proof; at = tree_next tree block.at line; worlds = worlds })) (no_world block.at line e)
          (tree_sound tree proof block.at [] is.block_is line none);
    })
inside p n proof block claims line ForEnd e is = unless_sound p (end_fault block.at None) (n + 1) _ (λ none.
    one_more p proof (Some block) claims (record { subject = block.subject; holds = false }) is (whole_tree p proof block is.block_is (ends_there block.at None none)))
inside p n proof block claims line ForQuit e is = record { built = is.built; given = is.given; follow = is.follow; settled = is.settled; block_is = tt }
inside p n proof block claims line ForDone e is = tt
inside p n proof block claims line ForNothing e is = tt

claim_sound : (p : Problem) (n : ℕ) (proof : State) (block : Option Block) (claims : List Claim) (line : CertLine) → IsSoundClaims p proof block claims →
    IsSoundEnd p (take_claim p n (record { proof = proof; block = block; claims = claims }) block line)
claim_sound p n proof None claims line is = outside p n proof claims (claim_role line) is
claim_sound p n proof (Some block) claims line is = inside p n proof block claims line (claim_role line) refl is

claim_step_sound : (p : Problem) (status : Status ClaimStand (List Claim)) (line : CertLine) → IsSoundEnd p status → IsSoundEnd p (claim_step p status line)
claim_step_sound p (Going n s) line is = claim_sound p n s.proof s.block s.claims line is
claim_step_sound p (Ended claims) line is = is
claim_step_sound p (Rejected number kind) line is = tt

pub claims_sound : (p : Problem) (status : Status ClaimStand (List Claim)) (lines : List CertLine) → IsSoundEnd p status → IsSoundEnd p (claim_steps p status lines)
claims_sound p status [] is = is
claims_sound p status (line ∷ lines) is = claims_sound p (claim_step p status line) lines (claim_step_sound p status line is)
