-- What accepted certificates show. Each law is the contract of a public function with an empty body.
use Rattle.std.specs.Prelude.{◌≡◌, ℕ, ◌⊎◌, Bool, true, false, not, List, ◌∷◌, ◌++◌, length, Some, None, Contains, IsTrue}
use Rattle.rcc5_core.specs.declared.Rel.{Rel}
use Rattle.rcc5_core.specs.RelationSet.{has}
use Rattle.world_model.specs.declared.Switches.{Switches}
use Rattle.world_model.specs.Problem.{Problem, pair_count}
use Rattle.world_model.specs.Family.{IsPossibleWorld}
use Rattle.world_model.specs.Listing.{Begins, is_between, IsListing}
use Rattle.world_model.specs.Alive.{allowed, problem_at, IsAlive}
use Rattle.world_model.specs.Node.{pair_at}
use Rattle.world_model.specs.Questions.{IsMet}
use Rattle.constraint_set.specs.Facts.{IsBuilt}
use Rattle.cert_text.specs.declared.line.CertLine.{CertLine}
use Rattle.cert_text.specs.declared.line.CertLine.TheVariants.{NoPoint, NoRelation}
use Rattle.cert_rules.specs.Trees.{tree_fault}
use Rattle.cert_rules.specs.Listings.{Going, Ended, Stand, Listed, listing_tree, start, steps, listing_status}
use Rattle.cert_rules.specs.ClaimLists.{Claim, subject_problem, claims_status}
use Rattle.cert_text.specs.Ends.{TextEnd}
use Rattle.cert_rules.specs.Files.{Verdict, Listing, ClaimList, Accepts, answer_of}

-- the worlds of an accepted listing are exactly the possible worlds from the position of its first line on and below that of
-- its last, ascending
abbrev pub AcceptedIsTheListing : Type 0
AcceptedIsTheListing = (p : Problem) → IsBuilt p → (switches : Switches) (from : List Rel) (lines : List CertLine) (listed : Listed) →
    listing_status p switches from lines ≡ Ended listed → IsListing p from listed.to listed.worlds

-- a claim is so: some family meets the problem of its subject where it holds, and none does where it does not
abbrev pub IsSettled : Problem → Claim → Bool → Type 0
IsSettled p claim true = IsMet (subject_problem p claim.subject)
IsSettled p claim false = IsMet (subject_problem p claim.subject) → ⊥

-- accepted claims are so
abbrev pub AcceptedClaimsAreSo : Type 0
AcceptedClaimsAreSo = (p : Problem) → IsBuilt p → (switches : Switches) (lines : List CertLine) (claims : List Claim) →
    claims_status p switches lines ≡ Ended claims → (claim : Claim) → Contains claims claim → IsSettled p claim claim.holds

-- what an accepted certificate says is so
abbrev pub VerdictIsSo : Problem → Verdict → Type 0
VerdictIsSo p (Listing from to worlds) = IsListing p from to worlds
VerdictIsSo p (ClaimList claims) = (claim : Claim) → Contains claims claim → IsSettled p claim claim.holds

-- what a whole certificate says is so where it is accepted, whatever kinds of faults its text may have
abbrev pub AcceptedIsSo : Type 0 → Type 0
AcceptedIsSo K = (p : Problem) → IsBuilt p → (lines : List CertLine) (end : TextEnd K) (verdict : Verdict) → answer_of p lines end ≡ Accepts verdict → VerdictIsSo p verdict

-- a table leaves a prefix by a relation that the next pair does not allow
pub record LeavesAllowed (p : Problem) (table : List Rel) : Type 0 where
  pub prefix : List Rel
  pub rel : Rel
  pub rest : List Rel
  pub is : table ≡ prefix ++ rel ∷ rest
  pub lacks : IsTrue (not (has (allowed p (pair_at p (length prefix))) rel))

-- whether a line says that nothing lies below its node
abbrev pub is_leaf : CertLine → Bool
is_leaf (NoPoint depth last need clause) = true
is_leaf (NoRelation depth last pair) = true
is_leaf line = false

-- a line of a listing, and where the listing stands before it
pub record StandsAt (p : Problem) (from : List Rel) (lines : List CertLine) (line : CertLine) (stand : Stand) : Type 0 where
  pub before : List CertLine
  pub after : List CertLine
  pub split : lines ≡ before ++ line ∷ after
  pub number : ℕ
  pub reached : steps (listing_tree p from) (Going 1 (start p)) before ≡ Going number stand

-- a leaf of a listing stands without a fault at a prefix of the table, where the problem is dead
pub record IsRefuted (p : Problem) (from : List Rel) (lines : List CertLine) (table : List Rel) : Type 0 where
  pub line : CertLine
  pub stand : Stand
  pub place : StandsAt p from lines line stand
  pub prefix : List Rel
  pub begins : Begins prefix table
  pub at : stand.at ≡ Some prefix
  pub leaf : IsTrue (is_leaf line)
  pub faultless : tree_fault (listing_tree p from) stand.proof (Some prefix) line ≡ None
  pub dead : IsAlive (problem_at p prefix) → ⊥

-- a table between the two positions of an accepted listing that is no possible world has a refutation: it leaves what the
-- problem allows, or a leaf stands at one of its prefixes
abbrev pub MissingTablesAreRefuted : Type 0
MissingTablesAreRefuted = (p : Problem) → IsBuilt p → (switches : Switches) (from : List Rel) (lines : List CertLine) (listed : Listed) →
    listing_status p switches from lines ≡ Ended listed → (table : List Rel) → length table ≡ pair_count p → IsTrue (is_between from listed.to table) →
    (IsPossibleWorld p table → ⊥) → LeavesAllowed p table ⊎ IsRefuted p from lines table
