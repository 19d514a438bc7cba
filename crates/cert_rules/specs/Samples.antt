-- Small certificates, and what is answered to them.
use Rattle.std.specs.Prelude.{◌≡◌, ℕ, true, false, List, [], ◌∷◌, Some, None}
use Rattle.rcc5_core.specs.declared.Rel.{Rel}
use Rattle.rcc5_core.specs.declared.Rel.TheVariants.{Equals, Includes, IncludedIn, Overlaps, Disjoint}
use Rattle.rcc5_core.specs.RelationSet.{only, adding}
use Rattle.lits_core.specs.declared.Line.TheVariants.{Derive, Forget}
use Rattle.world_model.specs.declared.Articulation.TheVariants.{Pair}
use Rattle.world_model.specs.Problem.{Problem}
use Rattle.world_model.specs.Examples.{all_on, may_exceed, one_each, three_and_one, one_of_three, equals}
use Rattle.point_encode.specs.Model.Clauses.{is_so, is_not}
use Rattle.cert_text.specs.declared.line.Subject.TheVariants.{Narrowed, Kept}
use Rattle.cert_text.specs.declared.line.CertLine.{CertLine}
use Rattle.cert_text.specs.declared.line.CertLine.TheVariants.{Certificate, Claims, Proof, Branch, NoPoint, NoRelation, World, Holds, Fails, End, Quit, Done}
use Rattle.cert_rules.specs.declared.RejectKind.TheVariants.{UnknownHint, HintNotUnit, NoConflict, IdUsed, WrongHeader, NeedNotForced, LiteralNotForced, FamilyDoesNotMeet, FamilyHasOtherTable, MissingBranch, ExtraBranch, UnknownClause, PairNotEmpty, BranchTooDeep, WrongSubject}
use Rattle.cert_text.specs.Ends.{Whole, Faulty}
use Rattle.cert_rules.specs.Files.{Answer, Accepts, Rejects, HasFault, Listing, ClaimList, answer_of}

-- the answer to lines after which the text ends
abbrev pub answer : Problem → List CertLine → Answer ℕ
answer p lines = answer_of p lines Whole

-- two concepts of which nothing is said
abbrev pub free : Problem
free = one_each [] all_on

-- two concepts that are equal, and two that are equal and disjoint
abbrev pub tied : Problem
tied = one_each (equals 0 1 ∷ []) all_on

abbrev pub torn : Problem
torn = one_each (equals 0 1 ∷ Pair 0 1 (only Disjoint) ∷ []) all_on

-- two siblings that equal one concept
abbrev pub doubled : Problem
doubled = three_and_one (equals 1 3 ∷ equals 2 3 ∷ []) all_on

-- the first line of a listing from a position on, under the rules of these problems
abbrev pub header : List Rel → CertLine
header from = Certificate all_on from

-- the root branches
abbrev pub root : CertLine
root = Branch 0 None

-- a node below the root is a world, by two sets of numbers below u
abbrev pub world : Rel → ℕ → List ℕ → List ℕ → CertLine
world rel u left right = World 1 (Some rel) (record { universe = u; sets = left ∷ right ∷ [] })

abbrev pub first_world : CertLine
first_world = world Equals 1 (0 ∷ []) (0 ∷ [])

abbrev pub second_world : CertLine
second_world = world Includes 2 (0 ∷ 1 ∷ []) (0 ∷ [])

-- of the five worlds of two concepts a listing may have the first two, the last three, and none after the last
pub record PartsOfAListing : Type 0 where
  pub first : answer free (header [] ∷ root ∷ first_world ∷ second_world ∷ End (Some (IncludedIn ∷ [])) ∷ []) ≡
      Accepts (Listing [] (Some (IncludedIn ∷ [])) ((Equals ∷ []) ∷ (Includes ∷ []) ∷ []))
  pub rest : answer free (header (IncludedIn ∷ []) ∷ root ∷ world IncludedIn 2 (0 ∷ []) (0 ∷ 1 ∷ []) ∷ world Overlaps 3 (0 ∷ 1 ∷ []) (0 ∷ 2 ∷ []) ∷ world Disjoint 2 (0 ∷ []) (1 ∷ []) ∷ End None ∷ []) ≡
      Accepts (Listing (IncludedIn ∷ []) None ((IncludedIn ∷ []) ∷ (Overlaps ∷ []) ∷ (Disjoint ∷ []) ∷ []))
  pub nothing : answer free (header [] ∷ End (Some []) ∷ []) ≡ Accepts (Listing [] (Some []) [])
  pub left_out : answer tied (header (Includes ∷ []) ∷ root ∷ End None ∷ []) ≡ Accepts (Listing (Includes ∷ []) None [])

-- a pair may allow nothing
abbrev pub NothingIsAllowed : Type 0
NothingIsAllowed = answer torn (header [] ∷ NoRelation 0 None 0 ∷ End None ∷ []) ≡ Accepts (Listing [] None [])

-- if the first sibling has an element, so has the other concept; if that, then the second sibling; and siblings are apart
abbrev pub refuted : ℕ → List ℕ → CertLine
refuted id hints = Proof (Derive id (is_not 1 ∷ is_not 7 ∷ is_not 12 ∷ []) hints)

-- a derived clause may leave a need no point, with its hints in order
pub record NoPointIsLeft : Type 0 where
  pub derived : answer doubled (header [] ∷ refuted 23 (8 ∷ 13 ∷ 3 ∷ []) ∷ NoPoint 0 None 19 23 ∷ End None ∷ []) ≡ Accepts (Listing [] None [])
  pub unknown_hint : answer doubled (header [] ∷ refuted 23 (8 ∷ 99 ∷ 3 ∷ []) ∷ []) ≡ Rejects 2 UnknownHint
  pub not_unit : answer doubled (header [] ∷ refuted 23 (4 ∷ 13 ∷ 3 ∷ []) ∷ []) ≡ Rejects 2 HintNotUnit
  pub no_conflict : answer doubled (header [] ∷ refuted 23 (8 ∷ 13 ∷ []) ∷ []) ≡ Rejects 2 NoConflict
  pub used : answer doubled (header [] ∷ refuted 22 (8 ∷ 13 ∷ 3 ∷ []) ∷ []) ≡ Rejects 2 IdUsed
  pub forgotten : answer doubled (header [] ∷ refuted 23 (8 ∷ 13 ∷ 3 ∷ []) ∷ Proof (Forget (23 ∷ [])) ∷ NoPoint 0 None 19 23 ∷ End None ∷ []) ≡ Rejects 4 UnknownClause
  pub other_need : answer doubled (header [] ∷ refuted 23 (8 ∷ 13 ∷ 3 ∷ []) ∷ NoPoint 0 None 18 23 ∷ []) ≡ Rejects 3 LiteralNotForced
  pub given : answer doubled (header [] ∷ NoPoint 0 None 19 4 ∷ []) ≡ Rejects 2 LiteralNotForced

-- a need is looked at before the clause: it must be in range and forced
pub record NeedsAreForced : Type 0 where
  pub region : answer free (header [] ∷ NoPoint 0 None 0 99 ∷ []) ≡ Rejects 2 NeedNotForced
  pub past : answer free (header [] ∷ NoPoint 0 None 5 99 ∷ []) ≡ Rejects 2 NeedNotForced
  pub clause : answer free (header [] ∷ NoPoint 0 None 4 99 ∷ []) ≡ Rejects 2 UnknownClause

-- the first line has the switches of the problem and a start no longer than a table, and its fault comes before all others
pub record HeadersAreTold : Type 0 where
  pub switches : answer free (Certificate may_exceed [] ∷ first_world ∷ []) ≡ Rejects 1 WrongHeader
  pub long : answer free (header (Equals ∷ Equals ∷ []) ∷ root ∷ []) ≡ Rejects 1 WrongHeader
  pub claims : answer free (Claims may_exceed ∷ Done ∷ []) ≡ Rejects 1 WrongHeader

-- each node is named when it is expected, by its depth and its last relation
pub record NodesComeInOrder : Type 0 where
  pub depth : answer free (header [] ∷ first_world ∷ []) ≡ Rejects 2 MissingBranch
  pub relation : answer free (header [] ∷ root ∷ second_world ∷ []) ≡ Rejects 3 MissingBranch
  pub end_early : answer free (header [] ∷ root ∷ first_world ∷ End None ∷ []) ≡ Rejects 4 MissingBranch
  pub end_late : answer free (header [] ∷ root ∷ first_world ∷ End (Some (IncludedIn ∷ [])) ∷ []) ≡ Rejects 4 MissingBranch
  pub twice : answer torn (header [] ∷ NoRelation 0 None 0 ∷ NoRelation 0 None 0 ∷ []) ≡ Rejects 3 ExtraBranch
  pub past_end : answer torn (header [] ∷ NoRelation 0 None 0 ∷ End (Some []) ∷ []) ≡ Rejects 3 ExtraBranch
  pub deep : answer free (header [] ∷ root ∷ Branch 1 (Some Equals) ∷ []) ≡ Rejects 3 BranchTooDeep
  pub not_empty : answer free (header [] ∷ NoRelation 0 None 0 ∷ []) ≡ Rejects 2 PairNotEmpty
  pub no_pair : answer torn (header [] ∷ NoRelation 0 None 1 ∷ []) ≡ Rejects 2 PairNotEmpty

-- a world has a family that is one, that meets the problem, and that has its table
pub record WorldsAreShown : Type 0 where
  pub no_family : answer free (header [] ∷ root ∷ world Equals 1 (0 ∷ []) (1 ∷ []) ∷ []) ≡ Rejects 3 FamilyDoesNotMeet
  pub unsorted : answer free (header [] ∷ root ∷ world Equals 2 (1 ∷ 0 ∷ []) (1 ∷ 0 ∷ []) ∷ []) ≡ Rejects 3 FamilyDoesNotMeet
  pub empty : answer free (header [] ∷ root ∷ world Equals 1 [] [] ∷ []) ≡ Rejects 3 FamilyDoesNotMeet
  pub other_table : answer free (header [] ∷ root ∷ world Equals 2 (0 ∷ 1 ∷ []) (0 ∷ []) ∷ []) ≡ Rejects 3 FamilyHasOtherTable
  pub short : answer free (header [] ∷ World 0 None (record { universe = 1; sets = (0 ∷ []) ∷ (0 ∷ []) ∷ [] }) ∷ []) ≡ Rejects 2 FamilyHasOtherTable

-- two concepts that are equal can be equal, and disjoint they cannot; without what is said they can; a tree may be left
pub record ClaimsAreSettled : Type 0 where
  pub both : answer tied (Claims all_on ∷ Holds (Narrowed 0 Equals) (record { universe = 1; sets = (0 ∷ []) ∷ (0 ∷ []) ∷ [] }) ∷
      Fails (Narrowed 0 Disjoint) ∷ NoRelation 0 None 0 ∷ End None ∷ Done ∷ []) ≡
      Accepts (ClaimList (record { subject = Narrowed 0 Equals; holds = true } ∷ record { subject = Narrowed 0 Disjoint; holds = false } ∷ []))
  pub quit : answer tied (Claims all_on ∷ Fails (Narrowed 0 Equals) ∷ Quit ∷ Done ∷ []) ≡ Accepts (ClaimList [])
  pub freed : answer torn (Claims all_on ∷ Holds (Kept (true ∷ false ∷ [])) (record { universe = 1; sets = (0 ∷ []) ∷ (0 ∷ []) ∷ [] }) ∷
      Fails (Kept (true ∷ true ∷ [])) ∷ NoRelation 0 None 0 ∷ End None ∷ Done ∷ []) ≡
      Accepts (ClaimList (record { subject = Kept (true ∷ false ∷ []); holds = true } ∷ record { subject = Kept (true ∷ true ∷ []); holds = false } ∷ []))

-- a claim names a subject and settles it, and its tree branches on split pairs alone and has no worlds
pub record ClaimsAreRefused : Type 0 where
  pub pair : answer tied (Claims all_on ∷ Fails (Narrowed 1 Equals) ∷ []) ≡ Rejects 2 WrongSubject
  pub flags : answer tied (Claims all_on ∷ Holds (Kept []) (record { universe = 0; sets = [] }) ∷ []) ≡ Rejects 2 WrongSubject
  pub family : answer tied (Claims all_on ∷ Holds (Narrowed 0 Disjoint) (record { universe = 2; sets = (0 ∷ []) ∷ (1 ∷ []) ∷ [] }) ∷ []) ≡ Rejects 2 FamilyDoesNotMeet
  pub unfinished : answer tied (Claims all_on ∷ Fails (Narrowed 0 Equals) ∷ End None ∷ []) ≡ Rejects 3 MissingBranch
  pub no_split : answer free (Claims all_on ∷ Fails (Kept []) ∷ root ∷ []) ≡ Rejects 3 BranchTooDeep
  pub world : answer free (Claims all_on ∷ Fails (Kept []) ∷ World 0 None (record { universe = 1; sets = (0 ∷ []) ∷ (0 ∷ []) ∷ [] }) ∷ []) ≡ Rejects 3 MissingBranch

-- A, B and C, of which nothing is said
abbrev pub loose : Problem
loose = one_of_three [] all_on

-- what is in C is in A, and so in B, where C is included in A and A in B
abbrev pub carried : ℕ → CertLine
carried id = Proof (Derive id (is_not 3 ∷ is_not 8 ∷ is_not 2 ∷ is_so 1 ∷ []) (6 ∷ 1 ∷ []))

-- a listing goes along its start down to the third pair, and from there back to the second, or on beside it
pub record DownAndBack : Type 0 where
  pub back : answer loose (header (Equals ∷ Includes ∷ Disjoint ∷ []) ∷ root ∷ Branch 1 (Some Equals) ∷ Branch 2 (Some Includes) ∷ carried 10 ∷
      NoPoint 3 (Some Disjoint) 8 10 ∷ End (Some (Equals ∷ IncludedIn ∷ [])) ∷ []) ≡
      Accepts (Listing (Equals ∷ Includes ∷ Disjoint ∷ []) (Some (Equals ∷ IncludedIn ∷ [])) [])
  pub beside : answer loose (header (Equals ∷ Includes ∷ Includes ∷ []) ∷ root ∷ Branch 1 (Some Equals) ∷ Branch 2 (Some Includes) ∷
      World 3 (Some Includes) (record { universe = 2; sets = (0 ∷ 1 ∷ []) ∷ (0 ∷ 1 ∷ []) ∷ (0 ∷ []) ∷ [] }) ∷ End (Some (Equals ∷ Includes ∷ IncludedIn ∷ [])) ∷ []) ≡
      Accepts (Listing (Equals ∷ Includes ∷ Includes ∷ []) (Some (Equals ∷ Includes ∷ IncludedIn ∷ [])) ((Equals ∷ Includes ∷ Includes ∷ []) ∷ []))
  pub too_early : answer loose (header (Equals ∷ Includes ∷ Includes ∷ []) ∷ root ∷ Branch 1 (Some Equals) ∷ Branch 2 (Some Equals) ∷ []) ≡ Rejects 4 MissingBranch

-- A equals B or is disjoint from it; A equals C; and B includes C
abbrev pub parted : Problem
parted = one_of_three (Pair 0 1 (adding (only Equals) Disjoint) ∷ equals 0 2 ∷ Pair 1 2 (only Includes) ∷ []) all_on

-- with all of this kept no family meets it: not where A equals B, since B has more than C, nor where they are disjoint, since A is
-- within B
abbrev pub SplitPairsBranch : Type 0
SplitPairsBranch = answer parted (Claims all_on ∷ Fails (Kept (true ∷ true ∷ true ∷ [])) ∷ Branch 0 None ∷
    Proof (Derive 10 (is_not 5 ∷ is_not 6 ∷ is_not 1 ∷ is_so 2 ∷ []) (3 ∷ 4 ∷ [])) ∷ NoPoint 1 (Some Equals) 6 10 ∷
    Proof (Derive 11 (is_not 6 ∷ is_not 11 ∷ is_not 4 ∷ is_not 0 ∷ []) (4 ∷ 9 ∷ 2 ∷ [])) ∷ NoPoint 1 (Some Disjoint) 9 11 ∷ End None ∷ Done ∷ []) ≡
    Accepts (ClaimList (record { subject = Kept (true ∷ true ∷ true ∷ []); holds = false } ∷ []))

-- what is wrong comes line by line: a line that is rejected before a fault of the text, and such a fault before the end
pub record FaultsComeByLine : Type 0 where
  pub rejected : answer_of {K = ℕ} free (header [] ∷ first_world ∷ []) (Faulty 3 7) ≡ Rejects 2 MissingBranch
  pub unread : answer_of {K = ℕ} free (header [] ∷ root ∷ []) (Faulty 3 7) ≡ HasFault 3 7
  pub behind : answer_of {K = ℕ} torn (header [] ∷ NoRelation 0 None 0 ∷ End None ∷ []) (Faulty 4 7) ≡ HasFault 4 7
  pub bare : answer_of {K = ℕ} free [] (Faulty 1 7) ≡ HasFault 1 7
