-- What an accepted listing's first line says, and that its lines then lead to its end.
use Rattle.std.proofs.Common.{◌≡◌, ℕ, ◌≤◌, not, List, length, Option, Some, None, refl}
use Rattle.std.specs.Prelude.{nat_lt}
use Rattle.std.proofs.lemmas.Bool.{and_parts, not-true, ltb-false}
use Rattle.rcc5_core.specs.declared.Rel.{Rel}
use Rattle.world_model.specs.declared.Switches.{Switches}
use Rattle.world_model.specs.Problem.{Problem, pair_count}
use Rattle.constraint_set.specs.Facts.{IsBuilt}
use Rattle.lits_core.proofs.DerivationLemmas.{DerivedFollow-first}
use Rattle.point_encode.specs.Model.Clauses.{given_clauses}
use Rattle.cert_rules.specs.declared.RejectKind.{RejectKind}
use Rattle.cert_rules.specs.Listings.{Status, Going, Ended, Stand, Listed, unless, same_switches, header_fault, listing_tree, start}
use Rattle.cert_rules.proofs.Sound.{IsSoundStatus, passes}
use Rattle.cert_rules.proofs.SoundClaims.{begins_sound}

-- a listing that goes on has a header without a fault
pub no_fault : (fault : Option RejectKind) (number : ℕ) (next : Status Stand Listed) (listed : Listed) → unless fault number next ≡ Ended listed → (fault ≡ None) × (next ≡ Ended listed)
no_fault None number next listed e = (refl, e)
no_fault (Some kind) number next listed e = cc

pub room : (p : Problem) (switches : Switches) (from : List Rel) → header_fault p switches from ≡ None → length from ≤ pair_count p
room p switches from none =
    let parts = and_parts (same_switches p.switches switches) (not (nat_lt (pair_count p) (length from))) (passes _ RejectKind.WrongHeader none) in
    ltb-false (pair_count p) (length from) (not-true (nat_lt (pair_count p) (length from)) parts.1)

-- the stand at which a listing begins is sound
pub first_is_sound : (p : Problem) (from : List Rel) → IsBuilt p → length from ≤ pair_count p → IsSoundStatus (listing_tree p from) (Going 1 (start p))
first_is_sound p from built room =
    begins_sound (listing_tree p from) (start p).proof (record { built = built; clauses = refl; levels = λ pair i. i; room = room }) (DerivedFollow-first (given_clauses p))
