-- What the name of a certificate holds behind a listing.
use Rattle.std.proofs.Common.{◌≡◌, ℕ, List, [], Option, None, Some, IfSome, IsTrue, refl, sym, subst}
use Rattle.std.specs.Prelude.{is_some}
use Rattle.std.specs.Option.{option_to_list}
use Rattle.std.proofs.lemmas.List.Elements.{All-nil}
use Rattle.outer_store.specs.Contents.{Contents}
use Rattle.rcc5_core.specs.declared.Rel.{Rel}
use Rattle.world_model.specs.Problem.{Problem}
use Rattle.world_model.specs.Listing.{IsListing}
use Rattle.cert_rules.specs.Parts.Certs.{IsListingCert}
use Rattle.run_ends.specs.Runs.{AreKeptBut, IsHeld, AreWritten, file_under}
use Rattle.run_ends.proofs.WrittenLemmas.{written_one}
use Rattle.listing_run.specs.Logged.{IsCertLeft}

-- no bytes are no certificate of another listing
pub none_certified : (cert : Option (List ℕ)) (held : Contents) (P : List ℕ → Type 0) → IfSome cert (λ name. IfSome (held name) (λ _. IfSome None P))
none_certified None held P = tt
none_certified (Some name) held P = by (held name)
  where
    by : (told : Option (List ℕ)) → IfSome told (λ _. IfSome None P)
    by None = tt
    by (Some bytes) = tt

-- what the name of a certificate holds
abbrev pub bytes_of : Option (List ℕ) → Contents → Option (List ℕ)
bytes_of None held = None
bytes_of (Some name) held = held name

-- the certificate is written, where there is a name for one
pub cert_written : (p : Problem) (from : List Rel) (to : Option (List Rel)) (cert : Option (List ℕ)) (old new : Contents) → IsCertLeft p from to cert old new → AreKeptBut (option_to_list cert) old new
    → AreWritten (file_under cert (bytes_of cert new)) old new
cert_written p from to None old new left kept = record { each = All-nil (IsHeld old new); others = kept }
cert_written p from to (Some name) old new left kept = written_one name (new name) old new refl (by (old name) (new name) left) kept
  where
    by : (a b : Option (List ℕ)) → IfSome a (λ _. (bytes : List ℕ) × (b ≡ Some bytes) × ((worlds : List (List Rel)) → IsListing p from to worlds → IsListingCert p from to worlds bytes))
        → IfSome a (λ _. IsTrue (is_some b))
    by None b h = tt
    by (Some held) b h = rw h.1 refl

-- and it is one of the listing, under a name that told its bytes
pub certified : (p : Problem) (from : List Rel) (to : Option (List Rel)) (worlds : List (List Rel)) (cert : Option (List ℕ)) (old new : Contents) → IsListing p from to worlds
    → IsCertLeft p from to cert old new → IfSome cert (λ name. IfSome (old name) (λ _. IfSome (bytes_of cert new) (IsListingCert p from to worlds)))
certified p from to worlds None old new exactly left = tt
certified p from to worlds (Some name) old new exactly left = by (old name) (new name) left
  where
    by : (a b : Option (List ℕ)) → IfSome a (λ _. (bytes : List ℕ) × (b ≡ Some bytes) × ((worlds : List (List Rel)) → IsListing p from to worlds → IsListingCert p from to worlds bytes))
        → IfSome a (λ _. IfSome b (IsListingCert p from to worlds))
    by None b h = tt
    by (Some held) b h = subst (λ (told : Option (List ℕ)). IfSome told (IsListingCert p from to worlds)) (sym h.1) (h.2 worlds exactly)
