-- The two files of a listing: its certificate and its token.
use Rattle.std.proofs.Common.{◌≡◌, ℕ, List, [], ◌∷◌, Option, None, Some, refl, sym, ap, ◌∙◌}
use Rattle.std.specs.Prelude.{Contains, option_map}
use Rattle.std.specs.Option.{option_to_list}
use Rattle.outer_store.specs.Contents.{Contents}
use Rattle.rcc5_core.specs.declared.Rel.{Rel}
use Rattle.world_model.specs.Problem.{Problem}
use Rattle.run_ends.specs.Token.Token.{token_text}
use Rattle.run_ends.specs.Runs.{AreKeptBut, file_under}
use Rattle.run_ends.proofs.WrittenLemmas.{in_none, in_one, names}
use Rattle.listing_run.specs.Output.{token_under}
use Rattle.command_line.specs.Requests.{AreApart}

-- a certificate's name and a token's are not one
pub files_apart : (p : Problem) (cert token : Option (List ℕ)) (bytes : Option (List ℕ)) (cut : Option (List Rel)) (held : Contents) → AreApart cert token
    → (name : List ℕ) → Contains (names (file_under cert bytes)) name → Contains (names (token_under p token cut held)) name → ⊥
files_apart p None token bytes cut held two name here there = in_none name here
files_apart p (Some one) None bytes cut held two name here there = in_none name there
files_apart p (Some one) (Some other) bytes None held two name here there = in_none name there
files_apart p (Some one) (Some other) bytes (Some cut) held two name here there = two (sym (in_one one name here) ∙ in_one other name there)

-- a token is told where its name tells its bytes, also behind a certificate of another name
pub token_since : (p : Problem) (cert token : Option (List ℕ)) (cut : Option (List Rel)) (old mid : Contents) → AreApart cert token → AreKeptBut (option_to_list cert) old mid
    → token_under p token cut mid ≡ token_under p token cut old
token_since p cert None cut old mid two kept = refl
token_since p cert (Some name) None old mid two kept = refl
token_since p cert (Some name) (Some cut) old mid two kept =
    ap (λ (told : Option (List ℕ)). record { name = name; bytes = option_map (λ _. token_text p cut) told } ∷ []) (kept name (by cert two))
  where
    by : (cert : Option (List ℕ)) → AreApart cert (Some name) → Contains (option_to_list cert) name → ⊥
    by None two here = in_none name here
    by (Some one) two here = two (sym (in_one one name here))
