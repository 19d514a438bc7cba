-- Bytes of names by all that a store tells: those that it tells, and else those that were read.
use Rattle.std.proofs.Common.{◌≡◌, ◌≢◌, ℕ, Bool, true, false, List, [], ◌∷◌, Option, None, Some, IfSome, Result, take, refl, sym, ap, ◌∙◌}
use Rattle.std.specs.Prelude.{if◌then◌else◌, bytes_eq, unwrap_or}
use Rattle.std.proofs.lemmas.Slice.Eq.{bytes_eq-Decides}
use Rattle.outer_store.specs.Contents.{Contents}
use Rattle.rcc5_core.specs.declared.Rel.{Rel}
use Rattle.world_model.specs.declared.Switches.{Switches}
use Rattle.world_model.specs.Problem.{Problem}
use Rattle.run_ends.specs.declared.Status.{Status}
use Rattle.run_ends.specs.Reads.{AreHeld, problem_by, problem_in, token_in, ComesOf}
use Rattle.run_ends.proofs.ReadLemmas.{text_cut}
use Rattle.run_ends.proofs.TokenLemmas.{token_cut}

-- bytes that are not the same are told apart
bytes_apart : (one other : List ℕ) → one ≢ other → bytes_eq one other ≡ false
bytes_apart one other apart = by (bytes_eq one other) refl
  where
    by : (b : Bool) → bytes_eq one other ≡ b → bytes_eq one other ≡ false
    by true e = absurd (apart ((bytes_eq-Decides one other).0 e))
    by false e = e

-- the bytes that were read under a name, and none of a name that was not read
abbrev pub read_of : List (List ℕ × List ℕ) → List ℕ → List ℕ
read_of [] name = []
read_of (one ∷ more) name = if bytes_eq one.0 name then one.1 else read_of more name

pub read_first : (name bytes : List ℕ) (more : List (List ℕ × List ℕ)) → read_of ((name, bytes) ∷ more) name ≡ bytes
read_first name bytes more = ap (λ (b : Bool). if b then bytes else read_of more name) ((bytes_eq-Decides name name).1 refl)

pub read_later : (one these name : List ℕ) (more : List (List ℕ × List ℕ)) → one ≢ name → read_of ((one, these) ∷ more) name ≡ read_of more name
read_later one these name more apart = ap (λ (b : Bool). if b then these else read_of more name) (bytes_apart one name apart)

-- what the store tells of a name, and else what was read under it
abbrev pub filled : Contents → List (List ℕ × List ℕ) → List ℕ → List ℕ
filled held read name = unwrap_or (held name) (read_of read name)

pub filled_told : (held : Contents) (read : List (List ℕ × List ℕ)) → AreHeld (filled held read) held
filled_told held read name = by (held name) (read_of read name)
  where
    by : (o : Option (List ℕ)) (bytes : List ℕ) → IfSome o (λ told. unwrap_or o bytes ≡ told)
    by None bytes = tt
    by (Some told) bytes = refl

-- what comes of the front that was read comes of all bytes
filled_comes : {X : Type 0} (held : Contents) (read : List (List ℕ × List ℕ)) (name : List ℕ) (judge : List ℕ → Result X Status) (outcome : Result X Status)
    → ((told : List ℕ) → judge (take 1048577 told) ≡ judge told) → (comes : ComesOf held name judge outcome) → read_of read name ≡ comes.bytes → judge (filled held read name) ≡ outcome
filled_comes held read name judge outcome cut comes is = by (held name) comes.front
  where
    by : (told : Option (List ℕ)) → IfSome told (λ all. comes.bytes ≡ take 1048577 all) → judge (unwrap_or told (read_of read name)) ≡ outcome
    by None front = ap judge is ∙ comes.judged
    by (Some all) front = sym (cut all) ∙ ap judge (sym front) ∙ comes.judged

pub filled_problem : (held : Contents) (read : List (List ℕ × List ℕ)) (name : List ℕ) (switches : Switches) (outcome : Result Problem Status)
    → (comes : ComesOf held name (problem_in switches) outcome) → read_of read name ≡ comes.bytes → problem_in switches (filled held read name) ≡ outcome
filled_problem held read name switches outcome = filled_comes held read name (problem_in switches) outcome (λ told. ap problem_by (text_cut told switches))

pub filled_token : (held : Contents) (read : List (List ℕ × List ℕ)) (name : List ℕ) (p : Problem) (outcome : Result (List Rel) Status)
    → (comes : ComesOf held name (token_in p) outcome) → read_of read name ≡ comes.bytes → token_in p (filled held read name) ≡ outcome
filled_token held read name p outcome = filled_comes held read name (token_in p) outcome (token_cut p)
