-- What comes of a token that is read under a name.
use Rattle.std.proofs.Common.{◌≡◌, ℕ, ◌<◌, ◌≤◌, Bool, true, false, List, Option, None, Some, IfSome, Result, Ok, Err, length, take, refl, sym, ap, subst, ◌∙◌, inl, inr, arith, length-take, take_all}
use Rattle.std.specs.Prelude.{nat_lt, nat_le, if◌then◌else◌, not, ok_or, option_and_then}
use Rattle.std.proofs.lemmas.Bool.{ltb-true, lt-ltb, ltb-false, leb-true}
use Rattle.rcc5_core.specs.declared.Rel.{Rel}
use Rattle.world_model.specs.Problem.{Problem, pair_count}
use Rattle.run_ends.specs.declared.token.TokenKind.{TokenKind}
use Rattle.run_ends.specs.declared.token.TokenKind.TheVariants.{OtherProblem, BadPosition}
use Rattle.run_ends.specs.declared.token.TokenFault.{TokenFault}
use Rattle.run_ends.specs.Token.Contents as token
use Rattle.run_ends.specs.Token.Token.{position_in, position_for, are_of, contents_result, token_result, kind_of}
use Rattle.run_ends.specs.declared.Status.{Status}
use Rattle.run_ends.specs.declared.Status.TheVariants.{RefusedToken}
use Rattle.run_ends.specs.Runs.{Answered, ending_of}
use Rattle.run_ends.proofs.TextLemmas.{err_same}
use Rattle.run_ends.specs.Reads.{token_by, token_in, token_end, IsRefused}

-- bytes that are cut behind the longest token are too long still
result_cut : (p : Problem) (told : List ℕ) → token_result p (take 1048577 told) ≡ token_result p told
result_cut p told = by (nat_lt 1048576 (length told)) refl
  where
    by : (b : Bool) → nat_lt 1048576 (length told) ≡ b → token_result p (take 1048577 told) ≡ token_result p told
    by true e =
        let long : 1048576 < length told = ltb-true 1048576 (length told) e in
        let cut : 1048576 < length (take 1048577 told) = omega (arith, long, length-take 1048577 told) in
        let more : nat_lt 1048576 (length (take 1048577 told)) ≡ true = lt-ltb 1048576 (length (take 1048577 told)) cut in
        rw more (rw e refl)
    by false e =
        let short : length told ≤ 1048576 = ltb-false 1048576 (length told) e in
        ap (λ (bs : List ℕ). token_result p bs) (take_all 1048577 told (omega (arith, short)))

pub token_cut : (p : Problem) (told : List ℕ) → token_in p (take 1048577 told) ≡ token_in p told
token_cut p told = ap token_by (result_cut p told)

-- what comes of a token
pub token_said : (p : Problem) (bytes : List ℕ) (q : List Rel) → token_result p bytes ≡ Ok q → token_in p bytes ≡ Ok q
token_said p bytes q e = ap token_by e

pub token_ended : (p : Problem) (bytes : List ℕ) (f : TokenFault) (s : Status)
    → IfSome (kind_of f) (λ k. token_result p bytes ≡ Err k) → s ≡ token_end (kind_of f) → IsRefused (token_in p bytes) s
token_ended p bytes f s first end = by (kind_of f) first end
  where
    by : (o : Option TokenKind) → IfSome o (λ k. token_result p bytes ≡ Err k) → s ≡ token_end o → IsRefused (token_in p bytes) s
    by None told is = inl is
    by (Some k) told is = inr (ap token_by told ∙ ap Err (sym is))

-- a token's position is no longer than its problem has pairs
pub token_within : (p : Problem) (bytes : List ℕ) (q : List Rel) → token_result p bytes ≡ Ok q → length q ≤ pair_count p
token_within p bytes q e = by (token.contents_of bytes) e
  where
    in_word : (o : Option (List Rel)) → ok_or (option_and_then (λ r. if nat_le (length r) (pair_count p) then Some r else None) o) BadPosition ≡ Ok q → length q ≤ pair_count p
    in_word None e = cc
    in_word (Some r) e = on (nat_le (length r) (pair_count p)) refl e
      where
        on : (b : Bool) → nat_le (length r) (pair_count p) ≡ b → ok_or (if b then Some r else None) BadPosition ≡ Ok q → length q ≤ pair_count p
        on true le e = let same : r ≡ q = cc in subst (λ (m : List Rel). length m ≤ pair_count p) same (leb-true (length r) (pair_count p) le)
        on false le e = cc

    of_problem : (b : Bool) (word : List ℕ) → (if b then Err OtherProblem else ok_or (position_for p word) BadPosition) ≡ Ok q → length q ≤ pair_count p
    of_problem true word e = cc
    of_problem false word e = in_word (position_in word) e

    by : (c : Option token.Contents) → contents_result p c ≡ Ok q → length q ≤ pair_count p
    by None e = cc
    by (Some c) e = of_problem (not (are_of p c)) c.position e

pub ruleset token_rules = (token_said, token_ended, token_within)

-- a token that is refused is an answer
pub token_answers : (p : Problem) (bytes : List ℕ) (s : Status) → token_in p bytes ≡ Err s → ending_of s ≡ Answered
token_answers p bytes s e = by (token_result p bytes) e
  where
    by : (r : Result (List Rel) TokenKind) → token_by r ≡ Err s → ending_of s ≡ Answered
    by (Ok position) e = cc
    by (Err kind) e = ap ending_of (sym (err_same (RefusedToken kind) s (Err (RefusedToken kind)) refl e))
