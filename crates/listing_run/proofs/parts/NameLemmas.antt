-- The names of the tokens' files are different.
use Rattle.std.proofs.Common.{◌≡◌, ℕ, zero, suc, ◌+◌, ◌^◌, ◌<◌, ◌≤◌, List, [], ◌∷◌, ◌++◌, map, take, length, get_or, decimal, refl, sym, ap, subst, ◌∙◌, arith}
use Rattle.std.specs.Prelude.{Contains}
use Rattle.std.specs.List.{enumerate_from}
use Rattle.std.proofs.lemmas.Fmt.{decimal_injective}
use Rattle.std.proofs.lemmas.List.{append_cancel_left}
use Rattle.std.proofs.lemmas.List.FromFn.{length-enumerate_from, get_or-enumerate_from}
use Rattle.outer_store.specs.Contents.{Contents}
use Rattle.rcc5_core.specs.declared.Rel.{Rel}
use Rattle.world_model.specs.Problem.{Problem}
use Rattle.world_model.proofs.Members.{In, here, there, In-map, In-get_or, in_from_contains, contains_from_in}
use Rattle.run_ends.proofs.WrittenLemmas.{names}
use Rattle.listing_run.specs.Parts.Answering.{numbered, token_name, token_file, token_names}

-- the names of the files of some parts
pub file_names : (p : Problem) (token : List ℕ) (held : Contents) (parts : List (ℕ × List Rel)) → names (map (token_file p token held) parts) ≡ map (token_name token) parts
file_names p token held [] = refl
file_names p token held (part ∷ parts) = ap (λ rest. token_name token part ∷ rest) (file_names p token held parts)

-- a name of the first parts has the number of one of them
record IsEarly (token : List ℕ) (from below : ℕ) (name : List ℕ) : Type 0 where
  number : ℕ
  least : from ≤ number
  less : number < below
  is : name ≡ token ++ decimal number

early : (token : List ℕ) (n i : ℕ) (positions : List (List Rel)) (name : List ℕ) → In name (map (token_name token) (take i (enumerate_from n positions))) → IsEarly token n (n + i) name
early token n zero positions name h = elim h [ ]
early token n (suc i) [] name h = elim h [ ]
early token n (suc i) (q ∷ positions) name (here e) = record { number = n; least = omega arith; less = omega arith; is = e }
early token n (suc i) (q ∷ positions) name (there h) =
    let later : IsEarly token (n + 1) (n + 1 + i) name = early token (n + 1) i positions name h in
    let least = later.least in
    let less = later.less in
    record { number = later.number; least = omega arith; less = omega arith; is = later.is }

-- so the next part's name is none of them
pub next_name : (token : List ℕ) (i : ℕ) (positions : List (List Rel)) (name : List ℕ) → i + 1 < 2 ^ 64 → name ≡ token ++ decimal (i + 1)
    → Contains (map (token_name token) (take i (numbered positions))) name → ⊥
next_name token i positions name fits is among =
    let one : IsEarly token 1 (1 + i) name = early token 1 i positions name (in_from_contains (map (token_name token) (take i (numbered positions))) among) in
    let less = one.less in
    let same = decimal_injective one.number (i + 1) (omega arith) fits (append_cancel_left token (decimal one.number) (decimal (i + 1)) (sym one.is ∙ is)) in
    absurd (omega arith)

-- what is among the first is among all
first_of : {X : Type 0} {x : X} (i : ℕ) (xs : List X) → In x (take i xs) → In x xs
first_of zero xs h = elim h [ ]
first_of (suc i) [] h = elim h [ ]
first_of (suc i) (y ∷ xs) (here e) = here e
first_of (suc i) (y ∷ xs) (there h) = there (first_of i xs h)

in_map_first : {X Y : Type 0} (f : X → Y) {y : Y} (i : ℕ) (xs : List X) → In y (map f (take i xs)) → In y (map f xs)
in_map_first f zero xs h = elim h [ ]
in_map_first f (suc i) [] h = elim h [ ]
in_map_first f (suc i) (x ∷ xs) (here e) = here e
in_map_first f (suc i) (x ∷ xs) (there h) = there (in_map_first f i xs h)

pub among_all : (token : List ℕ) (i : ℕ) (positions : List (List Rel)) (name : List ℕ) → Contains (map (token_name token) (take i (numbered positions))) name → Contains (token_names token positions) name
among_all token i positions name h = contains_from_in (in_map_first (token_name token) i (numbered positions) (in_from_contains _ h))

-- a part and its name stand in their place
pub part_at : (positions : List (List Rel)) (i : ℕ) (q : List Rel) → i < length positions → q ≡ get_or positions i q → (i + 1, q) ≡ get_or (numbered positions) i (i + 1, q)
part_at positions i q within is =
    let number : i + 1 ≡ 1 + i = omega arith in
    (λ j. (number j, is j)) ∙ sym (get_or-enumerate_from 1 positions i (i + 1, q) within)

pub counted : (positions : List (List Rel)) → length (numbered positions) ≡ length positions
counted positions = length-enumerate_from 1 positions

pub name_among : (token : List ℕ) (positions : List (List Rel)) (i : ℕ) (q : List Rel) → i < length positions → q ≡ get_or positions i q → Contains (token_names token positions) (token_name token (i + 1, q))
name_among token positions i q within is =
    let long = counted positions in
    let one : In (get_or (numbered positions) i (i + 1, q)) (numbered positions) = In-get_or (numbered positions) i (i + 1, q) (omega arith) in
    contains_from_in (In-map (token_name token) (subst (λ part. In part (numbered positions)) (sym (part_at positions i q within is)) one))
