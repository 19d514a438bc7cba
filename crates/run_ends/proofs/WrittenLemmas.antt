-- Files that are written, one after another, and which names are kept.
use Rattle.std.proofs.Common.{◌≡◌, ℕ, zero, suc, ◌<◌, slice_index_or, List, [], ◌∷◌, ◌++◌, map, Option, None, Some, IfSome, IsTrue, Ok, refl, sym, ap, subst, ◌∙◌, arith}
use Rattle.std.specs.Prelude.{Contains, All, is_some, option_map}
use Rattle.std.proofs.lemmas.List.{map-append}
use Rattle.std.proofs.lemmas.List.Elements.{Contains-append_left, Contains-append_right, All-nil, All-cons, All-append}
use Rattle.outer_store.specs.Bytes.{added}
use Rattle.outer_store.specs.Contents.{Contents, OthersKept, emptied}
use Rattle.outer_store.specs.Faults.{Counts}
use Rattle.outer_store.specs.States.{StoreState}
use Rattle.run_ends.specs.Runs.{File, HasFailed, AreKeptBut, IsHeld, AreWritten}
use Rattle.run_ends.specs.Writes.{IsFileWritten}
use Rattle.run_ends.proofs.OneName.{is_first, kept_but_one}

-- what is made empty and then added to holds what was added
pub made_anew : (old mid new : Option (List ℕ)) (bytes : List ℕ) → mid ≡ emptied old → new ≡ added mid bytes → new ≡ option_map (λ _. bytes) old
made_anew None mid new bytes a b = b ∙ ap (λ told. added told bytes) a
made_anew (Some held) mid new bytes a b = b ∙ ap (λ told. added told bytes) a

pub others_twice : (name : List ℕ) (old mid new : Contents) → OthersKept name old mid → OthersKept name mid new → OthersKept name old new
others_twice name old mid new a b other apart = b other apart ∙ a other apart

pub ruleset write_rules = (made_anew, others_twice)

-- no name stands in an empty list, and one alone in a list of one
pub in_none : (name : List ℕ) → Contains [] name → ⊥
in_none name here = omega (arith, here.1)

pub in_one : (one name : List ℕ) → Contains (one ∷ []) name → name ≡ one
in_one one name here = by here.0 here.1 here.2
  where
    by : (k : ℕ) → k < 1 → slice_index_or (one ∷ []) k name ≡ name → name ≡ one
    by zero lt e = sym e
    by (suc k) lt e = absurd (omega (arith, lt))

-- what is kept with fewer names is kept with more
pub kept_more_left : (these those : List (List ℕ)) (old new : Contents) → AreKeptBut these old new → AreKeptBut (these ++ those) old new
kept_more_left these those old new kept = λ name apart. kept name (λ here. apart (Contains-append_left these those name here))

pub kept_twice : (these those : List (List ℕ)) (old mid new : Contents) → AreKeptBut these old mid → AreKeptBut those mid new → AreKeptBut (these ++ those) old new
kept_twice these those old mid new first second = λ name apart.
    second name (λ here. apart (Contains-append_right these those name here)) ∙ first name (λ here. apart (Contains-append_left these those name here))

pub failed_left : (these those : List (List ℕ)) (before now : Counts) → HasFailed these before now → HasFailed (these ++ those) before now
failed_left these those before now failed = record { name = failed.name; named = Contains-append_left these those failed.name failed.named; rose = failed.rose }

pub failed_right : (these those : List (List ℕ)) (before now : Counts) → HasFailed those before now → HasFailed (these ++ those) before now
failed_right these those before now failed = record { name = failed.name; named = Contains-append_right these those failed.name failed.named; rose = failed.rose }

-- the names of files
abbrev pub names : List File → List (List ℕ)
names files = map (λ (file : File). file.name) files

all_tail : {X : Type 0} (P : X → Type 0) (x : X) (xs : List X) → All P (x ∷ xs) → All P xs
all_tail P x xs h = λ k d lt. h (suc k) d (omega (arith, lt))

all_head : {X : Type 0} (P : X → Type 0) (x : X) (xs : List X) → All P (x ∷ xs) → P x
all_head P x xs h = h 0 x (omega arith)

-- files of other names are held still
pub held_on : (old mid new : Contents) (these : List File) → ((name : List ℕ) → Contains (names these) name → new name ≡ mid name) → All (IsHeld old mid) these → All (IsHeld old new) these
held_on old mid new [] same held = All-nil (IsHeld old new)
held_on old mid new (file ∷ these) same held =
    let first = all_head (IsHeld old mid) file these held in
    All-cons (IsHeld old new) file these (same file.name (is_first file.name (names these)) ∙ first.0, first.1)
    (held_on old mid new these (λ name here. same name (Contains-append_right (file.name ∷ []) (names these) name here)) (all_tail (IsHeld old mid) file these held))

-- and were told alike before
pub held_since : (old mid new : Contents) (those : List File) → ((name : List ℕ) → Contains (names those) name → mid name ≡ old name) → All (IsHeld mid new) those → All (IsHeld old new) those
held_since old mid new [] same held = All-nil (IsHeld old new)
held_since old mid new (file ∷ those) same held =
    let first = all_head (IsHeld mid new) file those held in
    All-cons (IsHeld old new) file those
    (first.0, subst (λ (told : Option (List ℕ)). IfSome told (λ _. IsTrue (is_some file.bytes))) (same file.name (is_first file.name (names those))) first.1)
    (held_since old mid new those (λ name here. same name (Contains-append_right (file.name ∷ []) (names those) name here)) (all_tail (IsHeld mid new) file those held))

-- one file that is written
pub written_one : (name : List ℕ) (bytes : Option (List ℕ)) (old new : Contents) → new name ≡ bytes → IfSome (old name) (λ _. IsTrue (is_some bytes))
    → AreKeptBut (name ∷ []) old new → AreWritten (record { name = name; bytes = bytes } ∷ []) old new
written_one name bytes old new is told kept = record {
  each = All-cons (IsHeld old new) (record { name = name; bytes = bytes }) [] (is, told) (All-nil (IsHeld old new));
  others = kept;
}

pub written_whole : {T : Type 0} (v : T) (name bytes : List ℕ) (old new : StoreState) → IsFileWritten {T = T} (Ok v) name bytes old new
    → AreWritten (record { name = name; bytes = option_map (λ _. bytes) (old.held name) } ∷ []) old.held new.held
written_whole v name bytes old new written =
    written_one name (option_map (λ _. bytes) (old.held name)) old.held new.held written.ok (by (old.held name)) (kept_but_one name old.held new.held written.others)
  where
    by : (told : Option (List ℕ)) → IfSome told (λ _. IsTrue (is_some (option_map (λ _. bytes) told)))
    by None = tt
    by (Some all) = refl

-- files that are written one after another, under other names
pub written_both : (these those : List File) (old mid new : Contents) → ((name : List ℕ) → Contains (names these) name → Contains (names those) name → ⊥)
    → AreWritten these old mid → AreWritten those mid new → AreWritten (these ++ those) old new
written_both these those old mid new apart first second = record {
  each = All-append (IsHeld old new) these those
      (held_on old mid new these (λ name here. second.others name (apart name here)) first.each)
      (held_since old mid new those (λ name there. first.others name (λ here. apart name here there)) second.each);
  others = subst (λ (ns : List (List ℕ)). AreKeptBut ns old new) (sym (map-append (λ (file : File). file.name) these those)) (kept_twice (names these) (names those) old mid new first.others second.others);
}
