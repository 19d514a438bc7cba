-- How many flags are true, and the lines of the articulations whose flag is true.
use Rattle.std.proofs.Common.{◌≡◌, ℕ, suc, ◌+◌, ◌<◌, ◌≤◌, Bool, true, false, List, [], ◌∷◌, ◌++◌, length, drop, get_or, Some, refl, sym, ap, ◌∙◌, append_assoc, arith}
use Rattle.std.specs.Prelude.{slice_get}
use Rattle.std.proofs.lemmas.List.{drop_more, drop_all}
use Rattle.std.proofs.lemmas.Option.{slice_get-get_or}
use Rattle.world_model.specs.declared.Articulation.{Articulation}
use Rattle.world_model.specs.Problem.{Problem}
use Rattle.conflict_min.specs.Conflicts.{places_from}
use Rattle.claims_run.specs.Answering.{numbered_line, numbered_lines}
use Rattle.claims_run.specs.Putting.{IsNumberedAt}

-- how many flags are true does not hang on where their places begin
same_count : (k j : ℕ) (flags : List Bool) → length (places_from k flags) ≡ length (places_from j flags)
same_count k j [] = refl
same_count k j (true ∷ flags) = ap suc (same_count (k + 1) (j + 1) flags)
same_count k j (false ∷ flags) = same_count (k + 1) (j + 1) flags

-- one more flag is counted where it is true
count_at : (flags : List Bool) (k : ℕ) (b d : Bool) → k < length flags → b ≡ get_or flags k d → length (places_from 0 (drop k flags)) ≡ length (places_from 0 (b ∷ drop (k + 1) flags))
count_at flags k b d h is = ap (λ fs. length (places_from 0 fs)) (drop_more flags k d h ∙ ap (λ v. v ∷ drop (k + 1) flags) (sym is))

pub counted_kept : (flags : List Bool) (k count : ℕ) (d : Bool) → k < length flags → true ≡ get_or flags k d → count + length (places_from 0 (drop k flags)) ≡ length (places_from 0 flags)
    → count + 1 + length (places_from 0 (drop (k + 1) flags)) ≡ length (places_from 0 flags)
counted_kept flags k count d h is so_far =
    let here = count_at flags k true d h is in
    let rest = same_count 1 0 (drop (k + 1) flags) in
    omega (arith, so_far, here, rest)

pub counted_dropped : (flags : List Bool) (k count : ℕ) (d : Bool) → k < length flags → false ≡ get_or flags k d → count + length (places_from 0 (drop k flags)) ≡ length (places_from 0 flags)
    → count + length (places_from 0 (drop (k + 1) flags)) ≡ length (places_from 0 flags)
counted_dropped flags k count d h is so_far =
    let here = count_at flags k false d h is in
    let rest = same_count 1 0 (drop (k + 1) flags) in
    omega (arith, so_far, here, rest)

pub counted_all : (flags : List Bool) (k count : ℕ) → length flags ≤ k → count + length (places_from 0 (drop k flags)) ≡ length (places_from 0 flags) → count ≡ length (places_from 0 flags)
counted_all flags k count end so_far =
    let none = ap (λ fs. length (places_from 0 fs)) (drop_all k flags end) in
    omega (arith, so_far, none)

-- what a place of a list holds
item_at : {X : Type 0} (xs : List X) (k : ℕ) → k < length xs → (x : X) × (slice_get xs k ≡ Some x) × (drop k xs ≡ x ∷ drop (k + 1) xs)
item_at [] k h = absurd (omega arith)
item_at (x ∷ xs) k h = (get_or (x ∷ xs) k x, slice_get-get_or (x ∷ xs) k x h, drop_more (x ∷ xs) k x h)

-- the lines of the articulations from a place on
abbrev pub lines_at : Problem → List Bool → ℕ → List ℕ
lines_at p kept k = numbered_lines p (k + 1) (drop k p.articulations) (drop k kept)

line_at : (p : Problem) (kept : List Bool) (k : ℕ) (b d : Bool) (a : Articulation) → k < length kept → b ≡ get_or kept k d → drop k p.articulations ≡ a ∷ drop (k + 1) p.articulations
    → lines_at p kept k ≡ numbered_lines p (k + 1) (a ∷ drop (k + 1) p.articulations) (b ∷ drop (k + 1) kept)
line_at p kept k b d a h is at =
    ap (λ xs. numbered_lines p (k + 1) xs (drop k kept)) at
    ∙ ap (λ fs. numbered_lines p (k + 1) (a ∷ drop (k + 1) p.articulations) fs) (drop_more kept k d h ∙ ap (λ v. v ∷ drop (k + 1) kept) (sym is))

-- one more line is put where the flag is true
pub line_kept : (p : Problem) (kept : List Bool) (k : ℕ) (d : Bool) (old new whole : List ℕ) → k < length kept → length kept ≡ length p.articulations → true ≡ get_or kept k d
    → old ++ lines_at p kept k ≡ whole → IsNumberedAt p k old new → new ++ lines_at p kept (k + 1) ≡ whole
line_kept p kept k d old new whole h flags is so_far put =
    let item = item_at p.articulations k (omega (arith, h, flags)) in
    ap (λ xs. xs ++ lines_at p kept (k + 1)) (put item.0 item.1)
    ∙ append_assoc old (numbered_line p (k + 1) item.0) (lines_at p kept (k + 1))
    ∙ ap (λ xs. old ++ xs) (sym (line_at p kept k true d item.0 h is item.2))
    ∙ so_far

pub line_dropped : (p : Problem) (kept : List Bool) (k : ℕ) (d : Bool) (old whole : List ℕ) → k < length kept → length kept ≡ length p.articulations → false ≡ get_or kept k d
    → old ++ lines_at p kept k ≡ whole → old ++ lines_at p kept (k + 1) ≡ whole
line_dropped p kept k d old whole h flags is so_far =
    let item = item_at p.articulations k (omega (arith, h, flags)) in
    ap (λ xs. old ++ xs) (sym (line_at p kept k false d item.0 h is item.2)) ∙ so_far
