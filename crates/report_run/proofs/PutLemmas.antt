-- Reports that are put one after the other.
use Rattle.std.proofs.Common.{◌≡◌, ℕ, ◌+◌, ◌<◌, List, [], ◌∷◌, ◌++◌, zero, suc, take, length, get_or, map, flat_map, Option, Result, OnErr, refl, sym, ap, subst, ◌∙◌, arith}
use Rattle.std.specs.Prelude.{codes}
use Rattle.std.proofs.lemmas.List.{length-map}
use Rattle.outer_store.specs.Bytes.{GrownInPart, added}
use Rattle.world_model.specs.Problem.{Problem}
use Rattle.world_watch.specs.Steps.{Texts}
use Rattle.run_ends.specs.Ends.{line_of, in_lines, complete_line}
use Rattle.outer_store.specs.declared.fault.StoreFault.{StoreFault}
use Rattle.outer_store.proofs.BytesLemmas.{GrownInPart-kept}
use Rattle.outer_store.specs.States.{SinkState}
use Rattle.run_ends.specs.Runs.{LeavesPiece}
use Rattle.report_run.specs.Reporting.{watched, report_of}
use Rattle.report_run.proofs.AskLemmas.{seen_as}
use Rattle.run_ends.proofs.PieceLemmas.{piece_after, part_of_more, line_put, line_refused}

-- what the first of some watchers report is put
pub record AreReportsPut {W : Type 0} (ws : List W) (name : W → List ℕ) (text : W → Texts) (p : Problem) (place : ℕ) (old new : Option (List ℕ)) : Type 0 where
  pub put : new ≡ added old (flat_map (report_of p []) (take place (watched name text ws)))

item_seen : {W : Type 0} (name : W → List ℕ) (text : W → Texts) (ws : List W) (k : ℕ) (w : W) → k < length ws → w ≡ get_or ws k w → seen_as name text w ≡ get_or (watched name text ws) k (seen_as name text w)
item_seen name text [] k w within is = absurd (omega arith)
item_seen name text (x ∷ ws) zero w within is = ap (seen_as name text) is
item_seen name text (x ∷ ws) (suc k) w within is = item_seen name text ws k w (omega arith) is

item_named : {W : Type 0} (name : W → List ℕ) (ws : List W) (k : ℕ) (w : W) (kind : List ℕ) → k < length ws → w ≡ get_or ws k w → kind ≡ get_or (map name ws) k kind → kind ≡ name w
item_named name [] k w kind within is named = absurd (omega arith)
item_named name (x ∷ ws) zero w kind within is named = named ∙ ap name (sym is)
item_named name (x ∷ ws) (suc k) w kind within is named = item_named name ws k w kind (omega arith) is named

long : {W : Type 0} (name : W → List ℕ) (text : W → Texts) (ws : List W) → length (watched name text ws) ≡ length ws
long name text ws = length-map ws (seen_as name text)

pub report_put : {W : Type 0} (ws : List W) (name : W → List ℕ) (text : W → Texts) (p : Problem) (kinds : List (List ℕ)) (k : ℕ) (w : W) (kind : List ℕ) (old mid new : Option (List ℕ))
    → map name ws ≡ kinds → k < length ws → w ≡ get_or ws k w → kind ≡ get_or kinds k kind → AreReportsPut ws name text p k old mid
    → new ≡ added mid (line_of (codes "report " ++ kind) ++ in_lines (text w p [])) → AreReportsPut ws name text p (k + 1) old new
report_put ws name text p kinds k w kind old mid new named within is of_kind so_far put =
    let called : kind ≡ name w = item_named name ws k w kind within is (subst (λ ks. kind ≡ get_or ks k kind) (sym named) of_kind) in
    record {
      put = line_put (report_of p []) (watched name text ws) k (seen_as name text w) old mid new (omega (arith, within, long name text ws)) (item_seen name text ws k w within is) so_far.put
          (put ∙ ap (λ x. added mid (line_of (codes "report " ++ x) ++ in_lines (text w p []))) called);
    }

pub report_refused : {W T E : Type 0} (r : Result T E) (ws : List W) (name : W → List ℕ) (text : W → Texts) (p : Problem) (kinds : List (List ℕ)) (k : ℕ) (w : W) (kind : List ℕ) (old mid new : Option (List ℕ))
    → map name ws ≡ kinds → k < length ws → w ≡ get_or ws k w → kind ≡ get_or kinds k kind → AreReportsPut ws name text p k old mid
    → GrownInPart mid new (line_of (codes "report " ++ kind) ++ in_lines (text w p [])) → OnErr r (GrownInPart old new (flat_map (report_of p []) (watched name text ws)))
report_refused r ws name text p kinds k w kind old mid new named within is of_kind so_far part =
    let called : kind ≡ name w = item_named name ws k w kind within is (subst (λ ks. kind ≡ get_or ks k kind) (sym named) of_kind) in
    line_refused r (report_of p []) (watched name text ws) k (seen_as name text w) old mid new (omega (arith, within, long name text ws)) (item_seen name text ws k w within is) so_far.put
    (subst (λ x. GrownInPart mid new (line_of (codes "report " ++ x) ++ in_lines (text w p []))) called part)

-- before anything is put
pub nothing_put : {T E : Type 0} (r : Result T E) (old : Option (List ℕ)) (text : List ℕ) → OnErr r (GrownInPart old old text)
nothing_put r old text = by r
  where
    by : {T E : Type 0} (r : Result T E) → OnErr r (GrownInPart old old text)
    by (Rattle.std.specs.Prelude.Ok v) = tt
    by (Rattle.std.specs.Prelude.Err e) = GrownInPart-kept old old text refl

-- the reports are put, and how many worlds there are
pub answer_put : {W T : Type 0} (r : Result T StoreFault) (ws seen : List W) (name : W → List ℕ) (text : W → Texts) (p : Problem) (count : ℕ) (old mid new : SinkState) → seen ≡ ws
    → mid.bytes ≡ added old.bytes (flat_map (report_of p []) (watched name text seen)) → mid.faults ≡ old.faults → LeavesPiece r (complete_line count) mid new
    → LeavesPiece r (flat_map (report_of p []) (watched name text ws) ++ complete_line count) old new
answer_put r ws seen name text p count old mid new same put faults last =
    piece_after r (flat_map (report_of p []) (watched name text ws)) (complete_line count) old mid new (put ∙ ap (λ xs. added old.bytes (flat_map (report_of p []) (watched name text xs))) same) faults last

pub answer_part : {W T E : Type 0} (r : Result T E) (ws seen : List W) (name : W → List ℕ) (text : W → Texts) (p : Problem) (count : ℕ) (old new : Option (List ℕ)) → seen ≡ ws
    → GrownInPart old new (flat_map (report_of p []) (watched name text seen)) → OnErr r (GrownInPart old new (flat_map (report_of p []) (watched name text ws) ++ complete_line count))
answer_part r ws seen name text p count old new same part =
    part_of_more r old new (flat_map (report_of p []) (watched name text ws)) (complete_line count) (subst (λ xs. GrownInPart old new (flat_map (report_of p []) (watched name text xs))) same part)
