-- How a run of the desk's program ends, by its words.
use Rattle.std.proofs.Common.{◌≡◌, ℕ, List, [], Result, Ok, Err, refl, sym, subst, inl, inr}
use Rattle.outer_store.specs.States.{StoreState, SinkState}
use Rattle.command_line.specs.declared.UsageKind.{UsageKind}
use Rattle.command_line.specs.declared.request.DeskArgs.{DeskArgs}
use Rattle.command_line.specs.Words.{desk_request_of}
use Rattle.desk_run.specs.declared.DeskStatus.{DeskStatus}
use Rattle.desk_run.specs.declared.DeskStatus.TheVariants.{Usage, NoMemory}
use Rattle.desk_run.specs.Ends.{desk_end_line, IsDeskLastPut}
use Rattle.desk_run.specs.Serving.{names_for, answers_for, IsServeFor, IsServe}
use Rattle.desk_run.proofs.EndLemmas.{IsDeskRun, run_early}

-- words that ask for a script
pub words_asked : (words : List (List ℕ)) (args : DeskArgs) (s : DeskStatus) (one other : StoreState) (old new : SinkState) → desk_request_of words ≡ Ok args
    → IsDeskRun args s one other old new → IsServe words s one other old new
words_asked words args s one other old new e run = subst (λ asked. IsServeFor asked s one other old new) (sym e) run

-- words that ask for none
pub words_refused : (words : List (List ℕ)) (kind : UsageKind) (r : DeskStatus) (one : StoreState) (old new : SinkState) → desk_request_of words ≡ Err kind
    → IsDeskLastPut (Usage kind) r (desk_end_line (Usage kind)) old new → IsServe words r one one old new
words_refused words kind r one old new e last =
    let refused : Result DeskArgs UsageKind = Err kind in
    subst (λ asked. IsServeFor asked r one one old new) (sym e)
    (run_early (names_for refused) (answers_for refused) (Usage kind) r one one old new refl (inl ((refl, refl, refl), refl, (refl, refl))) last)

-- and want of memory before they are read
pub words_starved : (words : List (List ℕ)) (r : DeskStatus) (one : StoreState) (old new : SinkState) → IsDeskLastPut NoMemory r (desk_end_line NoMemory) old new → IsServe words r one one old new
words_starved words r one old new last =
    run_early (names_for (desk_request_of words)) (answers_for (desk_request_of words)) NoMemory r one one old new refl (inr (inr (refl, (refl, refl)))) last

pub ruleset words_rules = (words_asked, words_refused, words_starved)
