-- What is put and written of parts, one after the other.
use Rattle.std.proofs.Common.{◌≡◌, ℕ, ◌+◌, ◌^◌, ◌<◌, ◌≤◌, List, [], ◌∷◌, ◌++◌, map, take, flat_map, length, get_or, append-nil, Option, None, Some, IfSome, IsTrue, Result, Ok, Err, refl, sym, ap, subst, ◌∙◌, inl, inr, ⊎_elim, arith}
use Rattle.std.specs.Prelude.{Contains, is_some, option_map}
use Rattle.std.proofs.lemmas.List.{take_more, take_all, map-append}
use Rattle.outer_store.specs.Bytes.{GrownInPart, added}
use Rattle.outer_store.specs.Contents.{Contents}
use Rattle.outer_store.specs.Faults.{Counts, Rose, IfFailed}
use Rattle.outer_store.specs.States.{StoreState, SinkState, IsQuiet, IsQuiet-joins}
use Rattle.outer_store.specs.declared.fault.StoreFault.{StoreFault}
use Rattle.outer_store.specs.declared.fault.StoreFault.TheVariants.{Failed, NoMemory}
use Rattle.outer_store.proofs.BytesLemmas.{added-added, GrownInPart-kept, GrownInPart-longer, GrownInPart-after}
use Rattle.rcc5_core.specs.declared.Rel.{Rel}
use Rattle.world_model.specs.Problem.{Problem}
use Rattle.run_ends.specs.Token.Token.{token_text}
use Rattle.command_line.specs.declared.request.PartsArgs.{PartsArgs}
use Rattle.listing_run.specs.Parts.Beginnings.{AreBeginnings}
use Rattle.run_ends.specs.declared.Status.{Status}
use Rattle.run_ends.specs.declared.Status.TheVariants.{Done}
use Rattle.run_ends.specs.Runs.{File, HasFailed, AreKeptBut, AreWritten, IsWriteCause, IsPutPart, IsCarriedOut, LeavesPiece}
use Rattle.run_ends.proofs.EndLemmas.{none_written}
use Rattle.run_ends.proofs.OneName.{kept_but_one}
use Rattle.run_ends.proofs.PieceLemmas.{line_put, line_refused}
use Rattle.run_ends.proofs.WrittenLemmas.{in_one, names, written_one, written_both}
use Rattle.listing_run.specs.Parts.Answering.{numbered, part_line, parts_line, parts_text, token_name, token_file, token_names, AreParts}
use Rattle.listing_run.specs.Parts.Steps.{IsPartPut}
use Rattle.listing_run.proofs.parts.NameLemmas.{file_names, next_name, among_all, part_at, counted, name_among}

-- the first parts are put and written, and no call failed
pub record ArePutTo (p : Problem) (token : List ℕ) (positions : List (List Rel)) (i : ℕ) (store store' : StoreState) (sink sink' : SinkState) : Type 0 where
  pub put : sink'.bytes ≡ added sink.bytes (flat_map part_line (take i (numbered positions)))
  pub written : AreWritten (map (token_file p token store.held) (take i (numbered positions))) store.held store'.held
  pub quiet : IsQuiet store store'
  pub same : sink'.faults ≡ sink.faults

none_added : (told : Option (List ℕ)) → told ≡ added told []
none_added None = refl
none_added (Some bytes) = ap Some (sym (append-nil bytes))

pub none_put : (p : Problem) (token : List ℕ) (positions : List (List Rel)) (store : StoreState) (sink : SinkState) → ArePutTo p token positions 0 store store sink sink
none_put p token positions store sink = record {
  put = none_added sink.bytes;
  written = none_written store.held store.held refl;
  quiet = (refl, refl);
  same = refl;
}

module _ (p : Problem) (token : List ℕ) (positions : List (List Rel)) (i : ℕ) (q : List Rel) (within : i < length positions) (is : q ≡ get_or positions i q) where
  in_numbered : i < length (numbered positions)
  in_numbered = let long = counted positions in omega arith

  -- names other than the first parts' and this one's are kept
  kept_on : (old mid new : Contents) (held : Contents) → AreWritten (map (token_file p token held) (take i (numbered positions))) old mid → AreKeptBut (token_name token (i + 1, q) ∷ []) mid new
      → AreKeptBut (token_names token positions) old new
  kept_on old mid new held first next name apart =
      next name (λ here. apart (subst (Contains (token_names token positions)) (sym (in_one (token_name token (i + 1, q)) name here)) (name_among token positions i q within is)))
      ∙ first.others name (λ here. apart (among_all token i positions name (subst (λ list. Contains list name) (file_names p token held (take i (numbered positions))) here)))

  -- one part more
  pub put_next : {T : Type 0} (v : T) (one mid other : StoreState) (old between new : SinkState) → i + 1 < 2 ^ 64
      → ArePutTo p token positions i one mid old between → IsPartPut {T = T} (Ok v) p token (i + 1, q) mid other between new → ArePutTo p token positions (i + 1) one other old new
  put_next v one mid other old between new fits so_far next = record {
    put = line_put part_line (numbered positions) i (i + 1, q) old.bytes between.bytes new.bytes in_numbered (part_at positions i q within is) so_far.put next.put;
    written = subst (λ files. AreWritten files one.held other.held) (sym more)
        (written_both these (file ∷ []) one.held mid.held other.held apart so_far.written
        (written_one name bytes mid.held other.held (next.written ∙ ap (option_map (λ _. token_text p q)) unwritten) told (kept_but_one name mid.held other.held next.others)));
    quiet = IsQuiet-joins one mid other so_far.quiet next.cause.0;
    same = next.cause.1 ∙ so_far.same;
  }
    where
      name : List ℕ
      name = token_name token (i + 1, q)

      these : List File
      these = map (token_file p token one.held) (take i (numbered positions))

      file : File
      file = token_file p token one.held (i + 1, q)

      bytes : Option (List ℕ)
      bytes = option_map (λ _. token_text p q) (one.held name)

      none_of : (other : List ℕ) → other ≡ name → Contains (names these) other → ⊥
      none_of other e here = next_name token i positions other fits e (subst (λ list. Contains list other) (file_names p token one.held (take i (numbered positions))) here)

      unwritten : mid.held name ≡ one.held name
      unwritten = so_far.written.others name (none_of name refl)

      tells : (told : Option (List ℕ)) → IfSome told (λ _. IsTrue (is_some (option_map (λ _. token_text p q) told)))
      tells None = tt
      tells (Some all) = refl

      told : IfSome (mid.held name) (λ _. IsTrue (is_some bytes))
      told = subst (λ (here : Option (List ℕ)). IfSome here (λ _. IsTrue (is_some bytes))) (sym unwritten) (tells (one.held name))

      apart : (other : List ℕ) → Contains (names these) other → Contains (name ∷ []) other → ⊥
      apart other here there = none_of other (in_one name other there) here

      more : map (token_file p token one.held) (take (i + 1) (numbered positions)) ≡ these ++ file ∷ []
      more =
          ap (map (token_file p token one.held)) (take_more (numbered positions) i (i + 1, q) in_numbered ∙ ap (λ here. take i (numbered positions) ++ here ∷ []) (sym (part_at positions i q within is)))
          ∙ map-append (token_file p token one.held) (take i (numbered positions)) ((i + 1, q) ∷ [])

-- a first part of the text of an answer
partly : (p : Problem) (args : PartsArgs) (positions : List (List Rel)) (store : StoreState) (old new : SinkState) → AreBeginnings p args.count positions
    → GrownInPart old.bytes new.bytes (parts_text positions) → IsPutPart (AreParts p args) store old new
partly p args positions store old new begin grown = record {
  text = parts_text positions;
  of_answer = inl (
    Done,
    map (token_file p args.token store.held) (numbered positions),
    record { positions = positions; begin = begin; ended = refl; put = refl; written = refl },
  );
  part = grown;
}

-- memory was wanting before the first part
pub parts_starved : (r : Result Status StoreFault) (p : Problem) (args : PartsArgs) (positions : List (List Rel)) (store : StoreState) (sink : SinkState) → r ≡ Err NoMemory → AreBeginnings p args.count positions
    → IsCarriedOut (AreParts p args) r (token_names args.token positions) store store sink sink
parts_starved r p args positions store sink e begin = subst (λ x. IsCarriedOut (AreParts p args) x (token_names args.token positions) store store sink sink) (sym e) (record {
  done = tt;
  refused = partly p args positions store sink sink begin (GrownInPart-kept sink.bytes sink.bytes (parts_text positions) refl);
  by_cause = record { cause = ((refl, refl), refl); kept = λ name apart. refl };
})

-- a part was not put
pub parts_stopped : {T : Type 0} (r : Result Status StoreFault) (f : StoreFault) (p : Problem) (args : PartsArgs) (positions : List (List Rel)) (i : ℕ) (q : List Rel) (one mid other : StoreState) (old between new : SinkState)
    → r ≡ Err f → AreBeginnings p args.count positions → i < length positions → q ≡ get_or positions i q → ArePutTo p args.token positions i one mid old between
    → IsPartPut {T = T} (Err f) p args.token (i + 1, q) mid other between new → IsCarriedOut (AreParts p args) r (token_names args.token positions) one other old new
parts_stopped {T} r f p args positions i q one mid other old between new e begin within is so_far next = subst (λ x. IsCarriedOut (AreParts p args) x (token_names args.token positions) one other old new) (sym e) (record {
  done = tt;
  refused = partly p args positions one old new begin (GrownInPart-longer old.bytes new.bytes (flat_map part_line (numbered positions)) (parts_line (length positions)) lines);
  by_cause = record { cause = by f next.cause; kept = kept_on p args.token positions i q within is one.held mid.held other.held one.held so_far.written (kept_but_one name mid.held other.held next.others) };
})
  where
    name : List ℕ
    name = token_name args.token (i + 1, q)

    lines : GrownInPart old.bytes new.bytes (flat_map part_line (numbered positions))
    lines =
        let long = counted positions in
        line_refused {T = T} {E = StoreFault} (Err f) part_line (numbered positions) i (i + 1, q) old.bytes between.bytes new.bytes (omega arith) (part_at positions i q within is) so_far.put next.refused

    failed : HasFailed (name ∷ []) mid.writes other.writes → HasFailed (token_names args.token positions) one.writes other.writes
    failed one_failed = record {
      name = name;
      named = name_among args.token positions i q within is;
      rose = subst (λ (counts : Counts). Rose (counts name) (other.writes name)) so_far.quiet.1 (subst (λ n. Rose (mid.writes n) (other.writes n)) (in_one name one_failed.name one_failed.named) one_failed.rose);
    }

    by : (f : StoreFault) → IfFailed {T = T} (Err f) (IsWriteCause (name ∷ []) mid other between new) (IsQuiet mid other × (new.faults ≡ between.faults))
        → IfFailed {T = Status} (Err f) (IsWriteCause (token_names args.token positions) one other old new) (IsQuiet one other × (new.faults ≡ old.faults))
    by Failed cause = ⊎_elim
        (λ put. inl (subst (λ (n : ℕ). Rose n new.faults) so_far.same put.0, IsQuiet-joins one mid other so_far.quiet put.1))
        (λ write. inr (failed write.0, write.1 ∙ so_far.same))
        cause
    by NoMemory cause = (IsQuiet-joins one mid other so_far.quiet cause.0, cause.1 ∙ so_far.same)

-- the answer by how the last line was put
abbrev pub IsEndOf : {T : Type 0} → Result T StoreFault → Result Status StoreFault → Type 0
IsEndOf (Ok v) r = r ≡ Ok Done
IsEndOf (Err f) r = r ≡ Err f

-- why the last line was not put
end_cause : (T : Type 0) (f : StoreFault) (written : List (List ℕ)) (one other : StoreState) (old between new : SinkState) → IsQuiet one other → between.faults ≡ old.faults
    → IfFailed {T = T} (Err f) (Rose between.faults new.faults) (new.faults ≡ between.faults) → IfFailed {T = Status} (Err f) (IsWriteCause written one other old new) (IsQuiet one other × (new.faults ≡ old.faults))
end_cause T Failed written one other old between new quiet same rose = inl (subst (λ (n : ℕ). Rose n new.faults) same rose, quiet)
end_cause T NoMemory written one other old between new quiet same still = (quiet, still ∙ same)

-- all parts are put, and then how many they are
pub parts_ended : {T : Type 0} (s : Result T StoreFault) (r : Result Status StoreFault) (p : Problem) (args : PartsArgs) (positions : List (List Rel)) (i count : ℕ) (one other : StoreState) (old between new : SinkState)
    → AreBeginnings p args.count positions → length positions ≤ i → count ≡ length positions → ArePutTo p args.token positions i one other old between → LeavesPiece s (parts_line count) between new
    → IsEndOf s r → IsCarriedOut (AreParts p args) r (token_names args.token positions) one other old new
parts_ended {T} s r p args positions i count one other old between new begin end counts so_far put of = by s r put of
  where
    all : take i (numbered positions) ≡ numbered positions
    all = let long = counted positions in take_all i (numbered positions) (omega arith)

    put_all : between.bytes ≡ added old.bytes (flat_map part_line (numbered positions))
    put_all = so_far.put ∙ ap (λ parts. added old.bytes (flat_map part_line parts)) all

    written : AreWritten (map (token_file p args.token one.held) (numbered positions)) one.held other.held
    written = subst (λ parts. AreWritten (map (token_file p args.token one.held) parts) one.held other.held) all so_far.written

    kept : AreKeptBut (token_names args.token positions) one.held other.held
    kept name apart = written.others name (λ here. apart (subst (λ list. Contains list name) (file_names p args.token one.held (numbered positions)) here))

    by : (s : Result T StoreFault) (r : Result Status StoreFault) → LeavesPiece s (parts_line count) between new → IsEndOf s r
        → IsCarriedOut (AreParts p args) r (token_names args.token positions) one other old new
    by (Ok v) r put of = subst (λ x. IsCarriedOut (AreParts p args) x (token_names args.token positions) one other old new) (sym of) (record {
      done = record {
        text = parts_text positions;
        files = map (token_file p args.token one.held) (numbered positions);
        asked = record { positions = positions; begin = begin; ended = refl; put = refl; written = refl };
        answered = refl;
        put = put.ok ∙ ap (λ told. added told (parts_line count)) put_all
            ∙ added-added old.bytes (flat_map part_line (numbered positions)) (parts_line count)
            ∙ ap (λ n. added old.bytes (flat_map part_line (numbered positions) ++ parts_line n)) counts;
        written = written;
      };
      refused = tt;
      by_cause = record { cause = (so_far.quiet, put.cause ∙ so_far.same); kept = kept };
    })
    by (Err f) r put of = subst (λ x. IsCarriedOut (AreParts p args) x (token_names args.token positions) one other old new) (sym of) (record {
      done = tt;
      refused = partly p args positions one old new begin
          (subst (λ n. GrownInPart old.bytes new.bytes (flat_map part_line (numbered positions) ++ parts_line n)) counts
          (GrownInPart-after old.bytes between.bytes new.bytes (flat_map part_line (numbered positions)) (parts_line count) put_all put.err));
      by_cause = record { cause = end_cause T f (token_names args.token positions) one other old between new so_far.quiet so_far.same put.cause; kept = kept };
    })
