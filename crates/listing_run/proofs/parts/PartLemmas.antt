-- How one part is put, by its steps.
use Rattle.std.proofs.Common.{◌≡◌, ℕ, List, Result, Ok, Err, refl, sym, subst, inr}
use Rattle.outer_store.specs.States.{StoreState, SinkState}
use Rattle.outer_store.specs.declared.fault.StoreFault.{StoreFault}
use Rattle.outer_store.specs.declared.fault.StoreFault.TheVariants.{Failed, NoMemory}
use Rattle.outer_store.proofs.BytesLemmas.{GrownInPart-kept}
use Rattle.rcc5_core.specs.declared.Rel.{Rel}
use Rattle.world_model.specs.Problem.{Problem}
use Rattle.run_ends.specs.Writes.{IsFileWritten}
use Rattle.run_ends.proofs.OneName.{write_failed}
use Rattle.listing_run.specs.Parts.Answering.{part_line, token_name}
use Rattle.listing_run.specs.Parts.Steps.{IsPartPut}

module _ {T : Type 0} (p : Problem) (token : List ℕ) (part : ℕ × List Rel) where
  -- memory was wanting before anything was written
  pub part_starved : (r : Result T StoreFault) (store : StoreState) (sink : SinkState) → r ≡ Err NoMemory → IsPartPut r p token part store store sink sink
  part_starved r store sink e = subst (λ x. IsPartPut x p token part store store sink sink) (sym e) (record {
    put = tt;
    written = tt;
    others = λ other apart. refl;
    refused = GrownInPart-kept sink.bytes sink.bytes (part_line part) refl;
    cause = ((refl, refl), refl);
  })

  -- the token was not written
  pub part_unwritten : {U : Type 0} (r : Result T StoreFault) (f : StoreFault) (name bytes : List ℕ) (store store' : StoreState) (sink : SinkState) → r ≡ Err f → name ≡ token_name token part
      → IsFileWritten {T = U} (Err f) name bytes store store' → IsPartPut r p token part store store' sink sink
  part_unwritten {U} r f name bytes store store' sink e is written =
      subst (λ x. IsPartPut x p token part store store' sink sink) (sym e) (by f (subst (λ n. IsFileWritten {T = U} (Err f) n bytes store store') is written))
    where
      by : (f : StoreFault) → IsFileWritten {T = U} (Err f) (token_name token part) bytes store store' → IsPartPut {T = T} (Err f) p token part store store' sink sink
      by Failed written = record {
        put = tt;
        written = tt;
        others = written.others;
        refused = GrownInPart-kept sink.bytes sink.bytes (part_line part) refl;
        cause = inr (write_failed (token_name token part) store.writes store'.writes written.cause, refl);
      }
      by NoMemory written = record {
        put = tt;
        written = tt;
        others = written.others;
        refused = GrownInPart-kept sink.bytes sink.bytes (part_line part) refl;
        cause = (written.cause, refl);
      }

  -- memory was wanting for its line
  pub part_unput : {U : Type 0} (v : U) (r : Result T StoreFault) (name bytes : List ℕ) (store store' : StoreState) (sink : SinkState) → r ≡ Err NoMemory → name ≡ token_name token part
      → IsFileWritten (Ok v) name bytes store store' → IsPartPut r p token part store store' sink sink
  part_unput v r name bytes store store' sink e is written =
      let at_name = subst (λ n. IsFileWritten (Ok v) n bytes store store') is written in
      subst (λ x. IsPartPut x p token part store store' sink sink) (sym e) (record {
        put = tt;
        written = tt;
        others = at_name.others;
        refused = GrownInPart-kept sink.bytes sink.bytes (part_line part) refl;
        cause = (at_name.cause, refl);
      })

-- a part by the name of the tokens' problem, and by the text of the word that names them
pub part_as : {T : Type 0} (r : Result T StoreFault) (p q : Problem) (token word : List ℕ) (part : ℕ × List Rel) (store store' : StoreState) (sink sink' : SinkState) → q ≡ p → word ≡ token
    → IsPartPut r q word part store store' sink sink' → IsPartPut r p token part store store' sink sink'
part_as r p q token word part store store' sink sink' same is put =
    subst (λ problem. IsPartPut r problem token part store store' sink sink') same (subst (λ name. IsPartPut r q name part store store' sink sink') is put)
