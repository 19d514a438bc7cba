-- The steps of an answer: one part is put.
use Rattle.std.specs.Prelude.{◌≡◌, ℕ, List, [], ◌∷◌, option_map, OnOk, OnErr, Result}
use Rattle.outer_store.specs.Bytes.{GrownInPart, added}
use Rattle.outer_store.specs.Contents.{OthersKept}
use Rattle.outer_store.specs.Faults.{IfFailed}
use Rattle.outer_store.specs.States.{StoreState, SinkState, IsQuiet}
use Rattle.outer_store.specs.declared.fault.StoreFault.{StoreFault}
use Rattle.rcc5_core.specs.declared.Rel.{Rel}
use Rattle.world_model.specs.Problem.{Problem}
use Rattle.run_ends.specs.Token.Token.{token_text}
use Rattle.run_ends.specs.Runs.{IsWriteCause}
use Rattle.listing_run.specs.Parts.Answering.{part_line, token_name}

-- the token of a part is written, and then its line put
pub record IsPartPut {T : Type 0} (result : Result T StoreFault) (p : Problem) (token : List ℕ) (part : ℕ × List Rel) (store store' : StoreState) (sink sink' : SinkState) : Type 0 where
  pub put : OnOk result (sink'.bytes ≡ added sink.bytes (part_line part))
  pub written : OnOk result (store'.held (token_name token part) ≡ option_map (λ _. token_text p part.1) (store.held (token_name token part)))
  pub others : OthersKept (token_name token part) store.held store'.held
  pub refused : OnErr result (GrownInPart sink.bytes sink'.bytes (part_line part))
  pub cause : IfFailed result (IsWriteCause (token_name token part ∷ []) store store' sink sink') (IsQuiet store store' × (sink'.faults ≡ sink.faults))
