-- What a name holds that is written.
use Rattle.std.specs.Prelude.{◌≡◌, ℕ, List, option_map, OnOk, Result}
use Rattle.outer_store.specs.Contents.{OthersKept}
use Rattle.outer_store.specs.Faults.{Rose, IfFailed}
use Rattle.outer_store.specs.States.{StoreState, IsQuiet}
use Rattle.outer_store.specs.declared.fault.StoreFault.{StoreFault}

-- a name holds these bytes alone, told where it told its bytes before; other names are kept; and a failed write has its cause
pub record IsFileWritten {T : Type 0} (result : Result T StoreFault) (name bytes : List ℕ) (old new : StoreState) : Type 0 where
  pub ok : OnOk result (new.held name ≡ option_map (λ _. bytes) (old.held name))
  pub others : OthersKept name old.held new.held
  pub cause : IfFailed result (Rose (old.writes name) (new.writes name)) (IsQuiet old new)
