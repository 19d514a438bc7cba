-- A law of the definitions.
use Rattle.std.specs.Prelude.{◌≡◌, ℕ, List, Result, Ok, Err, ⊤}
use Rattle.rcc5_core.specs.declared.Rel.{Rel}
use Rattle.world_model.specs.Problem.{Problem}
use Rattle.part_join.specs.Joining.{IsJoin}
use Rattle.part_join.specs.declared.fault.JoinFault.{JoinFault}
use Rattle.part_join.specs.declared.fault.JoinFault.TheVariants.{PartRefused, Gap, ReadFault, NoMemory}

-- an answer that tells something of files: no read failed, and memory was enough
abbrev pub Tells : Result (List (List Rel)) JoinFault → Type 0
Tells (Ok worlds) = ⊤
Tells (Err (PartRefused number line kind)) = ⊤
Tells (Err (Gap from to)) = ⊤
Tells (Err ReadFault) = ⊥
Tells (Err NoMemory) = ⊥

-- files have one such answer
abbrev pub OneJoin : Type 0
OneJoin = (p : Problem) (files : List (List ℕ)) (a b : Result (List (List Rel)) JoinFault) → Tells a → Tells b → IsJoin p files a → IsJoin p files b → a ≡ b
