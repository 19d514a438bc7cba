-- What the objects in memory hold.
use Rattle.std.specs.Prelude.{ℕ, ◌-◌, min, List, [], ◌++◌, length, take, drop, Some, unwrap_or, Result, Ok, Err, if◌then◌else◌, refl}
use Rattle.std.specs.Coded.{Coded, code_by, coded×, coded_ℕ, coded_list}
use Rattle.std.specs.Ordering.{nat_cmp}
use Rattle.std.specs.Cmp.Lexicographic.{slice_cmp}
use Rattle.std.specs.FinMap as map
use Rattle.outer_store.specs.Contents.{Contents}
use Rattle.outer_store.specs.Plan.{Plan, fails_next, fresh_plan}
use Rattle.outer_store.specs.declared.fault.StoreFault.{StoreFault}
use Rattle.outer_store.specs.declared.fault.StoreFault.TheVariants.{Failed}

-- a finite map from names to bytes
abbrev pub Files : Type 0
Files = map.FinMap (slice_cmp nat_cmp) (List ℕ)

-- what a name holds: nothing, where the map lacks it
abbrev pub bytes_of : Files → List ℕ → List ℕ
bytes_of files name = unwrap_or (map.get files name) []

-- a map that tells everything
abbrev pub told : Files → Contents
told files name = Some (bytes_of files name)

abbrev pub files_code : Coded Files
files_code = map.code (coded_list coded_ℕ) (coded_list coded_ℕ)

-- a store in memory: its files, the plan of its faults, and how many bytes a read copies at most
pub record Memory : Type 0 where
  pub files : Files
  pub plan : Plan
  pub step : ℕ

-- a sink in memory: the bytes that it received, and the plan of its faults
pub record Received : Type 0 where
  pub bytes : List ℕ
  pub plan : Plan

-- a store as it is made
abbrev pub fresh_memory : List ℕ → ℕ → Memory
fresh_memory failing step = record { files = map.empty; plan = fresh_plan failing; step = step }

-- a sink as it is made
abbrev pub fresh_received : List ℕ → Received
fresh_received failing = record { bytes = []; plan = fresh_plan failing }

-- how many bytes a read copies from a place on: what there is, what there is room for, and the step at most
abbrev pub copy_count : List ℕ → ℕ → ℕ → ℕ → ℕ
copy_count bytes place room step = min (min (length bytes - place) room) step

-- the answer of a read
abbrev pub read_answer : Memory → List ℕ → ℕ → ℕ → Result ℕ StoreFault
read_answer store name place room = if fails_next store.plan then Err Failed else Ok (copy_count (bytes_of store.files name) place room store.step)

-- the buffer after n bytes were copied to its front, from a place on
abbrev pub copied_over : List ℕ → ℕ → ℕ → List ℕ → List ℕ
copied_over bytes place n buffer = take n (drop place bytes) ++ drop n buffer

-- a plan is kept as its three parts
abbrev pub plan_code : Coded Plan
plan_code = code_by (List ℕ × (ℕ × ℕ)) (coded× (coded_list coded_ℕ) (coded× coded_ℕ coded_ℕ)) (λ p. (p.failing, (p.calls, p.faults))) (λ p. record { failing = p.0; calls = p.1.0; faults = p.1.1 }) (λ _. refl)

-- a store is kept as the entries of its files, and the rest beside them
abbrev pub memory_code : Coded Memory
memory_code = code_by (Files × (Plan × ℕ)) (coded× files_code (coded× plan_code coded_ℕ)) (λ s. (s.files, (s.plan, s.step))) (λ p. record { files = p.0; plan = p.1.0; step = p.1.1 }) (λ _. refl)
