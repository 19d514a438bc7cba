-- The parts of a log over a store, and what is told of it.
use Rattle.std.specs.Prelude.{◌≡◌, ℕ, Bool, List}
use Rattle.std.specs.Borrow.{MutBor, Bor}
use Rattle.outer_store.specs.Bytes.{added}
use Rattle.std.proofs.Common.{◌∙◌, subst, refl}
use Rattle.outer_store.specs.States.{StoreState, IsQuiet, OnlyWritten, IsQuiet-joins, OnlyWritten-stays, OnlyWritten-joins}
use Rattle.cert_text.specs.Logs.{Told, lines_held}
use Rattle.cert_text.specs.declared.store_log.StoreLog.{StoreLog}

module _ {S : Type 0} where
  -- the store that it borrows
  abbrev pub log_store : StoreLog S → MutBor S
  log_store log = log.store

  -- the name that it writes
  abbrev pub log_name : StoreLog S → Bor (List ℕ)
  log_name log = log.name

  -- the text of lines that wait to be appended
  abbrev pub waiting_text : StoreLog S → List ℕ
  waiting_text log = log.text.now.items

  -- whether a line was refused
  abbrev pub is_refused : StoreLog S → Bool
  is_refused log = log.refused

module _ {S : Type 0} (state : S → StoreState) where
  -- the lines that its name holds, and those that wait behind them, if no line was refused
  abbrev pub log_lines : StoreLog S → Told
  log_lines log = lines_held (is_refused log) (added ((state (log_store log).now).held (log_name log).now) (waiting_text log))

  -- how often a write of its name failed
  abbrev pub log_faults : StoreLog S → ℕ
  log_faults log = (state (log_store log).now).writes (log_name log).now

  -- the second writes to the same name of the same store, where only this name was written since
  abbrev pub log_steady : StoreLog S → StoreLog S → Type 0
  log_steady a b = (log_name b ≡ log_name a) × ((log_store b).ghost_name ≡ (log_store a).ghost_name) ×
      OnlyWritten (log_name a).now (state (log_store a).now) (state (log_store b).now)

  -- no call of its store failed between the two
  abbrev pub log_quiet : StoreLog S → StoreLog S → Type 0
  log_quiet a b = IsQuiet (state (log_store a).now) (state (log_store b).now)

  pub log_steady-stays : (a : StoreLog S) → log_steady a a
  log_steady-stays a = (refl, refl, OnlyWritten-stays (log_name a).now (state (log_store a).now))

  pub log_steady-joins : (a b c : StoreLog S) → log_steady a b → log_steady b c → log_steady a c
  log_steady-joins a b c first second = (
    second.0 ∙ first.0,
    second.1 ∙ first.1,
    OnlyWritten-joins (log_name a).now (state (log_store a).now) (state (log_store b).now) (state (log_store c).now)
        first.2 (subst (λ n. OnlyWritten n.now (state (log_store b).now) (state (log_store c).now)) first.0 second.2),
  )

  pub log_quiet-joins : (a b c : StoreLog S) → log_quiet a b → log_quiet b c → log_quiet a c
  log_quiet-joins a b c first second = IsQuiet-joins (state (log_store a).now) (state (log_store b).now) (state (log_store c).now) first second
