-- The configuration of a script, and the costs of its calls in it.
use Rattle.std.specs.Prelude.{ℕ, true, List, sum_by}
use Rattle.mv_ecb.specs.Word.{Zero}
use Rattle.mv_element.specs.Element.{reset}
use Rattle.mv_machine.specs.Packing.{pack}
use Rattle.mv_machine.specs.declared.packing.WordState.TheVariants as state
use Rattle.mv_config.specs.Setup.{Setup, SetupExit}
use Rattle.mv_calls.specs.declared.table.Table.{Table}
use Rattle.mv_calls.specs.Keeping.{Kept, nothing_kept}
use Rattle.mv_calls.specs.Services.{Service, most_events}
use Rattle.mv_calls.specs.Services as service
use Rattle.mv_scriptline.specs.declared.call.Call.{Call}
use Rattle.mv_scriptline.specs.declared.call.Call.TheVariants as call
use Rattle.mv_scriptline.specs.Limits.{elements_per_task, volumes, latches, quota, posted_quota}
use Rattle.mv_scriptline.specs.Operand.{table_with}

-- the configuration of a script with this many tasks, and with these blocks, exits and budgets
abbrev pub script_setup : ℕ → List ℕ → List SetupExit → List ℕ → Setup
script_setup tasks owners exits budgets = record {
  callers = tasks;
  elements_per_caller = elements_per_task;
  volumes = volumes;
  latches = latches;
  quota = quota;
  posted_quota = posted_quota;
  budgets = budgets;
  owners = owners;
  exits = exits;
}

-- ---- a call of a script as a call of the services

-- a request that an OBTAIN got: its latch, and its number there
pub record Asked : Type 0 where
  pub latch : ℕ
  pub id : ℕ

-- the word that TRYPOST expects: the block is zero
abbrev pub zero_at : ℕ → ℕ
zero_at place = pack place (state.Ecb Zero)

-- the word that TRYRELEASE expects: the element is allocated with this generation, and neither paused nor released
abbrev pub reset_at : ℕ → ℕ → ℕ
reset_at generation place = pack place (state.Element (reset generation))

-- the service that a call requests, if t is the script's table, and the task's OBTAINs, counted from 1, got these requests
abbrev pub service_of : Table → (ℕ → Asked) → Call → Service
service_of t asked (call.Wait count ecbs) = service.Wait count ecbs
service_of t asked (call.Post ecb code) = service.Post ecb code
service_of t asked (call.TryPost ecb place code) = service.TryPost ecb (zero_at place) code
service_of t asked (call.Clear ecb) = service.Clear ecb
service_of t asked (call.Extend ecb exit) = service.Extend ecb exit
service_of t asked (call.Test ecb) = service.TestEcb ecb
service_of t asked (call.Read volume) = service.ReadVolume volume
service_of t asked (call.Write volume number) = service.WriteVolume volume number
service_of t asked call.Alloc = service.Allocate
service_of t asked (call.Pause token) = service.Pause token
service_of t asked (call.Release token code) = service.Release token code
service_of t asked (call.TryRelease token place code) = service.TryRelease token (reset_at token.generation place) code
service_of t asked (call.Transfer current target code) = service.Transfer current target code
service_of t asked (call.Dealloc token) = service.Deallocate token
service_of t asked (call.TestElement element) = service.TestElement element
service_of t asked (call.Obtain latch requestor mode form) = service.Obtain latch requestor mode form
service_of t asked (call.Check k) = service.CheckLatch (asked k).latch (asked k).id
service_of t asked (call.Free k conditional) = service.ReleaseLatch (asked k).latch (asked k).id conditional
service_of t asked (call.Purge requestor) = service.Purge requestor
service_of t asked (call.EndTask requestor mother code) = service.EndOfTask requestor mother code
service_of t asked (call.PostEvent index code) = service.PostEvent t index code
service_of t asked (call.NextEvent position) = service.NextEvent t position

-- ---- costs

-- the requests with which costs are computed; no cost depends on them
abbrev pub nothing_asked : ℕ → Asked
nothing_asked k = record { latch = 0; id = 0 }

-- the table with which costs are computed; no cost depends on it
abbrev pub no_table : Table
no_table = table_with 0 0 0 0 0 0

-- what a task keeps when costs are computed: all of its elements are in use, as may be at its end
abbrev pub all_in_use : Kept
all_in_use = record (nothing_kept 0) { in_use = λ n. true }

-- how many events a call may need at most
abbrev pub cost : Setup → Call → ℕ
cost c call = most_events c all_in_use (service_of no_table nothing_asked call)

-- how many events these calls may need together at most
abbrev pub costs_of : Setup → List Call → ℕ
costs_of c calls = sum_by (cost c) calls
