-- What a script's table of events reserves for the two calls on it.
use Rattle.std.specs.Prelude.{ℕ, ◌==◌, nat_le, Bool, false, ◌||◌, Option, Some, None}
use Rattle.std.specs.List.{list_any}
use Rattle.mv_latch.specs.declared.request.LatchForm.{LatchForm}
use Rattle.mv_latch.specs.declared.request.LatchForm.TheVariants.{Conditional, Waiting, Posted}
use Rattle.mv_calls.specs.declared.table.Table.{Table}
use Rattle.mv_calls.specs.Events.{first_event_requestor}
use Rattle.mv_eventlaws.specs.Served.{is_block}
use Rattle.mv_scriptline.specs.declared.call.Call.{Call}
use Rattle.mv_scriptline.specs.declared.call.Call.TheVariants as call

-- whether there is a block, and it is one of the table's
abbrev pub is_block_if_any : Table → Option ℕ → Bool
is_block_if_any t None = false
is_block_if_any t (Some e) = is_block t e

-- whether a request posts one of the table's blocks
abbrev pub posts_block : Table → LatchForm → Bool
posts_block t Conditional = false
posts_block t Waiting = false
posts_block t (Posted e) = is_block t e

-- whether a requestor is one of those by which posts of events request the table's latch
abbrev pub is_event_requestor : ℕ → Bool
is_event_requestor requestor = nat_le first_event_requestor requestor

-- Whether a call other than those on the table uses what the table reserves: it names one of the table's blocks, except to test
-- it, writes its volume, obtains its latch, or names a requestor by which events are posted.
abbrev pub uses : Table → Call → Bool
uses t (call.Wait count ecbs) = list_any (is_block t) ecbs
uses t (call.Post ecb code) = is_block t ecb
uses t (call.TryPost ecb place code) = is_block t ecb
uses t (call.Clear ecb) = is_block t ecb
uses t (call.Extend ecb exit) = is_block t ecb
uses t (call.Test ecb) = false
uses t (call.Read volume) = false
uses t (call.Write volume number) = volume == t.volume
uses t call.Alloc = false
uses t (call.Pause token) = false
uses t (call.Release token code) = false
uses t (call.TryRelease token place code) = false
uses t (call.Transfer current target code) = false
uses t (call.Dealloc token) = false
uses t (call.TestElement element) = false
uses t (call.Obtain latch requestor mode form) = (latch == t.latch) || (is_event_requestor requestor || posts_block t form)
uses t (call.Check k) = false
uses t (call.Free k conditional) = false
uses t (call.Purge requestor) = is_event_requestor requestor
uses t (call.EndTask requestor mother code) = is_event_requestor requestor || is_block_if_any t mother
uses t (call.PostEvent index code) = false
uses t (call.NextEvent position) = false

-- whether a call uses what the script's table reserves, if there is a table
abbrev pub uses_any : Option Table → Call → Bool
uses_any None c = false
uses_any (Some t) c = uses t c
