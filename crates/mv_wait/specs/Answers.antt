-- How the values that the calls return correspond to the answers of their programs.
use Rattle.std.specs.Prelude.{ℕ, List, Result, Ok, Err}
use Rattle.mv_calls.specs.Refusal.{Refusal}
use Rattle.mv_calls.specs.Refusal as refusal
use Rattle.mv_wait.specs.declared.single.NotOwner.{NotOwner}
use Rattle.mv_wait.specs.declared.single.ExtendRefusal.{ExtendRefusal}
use Rattle.mv_wait.specs.declared.single.ExtendRefusal.TheVariants as extend_refusal
use Rattle.mv_wait.specs.declared.waiting.WaitRefusal.{WaitRefusal}
use Rattle.mv_wait.specs.declared.waiting.WaitRefusal.TheVariants as wait_refusal
use Rattle.mv_calls.specs.declared.outcomes.WaitSlot.{WaitSlot}

-- the reason for which a wait is refused, with the position in its list if one block is the cause
abbrev pub wait_refused : WaitRefusal → Refusal
wait_refused wait_refusal.TooMany = refusal.TooMany
wait_refused (wait_refusal.Doubled p) = refusal.Doubled p
wait_refused (wait_refusal.NotOwner p) = refusal.NotOwnerAt p
wait_refused (wait_refusal.Extended p) = refusal.ExtendedAt p

-- the reason for which an extend is refused
abbrev pub extend_refused : ExtendRefusal → Refusal
extend_refused extend_refusal.NotOwner = refusal.NotOwner
extend_refused extend_refusal.BadExit = refusal.BadExit
extend_refused extend_refusal.Extended = refusal.Extended
extend_refused (extend_refusal.Complete code) = refusal.Complete code

-- the answer of a clear: the fullword that the block had
abbrev pub clear_answer : Result ℕ NotOwner → Result ℕ Refusal
clear_answer (Ok word) = Ok word
clear_answer (Err why) = Err refusal.NotOwner

-- the answer of an extend, which has no value if it succeeds
abbrev pub extend_answer : Result (Unit {0}) ExtendRefusal → Result (Unit {0}) Refusal
extend_answer (Ok done) = Ok tt
extend_answer (Err why) = Err (extend_refused why)

-- the answer of a wait: the codes in its slots, or the reason for which it is refused
abbrev pub wait_answer : Result (Unit {0}) WaitRefusal → List WaitSlot → Result (List WaitSlot) Refusal
wait_answer (Ok done) out = Ok out
wait_answer (Err why) out = Err (wait_refused why)
