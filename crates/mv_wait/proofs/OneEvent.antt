-- Calls of one event.
use Rattle.std.proofs.Common.{◌≡◌, Some, ap, ◌∙◌}
use Rattle.mv_machine.specs.declared.entry.Object.{Object}
use Rattle.mv_machine.specs.declared.entry.Op.{Op}
use Rattle.mv_machine.specs.declared.entry.Reply.{Reply}
use Rattle.mv_board.specs.Faces.{CallerFace, Happened}
use Rattle.mv_calls.specs.Keeping.{kept_of}
use Rattle.mv_calls.specs.Program.{Program, Do, Done, Call, Heard, asks, heard}
use Rattle.mv_calls.specs.Rest.{OpenWaits, IsAtRest, waits_after}
use Rattle.mv_wait.specs.Run.{IsServed}
use Rattle.mv_wait.proofs.Runs.{IsWord, runs_word, serves}
use Rattle.mv_wait.proofs.Steps.{still_at_rest}

-- one event on an object with a word, by which the call is done
pub one_served : {A : Type 0} (call : Call A) (Is : A → Type 0) (t u : CallerFace) (o : Object) (op : Op) (reply : Reply) (a : A)
    → IsWord o → Happened t o op reply u
    → asks (call (kept_of t.number t.log)) ≡ Some (o, op)
    → ((h : Heard) → h.entry.reply ≡ reply → heard (call (kept_of t.number t.log)) h ≡ Done a)
    → ((w : OpenWaits) → waits_after w o op reply ≡ w) → IsAtRest t.log → Is a → IsServed 1 call Is t u
one_served call Is t u o op reply a w h says next stay rest is =
    serves 1 call Is t u a rest is (runs_word (call (kept_of t.number t.log)) (Done a) t o op reply u w h says next)
    (still_at_rest t u o op reply h stay rest)

-- the same of a call whose program is known
pub event_served : {A : Type 0} (call : Call A) (Is : A → Type 0) (t u : CallerFace) (o : Object) (op : Op) (next : Heard → Program A)
    (reply : Reply) (a : A) → IsWord o
    → Happened t o op reply u → call (kept_of t.number t.log) ≡ Do o op next → ((h : Heard) → h.entry.reply ≡ reply → next h ≡ Done a)
    → ((w : OpenWaits) → waits_after w o op reply ≡ w) → IsAtRest t.log → Is a → IsServed 1 call Is t u
event_served call Is t u o op next reply a w h e goes stay rest is =
    one_served call Is t u o op reply a w h (ap asks e) (λ x r. ap (λ p. heard p x) e ∙ goes x r) stay rest is
