-- A call of one event: the entry that it adds to its task's log, and how it is answered. It costs its task one event.
use Rattle.std.proofs.Common.{◌≡◌, ℕ, ◌+◌, ◌≤◌, List, [], ◌∷◌, ◌++◌, length, sym, ap, ◌∙◌, subst, arith}
use Rattle.mv_machine.specs.declared.entry.Object.{Object}
use Rattle.mv_machine.specs.declared.entry.Op.{Op}
use Rattle.mv_board.specs.Faces.{CallerFace}
use Rattle.mv_calls.specs.Keeping.{kept_of}
use Rattle.mv_calls.specs.Program.{Program, Do, Done, Call, Heard, Says, left, entries}
use Rattle.mv_wait.specs.Run.{IsServed}
use Rattle.mv_wait.proofs.OneBlock.{asked_is}
use Rattle.mv_attach.proofs.Always.{Grown}

-- One entry was added, on this object by this operation, and taken off what was left; behind it the program is done with this answer.
pub record Once {A : Type 0} (o : Object) (op : Op) (next : Heard → Program A) (a : A) (t u : CallerFace) : Type 0 where
  pub heard : Heard
  pub object : heard.entry.object ≡ o
  pub makes : heard.entry.op ≡ op
  pub logged : u.log ≡ t.log ++ heard.entry ∷ []
  pub left : u.left + 1 ≡ t.left
  pub done : next heard ≡ Done a

once_by : {A : Type 0} (o : Object) (op : Op) (next : Heard → Program A) (a : A) (t u : CallerFace) (hs : List Heard)
    → Says (Do o op next) hs → left (Do o op next) hs ≡ Done a → length hs ≤ 1 → u.log ≡ t.log ++ entries hs
    → u.left + length hs ≡ t.left → Once o op next a t u
once_by o op next a t u [] says done few logged spent = absurd (cc done)
once_by o op next a t u (h ∷ []) says done few logged spent =
    let on = asked_is o h.entry.object op h.entry.op says.0 in
    record { heard = h; object = on.0; makes = on.1; logged = logged; left = spent; done = done }
once_by o op next a t u (h ∷ g ∷ hs) says done few logged spent = absurd (omega arith)

pub served_once : {A : Type 0} (most : ℕ) (call : Call A) (Is : A → Type 0) (o : Object) (op : Op) (next : Heard → Program A)
    (t u : CallerFace) → (s : IsServed most call Is t u) → most ≤ 1 → call (kept_of t.number t.log) ≡ Do o op next
    → Once o op next s.answer t u
served_once most call Is o op next t u s one is =
    once_by o op next s.answer t u s.made.events (subst (λ p. Says p s.made.events) is s.made.done.says)
    (ap (λ p. left p s.made.events) (sym is) ∙ s.made.done.done) (let few = s.made.few in omega arith) s.made.longer.logged s.left

-- what holds of that event holds of each entry that was added
pub once_grown : {A : Type 0} (P : Object → Op → Type 0) (o : Object) (op : Op) (next : Heard → Program A) (a : A) (t u : CallerFace)
    → Once o op next a t u → P o op → Grown P t u
once_grown P o op next a t u one is = record {
  more = one.heard.entry ∷ [];
  logged = one.logged;
  each = (subst (λ x. P x one.heard.entry.op) (sym one.object) (subst (λ x. P o x) (sym one.makes) is), tt);
}
