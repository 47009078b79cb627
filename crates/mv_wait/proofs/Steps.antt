-- Steps of a program: one event, and what is left of the program by its reply. Also after looks, and from steps to whole calls.
use Rattle.std.proofs.Common.{◌≡◌, ℕ, ◌+◌, [], ◌∷◌, refl, sym, ap, ◌∙◌, subst, arith}
use Rattle.mv_element.specs.declared.operation.ElementOp.{ElementOp}
use Rattle.mv_element.specs.declared.operation.ElementReply.{ElementReply}
use Rattle.mv_machine.specs.declared.entry.Object.{Object}
use Rattle.mv_machine.specs.declared.entry.Object.TheVariants.{Element}
use Rattle.mv_machine.specs.declared.entry.Op.{Op}
use Rattle.mv_machine.specs.declared.entry.Op.TheVariants as op_on
use Rattle.mv_machine.specs.declared.entry.Reply.{Reply}
use Rattle.mv_machine.specs.declared.entry.Reply.TheVariants as reply_of
use Rattle.mv_board.specs.Faces.{CallerFace, Happened}
use Rattle.mv_calls.specs.Keeping.{kept_of}
use Rattle.mv_calls.specs.Program.{Program, Do, Done, Call, Heard, on_element}
use Rattle.mv_calls.specs.Rest.{OpenWaits, AreNone, IsAtRest, no_waits, waits_from, waits_after}
use Rattle.mv_calls.proofs.Making.{waits_from-append}
use Rattle.mv_wait.specs.Run.{Went, Runs, IsServed}
use Rattle.mv_wait.proofs.Runs.{IsWord, entry_of, runs_none, runs_then, runs_within, runs_look, runs_word, serves}

-- one event on an object with a word, and what is left of the program by its reply
pub event_runs : {A : Type 0} (o : Object) (op : Op) (next : Heard → Program A) (q : Program A) (t u : CallerFace) (reply : Reply)
    → IsWord o → Happened t o op reply u → ((h : Heard) → h.entry.reply ≡ reply → next h ≡ q) → Runs 1 (Do o op next) q t u
event_runs o op next q t u reply w h goes = runs_word (Do o op next) q t o op reply u w h refl goes

-- one on an element
pub element_runs : {A : Type 0} (f : ElementReply → Program A) (q : Program A) (t u : CallerFace) (n : ℕ) (op : ElementOp)
    (r : ElementReply) → Happened t (Element n) (op_on.Element op) (reply_of.Element r) u → f r ≡ q
    → Runs 1 (Do (Element n) (op_on.Element op) (λ h. on_element h.entry.reply f)) q t u
element_runs f q t u n op r h e =
    event_runs (Element n) (op_on.Element op) (λ x. on_element x.entry.reply f) q t u (reply_of.Element r) tt h
    (λ x is. ap (λ z. on_element z f) is ∙ e)

-- what runs after looks runs with them
pub looked_runs : {A : Type 0} (most : ℕ) (p q : Program A) (t u v : CallerFace) → Went [] t u → Runs most p q u v → Runs most p q t v
looked_runs most p q t u v looks runs =
    runs_within (0 + most) most p q t v (omega arith)
    (runs_then 0 most p p q t u v (runs_look 0 p p t t u (runs_none p t) looks) runs)

-- ---- whole calls

-- a call whose program is known was served by a run of it
pub served_by : {A : Type 0} (most : ℕ) (call : Call A) (Is : A → Type 0) (t u : CallerFace) (p : Program A) (a : A)
    → call (kept_of t.number t.log) ≡ p → Runs most p (Done a) t u → IsAtRest t.log → IsAtRest u.log → Is a
    → IsServed most call Is t u
served_by most call Is t u p a e runs began rest is =
    serves most call Is t u a began is (subst (λ q. Runs most q (Done a) t u) (sym e) runs) rest

-- a call that is done at once makes no event
pub done_served : {A : Type 0} (most : ℕ) (call : Call A) (Is : A → Type 0) (t : CallerFace) (a : A)
    → call (kept_of t.number t.log) ≡ Done a → IsAtRest t.log → Is a → IsServed most call Is t t
done_served most call Is t a e rest is =
    served_by most call Is t t (Done a) a e
    (runs_within 0 most (Done a) (Done a) t t (omega arith) (runs_none (Done a) t)) rest rest is

-- ---- the waits that are open behind an event

pub waits_one : (t u : CallerFace) (o : Object) (op : Op) (reply : Reply) → Happened t o op reply u
    → waits_from no_waits u.log ≡ waits_after (waits_from no_waits t.log) o op reply
waits_one t u o op reply h =
    ap (waits_from no_waits) h.1.logged ∙ waits_from-append no_waits t.log (entry_of t o h.0 op reply ∷ [])

-- one that opens and ends no wait leaves the task at rest
pub still_at_rest : (t u : CallerFace) (o : Object) (op : Op) (reply : Reply) → Happened t o op reply u
    → ((w : OpenWaits) → waits_after w o op reply ≡ w) → IsAtRest t.log → IsAtRest u.log
still_at_rest t u o op reply h stay r = subst AreNone (sym (waits_one t u o op reply h ∙ stay (waits_from no_waits t.log))) r
