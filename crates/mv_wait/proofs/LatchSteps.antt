-- One event on the latch set. It tells one list of wakes, those that the caller has of it, and meets no word.
use Rattle.std.proofs.Common.{◌≡◌, ℕ, List, [], ◌∷◌, Some, refl, sym, ◌∙◌, arith}
use Rattle.std.proofs.lemmas.List.{append-nil}
use Rattle.mv_latch.specs.declared.operation.LatchOp.{LatchOp}
use Rattle.mv_latch.specs.declared.operation.LatchReply.{LatchReply}
use Rattle.mv_latch.specs.declared.operation.Wake.{Wake}
use Rattle.mv_machine.specs.declared.entry.Object.TheVariants.{Latches}
use Rattle.mv_machine.specs.declared.entry.Op.TheVariants as op_on
use Rattle.mv_machine.specs.declared.entry.Reply.{Reply}
use Rattle.mv_machine.specs.declared.entry.Reply.TheVariants as reply_of
use Rattle.mv_board.specs.Faces.{CallerFace, HappenedAt, Happened}
use Rattle.mv_calls.specs.Program.{Program, Do, Heard, asks, heard, on_latch}
use Rattle.mv_wait.specs.Run.{Went, Runs}
use Rattle.mv_wait.proofs.Runs.{entry_of}

-- what is heard of it: the entry, with its wakes
abbrev pub heard_with : CallerFace → ℕ → LatchOp → Reply → List Wake → Heard
heard_with t place op reply wakes = record { entry = entry_of t Latches place (op_on.Latch op) reply; wakes = wakes }

pub went_latch : (t : CallerFace) (place : ℕ) (op : LatchOp) (reply : Reply) (u : CallerFace)
    → HappenedAt t Latches place (op_on.Latch op) reply u
    → Went (heard_with t place op reply u.wakes ∷ []) t u
went_latch t place op reply u h = record {
  same = h.same;
  wakes = (tt, tt);
  logged = h.logged;
  told = h.shown;
  left = h.left;
  met = ([], h.met ∙ sym (append-nil t.met));
}

-- one event on the latch set that the program says, which goes on by the reply and the wakes
pub runs_latch : {A : Type 0} (p q : Program A) (t : CallerFace) (op : LatchOp) (reply : Reply) (u : CallerFace)
    → Happened t Latches (op_on.Latch op) reply u
    → asks p ≡ Some (Latches, op_on.Latch op)
    → ((h : Heard) → h.entry.reply ≡ reply → h.wakes ≡ u.wakes → heard p h ≡ q) → Runs 1 p q t u
runs_latch p q t op reply u h a next = record {
  events = heard_with t h.0 op reply u.wakes ∷ [];
  went = went_latch t h.0 op reply u h.1;
  few = omega arith;
  says = (a, tt);
  leaves = next (heard_with t h.0 op reply u.wakes) refl refl;
}

-- and what is left of the program by both
pub latch_runs : {A : Type 0} (f : List Wake → LatchReply → Program A) (q : Program A) (t u : CallerFace) (op : LatchOp) (r : LatchReply)
    → Happened t Latches (op_on.Latch op) (reply_of.Latch r) u → f u.wakes r ≡ q
    → Runs 1 (Do Latches (op_on.Latch op) (λ h. on_latch h.entry.reply (f h.wakes))) q t u
latch_runs f q t u op r h e =
    runs_latch (Do Latches (op_on.Latch op) (λ x. on_latch x.entry.reply (f x.wakes))) q t op (reply_of.Latch r) u h refl
    (λ x is same. (λ i. on_latch (is i) (f (same i))) ∙ e)
