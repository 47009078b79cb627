-- What operations on the latch set are answered, and how many wakes a release has.
use Rattle.std.proofs.Common.{◌≡◌, ℕ, Bool, true, false, not, ◌&&◌, List, [], ◌∷◌, ◌++◌, length, filter, map, cond, refl, sym, ap}
use Rattle.std.proofs.Common.{◌∙◌, subst, arith}
use Rattle.std.specs.List.{AllByRecursion, list_any}
use Rattle.std.proofs.lemmas.Bool.{eq-eqb, or_left, or_right}
use Rattle.mv_latch.specs.declared.operation.LatchOp.{LatchOp}
use Rattle.mv_latch.specs.declared.operation.LatchOp.TheVariants.{Obtain, Confirm, Release, Purge}
use Rattle.mv_latch.specs.declared.operation.LatchReply.{LatchReply}
use Rattle.mv_latch.specs.declared.operation.LatchReply.TheVariants.{Granted, Queued, NotNow, Waiting, Gone, Released}
use Rattle.mv_latch.specs.declared.request.LatchForm.{LatchForm}
use Rattle.mv_latch.specs.declared.request.Mode.{Mode}
use Rattle.mv_latch.specs.declared.request.Request.{Request}
use Rattle.mv_latch.specs.Latch.{granted, grants, blocker, obtain_step, confirm_reply, release_step, newly_granted, granted_wakes, without}
use Rattle.mv_latch.specs.LatchSet.{list_of, latch_step, wakes}
use Rattle.mv_latch.specs.Request.{queues, has_id, is_own, wake_of}
use Rattle.mv_machine.specs.declared.entry.Entry.{Entry}
use Rattle.mv_machine.specs.declared.entry.Object.TheVariants.{Latches}
use Rattle.mv_machine.specs.declared.entry.Op.TheVariants as op_on
use Rattle.mv_machine.specs.Legal.{IsNext}
use Rattle.mv_config.specs.Setup.{Setup}
use Rattle.mv_machine.specs.System.{System}
use Rattle.mv_machine.specs.Replies.{IsLatchReply, OnLatch, CountsWakes}
use Rattle.mv_machine.proofs.Replies.{latch_reply_is}

-- an obtain's reply
obtain_says : (latch requestor : ℕ) (mode : Mode) (form : LatchForm) (r : Request) (qs : List Request) → r.form ≡ form
    → IsLatchReply r.id (Obtain latch requestor mode form) (obtain_step r qs).1
obtain_says latch requestor mode form r qs same = go (grants qs r) (queues r.form) refl where
  go : (b d : Bool) → queues r.form ≡ d
      → let z : List Request × LatchReply = cond b (qs ++ r ∷ [], Granted r.id)
      (cond d (qs ++ r ∷ [], Queued r.id) (qs, NotNow (blocker r qs))) in
      IsLatchReply r.id (Obtain latch requestor mode form) z.1
  go true d e = refl
  go false true e = (refl, ap queues (sym same) ∙ e)
  go false false e = ap queues (sym same) ∙ e

-- a confirm's
confirm_says : (place latch k id : ℕ) (qs : List Request) → IsLatchReply place (Confirm latch id) (confirm_reply k id qs)
confirm_says place latch k id qs = go (list_any (is_own k id) (granted qs)) (list_any (is_own k id) qs) where
  go : (b d : Bool) → IsLatchReply place (Confirm latch id) (cond b (Granted id) (cond d Waiting Gone))
  go true d = refl
  go false true = tt
  go false false = tt

-- a release's
release_says : (place latch k id : ℕ) (conditional : Bool) (qs : List Request)
    → IsLatchReply place (Release latch id conditional) (release_step k id conditional qs).1
release_says place latch k id conditional qs = go (list_any (is_own k id) qs) conditional (list_any (is_own k id) (granted qs)) refl where
  go : (b v d : Bool) → v ≡ conditional
      → let z : List Request × LatchReply = cond (not b) (qs, Gone)
      (cond (v && not d) (qs, Waiting) (without k id qs, Released (length (newly_granted qs (without k id qs))))) in
      IsLatchReply place (Release latch id conditional) z.1
  go false v d e = tt
  go true true true e = tt
  go true true false e = sym e
  go true false d e = tt

-- and so each operation's
step_says : (k place : ℕ) (op : LatchOp) (lists : List (List Request)) → IsLatchReply place op (latch_step k place op lists).1
step_says k place (Obtain latch requestor mode form) lists = obtain_says latch requestor mode form
    (record { id = place; caller = k; requestor = requestor; mode = mode; form = form }) (list_of lists latch) refl
step_says k place (Confirm latch id) lists = confirm_says place latch k id (list_of lists latch)
step_says k place (Release latch id conditional) lists = release_says place latch k id conditional (list_of lists latch)
step_says k place (Purge requestor) lists = tt

-- as an entry has it
pub latch_says : (c : Setup) (s : System) (e : Entry) (op : LatchOp) → IsNext c s e → e.object ≡ Latches → e.op ≡ op_on.Latch op
    → OnLatch (IsLatchReply s.latches.place op) e.reply
latch_says c s e op h o is = subst (OnLatch (IsLatchReply s.latches.place op)) (sym (latch_reply_is c s e op h o is))
    (step_says e.caller s.latches.place op s.latches.state)

-- ---- wakes of a release
-- each of these is found among all
all_found : (whole front : List Request) → ((q : Request) → list_any (has_id q.id) front ≡ true → list_any (has_id q.id) whole ≡ true)
    → AllByRecursion (λ q. list_any (has_id q.id) whole ≡ true) front
all_found whole [] f = tt
all_found whole (q ∷ qs) f = (
  f q (or_left (has_id q.id q) (list_any (has_id q.id) qs) (eq-eqb q.id q.id refl)),
  all_found whole qs
      (λ x any. f x (or_right (has_id x.id q) (list_any (has_id x.id) qs) any)),
)

-- a filter that leaves what is not found leaves nothing where all is found
none_left : (whole front : List Request) → AllByRecursion (λ q. list_any (has_id q.id) whole ≡ true) front
    → filter (λ q. not (list_any (has_id q.id) whole)) front ≡ []
none_left whole [] a = refl
none_left whole (q ∷ qs) a = ap (λ b. cond (not b) (q ∷ filter (λ x. not (list_any (has_id x.id) whole)) qs)
    (filter (λ x. not (list_any (has_id x.id) whole)) qs)) a.0 ∙ none_left whole qs a.1

-- a list that does not change has nothing newly granted
nothing_new : (qs : List Request) → granted_wakes qs qs ≡ []
nothing_new qs = ap (map (wake_of 0)) (none_left (granted qs) (granted qs) (all_found (granted qs) (granted qs) (λ q any. any)))

-- a wake for each request
as_many : (qs : List Request) → length (map (wake_of 0) qs) ≡ length qs
as_many [] = refl
as_many (q ∷ qs) = let rest : length (map (wake_of 0) qs) ≡ length qs = as_many qs in omega arith

-- a release has as many wakes as it says
release_counts : (k id : ℕ) (conditional : Bool) (qs : List Request) → CountsWakes (granted_wakes qs (release_step k id conditional qs).0)
    (release_step k id conditional qs).1
release_counts k id conditional qs = go (list_any (is_own k id) qs) (conditional && not (list_any (is_own k id) (granted qs))) where
  go : (b d : Bool)
      → let z : List Request × LatchReply = cond (not b) (qs, Gone)
      (cond d (qs, Waiting) (without k id qs, Released (length (newly_granted qs (without k id qs))))) in
      CountsWakes (granted_wakes qs z.0) z.1
  go false d = nothing_new qs
  go true true = nothing_new qs
  go true false = as_many (newly_granted qs (without k id qs))

-- as an entry has it
pub release_wakes : (c : Setup) (s : System) (e : Entry) (latch id : ℕ) (conditional : Bool) → IsNext c s e → e.object ≡ Latches
    → e.op ≡ op_on.Latch (Release latch id conditional)
    → OnLatch (CountsWakes (wakes e.caller (Release latch id conditional) s.latches.state)) e.reply
release_wakes c s e latch id conditional h o is =
    subst (OnLatch (CountsWakes (wakes e.caller (Release latch id conditional) s.latches.state)))
    (sym (latch_reply_is c s e (Release latch id conditional) h o is))
    (release_counts e.caller id conditional (list_of s.latches.state latch))
