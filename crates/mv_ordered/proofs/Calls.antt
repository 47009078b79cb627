-- For programs: which calls keep a task's lock discipline, and what each call changes in the list of the latches that the task has
-- (specs/Held). The laws cite nothing of this module.
use Rattle.std.proofs.Common.{◌≡◌, ℕ, ◌<◌, ◌≤◌, Bool, true, false, not, ◌&&◌, ◌==◌, cond, List, [], ◌∷◌, ◌++◌, map, filter, ◌⊎◌, inl}
use Rattle.std.proofs.Common.{inr, length, Option, Some, None, Result, Ok, Err, refl, sym, ap, ◌∙◌, subst, append_assoc, arith}
use Rattle.std.specs.List.{AllByRecursion}
use Rattle.std.proofs.lemmas.Option.{some_pair_parts}
use Rattle.std.proofs.lemmas.Bool.{false≢true, eq-eqb, ne_eqb, ltb-true, and_parts}
use Rattle.std.proofs.lemmas.List.{append-nil, map-append, length-map, nil_from_length}
use Rattle.mv_ecb.specs.declared.operation.EcbOp.TheVariants.{Arm}
use Rattle.mv_element.specs.declared.operation.ElementOp.TheVariants.{Pause}
use Rattle.mv_latch.specs.declared.operation.LatchOp.TheVariants.{Obtain, Confirm, Release, Purge}
use Rattle.mv_latch.specs.declared.operation.LatchReply.TheVariants.{Granted, Queued, NotNow, Waiting, Gone, Released, Purged}
use Rattle.mv_latch.specs.declared.operation.Wake.{Wake}
use Rattle.mv_latch.specs.declared.request.LatchForm.{LatchForm}
use Rattle.mv_latch.specs.declared.request.LatchForm.TheVariants as form_of
use Rattle.mv_latch.specs.declared.request.Mode.{Mode}
use Rattle.mv_machine.specs.declared.entry.Entry.{Entry}
use Rattle.mv_machine.specs.declared.entry.Object.{Object}
use Rattle.mv_machine.specs.declared.entry.Object.TheVariants.{Latches}
use Rattle.mv_machine.specs.declared.entry.Op.{Op}
use Rattle.mv_machine.specs.declared.entry.Op.TheVariants as op_on
use Rattle.mv_machine.specs.declared.entry.Reply.{Reply}
use Rattle.mv_machine.specs.declared.entry.Reply.TheVariants as reply_of
use Rattle.mv_machine.specs.Kept.{StandingRequest, is_named, is_for, less, stands_with, standing_from, standing, keeps_quotas}
use Rattle.mv_machine.specs.Legal.{Legal, of}
use Rattle.mv_config.specs.Setup.{Setup}
use Rattle.mv_calls.specs.Keeping.{Kept, nothing_kept, kept_after, kept_from, kept_of}
use Rattle.mv_calls.specs.LatchCalls.{Requested, GrantedAs, obtain, obtain_refusal, obtained, confirmed, release_latch, let_go}
use Rattle.mv_calls.specs.Made.{IsMade}
use Rattle.mv_calls.specs.Program.{Program, Do, Done, Early, Wrong, Call, Heard, Says, left, entries, on_latch, unless_refused}
use Rattle.mv_calls.specs.Refusal.{Refusal}
use Rattle.mv_calls.specs.Refusal as refusal
use Rattle.mv_calls.specs.Waits.{refused_if}
use Rattle.mv_calls.proofs.Removals.{standing_from-append}
use Rattle.mv_calls.proofs.TableFacts.{both_none}
use Rattle.mv_ordered.specs.LatchOrder.{AreBelow, KeepsOrder, MayObtain, begins_wait, HasLockDiscipline}
use Rattle.mv_ordered.specs.WaitChain.{KeepsLockDiscipline}
use Rattle.mv_ordered.specs.Held.{named, held, without, HasObtained}
use Rattle.mv_ordered.proofs.Logs.{order_empty, order_push, apart_empty, apart_push}

-- ---- lists of requests

-- what is mapped of the requests that are left, where a test says the same of what they are mapped to
module _ {B : Type 0} (f : StandingRequest → B) (test : StandingRequest → Bool) (of_mapped : B → Bool)
    (same : (t : StandingRequest) → of_mapped (f t) ≡ not (test t)) where
  mapped_less : (ts : List StandingRequest) → map f (less test ts) ≡ filter of_mapped (map f ts)
  mapped_less [] = refl
  mapped_less (t ∷ ts) = rw (same t) (go (not (test t)) (mapped_less ts)) where
    go : (b : Bool) → map f (less test ts) ≡ filter of_mapped (map f ts)
        → map f (cond b (t ∷ less test ts) (less test ts)) ≡ cond b (f t ∷ filter of_mapped (map f ts)) (filter of_mapped (map f ts))
    go true is = ap (λ z. f t ∷ z) is
    go false is = is

-- ---- operations that neither obtain a latch nor begin a wait

abbrev pub IsPlain : Op → Type 0
IsPlain (op_on.Latch (Obtain latch requestor mode form)) = ⊥
IsPlain (op_on.Ecb Arm) = ⊥
IsPlain (op_on.Element (Pause generation)) = ⊥
IsPlain op = Unit {0}

plain_order : (log : List Entry) (op : Op) → IsPlain op → KeepsOrder log op
plain_order log (op_on.Latch (Obtain latch requestor mode form)) plain = absurd plain
plain_order log op plain = tt

plain_begins : (op : Op) → IsPlain op → begins_wait op ≡ false
plain_begins (op_on.Ecb Arm) plain = absurd plain
plain_begins (op_on.Element (Pause generation)) plain = absurd plain
plain_begins op plain = refl

-- a new task keeps it
pub new_keeps_discipline : (log : List Entry) → log ≡ [] → HasLockDiscipline log
new_keeps_discipline log new = subst HasLockDiscipline (sym new) (record { order = order_empty; apart = apart_empty })

-- entries of plain operations keep the discipline
pub plain_append : (log es : List Entry) → HasLockDiscipline log → AllByRecursion (λ e. IsPlain e.op) es → HasLockDiscipline (log ++ es)
plain_append log [] d plain = subst HasLockDiscipline (sym (append-nil log)) d
plain_append log (e ∷ es) d plain =
    subst HasLockDiscipline (append_assoc log (e ∷ []) es)
    (plain_append (log ++ e ∷ []) es (record {
      order = order_push log e d.order (plain_order log e.op plain.0);
      apart = apart_push log e d.apart (λ is. absurd (false≢true (sym (plain_begins e.op plain.0) ∙ is)));
    }) plain.1)

-- so does a call that makes no others
pub call_keeps_discipline : {A : Type 0} (most k : ℕ) (call : Call A) (old new : List Entry) (before since : List (List Wake)) (answer : A)
    → (m : IsMade most call k old new before since answer) → AllByRecursion (λ e. IsPlain e.op) (entries m.events)
    → HasLockDiscipline old → HasLockDiscipline new
call_keeps_discipline most k call old new before since answer m plain d =
    subst HasLockDiscipline (sym m.longer.logged) (plain_append old (entries m.events) d plain)

-- ---- an obtain

-- after a program that has ended no event is said
done_says : (a : Result Requested Refusal) (hs : List Heard) → Says (Done a) hs → AllByRecursion (λ e. IsPlain e.op) (entries hs)
done_says a [] s = tt
done_says a (h ∷ hs) s = absurd (cc s.0)

early_says : (hs : List Heard) → Says {A = Result Requested Refusal} Early hs → AllByRecursion (λ e. IsPlain e.op) (entries hs)
early_says [] s = tt
early_says (h ∷ hs) s = absurd (cc s.0)

wrong_says : (hs : List Heard) → Says {A = Result Requested Refusal} Wrong hs → AllByRecursion (λ e. IsPlain e.op) (entries hs)
wrong_says [] s = tt
wrong_says (h ∷ hs) s = absurd (cc s.0)

-- after the confirm
confirmed_says : (id : ℕ) (r : Reply) (hs : List Heard) → Says (on_latch r (confirmed id)) hs
    → AllByRecursion (λ e. IsPlain e.op) (entries hs)
confirmed_says id (reply_of.Latch (Granted same)) hs s = done_says _ hs s
confirmed_says id (reply_of.Latch Waiting) hs s = early_says hs s
confirmed_says id (reply_of.Latch Gone) hs s = done_says _ hs s
confirmed_says id r hs s = wrong_says hs s

confirm_is_plain : (op : Op) (latch id : ℕ) → op_on.Latch (Confirm latch id) ≡ op → IsPlain op
confirm_is_plain op latch id is = subst IsPlain is tt

-- after the obtain
obtained_says : (latch : ℕ) (form : LatchForm) (r : Reply) (hs : List Heard) → Says (on_latch r (obtained latch form)) hs
    → AllByRecursion (λ e. IsPlain e.op) (entries hs)
obtained_says latch form (reply_of.Latch (Granted id)) hs s = done_says _ hs s
obtained_says latch form_of.Conditional (reply_of.Latch (NotNow id)) hs s = done_says _ hs s
obtained_says latch form_of.Waiting (reply_of.Latch (Queued id)) [] s = tt
obtained_says latch form_of.Waiting (reply_of.Latch (Queued id)) (h ∷ hs) s = (
  confirm_is_plain h.entry.op latch id (some_pair_parts Latches h.entry.object (op_on.Latch (Confirm latch id)) h.entry.op s.0).1,
  confirmed_says id h.entry.reply hs s.1,
)
obtained_says latch (form_of.Posted e) (reply_of.Latch (Queued id)) hs s = done_says _ hs s
obtained_says latch form r hs s = wrong_says hs s

-- an obtain that is not refused before its event
abbrev begun : Setup → ℕ → ℕ → Mode → LatchForm → Program (Result Requested Refusal)
begun c latch requestor mode form =
    Do Latches (op_on.Latch (Obtain latch requestor mode form)) (λ h. on_latch h.entry.reply (obtained latch form))

module _ (c : Setup) (latch requestor : ℕ) (mode : Mode) (form : LatchForm) (old : List Entry) (d : HasLockDiscipline old) where
  obtain_says : (why : Option Refusal) → (why ≡ None → MayObtain old latch form) → (hs : List Heard)
      → Says (unless_refused why (begun c latch requestor mode form)) hs → HasLockDiscipline (old ++ entries hs)
  obtain_says why may [] s = subst HasLockDiscipline (sym (append-nil old)) d
  obtain_says None may (h ∷ hs) s =
      let is = (some_pair_parts Latches h.entry.object (op_on.Latch (Obtain latch requestor mode form)) h.entry.op s.0).1 in
      subst HasLockDiscipline (append_assoc old (h.entry ∷ []) (entries hs))
      (plain_append (old ++ h.entry ∷ []) (entries hs) (record {
        order = order_push old h.entry d.order (subst (KeepsOrder old) is (may refl));
        apart = apart_push old h.entry d.apart (λ begins. absurd (false≢true (ap begins_wait is ∙ begins)));
      }) (obtained_says latch form h.entry.reply hs s.1))
  obtain_says (Some why) may (h ∷ hs) s = absurd (cc s.0)

-- an obtain keeps the discipline if its latch is above those at which the caller has requests
pub obtain_keeps_discipline : (c : Setup) (latch requestor most k : ℕ) (mode : Mode) (form : LatchForm) (old new : List Entry)
    (before since : List (List Wake)) (answer : Result Requested Refusal)
    → IsMade most (obtain c latch requestor mode form) k old new before since answer
    → (form ≡ form_of.Waiting → AreBelow latch (standing old)) → HasLockDiscipline old → HasLockDiscipline new
obtain_keeps_discipline c latch requestor most k mode form old new before since answer m above d =
    subst HasLockDiscipline (sym m.longer.logged)
    (obtain_says c latch requestor mode form old d (obtain_refusal c latch requestor mode form (kept_of k old))
    (λ unrefused. record { rest = m.began; above = above }) m.events m.done.says)

-- ---- an obtain of a caller that may have one request at a time

-- a request, whichever caller it names: the requests that a caller keeps and those that stand by its log differ at most in that
abbrev unnamed : StandingRequest → StandingRequest
unnamed t = record { latch = t.latch; request = record t.request { caller = 0 } }

unnamed_stands : (k : ℕ) (ts : List StandingRequest) (o : Object) (op : Op) (r : Reply)
    → map unnamed (stands_with k ts o op r) ≡ stands_with 0 (map unnamed ts) o op r
unnamed_stands k ts Latches (op_on.Latch (Obtain latch requestor mode form)) (reply_of.Latch (Granted id)) = map-append unnamed ts _
unnamed_stands k ts Latches (op_on.Latch (Obtain latch requestor mode form)) (reply_of.Latch (Queued id)) = map-append unnamed ts _
unnamed_stands k ts Latches (op_on.Latch (Confirm latch id)) (reply_of.Latch Gone) = mapped_less unnamed (is_named latch id) (λ t. not (is_named latch id t)) (λ t. refl) ts
unnamed_stands k ts Latches (op_on.Latch (Release latch id conditional)) (reply_of.Latch Gone) =
    mapped_less unnamed (is_named latch id) (λ t. not (is_named latch id t)) (λ t. refl) ts
unnamed_stands k ts Latches (op_on.Latch (Release latch id conditional)) (reply_of.Latch (Released n)) =
    mapped_less unnamed (is_named latch id) (λ t. not (is_named latch id t)) (λ t. refl) ts
unnamed_stands k ts Latches (op_on.Latch (Purge requestor)) (reply_of.Latch (Purged removed n)) = mapped_less unnamed (is_for requestor) (λ t. not (is_for requestor t)) (λ t. refl) ts
unnamed_stands k ts Latches (op_on.Latch op) (reply_of.Latch r) = refl
unnamed_stands k ts o op r = refl

unnamed_kept : (kept : Kept) (ts : List StandingRequest) (log : List Entry) → map unnamed kept.requests ≡ map unnamed ts
    → map unnamed (kept_from kept log).requests ≡ map unnamed (standing_from ts log)
unnamed_kept kept ts [] same = same
unnamed_kept kept ts (e ∷ es) same =
    unnamed_kept (kept_after kept e.object e.op e.reply) (stands_with e.caller ts e.object e.op e.reply) es
    (unnamed_stands kept.caller kept.requests e.object e.op e.reply ∙ ap (λ us. stands_with 0 us e.object e.op e.reply) same
    ∙ sym (unnamed_stands e.caller ts e.object e.op e.reply))

kept_if : (b : Bool) (why : Refusal) → refused_if (not b) why ≡ None → b ≡ true
kept_if true why none = refl
kept_if false why none = absurd (cc none)

-- an obtain that is not refused finds no request
few_kept : (c : Setup) (latch requestor : ℕ) (mode : Mode) (form : LatchForm) (kept : Kept)
    → obtain_refusal c latch requestor mode form kept ≡ None → length kept.requests < c.quota
few_kept c latch requestor mode form kept none =
    let within : keeps_quotas c kept.requests form ≡ true =
    kept_if (keeps_quotas c kept.requests form) refusal.Quota (both_none _ _ (both_none _ _ none).1).1 in
    ltb-true (length kept.requests) c.quota (and_parts _ _ within).0

none_stands : (c : Setup) (latch requestor k : ℕ) (mode : Mode) (form : LatchForm) (log : List Entry) → c.quota ≤ 1
    → obtain_refusal c latch requestor mode form (kept_of k log) ≡ None → standing log ≡ []
none_stands c latch requestor k mode form log one none =
    let few = few_kept c latch requestor mode form (kept_of k log) none in
    let same = ap length (unnamed_kept (nothing_kept k) [] log refl) in
    let here = length-map (kept_of k log).requests unnamed in
    let there = length-map (standing log) unnamed in nil_from_length (standing log) (omega arith)

-- so each obtain of such a caller keeps the discipline: while a request of it stands, an obtain is refused without an event
pub one_request_keeps_discipline : (c : Setup) (latch requestor most k : ℕ) (mode : Mode) (form : LatchForm) (old new : List Entry)
    (before since : List (List Wake)) (answer : Result Requested Refusal)
    → IsMade most (obtain c latch requestor mode form) k old new before since answer → c.quota ≤ 1 → HasLockDiscipline old
    → HasLockDiscipline new
one_request_keeps_discipline c latch requestor most k mode form old new before since answer m one d =
    subst HasLockDiscipline (sym m.longer.logged)
    (obtain_says c latch requestor mode form old d (obtain_refusal c latch requestor mode form (kept_of k old))
    (λ unrefused. record {
      rest = m.began;
      above = λ waits. subst (AreBelow latch) (sym (none_stands c latch requestor k mode form old one unrefused)) tt;
    }) m.events m.done.says)

-- ---- a release that posts nothing, as if no request may be of the Posted form

pub release_is_plain : (c : Setup) (latch id most k : ℕ) (conditional : Bool) (old new : List Entry)
    (before since : List (List Wake)) (answer : Result ℕ Refusal)
    → (m : IsMade most (release_latch c latch id conditional) k old new before since answer) → most ≤ 1
    → AllByRecursion (λ e. IsPlain e.op) (entries m.events)
release_is_plain c latch id most k conditional old new before since answer m one =
    go m.events m.done.says (let few = m.few in omega arith) where
      go : (hs : List Heard) → Says (release_latch c latch id conditional (kept_of k old)) hs → length hs ≤ 1
          → AllByRecursion (λ e. IsPlain e.op) (entries hs)
      go [] says few = tt
      go (h ∷ []) says few =
          let is = (some_pair_parts Latches h.entry.object (op_on.Latch (Release latch id conditional)) h.entry.op says.0).1 in
          (subst IsPlain is tt, tt)
      go (h ∷ g ∷ hs) says few = absurd (omega arith)

pub release_keeps_discipline : (c : Setup) (latch id most k : ℕ) (conditional : Bool) (old new : List Entry)
    (before since : List (List Wake)) (answer : Result ℕ Refusal)
    → IsMade most (release_latch c latch id conditional) k old new before since answer → most ≤ 1
    → HasLockDiscipline old → HasLockDiscipline new
release_keeps_discipline c latch id most k conditional old new before since answer m one =
    call_keeps_discipline most k (release_latch c latch id conditional) old new before since answer m
    (release_is_plain c latch id most k conditional old new before since answer m one)

-- ---- calls that make no event on the latch set

abbrev pub IsNoLatchOp : Op → Type 0
IsNoLatchOp (op_on.Latch op) = ⊥
IsNoLatchOp op = Unit {0}

elsewhere_order : (log : List Entry) (op : Op) → IsNoLatchOp op → KeepsOrder log op
elsewhere_order log (op_on.Latch op) none = absurd none
elsewhere_order log op none = tt

stands_elsewhere : (k : ℕ) (ts : List StandingRequest) (o : Object) (op : Op) (r : Reply) → IsNoLatchOp op → stands_with k ts o op r ≡ ts
stands_elsewhere k ts o (op_on.Latch op) r none = absurd none
stands_elsewhere k ts Latches op r none = refl
stands_elsewhere k ts o op r none = refl

standing_elsewhere : (log : List Entry) (e : Entry) → IsNoLatchOp e.op → standing (log ++ e ∷ []) ≡ standing log
standing_elsewhere log e none =
    standing_from-append [] log (e ∷ []) ∙ stands_elsewhere e.caller (standing log) e.object e.op e.reply none

wait_append : (log es : List Entry) → HasLockDiscipline log → standing log ≡ [] → AllByRecursion (λ e. IsNoLatchOp e.op) es
    → HasLockDiscipline (log ++ es)
wait_append log [] d bare none = subst HasLockDiscipline (sym (append-nil log)) d
wait_append log (e ∷ es) d bare none =
    subst HasLockDiscipline (append_assoc log (e ∷ []) es)
    (wait_append (log ++ e ∷ []) es (record {
      order = order_push log e d.order (elsewhere_order log e.op none.0);
      apart = apart_push log e d.apart (λ begins. bare);
    }) (standing_elsewhere log e none.0 ∙ bare) none.1)

-- such a call, as a wait for blocks or a pause, keeps the discipline while no request of its caller stands
pub wait_keeps_discipline : {A : Type 0} (most k : ℕ) (call : Call A) (old new : List Entry) (before since : List (List Wake)) (answer : A)
    → (m : IsMade most call k old new before since answer) → AllByRecursion (λ e. IsNoLatchOp e.op) (entries m.events)
    → standing old ≡ [] → HasLockDiscipline old → HasLockDiscipline new
wait_keeps_discipline most k call old new before since answer m none bare d =
    subst HasLockDiscipline (sym m.longer.logged) (wait_append old (entries m.events) d bare none)

-- ---- all callers of a history

pub each_keeps_discipline : (c : Setup) (es : List Entry) → Legal c es → ((k : ℕ) → k < c.callers → HasLockDiscipline (of k es))
    → KeepsLockDiscipline c es
each_keeps_discipline c es legal each = record {
  ordered = record { legal = legal; order = λ k lt. (each k lt).order };
  apart = λ k lt. (each k lt).apart;
}

-- ---- what a caller has, by its log

-- the caller may obtain a latch that is above all of them
pub below_held : (latch : ℕ) (ts : List StandingRequest) → AllByRecursion (λ n. n.0 < latch) (map named ts) → AreBelow latch ts
below_held latch [] below = tt
below_held latch (t ∷ ts) below = (below.0, below_held latch ts below.1)

held-push : (log : List Entry) (e : Entry)
    → held (log ++ e ∷ []) ≡ map named (stands_with e.caller (standing log) e.object e.op e.reply)
held-push log e = ap (map named) (standing_from-append [] log (e ∷ []))

named_less : (latch id : ℕ) (ts : List StandingRequest) → map named (less (is_named latch id) ts) ≡ without latch id (map named ts)
named_less latch id = mapped_less named (is_named latch id) (λ n. not ((n.0 == latch) && (n.1 == id))) (λ t. refl)

-- the one that was added last is the one that is taken out
without_below : (latch id : ℕ) (ts : List StandingRequest) → AreBelow latch ts
    → without latch id (map named ts ++ (latch, id) ∷ []) ≡ map named ts
without_below latch id [] below = rw (eq-eqb latch latch refl, eq-eqb id id refl) refl
without_below latch id (t ∷ ts) below =
    let lower : t.latch ≡ latch → ⊥ = λ same. let lt = below.0 in absurd (omega arith) in
    rw (ne_eqb t.latch latch lower) (ap (λ z. named t ∷ z) (without_below latch id ts below.1))

-- an operation on the latch set, by its reply
module _ (log : List Entry) (e : Entry) (latch id : ℕ) (at : e.object ≡ Latches) where
  pub obtain_adds : (requestor : ℕ) (mode : Mode) (form : LatchForm) → e.op ≡ op_on.Latch (Obtain latch requestor mode form)
      → (e.reply ≡ reply_of.Latch (Granted id)) ⊎ (e.reply ≡ reply_of.Latch (Queued id))
      → held (log ++ e ∷ []) ≡ held log ++ (latch, id) ∷ []
  obtain_adds requestor mode form is answered = held-push log e ∙ adds e.caller (standing log) e.object e.op e.reply at is answered where
    adds : (k : ℕ) (ts : List StandingRequest) (o : Object) (op : Op) (r : Reply) → o ≡ Latches
        → op ≡ op_on.Latch (Obtain latch requestor mode form)
        → (r ≡ reply_of.Latch (Granted id)) ⊎ (r ≡ reply_of.Latch (Queued id))
        → map named (stands_with k ts o op r) ≡ map named ts ++ (latch, id) ∷ []
    adds k ts o op r here makes (inl granted) = rw (here, makes, granted) (map-append named ts _)
    adds k ts o op r here makes (inr queued) = rw (here, makes, queued) (map-append named ts _)

  pub confirm_keeps : (same : ℕ) → e.op ≡ op_on.Latch (Confirm latch id) → e.reply ≡ reply_of.Latch (Granted same)
      → held (log ++ e ∷ []) ≡ held log
  confirm_keeps same is answered = held-push log e ∙ rw (at, is, answered) refl

  pub confirm_drops : e.op ≡ op_on.Latch (Confirm latch id) → e.reply ≡ reply_of.Latch Gone
      → held (log ++ e ∷ []) ≡ without latch id (held log)
  confirm_drops is answered = held-push log e ∙ rw (at, is, answered) (named_less latch id (standing log))

  pub release_drops : (conditional : Bool) → e.op ≡ op_on.Latch (Release latch id conditional)
      → ((n : ℕ) × (e.reply ≡ reply_of.Latch (Released n))) ⊎ (e.reply ≡ reply_of.Latch Gone)
      → held (log ++ e ∷ []) ≡ without latch id (held log)
  release_drops conditional is (inl released) = held-push log e ∙ rw (at, is, released.1) (named_less latch id (standing log))
  release_drops conditional is (inr gone) = held-push log e ∙ rw (at, is, gone) (named_less latch id (standing log))

-- a program that has gone wrong, or ended too early, is never done
wrong_is_not_done : (a : Result Requested Refusal) (hs : List Heard) → left Wrong hs ≡ Done a → ⊥
wrong_is_not_done a [] is = cc is
wrong_is_not_done a (h ∷ hs) is = wrong_is_not_done a hs is

early_is_not_done : (a : Result Requested Refusal) (hs : List Heard) → left Early hs ≡ Done a → ⊥
early_is_not_done a [] is = cc is
early_is_not_done a (h ∷ hs) is = early_is_not_done a hs is

done_with : (a b : Result Requested Refusal) → Done a ≡ Done b → a ≡ b
done_with a b is = cc is

-- a whole obtain of the Waiting form
module _ (c : Setup) (latch requestor : ℕ) (mode : Mode) (old : List Entry) (answer : Result Requested Refusal)
    (below : AreBelow latch (standing old)) where
  abbrev Has : List Entry → Type 0
  Has new = HasObtained latch (held old) (held new) answer

  is_answer : (a : Result Requested Refusal) (new : List Entry) → Done a ≡ Done answer → HasObtained latch (held old) (held new) a → Has new
  is_answer a new is has = subst (HasObtained latch (held old) (held new)) (done_with a answer is) has

  -- after its confirm
  after_confirm : (log : List Entry) (id : ℕ) (h : Heard) (hs : List Heard) (r : Reply) → held log ≡ held old ++ (latch, id) ∷ []
      → h.entry.object ≡ Latches → h.entry.op ≡ op_on.Latch (Confirm latch id) → h.entry.reply ≡ r
      → Says (on_latch r (confirmed id)) hs → left (on_latch r (confirmed id)) hs ≡ Done answer → Has (log ++ h.entry ∷ entries hs)
  after_confirm log id h [] (reply_of.Latch (Granted same)) has at makes is says done =
      is_answer (Ok (GrantedAs id)) (log ++ h.entry ∷ []) done (confirm_keeps log h.entry latch id at same makes is ∙ has)
  after_confirm log id h [] (reply_of.Latch Gone) has at makes is says done =
      is_answer (Err refusal.Purged) (log ++ h.entry ∷ []) done
      (confirm_drops log h.entry latch id at makes is ∙ ap (without latch id) has ∙ without_below latch id (standing old) below)
  after_confirm log id h (g ∷ hs) (reply_of.Latch (Granted same)) has at makes is says done = absurd (cc says.0)
  after_confirm log id h (g ∷ hs) (reply_of.Latch Gone) has at makes is says done = absurd (cc says.0)
  after_confirm log id h hs (reply_of.Latch Waiting) has at makes is says done = absurd (early_is_not_done answer hs done)
  after_confirm log id h hs r has at makes is says done = absurd (wrong_is_not_done answer hs done)

  -- after its first event
  after_obtain : (h : Heard) (hs : List Heard) (r : Reply) → h.entry.object ≡ Latches
      → h.entry.op ≡ op_on.Latch (Obtain latch requestor mode form_of.Waiting) → h.entry.reply ≡ r
      → Says (on_latch r (obtained latch form_of.Waiting)) hs → left (on_latch r (obtained latch form_of.Waiting)) hs ≡ Done answer
      → Has (old ++ h.entry ∷ entries hs)
  after_obtain h [] (reply_of.Latch (Granted id)) at makes is says done =
      is_answer (Ok (GrantedAs id)) (old ++ h.entry ∷ []) done
      (obtain_adds old h.entry latch id at requestor mode form_of.Waiting makes (inl is))
  after_obtain h (g ∷ hs) (reply_of.Latch (Granted id)) at makes is says done = absurd (cc says.0)
  after_obtain h [] (reply_of.Latch (Queued id)) at makes is says done = absurd (cc done)
  after_obtain h (g ∷ hs) (reply_of.Latch (Queued id)) at makes is says done =
      let asked = some_pair_parts Latches g.entry.object (op_on.Latch (Confirm latch id)) g.entry.op says.0 in
      subst Has (append_assoc old (h.entry ∷ []) (g.entry ∷ entries hs))
      (after_confirm (old ++ h.entry ∷ []) id g hs g.entry.reply
      (obtain_adds old h.entry latch id at requestor mode form_of.Waiting makes (inr is)) (sym asked.0) (sym asked.1) refl says.1 done)
  after_obtain h hs r at makes is says done = absurd (wrong_is_not_done answer hs done)

  begun_holds : (why : Option Refusal) (hs : List Heard) → let p = unless_refused why (begun c latch requestor mode form_of.Waiting) in
      Says p hs → left p hs ≡ Done answer → Has (old ++ entries hs)
  begun_holds (Some why) [] says done = is_answer (Err why) (old ++ []) done (ap held (append-nil old))
  begun_holds (Some why) (h ∷ hs) says done = absurd (cc says.0)
  begun_holds None [] says done = absurd (cc done)
  begun_holds None (h ∷ hs) says done =
      let asked = some_pair_parts Latches h.entry.object (op_on.Latch (Obtain latch requestor mode form_of.Waiting)) h.entry.op says.0 in
      after_obtain h hs h.entry.reply (sym asked.0) (sym asked.1) refl says.1 done

-- what an obtain adds, where its latch is above all others
pub obtain_holds : (c : Setup) (latch requestor most k : ℕ) (mode : Mode) (old new : List Entry) (before since : List (List Wake))
    (answer : Result Requested Refusal) → IsMade most (obtain c latch requestor mode form_of.Waiting) k old new before since answer
    → AreBelow latch (standing old) → HasObtained latch (held old) (held new) answer
obtain_holds c latch requestor most k mode old new before since answer m below =
    subst (λ log. HasObtained latch (held old) (held log) answer) (sym m.longer.logged)
    (begun_holds c latch requestor mode old answer below (obtain_refusal c latch requestor mode form_of.Waiting (kept_of k old)) m.events
    m.done.says m.done.done)

-- ---- what stands after any other call

-- a release that posts nothing, as where no request may be of the Posted form
pub release_holds : (c : Setup) (latch id most k : ℕ) (old new : List Entry) (before since : List (List Wake)) (answer : Result ℕ Refusal)
    → IsMade most (release_latch c latch id false) k old new before since answer → most ≤ 1 → held new ≡ without latch id (held old)
release_holds c latch id most k old new before since answer m one =
    ap held m.longer.logged ∙ go m.events m.done.says m.done.done (let few = m.few in omega arith) where
      kept : Kept
      kept = kept_of k old

      by_reply : (h : Heard) (r : Reply) → h.entry.object ≡ Latches → h.entry.op ≡ op_on.Latch (Release latch id false) → h.entry.reply ≡ r
          → on_latch r (let_go c false h.wakes kept) ≡ Done answer → held (old ++ h.entry ∷ []) ≡ without latch id (held old)
      by_reply h (reply_of.Latch (Released n)) at makes is done = release_drops old h.entry latch id at false makes (inl (n, is))
      by_reply h (reply_of.Latch Gone) at makes is done = release_drops old h.entry latch id at false makes (inr is)
      by_reply h r at makes is done = absurd (cc done)

      go : (hs : List Heard) → Says (release_latch c latch id false kept) hs → left (release_latch c latch id false kept) hs ≡ Done answer
          → length hs ≤ 1 → held (old ++ entries hs) ≡ without latch id (held old)
      go [] says done few = absurd (cc done)
      go (h ∷ []) says done few =
          let asked = some_pair_parts Latches h.entry.object (op_on.Latch (Release latch id false)) h.entry.op says.0 in
          by_reply h h.entry.reply (sym asked.0) (sym asked.1) refl done
      go (h ∷ g ∷ hs) says done few = absurd (omega arith)

pub others_append : (log es : List Entry) → AllByRecursion (λ e. IsNoLatchOp e.op) es → held (log ++ es) ≡ held log
others_append log [] none = ap held (append-nil log)
others_append log (e ∷ es) none =
    ap held (sym (append_assoc log (e ∷ []) es)) ∙ others_append (log ++ e ∷ []) es none.1
    ∙ ap (map named) (standing_elsewhere log e none.0)

-- a call that makes no event on the latch set
pub other_holds : {A : Type 0} (most k : ℕ) (call : Call A) (old new : List Entry) (before since : List (List Wake)) (answer : A)
    → (m : IsMade most call k old new before since answer) → AllByRecursion (λ e. IsNoLatchOp e.op) (entries m.events)
    → held new ≡ held old
other_holds most k call old new before since answer m none = ap held m.longer.logged ∙ others_append old (entries m.events) none
