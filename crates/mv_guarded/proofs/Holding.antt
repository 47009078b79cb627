-- What a call leaves of its task: which latch the task holds by its log, what the call read, and the lock discipline. For programs.
use Rattle.std.proofs.Common.{◌≡◌, ℕ, ◌<◌, ◌≤◌, ◌||◌, Bool, false, List, [], ◌∷◌, ◌++◌, map, Result, Ok, Err, inl, inr, refl, sym, ap, ◌∙◌, subst}
use Rattle.std.proofs.Common.{true, append_assoc, arith}
use Rattle.std.specs.List.{AllByRecursion, Contains, list_any}
use Rattle.std.proofs.lemmas.Bool.{eq-eqb, false≢true}
use Rattle.std.proofs.lemmas.List.{append-nil}
use Rattle.std.proofs.lemmas.List.Elements.{Contains-push}
use Rattle.std.proofs.lemmas.List.Folds.{list_any-append}
use Rattle.mv_latch.proofs.Joined.{some_any}
use Rattle.mv_latch.specs.declared.operation.LatchOp.TheVariants.{Obtain, Confirm}
use Rattle.mv_latch.specs.declared.operation.LatchReply.TheVariants.{Granted, Queued}
use Rattle.mv_latch.specs.declared.request.LatchForm.TheVariants.{Waiting}
use Rattle.mv_latch.specs.declared.request.Mode.{Mode}
use Rattle.mv_machine.specs.declared.entry.Entry.{Entry}
use Rattle.mv_machine.specs.declared.entry.Object.{Object}
use Rattle.mv_machine.specs.declared.entry.Object.TheVariants.{Volume, Latches}
use Rattle.mv_machine.specs.declared.entry.Op.{Op}
use Rattle.mv_machine.specs.declared.entry.Op.TheVariants as op_on
use Rattle.mv_machine.specs.declared.entry.Reply.{Reply}
use Rattle.mv_machine.specs.declared.entry.Reply.TheVariants as reply_of
use Rattle.mv_machine.specs.declared.entry.VolumeOp.TheVariants.{Read, Write}
use Rattle.mv_machine.specs.declared.entry.VolumeReply.TheVariants.{Value}
use Rattle.mv_machine.specs.Kept.{StandingRequest, standing, stands_with}
use Rattle.mv_config.specs.Reach.{release_cost}
use Rattle.mv_config.specs.Setup.{Setup}
use Rattle.mv_machine.proofs.EntryRuns.{entry_of}
use Rattle.mv_machine.proofs.Lists.{all_push}
use Rattle.mv_board.specs.Faces.{CallerFace}
use Rattle.mv_calls.specs.Keeping.{kept_of}
use Rattle.mv_calls.specs.LatchCalls.{obtain, release_latch}
use Rattle.mv_calls.specs.Program.{Done, Call, on_volume}
use Rattle.mv_calls.specs.Refusal.{Refusal}
use Rattle.mv_calls.specs.Sections.{tells_grant, is_write}
use Rattle.mv_calls.specs.Waits.{read_volume, write_volume, the_value, stored}
use Rattle.mv_calls.proofs.Removals.{standing_from-append}
use Rattle.mv_wait.specs.Run.{IsServed}
use Rattle.mv_latchset.specs.Answers.{obtain_answer}
use Rattle.mv_latchset.specs.declared.obtaining.Obtained.{Obtained}
use Rattle.mv_latchset.specs.declared.obtaining.Obtained.TheVariants as got
use Rattle.mv_latchset.specs.declared.obtaining.ObtainRefusal.{ObtainRefusal}
use Rattle.mv_latchset.specs.declared.token.LatchToken.{LatchToken}
use Rattle.mv_latchset.specs.Obtaining.{IsObtainedBy}
use Rattle.mv_attach.proofs.Always.{Always, always_says}
use Rattle.mv_attach.proofs.Once.{Once, served_once}
use Rattle.mv_attach.proofs.Says.{always_read, always_write}
use Rattle.mv_ordered.specs.Held.{named, held, without, HasObtained}
use Rattle.mv_ordered.specs.LatchOrder.{HasLockDiscipline}
use Rattle.mv_ordered.proofs.Calls.{IsPlain, IsNoLatchOp, call_keeps_discipline, wait_keeps_discipline, obtain_holds, other_holds}
use Rattle.mv_ordered.proofs.Calls.{below_held, release_holds}
use Rattle.mv_guarded.specs.Guarded.{HoldsLatch, KeepsLatch, Reads, HasRead, TakesAlone}

-- ---- a task that was granted a latch holds it

-- the request that an obtain makes, and its entry
abbrev request_of : ℕ → ℕ → ℕ → Mode → ℕ → StandingRequest
request_of latch k id mode requestor = record {
  latch = latch;
  request = record { id = id; caller = k; requestor = requestor; mode = mode; form = Waiting };
}

abbrev asked_entry : ℕ → ℕ → ℕ → Mode → ℕ → Reply → Entry
asked_entry latch k place mode requestor reply =
    entry_of k Latches place (op_on.Latch (Obtain latch requestor mode Waiting)) reply

-- one that is granted at once
holds_at_once : (latch k place id : ℕ) (mode : Mode) (requestor : ℕ) (log : List Entry)
    → HoldsLatch latch mode k (log ++ asked_entry latch k place mode requestor (reply_of.Latch (Granted id)) ∷ [])
holds_at_once latch k place id mode requestor log =
    let e = asked_entry latch k place mode requestor (reply_of.Latch (Granted id)) in
    let t = request_of latch k id mode requestor in record {
      request = t;
      here = refl;
      mode = refl;
      mine = refl;
      granted = record {
        stands = subst (λ ts. Contains ts t) (sym (standing_from-append [] log (e ∷ []))) (Contains-push (standing log) t);
        told = some_any (λ x. tells_grant latch id x.op x.reply) log e (rw (eq-eqb latch latch refl, eq-eqb id id refl) refl);
      };
    }

-- one that is queued, and granted by its confirm
holds_confirmed : (latch k place at id : ℕ) (mode : Mode) (requestor : ℕ) (log : List Entry)
    → HoldsLatch latch mode k
    (
    (log ++ asked_entry latch k place mode requestor (reply_of.Latch (Queued id)) ∷ [])
    ++ entry_of k Latches at (op_on.Latch (Confirm latch id)) (reply_of.Latch (Granted id)) ∷ []
    )
holds_confirmed latch k place at id mode requestor log =
    let e = asked_entry latch k place mode requestor (reply_of.Latch (Queued id)) in
    let f = entry_of k Latches at (op_on.Latch (Confirm latch id)) (reply_of.Latch (Granted id)) in
    let t = request_of latch k id mode requestor in record {
      request = t;
      here = refl;
      mode = refl;
      mine = refl;
      granted = record {
        stands = subst (λ ts. Contains ts t) (sym (standing_from-append [] (log ++ e ∷ []) (f ∷ []) ∙ standing_from-append [] log (e ∷ [])))
            (Contains-push (standing log) t);
        told = some_any (λ x. tells_grant latch id x.op x.reply) (log ++ e ∷ []) f
            (rw (eq-eqb latch latch refl, eq-eqb id id refl) refl);
      };
    }

-- by clause `causes` of the call
pub holds_granted : (latch : ℕ) (mode : Mode) (requestor : ℕ) (t u : CallerFace) (token : LatchToken)
    → IsObtainedBy (Obtain latch requestor mode Waiting) latch Waiting t (got.Granted token) u → HoldsLatch latch mode t.number u.log
holds_granted latch mode requestor t u token (inl at_once) =
    subst (HoldsLatch latch mode t.number) (sym at_once.1.logged)
    (holds_at_once latch t.number at_once.0 token.id mode requestor t.log)
holds_granted latch mode requestor t u token (inr (form, q)) =
    let queued = q.queued.1 in
    let settled = q.settled in
    let log : settled.awaited.log
    ≡ t.log ++ asked_entry latch t.number q.queued.0 mode requestor (reply_of.Latch (Queued token.id)) ∷ [] =
    settled.waited.logged ∙ append-nil q.waiting.log ∙ queued.logged in
    let number : settled.awaited.number ≡ t.number = settled.waited.same.number ∙ queued.same.number in
    subst (HoldsLatch latch mode t.number)
    (sym (settled.confirmed.1.logged
    ∙ (λ i. log i ++ entry_of (number i) Latches settled.confirmed.0 (op_on.Latch (Confirm latch token.id))
    (reply_of.Latch (Granted token.id)) ∷ [])))
    (holds_confirmed latch t.number q.queued.0 settled.confirmed.0 token.id mode requestor t.log)

-- ---- an entry that is not on the latch set leaves it

elsewhere_keeps : (k : ℕ) (ts : List StandingRequest) (o : Object) (op : Op) (r : Reply) → (o ≡ Latches → ⊥) → stands_with k ts o op r ≡ ts
elsewhere_keeps k ts Latches op r off = absurd (off refl)
elsewhere_keeps k ts o op r off = refl

-- such as a post
pub holds_elsewhere : (latch : ℕ) (mode : Mode) (k : ℕ) (log : List Entry) (e : Entry) → (e.object ≡ Latches → ⊥)
    → HoldsLatch latch mode k log → HoldsLatch latch mode k (log ++ e ∷ [])
holds_elsewhere latch mode k log e off h =
    let test : Entry → Bool = λ x. tells_grant h.request.latch h.request.request.id x.op x.reply in record {
      request = h.request;
      here = h.here;
      mode = h.mode;
      mine = h.mine;
      granted = record {
        stands = subst (λ ts. Contains ts h.request)
            (sym (standing_from-append [] log (e ∷ []) ∙ elsewhere_keeps e.caller (standing log) e.object e.op e.reply off)) h.granted.stands;
        told = list_any-append test log (e ∷ []) ∙ ap (λ b. b || list_any test (e ∷ [])) h.granted.told;
      };
    }

-- a read or a write of a volume
pub still_holds : (latch : ℕ) (mode : Mode) (k n : ℕ) (log : List Entry) (e : Entry) → e.object ≡ Volume n → HoldsLatch latch mode k log
    → HoldsLatch latch mode k (log ++ e ∷ [])
still_holds latch mode k n log e at =
    holds_elsewhere latch mode k log e (λ is. let same : Volume n ≡ Latches = sym at ∙ is in cc same)

-- ---- the entry of a read and of a write

value_of : (r : Reply) (x : ℕ) → on_volume r the_value ≡ Done x → r ≡ reply_of.Volume (Value x)
value_of (reply_of.Volume (Value n)) x e = let same : n ≡ x = cc e in ap (λ m. reply_of.Volume (Value m)) same
value_of (reply_of.Volume r) x e = absurd (cc e)
value_of r x e = absurd (cc e)

pub record HasReadOne (n x : ℕ) (t u : CallerFace) : Type 0 where
  pub entry : Entry
  pub logged : u.log ≡ t.log ++ entry ∷ []
  pub reads : Reads n x entry

pub read_one : (n x : ℕ) (t u : CallerFace) → IsServed 1 (read_volume n) (λ a. a ≡ x) t u → HasReadOne n x t u
read_one n x t u s =
    let one = served_once 1 (read_volume n) (λ a. a ≡ x) (Volume n) (op_on.Volume Read) (λ h. on_volume h.entry.reply the_value) t u s
    (omega arith) refl in record {
      entry = one.heard.entry;
      logged = one.logged;
      reads = record { object = one.object; op = one.makes; reply = value_of one.heard.entry.reply x (one.done ∙ ap Done s.is) };
    }

-- so what was read under the latch
pub just_read : (latch n k x : ℕ) (asked : Mode) (log : List Entry) (e : Entry) → HoldsLatch latch asked k log → Reads n x e
    → HasRead latch n k x (log ++ e ∷ [])
just_read latch n k x asked log e holds reads = record {
  before = log;
  entry = e;
  since = [];
  split = refl;
  asked = asked;
  holds = holds;
  reads = reads;
  inside = tt;
  unwritten = tt;
}

-- and after an entry that neither releases the latch nor writes that volume
pub still_read : (latch n k x : ℕ) (log : List Entry) (e : Entry) → KeepsLatch latch e.op → (e.object ≡ Volume n → is_write e.op ≡ true → ⊥)
    → HasRead latch n k x log → HasRead latch n k x (log ++ e ∷ [])
still_read latch n k x log e keeps none r = record {
  before = r.before;
  entry = r.entry;
  since = r.since ++ e ∷ [];
  split = ap (λ xs. xs ++ e ∷ []) r.split ∙ append_assoc r.before (r.entry ∷ r.since) (e ∷ []);
  asked = r.asked;
  holds = r.holds;
  reads = r.reads;
  inside = all_push (λ y. KeepsLatch latch y.op) r.since e r.inside keeps;
  unwritten = all_push (λ y. y.object ≡ Volume n → is_write y.op ≡ true → ⊥) r.since e r.unwritten none;
}

pub wrote_one : (n x : ℕ) (Is : Unit {0} → Type 0) (t u : CallerFace) → (s : IsServed 1 (write_volume n x) Is t u)
    → Once (Volume n) (op_on.Volume (Write x)) (λ h. on_volume h.entry.reply stored) s.answer t u
wrote_one n x Is t u s =
    served_once 1 (write_volume n x) Is (Volume n) (op_on.Volume (Write x)) (λ h. on_volume h.entry.reply stored) t u s (omega arith) refl

-- ---- calls in a section

-- a read: the task still holds the latch, and has read this number
pub read_inside : (latch n x : ℕ) (asked : Mode) (t u : CallerFace) → HoldsLatch latch asked t.number t.log
    → IsServed 1 (read_volume n) (λ a. a ≡ x) t u → HoldsLatch latch asked u.number u.log × HasRead latch n u.number x u.log
read_inside latch n x asked t u holds s =
    let one = read_one n x t u s in
    let same = sym s.same.number in (
      subst (λ k. HoldsLatch latch asked k u.log) same (subst (HoldsLatch latch asked t.number) (sym one.logged)
          (still_holds latch asked t.number n t.log one.entry one.reads.object holds)),
      subst (λ k. HasRead latch n k x u.log) same (subst (HasRead latch n t.number x) (sym one.logged)
          (just_read latch n t.number x asked t.log one.entry holds one.reads)),
    )

-- what it had read before, it has still read
pub read_past_read : (latch m y n x : ℕ) (t u : CallerFace) → HasRead latch m t.number y t.log
    → IsServed 1 (read_volume n) (λ a. a ≡ x) t u → HasRead latch m u.number y u.log
read_past_read latch m y n x t u read s =
    let one = read_one n x t u s in
    subst (λ k. HasRead latch m k y u.log) (sym s.same.number) (subst (HasRead latch m t.number y) (sym one.logged)
    (still_read latch m t.number y t.log one.entry (subst (KeepsLatch latch) (sym one.reads.op) tt)
    (λ at is. false≢true (sym (ap is_write one.reads.op) ∙ is)) read))

-- a write of a volume: the task still holds the latch, and has read what it had read of other volumes
pub write_inside : (latch n x : ℕ) (asked : Mode) (Is : Unit {0} → Type 0) (t u : CallerFace) → HoldsLatch latch asked t.number t.log
    → IsServed 1 (write_volume n x) Is t u → HoldsLatch latch asked u.number u.log
write_inside latch n x asked Is t u holds s =
    let one = wrote_one n x Is t u s in
    subst (λ k. HoldsLatch latch asked k u.log) (sym s.same.number) (subst (HoldsLatch latch asked t.number) (sym one.logged)
    (still_holds latch asked t.number n t.log one.heard.entry one.object holds))

pub read_past_write : (latch m y n x : ℕ) (Is : Unit {0} → Type 0) (t u : CallerFace) → (n ≡ m → ⊥) → HasRead latch m t.number y t.log
    → IsServed 1 (write_volume n x) Is t u → HasRead latch m u.number y u.log
read_past_write latch m y n x Is t u other read s =
    let one = wrote_one n x Is t u s in
    subst (λ k. HasRead latch m k y u.log) (sym s.same.number) (subst (HasRead latch m t.number y) (sym one.logged)
    (still_read latch m t.number y t.log one.heard.entry (subst (KeepsLatch latch) (sym one.makes) tt)
    (λ at is. other (let same : Volume n ≡ Volume m = sym one.object ∙ at in cc same)) read))

-- ---- the lock discipline, and the list of the latches that a task has

-- a call that neither obtains nor waits, which lemmas of mv_attach's Says show
pub plain_keeps_discipline : {A : Type 0} (most : ℕ) (call : Call A) (Is : A → Type 0) (t u : CallerFace) → IsServed most call Is t u
    → Always (λ o op. IsPlain op) (call (kept_of t.number t.log)) → HasLockDiscipline t.log → HasLockDiscipline u.log
plain_keeps_discipline most call Is t u s a =
    call_keeps_discipline most t.number call t.log u.log t.told u.told s.answer s.made
    (always_says (λ o op. IsPlain op) (call (kept_of t.number t.log)) s.made.events a s.made.done.says)

-- a call that makes no event on the latch set, as a wait or a post: it keeps the discipline while its task has no latch, and the list as it is
pub wait_keeps : {A : Type 0} (most : ℕ) (call : Call A) (Is : A → Type 0) (t u : CallerFace) → IsServed most call Is t u
    → Always (λ o op. IsNoLatchOp op) (call (kept_of t.number t.log)) → held t.log ≡ [] → HasLockDiscipline t.log → HasLockDiscipline u.log
wait_keeps most call Is t u s a bare =
    wait_keeps_discipline most t.number call t.log u.log t.told u.told s.answer s.made
    (always_says (λ o op. IsNoLatchOp op) (call (kept_of t.number t.log)) s.made.events a s.made.done.says)
    (none_stand (standing t.log) bare) where
      none_stand : (ts : List StandingRequest) → map named ts ≡ [] → ts ≡ []
      none_stand [] is = refl
      none_stand (x ∷ ts) is = absurd (cc is)

pub same_held : {A : Type 0} (most : ℕ) (call : Call A) (Is : A → Type 0) (t u : CallerFace) → IsServed most call Is t u
    → Always (λ o op. IsNoLatchOp op) (call (kept_of t.number t.log)) → held u.log ≡ held t.log
same_held most call Is t u s a =
    other_holds most t.number call t.log u.log t.told u.told s.answer s.made
    (always_says (λ o op. IsNoLatchOp op) (call (kept_of t.number t.log)) s.made.events a s.made.done.says)

-- an operation that neither obtains nor waits obtains nothing in another mode
pub plain_alone : (o : Object) (op : Op) → IsPlain op → TakesAlone o op
plain_alone o (op_on.Latch (Obtain latch requestor mode form)) plain = absurd plain
plain_alone o op plain = tt

-- what an obtain of the Waiting form adds to what is held
abbrev pub HasTaken : ℕ → List (ℕ × ℕ) → List (ℕ × ℕ) → Result Obtained ObtainRefusal → Type 0
HasTaken latch old new (Ok (got.Granted token)) = new ≡ old ++ (latch, token.id) ∷ []
HasTaken latch old new (Ok (got.Pending token)) = ⊥
HasTaken latch old new (Err why) = new ≡ old

taken_by : (latch : ℕ) (old new : List (ℕ × ℕ)) (r : Result Obtained ObtainRefusal) → HasObtained latch old new (obtain_answer r)
    → HasTaken latch old new r
taken_by latch old new (Ok (got.Granted token)) h = h
taken_by latch old new (Ok (got.Pending token)) h = h
taken_by latch old new (Err why) h = h

pub obtain_takes : (c : Setup) (latch requestor most : ℕ) (mode : Mode) (r : Result Obtained ObtainRefusal) (t u : CallerFace)
    → IsServed most (obtain c latch requestor mode Waiting) (λ a. a ≡ obtain_answer r) t u
    → AllByRecursion (λ n. n.0 < latch) (held t.log) → HasTaken latch (held t.log) (held u.log) r
obtain_takes c latch requestor most mode r t u s lower =
    taken_by latch (held t.log) (held u.log) r (subst (HasObtained latch (held t.log) (held u.log)) s.is
    (obtain_holds c latch requestor most t.number mode t.log u.log t.told u.told s.answer s.made
    (below_held latch (standing t.log) lower)))

-- ---- a section of a task that has no other latch

-- its obtain
pub takes_only : (c : Setup) (latch requestor most : ℕ) (mode : Mode) (r : Result Obtained ObtainRefusal) (t u : CallerFace)
    → IsServed most (obtain c latch requestor mode Waiting) (λ a. a ≡ obtain_answer r) t u → held t.log ≡ []
    → HasTaken latch [] (held u.log) r
takes_only c latch requestor most mode r t u s bare =
    subst (λ old. HasTaken latch old (held u.log) r) bare
    (obtain_takes c latch requestor most mode r t u s (subst (AllByRecursion (λ n. n.0 < latch)) (sym bare) tt))

-- a read and a write in it
pub read_held : (n x : ℕ) (t u : CallerFace) → IsServed 1 (read_volume n) (λ a. a ≡ x) t u → held u.log ≡ held t.log
read_held n x t u s =
    same_held 1 (read_volume n) (λ a. a ≡ x) t u s (always_read (λ o op. IsNoLatchOp op) n (kept_of t.number t.log) tt)

pub write_held : (n x : ℕ) (Is : Unit {0} → Type 0) (t u : CallerFace) → IsServed 1 (write_volume n x) Is t u → held u.log ≡ held t.log
write_held n x Is t u s =
    same_held 1 (write_volume n x) Is t u s (always_write (λ o op. IsNoLatchOp op) n x (kept_of t.number t.log) tt)

-- its release, which posts nothing
pub release_bares : (c : Setup) (latch id : ℕ) (Is : Result ℕ Refusal → Type 0) (t u : CallerFace)
    → IsServed (release_cost c) (release_latch c latch id false) Is t u → release_cost c ≤ 1 → held t.log ≡ (latch, id) ∷ []
    → held u.log ≡ []
release_bares c latch id Is t u s one has =
    release_holds c latch id (release_cost c) t.number t.log u.log t.told u.told s.answer s.made one ∙ ap (without latch id) has
    ∙ rw (eq-eqb latch latch refl, eq-eqb id id refl) refl
