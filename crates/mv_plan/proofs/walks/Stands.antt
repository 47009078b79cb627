-- What holds of the machine after every legal list: a block is extended with an exit of its own; and where no request of the Posted
-- form is allowed none stands, so that no wake posts a block. And at each moment of a walk all points are sound, with what their tasks
-- keep: the first invariant; all others stand on it.
use Rattle.mv_plan.proofs.Words.{◌≡◌, ℕ, zero, suc, Bool, true, List, [], ◌∷◌, map, replicate, None, arith, AllByRecursion, false≢true, Ecb}
use Rattle.mv_plan.proofs.Words.{and_parts, ecb_step, Extended, LatchOp, Request, granted, release_step, list_of, latch_step, Entry, Object}
use Rattle.mv_plan.proofs.Words.{Element, Volume, Latches, Op, IsNext, next, Setup, is_exit_of, System, opening, admitted, moved, EcbOp}
use Rattle.mv_plan.proofs.Words.{all_append, all_filter, EcbReply, common_steps, ◌<◌, length, sym, ◌∙◌, subst, with_at, JobData, Kept}
use Rattle.mv_plan.proofs.Words.{kept_after, nothing_kept, scheduler, initiator, writer}
use Rattle.std.specs.List.{flat_map}
use Rattle.mv_latch.specs.Latch.{shared_front, purged}
use Rattle.mv_latch.specs.LatchSet.{latch_admitted, wakes}
use Rattle.mv_latch.specs.Request.{posted_ecb, wake_of}
use Rattle.mv_machine.specs.System.{latches_of}
use Rattle.mv_calls.proofs.Hearing.{wakes_at}
use Rattle.mv_plan.proofs.points.{PostNothing, initiator_asks, initiator_goes, keeps, IsReaderAt, WriterKept, IsWriterAt, InitiatorStands}
use Rattle.mv_plan.proofs.points.{initiator_stands, IsInitiatorAt, SchedulerStands, scheduler_stands, IsSchedulerAt}
use Rattle.mv_config.proofs.Chains.{all_set}
use Rattle.mv_plan.proofs.lists.{all_drop, all_get, with_at-other, all_but}
use Rattle.mv_plan.proofs.deck.{ArePlannedJobs, Facts}
use Rattle.mv_plan.proofs.walks.Walks.{Points, start_points, Move, reads, schedules, initiates, writes}

-- ---- requests that post nothing

abbrev pub IsUnposted : Request → Type 0
IsUnposted q = posted_ecb q.form ≡ None

abbrev pub AreUnposted : List Request → Type 0
AreUnposted qs = AllByRecursion IsUnposted qs

front_unposted : (qs : List Request) → AreUnposted qs → AreUnposted (shared_front qs)
front_unposted [] a = grind (arith, common_steps)
front_unposted (q ∷ qs) a = grind (arith, common_steps, front_unposted qs)

granted_unposted : (qs : List Request) → AreUnposted qs → AreUnposted (granted qs)
granted_unposted [] a = tt
granted_unposted (q ∷ qs) a = grind (arith, common_steps, front_unposted)

abbrev pub AllUnposted : List (List Request) → Type 0
AllUnposted lists = AllByRecursion AreUnposted lists

wakes_of_unposted : (code : ℕ) (qs : List Request) → AreUnposted qs → PostNothing (map (wake_of code) qs)
wakes_of_unposted code [] a = tt
wakes_of_unposted code (q ∷ qs) a = (a.0, wakes_of_unposted code qs a.1)

all_flat : (f : List Request → List Request) (lists : List (List Request)) → ((qs : List Request) → AreUnposted qs → AreUnposted (f qs))
    → AllUnposted lists → AreUnposted (flat_map f lists)
all_flat f [] g a = tt
all_flat f (qs ∷ lists) g a = all_append IsUnposted (f qs) (flat_map f lists) (g qs a.0) (all_flat f lists g a.1)

list_unposted : (lists : List (List Request)) (latch : ℕ) → AllUnposted lists → AreUnposted (list_of lists latch)
list_unposted lists latch a = all_get AreUnposted lists latch [] a tt

purged_unposted : (requestor : ℕ) (lists : List (List Request)) → AllUnposted lists → AllUnposted (map (purged requestor) lists)
purged_unposted requestor [] a = tt
purged_unposted requestor (qs ∷ lists) a = (all_filter IsUnposted _ qs a.0, purged_unposted requestor lists a.1)

released_unposted : (caller id : ℕ) (conditional : Bool) (qs : List Request) → AreUnposted qs
    → AreUnposted (release_step caller id conditional qs).0
released_unposted caller id conditional qs a = grind (arith, common_steps, all_filter)

step_unposted : (c : Setup) (k place : ℕ) (op : LatchOp) (lists : List (List Request)) → c.posted_quota ≡ 0
    → latch_admitted k op (latches_of c lists) ≡ true → AllUnposted lists → AllUnposted (latch_step k place op lists).0
step_unposted c k place (LatchOp.Obtain latch requestor mode form) lists e adm a = grind (arith, common_steps)
step_unposted c k place (LatchOp.Confirm latch id) lists e adm a = a
step_unposted c k place (LatchOp.Release latch id conditional) lists e adm a =
    all_set AreUnposted lists latch _ (released_unposted k id conditional (list_of lists latch) (list_unposted lists latch a)) a
step_unposted c k place (LatchOp.Purge requestor) lists e adm a = purged_unposted requestor lists a

wakes_unposted : (k : ℕ) (op : LatchOp) (lists : List (List Request)) → AllUnposted lists → PostNothing (wakes k op lists)
wakes_unposted k x lists a =
    grind (
      arith,
      common_steps,
      wakes_of_unposted,
      all_filter,
      granted_unposted,
      released_unposted,
      list_unposted,
      all_append,
      all_flat,
      all_drop,
    )

-- ---- the machine after every legal list

-- each exit in a block is one of its own, and no request that stands posts a block
pub record Fits (c : Setup) (s : System) : Type 0 where
  pub exits : (n x : ℕ) → (s.ecb n).state ≡ Extended x → is_exit_of c x n ≡ true
  pub plain : AllUnposted s.latches.state

none_yet : (n : ℕ) → AllUnposted (replicate n [])
none_yet zero = tt
none_yet (suc n) = (tt, none_yet n)

pub fits_opening : (c : Setup) → Fits c (opening c)
fits_opening c = record { exits = λ n x e. absurd (cc e); plain = none_yet c.latches }

fits_moved : (c : Setup) (s : System) (k : ℕ) (o : Object) (op : Op) → c.posted_quota ≡ 0 → admitted c s k o op ≡ true → Fits c s
    → Fits c (moved s k o op)
fits_moved c s k (Ecb m) (Op.Ecb op) z adm f = grind (arith, common_steps)
fits_moved c s k (Element m) (Op.Element op) z adm f = record { exits = f.exits; plain = f.plain }
fits_moved c s k (Volume m) (Op.Volume op) z adm f = record { exits = f.exits; plain = f.plain }
fits_moved c s k Latches (Op.Latch op) z adm f = grind (arith, common_steps, step_unposted, and_parts)
fits_moved c s k o op z adm f = absurd (false≢true adm)

pub fits_next : (c : Setup) (s : System) (e : Entry) → c.posted_quota ≡ 0 → IsNext c s e → Fits c s → Fits c (next s e)
fits_next c s e z n f = fits_moved c s e.caller e.object e.op z n.admits f

-- no wake posts a block
pub fits_wakes : (c : Setup) (s : System) (k : ℕ) (o : Object) (op : Op) → Fits c s → PostNothing (wakes_at s k o op)
fits_wakes c s k Latches (Op.Latch op) f = wakes_unposted k op s.latches.state f.plain
fits_wakes c s k o op f = tt

-- a post that finds an exit finds one of its block
pub fits_woke : (c : Setup) (s : System) (n code x : ℕ) → Fits c s
    → (ecb_step (EcbOp.Post code) (s.ecb n).state).1 ≡ EcbReply.Woke (suc x) → is_exit_of c (suc x) n ≡ true
fits_woke c s n code x f e = grind (arith, common_steps)

-- ---- all points are sound

-- all points are sound, where the callers keep this
pub record Stand (deck : List JobData) (initiators : ℕ) (kept : ℕ → Kept) (t : Points) : Type 0 where
  pub at_reader : IsReaderAt (length deck) t.reader
  pub at_scheduler : SchedulerStands deck initiators (kept scheduler) t.scheduler
  pub at_initiator : (i : ℕ) → i < initiators → InitiatorStands deck i (kept (initiator i)) (t.initiators i)
  pub at_writer : IsWriterAt (length deck) t.writer
  pub writer_kept : WriterKept initiators (kept (writer initiators))

-- each initiator's point is sound
abbrev pub AreSound : List JobData → ℕ → Points → Type 0
AreSound deck initiators t = (i : ℕ) → i < initiators → IsInitiatorAt deck (t.initiators i)

-- all points are sound, whatever their tasks keep
pub record TasksStand (deck : List JobData) (initiators : ℕ) (t : Points) : Type 0 where
  pub reader : IsReaderAt (length deck) t.reader
  pub scheduler : IsSchedulerAt deck initiators t.scheduler
  pub each : AreSound deck initiators t
  pub writer : IsWriterAt (length deck) t.writer

pub standing : (deck : List JobData) (initiators : ℕ) (kept : ℕ → Kept) (t : Points) → Stand deck initiators kept t
    → TasksStand deck initiators t
standing deck initiators kept t s = grind (arith, common_steps)

abbrev pub HasStanding : List JobData → ℕ → System → Points → List Entry → Type 0
HasStanding deck initiators s t past = TasksStand deck initiators t

-- what callers keep after an entry
abbrev pub kept_next : (ℕ → Kept) → Entry → ℕ → Kept
kept_next kept e = with_at kept e.caller (kept_after (kept e.caller) e.object e.op e.reply)

pub stand_start : (deck : List JobData) (initiators : ℕ) → Stand deck initiators nothing_kept (start_points deck initiators)
stand_start deck initiators = grind (arith, common_steps)

-- what is kept by another caller
pub kept_other : (kept : ℕ → Kept) (e : Entry) (k j : ℕ) → e.caller ≡ k → (k ≡ j → ⊥) → kept_next kept e j ≡ kept j
kept_other kept e k j same n = with_at-other kept e.caller j (kept_after (kept e.caller) e.object e.op e.reply) (λ q. n (sym same ∙ q))

-- and by its own
pub kept_own : (kept : ℕ → Kept) (e : Entry) (k : ℕ) (ask : Object × Op) → e.caller ≡ k → e.object ≡ ask.0 → e.op ≡ ask.1
    → kept_next kept e k ≡ keeps (kept k) ask e.reply
kept_own kept e k ask same o op = grind (arith, common_steps)

module _ (c : Setup) (deck : List JobData) (initiators : ℕ) (facts : Facts c (length deck) initiators) (sound : ArePlannedJobs 0 deck) where
  pub stand_next : (kept : ℕ → Kept) (t u : Points) (e : Entry) → Move deck initiators t e u → Stand deck initiators kept t
      → Stand deck initiators (kept_next kept e) u
  stand_next kept t u e (reads x k at o op moved) s = grind (arith, common_steps)
  stand_next kept t u e (schedules x k at o op moved) s = grind (arith, common_steps, kept_own, scheduler_stands, kept_other)
  stand_next kept t u e (initiates i x lt k at o op moved) s =
      subst (λ v. Stand deck initiators (kept_next kept e) v) (sym moved) (record {
        at_reader = s.at_reader;
        at_scheduler = subst (λ z. SchedulerStands deck initiators z t.scheduler)
            (sym (kept_other kept e (initiator i) scheduler k (λ q. absurd (omega arith)))) s.at_scheduler;
        at_initiator = λ m less. all_but (λ m p. InitiatorStands deck m (kept_next kept e (initiator m)) p) t.initiators i
            (initiator_goes deck x e.reply) m there
            (λ other. subst (λ z. InitiatorStands deck m z (t.initiators m))
            (sym (kept_other kept e (initiator i) (initiator m) k (λ q. other (omega arith)))) (s.at_initiator m less));
        at_writer = s.at_writer;
        writer_kept = subst (λ z. WriterKept initiators z)
            (sym (kept_other kept e (initiator i) (writer initiators) k (λ q. absurd (omega arith)))) s.writer_kept;
      }) where
        there : InitiatorStands deck i (kept_next kept e (initiator i)) (initiator_goes deck x e.reply)
        there = subst (λ z. InitiatorStands deck i z (initiator_goes deck x e.reply))
            (sym (kept_own kept e (initiator i) (initiator_asks (length deck) i x) k o op))
            (initiator_stands deck i (kept (initiator i)) x e.reply sound
            (subst (λ p. InitiatorStands deck i (kept (initiator i)) p) at (s.at_initiator i lt)))
  stand_next kept t u e (writes x k at o op moved) s = grind (arith, common_steps)
