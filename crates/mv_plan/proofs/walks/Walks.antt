-- Histories gone through entry by entry, with the points at which the tasks stand: moves, walks, the bare induction over walks; and
-- moves with their entry written out, by which (of_move, by_moves) each invariant of the later layers is proved.
use Rattle.mv_plan.proofs.Words.{◌≡◌, ℕ, ◌<◌, List, [], ◌∷◌, ◌++◌, length, refl, sym, subst, append-nil, append_assoc, ◌⊎◌, inl, inr, ap}
use Rattle.mv_plan.proofs.Words.{◌∙◌, Entry, IsNext, next, after_from, Setup, System, with_at, JobData, initiator, cases_eq, EcbOp}
use Rattle.mv_plan.proofs.Words.{ecb_step, EcbState, ElementState, Object, Ecb, Op, Reply, moved, rules, reader, scheduler, writer}
use Rattle.mv_plan.proofs.points.{Point, At, ReaderAt, entering_from, reader_asks, reader_goes, Dispatching, SchedulerAt, stage_at}
use Rattle.mv_plan.proofs.points.{scheduler_asks, scheduler_goes, WriterAt, writing_from, writer_asks, writer_goes, InitiatorAt, Opening}
use Rattle.mv_plan.proofs.points.{initiator_asks, initiator_goes}
use Rattle.mv_plan.proofs.lists.{with_at-other}

-- where all tasks stand
pub record Points : Type 0 where
  pub reader : Point ReaderAt
  pub scheduler : Point SchedulerAt
  pub initiators : ℕ → Point InitiatorAt
  pub writer : Point WriterAt

-- where they start
abbrev pub start_points : List JobData → ℕ → Points
start_points deck initiators = record {
  reader = entering_from 0 (length deck);
  scheduler = stage_at (length deck) initiators (Dispatching 0 deck);
  initiators = λ i. At Opening;
  writer = writing_from (length deck) 0 (length deck) [];
}

-- An entry is the event that its caller's point says, and the caller goes to the point that follows by the reply.
pub data Move (deck : List JobData) (initiators : ℕ) (t : Points) (e : Entry) (u : Points) : Type 0 where
  reads : (x : ReaderAt) → e.caller ≡ reader → t.reader ≡ At x → e.object ≡ (reader_asks x).0 → e.op ≡ (reader_asks x).1
      → u ≡ record t { reader = reader_goes x e.reply } → Move deck initiators t e u
  schedules : (x : SchedulerAt) → e.caller ≡ scheduler → t.scheduler ≡ At x
      → e.object ≡ (scheduler_asks (length deck) x).0 → e.op ≡ (scheduler_asks (length deck) x).1
      → u ≡ record t { scheduler = scheduler_goes (length deck) initiators x e.reply } → Move deck initiators t e u
  initiates : (i : ℕ) (x : InitiatorAt) → i < initiators → e.caller ≡ initiator i → t.initiators i ≡ At x
      → e.object ≡ (initiator_asks (length deck) i x).0 → e.op ≡ (initiator_asks (length deck) i x).1
      → u ≡ record t { initiators = with_at t.initiators i (initiator_goes deck x e.reply) } → Move deck initiators t e u
  writes : (x : WriterAt) → e.caller ≡ writer initiators → t.writer ≡ At x → e.object ≡ (writer_asks x).0 → e.op ≡ (writer_asks x).1
      → u ≡ record t { writer = writer_goes (length deck) x e.reply } → Move deck initiators t e u

-- each task's point is so
pub record AllTasks (initiators : ℕ) (P : (X : Type 0) → Point X → Type 0) (t : Points) : Type 0 where
  pub at_reader : P ReaderAt t.reader
  pub at_scheduler : P SchedulerAt t.scheduler
  pub at_initiator : (i : ℕ) → i < initiators → P InitiatorAt (t.initiators i)
  pub at_writer : P WriterAt t.writer

pub all_tasks : (initiators : ℕ) (P : (X : Type 0) → Point X → Type 0) (t : Points) → P ReaderAt t.reader → P SchedulerAt t.scheduler
    → ((i : ℕ) → i < initiators → P InitiatorAt (t.initiators i)) → P WriterAt t.writer → AllTasks initiators P t
all_tasks initiators P t a b d e = record { at_reader = a; at_scheduler = b; at_initiator = d; at_writer = e }

-- What is so of every point at which a task still stands was so before a move, if it is so after it: who moved stood at one, and
-- the others stand where they stood.
pub all_before : (P : (X : Type 0) → Point X → Type 0) → ((X : Type 0) (x : X) (p : Point X) → p ≡ At x → P X p)
    → (deck : List JobData) (initiators : ℕ) (t u : Points) (e : Entry) → Move deck initiators t e u → AllTasks initiators P u
    → AllTasks initiators P t
all_before P stands deck initiators t u e (reads x k at o op moved) f =
    let g : AllTasks initiators P (record t { reader = reader_goes x e.reply }) = subst (AllTasks initiators P) moved f in
    all_tasks initiators P t (stands ReaderAt x t.reader at) g.at_scheduler g.at_initiator g.at_writer
all_before P stands deck initiators t u e (schedules x k at o op moved) f =
    let g = subst (AllTasks initiators P) moved f in
    all_tasks initiators P t g.at_reader (stands SchedulerAt x t.scheduler at) g.at_initiator g.at_writer
all_before P stands deck initiators t u e (initiates i x lt k at o op moved) f =
    all_tasks initiators P t g.at_reader g.at_scheduler (λ m less. each m less (cases_eq i m)) g.at_writer where
      g : AllTasks initiators P (record t { initiators = with_at t.initiators i (initiator_goes deck x e.reply) })
      g = subst (AllTasks initiators P) moved f

      each : (m : ℕ) → m < initiators → (i ≡ m) ⊎ (i ≡ m → ⊥) → P InitiatorAt (t.initiators m)
      each m less (inl same) = stands InitiatorAt x (t.initiators m) (ap (λ j. t.initiators j) (sym same) ∙ at)
      each m less (inr other) =
          subst (λ p. P InitiatorAt p) (with_at-other t.initiators i m (initiator_goes deck x e.reply) other) (g.at_initiator m less)
all_before P stands deck initiators t u e (writes x k at o op moved) f =
    let g : AllTasks initiators P (record t { writer = writer_goes (length deck) x e.reply }) = subst (AllTasks initiators P) moved f in
    all_tasks initiators P t g.at_reader g.at_scheduler g.at_initiator (stands WriterAt x t.writer at)

-- These entries lead from a machine and points to points: each is the machine's next, and the move of its caller.
abbrev pub WalkTo : Setup → List JobData → ℕ → System → Points → List Entry → Points → Type 0
WalkTo c deck initiators s t [] u = t ≡ u
WalkTo c deck initiators s t (e ∷ es) u =
    (v : Points) × IsNext c s e × Move deck initiators t e v × WalkTo c deck initiators (next s e) v es u

pub walk-append : (c : Setup) (deck : List JobData) (initiators : ℕ) (s : System) (t u v : Points) (xs ys : List Entry)
    → WalkTo c deck initiators s t xs u → WalkTo c deck initiators (after_from s xs) u ys v → WalkTo c deck initiators s t (xs ++ ys) v
walk-append c deck initiators s t u v [] ys w z = subst (λ p. WalkTo c deck initiators s p ys v) (sym w) z
walk-append c deck initiators s t u v (x ∷ xs) ys w z = (w.0, w.1, w.2, walk-append c deck initiators (next s x) w.0 u v xs ys w.3 z)

-- a front of a walk, and what is left of it
pub walk-parts : (c : Setup) (deck : List JobData) (initiators : ℕ) (s : System) (t v : Points) (xs ys : List Entry)
    → WalkTo c deck initiators s t (xs ++ ys) v
    → (u : Points) × WalkTo c deck initiators s t xs u × WalkTo c deck initiators (after_from s xs) u ys v
walk-parts c deck initiators s t v [] ys w = (t, refl, w)
walk-parts c deck initiators s t v (x ∷ xs) ys w =
    let r = walk-parts c deck initiators (next s x) w.0 v xs ys w.3 in
    (r.0, (w.0, w.1, w.2, r.1), r.2)

-- What holds of the machine, the points and the entries so far, and is kept by each move, holds in the end.
pub walk_keeps : (P : System → Points → List Entry → Type 0) (c : Setup) (deck : List JobData) (initiators : ℕ)
    → ((s : System) (t u : Points) (past : List Entry) (e : Entry) → IsNext c s e → Move deck initiators t e u → P s t past
    → P (next s e) u (past ++ e ∷ []))
    → (s : System) (t u : Points) (past es : List Entry) → WalkTo c deck initiators s t es u → P s t past
    → P (after_from s es) u (past ++ es)
walk_keeps P c deck initiators keeps s t u past [] w p = subst (λ q. P s q (past ++ [])) w (subst (λ l. P s t l) (sym (append-nil past)) p)
walk_keeps P c deck initiators keeps s t u past (e ∷ es) w p =
    subst (λ l. P (after_from s (e ∷ es)) u l) (append_assoc past (e ∷ []) es)
    (walk_keeps P c deck initiators keeps (next s e) w.0 u (past ++ e ∷ []) es w.3 (keeps s t w.0 past e w.1 w.2 p))

-- ---- a move with its entry written out

abbrev pub entry_of : ℕ → ℕ → Object × Op → Reply → Entry
entry_of k p ask r = record { caller = k; object = ask.0; place = p; op = ask.1; reply = r }

renamed : (R : Entry → Type 0) (e : Entry) (k : ℕ) (ask : Object × Op) → e.caller ≡ k → e.object ≡ ask.0 → e.op ≡ ask.1
    → R (entry_of k e.place ask e.reply) → R e
renamed R e k ask a b d x = search rules

-- what holds of each task's entry, written out, holds of each move
pub record Each (c : Setup) (deck : List JobData) (initiators : ℕ) (Q : System → Points → Entry → Points → Type 0) : Type 0 where
  pub of_reader : (s : System) (t : Points) (x : ReaderAt) (p : ℕ) (r : Reply) → t.reader ≡ At x
      → IsNext c s (entry_of reader p (reader_asks x) r)
      → Q s t (entry_of reader p (reader_asks x) r) (record t { reader = reader_goes x r })
  pub of_scheduler : (s : System) (t : Points) (x : SchedulerAt) (p : ℕ) (r : Reply) → t.scheduler ≡ At x
      → IsNext c s (entry_of scheduler p (scheduler_asks (length deck) x) r)
      → Q s t (entry_of scheduler p (scheduler_asks (length deck) x) r)
      (record t { scheduler = scheduler_goes (length deck) initiators x r })
  pub of_initiator : (s : System) (t : Points) (i : ℕ) (x : InitiatorAt) (p : ℕ) (r : Reply) → i < initiators → t.initiators i ≡ At x
      → IsNext c s (entry_of (initiator i) p (initiator_asks (length deck) i x) r)
      → Q s t (entry_of (initiator i) p (initiator_asks (length deck) i x) r)
      (record t { initiators = with_at t.initiators i (initiator_goes deck x r) })
  pub of_writer : (s : System) (t : Points) (x : WriterAt) (p : ℕ) (r : Reply) → t.writer ≡ At x
      → IsNext c s (entry_of (writer initiators) p (writer_asks x) r)
      → Q s t (entry_of (writer initiators) p (writer_asks x) r) (record t { writer = writer_goes (length deck) x r })

pub of_move : (c : Setup) (deck : List JobData) (initiators : ℕ) (Q : System → Points → Entry → Points → Type 0) → Each c deck initiators Q
    → (s : System) (t u : Points) (e : Entry) → IsNext c s e → Move deck initiators t e u → Q s t e u
of_move c deck initiators Q w s t u e n (reads x k at o op moved) =
    subst (λ v. Q s t e v) (sym moved)
    (renamed (λ e. IsNext c s e → Q s t e (record t { reader = reader_goes x e.reply })) e reader (reader_asks x) k o op
    (w.of_reader s t x e.place e.reply at) n)
of_move c deck initiators Q w s t u e n (schedules x k at o op moved) =
    subst (λ v. Q s t e v) (sym moved)
    (renamed (λ e. IsNext c s e → Q s t e (record t { scheduler = scheduler_goes (length deck) initiators x e.reply })) e scheduler
    (scheduler_asks (length deck) x) k o op (w.of_scheduler s t x e.place e.reply at) n)
of_move c deck initiators Q w s t u e n (initiates i x lt k at o op moved) =
    subst (λ v. Q s t e v) (sym moved)
    (renamed (λ e. IsNext c s e → Q s t e (record t { initiators = with_at t.initiators i (initiator_goes deck x e.reply) })) e
    (initiator i) (initiator_asks (length deck) i x) k o op (w.of_initiator s t i x e.place e.reply lt at) n)
of_move c deck initiators Q w s t u e n (writes x k at o op moved) =
    subst (λ v. Q s t e v) (sym moved)
    (renamed (λ e. IsNext c s e → Q s t e (record t { writer = writer_goes (length deck) x e.reply })) e (writer initiators)
    (writer_asks x) k o op (w.of_writer s t x e.place e.reply at) n)

pub entry_is : (e : Entry) (k : ℕ) (ask : Object × Op) → e.caller ≡ k → e.object ≡ ask.0 → e.op ≡ ask.1 → entry_of k e.place ask e.reply ≡ e
entry_is e k ask a b d = renamed (λ z. entry_of k z.place ask z.reply ≡ z) e k ask a b d refl

pub entry_next : (c : Setup) (s : System) (e : Entry) (k : ℕ) (ask : Object × Op) → IsNext c s e
    → e.caller ≡ k → e.object ≡ ask.0 → e.op ≡ ask.1 → IsNext c s (entry_of k e.place ask e.reply)
entry_next c s e k ask n a b d = subst (λ z. IsNext c s z) (sym (entry_is e k ask a b d)) n

-- ---- invariants

-- What is to be shown of each caller's moves, so that all moves keep P where Q holds before them
module _ (Q P : System → Points → List Entry → Type 0) (c : Setup) (deck : List JobData) (initiators : ℕ) where
  -- an entry that is said leads on to these points
  abbrev pub Leads : System → Points → List Entry → ℕ → Object × Op → ℕ → Reply → Points → Type 0
  Leads s t past k ask p r u = IsNext c s (entry_of k p ask r) → Q s t past → P s t past
      → P (moved s k ask.0 ask.1) u (past ++ entry_of k p ask r ∷ [])

  abbrev pub Reads : Type 0
  Reads = (s : System) (t : Points) (past : List Entry) (x : ReaderAt) (p : ℕ) (r : Reply) → t.reader ≡ At x
      → Leads s t past reader (reader_asks x) p r (record t { reader = reader_goes x r })

  abbrev pub Schedules : Type 0
  Schedules = (s : System) (t : Points) (past : List Entry) (x : SchedulerAt) (p : ℕ) (r : Reply) → t.scheduler ≡ At x
      → Leads s t past scheduler (scheduler_asks (length deck) x) p r
      (record t { scheduler = scheduler_goes (length deck) initiators x r })

  abbrev pub Initiates : Type 0
  Initiates = (s : System) (t : Points) (past : List Entry) (i : ℕ) (x : InitiatorAt) (p : ℕ) (r : Reply) → i < initiators
      → t.initiators i ≡ At x → Leads s t past (initiator i) (initiator_asks (length deck) i x) p r
      (record t { initiators = with_at t.initiators i (initiator_goes deck x r) })

  abbrev pub Writes : Type 0
  Writes = (s : System) (t : Points) (past : List Entry) (x : WriterAt) (p : ℕ) (r : Reply) → t.writer ≡ At x
      → Leads s t past (writer initiators) (writer_asks x) p r (record t { writer = writer_goes (length deck) x r })

  abbrev pub KeepsUnder : Type 0
  KeepsUnder = (s : System) (t u : Points) (past : List Entry) (e : Entry) → IsNext c s e → Move deck initiators t e u → Q s t past
      → P s t past → P (next s e) u (past ++ e ∷ [])

  -- an invariant is kept by all moves where it is kept by each task's
  pub by_moves : Reads → Schedules → Initiates → Writes → KeepsUnder
  by_moves rd sc ini wr s t u past e n m q h =
      of_move c deck initiators (λ s t e u. (past : List Entry) → Q s t past → P s t past → P (next s e) u (past ++ e ∷ [])) (record {
        of_reader = λ s t x p r at n past q h. rd s t past x p r at n q h;
        of_scheduler = λ s t x p r at n past q h. sc s t past x p r at n q h;
        of_initiator = λ s t i x p r lt at n past q h. ini s t past i x p r lt at n q h;
        of_writer = λ s t x p r at n past q h. wr s t past x p r at n q h;
      }) s t u e n m past q h

-- ---- the machine's blocks and elements

abbrev pub block : System → ℕ → EcbState
block s b = (s.ecb b).state

abbrev pub element : System → ℕ → ElementState
element s m = (s.element m).state

pub block_reply : (c : Setup) (s : System) (k m : ℕ) (op : EcbOp) (p : ℕ) (r : Reply)
    → IsNext c s (entry_of k p (Ecb m, Op.Ecb op) r) → r ≡ Reply.Ecb (ecb_step op (block s m)).1
block_reply c s k m op p r n = cc n.reply
