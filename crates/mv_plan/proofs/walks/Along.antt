-- Who makes an entry: an initiator, or a task that leaves volumes, latches and codes alone. And what is known along a walk. A task is
-- lost where its wait ended too soon or it met a reply that nothing foresees; whoever is lost stays lost, so where none is lost in the
-- end, none was. Events that touch neither elements nor idle blocks. What holds at each moment, for results that look at two entries.
use Rattle.mv_plan.proofs.Words.{◌≡◌, ℕ, ◌+◌, ◌<◌, false, List, length, ◌⊎◌, refl, sym, ap, ◌∙◌, arith, Entry, Object, Op, with_at, JobData}
use Rattle.mv_plan.proofs.Words.{initiator, is_obtain, purged_by, common_steps, [], ◌∷◌, subst, next, Setup, System, moved, idle, ◌++◌}
use Rattle.mv_plan.proofs.Words.{append-nil, append_assoc, IsNext, after_from}
use Rattle.mv_plan.proofs.points.{Point, At, ReaderAt, Entering, reader_asks, SchedulerAt, scheduler_asks, WriterAt, writer_asks, IsNoPause}
use Rattle.mv_plan.proofs.points.{InitiatorAt, initiator_asks, initiator_goes, reader_no_pause, scheduler_no_pause, writer_no_pause}
use Rattle.mv_plan.proofs.points.{IsSignal, reader_signals, scheduler_signals, writer_signals, Finished, IsNotLost, Elsewhere}
use Rattle.mv_plan.proofs.walks.Walks.{Points, Move, reads, schedules, initiates, writes, WalkTo, AllTasks, all_before, walk-append}
use Rattle.mv_plan.proofs.walks.Walks.{walk-parts}
use Rattle.mv_plan.proofs.lists.{sum_to, sum_with_at, with_at-same, with_at-other}
use Rattle.mv_plan.proofs.walks.Histories.{AreFinished}
use Rattle.mv_machine.proofs.Histories.{after_from-append}

-- neither a purge nor an obtain
abbrev pub IsNoRequest : Op → Type 0
IsNoRequest op = (r : ℕ) → (purged_by r op ≡ false) × (is_obtain r op ≡ false)

reader_no_request : (x : ReaderAt) → IsNoRequest (reader_asks x).1
reader_no_request (Entering j more) r = (refl, refl)

scheduler_no_request : (n : ℕ) (x : SchedulerAt) → IsNoRequest (scheduler_asks n x).1
scheduler_no_request n x r = grind (arith, common_steps)

writer_no_request : (x : WriterAt) → IsNoRequest (writer_asks x).1
writer_no_request x r = grind (arith, common_steps)

-- an entry of the reader, the scheduler or the writer
pub record Aside (initiators : ℕ) (t u : Points) (e : Entry) : Type 0 where
  pub caller : (i : ℕ) → i < initiators → e.caller ≡ initiator i → ⊥
  pub same : u.initiators ≡ t.initiators
  pub signal : IsSignal e.object
  pub no_pause : IsNoPause e.object e.op
  pub no_request : IsNoRequest e.op

-- the initiator whose entry it is
pub record Mover (deck : List JobData) (initiators : ℕ) (t u : Points) (e : Entry) : Type 0 where
  pub number : ℕ
  pub point : InitiatorAt
  pub below : number < initiators
  pub caller : e.caller ≡ initiator number
  pub stands : t.initiators number ≡ At point
  pub object : e.object ≡ (initiator_asks (length deck) number point).0
  pub op : e.op ≡ (initiator_asks (length deck) number point).1
  pub moved : u.initiators ≡ with_at t.initiators number (initiator_goes deck point e.reply)

pub who_moved : (deck : List JobData) (initiators : ℕ) (t u : Points) (e : Entry) → Move deck initiators t e u
    → Aside initiators t u e ⊎ Mover deck initiators t u e
who_moved deck initiators t u e (reads x k at o op moved) = grind (arith, common_steps, reader_signals, reader_no_pause, reader_no_request)
who_moved deck initiators t u e (schedules x k at o op moved) =
    grind (arith, common_steps, scheduler_signals, scheduler_no_pause, scheduler_no_request)
who_moved deck initiators t u e (initiates i x lt k at o op moved) = grind (arith, common_steps)
who_moved deck initiators t u e (writes x k at o op moved) = grind (arith, common_steps, writer_signals, writer_no_pause, writer_no_request)

module _ (deck : List JobData) (initiators : ℕ) (t u : Points) (e : Entry) (m : Mover deck initiators t u e) where
  -- what is so of what it says is so of the entry
  pub mover_asked : (P : ℕ → Object → Op → Type 0)
      → P (initiator m.number) (initiator_asks (length deck) m.number m.point).0 (initiator_asks (length deck) m.number m.point).1
      → P e.caller e.object e.op
  mover_asked P p = grind (arith, common_steps)

  -- it goes to its next point, and no other goes
  pub mover_goes : u.initiators m.number ≡ initiator_goes deck m.point e.reply
  mover_goes = ap (λ f. f m.number) m.moved ∙ with_at-same t.initiators m.number (initiator_goes deck m.point e.reply)

  pub mover_else : (i : ℕ) → (m.number ≡ i → ⊥) → u.initiators i ≡ t.initiators i
  mover_else i other = ap (λ f. f i) m.moved ∙ with_at-other t.initiators m.number i (initiator_goes deck m.point e.reply) other

  -- and so with what is summed over the initiators
  pub mover_sum : (f : Point InitiatorAt → ℕ) → sum_to initiators (λ i. f (u.initiators i)) + f (At m.point)
      ≡ sum_to initiators (λ i. f (t.initiators i)) + f (initiator_goes deck m.point e.reply)
  mover_sum f = ap (λ g. sum_to initiators (λ i. f (g i)) + f (At m.point)) m.moved
      ∙ ap (λ p. sum_to initiators (λ i. f (with_at t.initiators m.number (initiator_goes deck m.point e.reply) i)) + f p) (sym m.stands)
      ∙ sum_with_at initiators m.number f t.initiators (initiator_goes deck m.point e.reply) m.below

-- ---- who is lost stays lost

-- no task is lost
abbrev pub NoneLost : ℕ → Points → Type 0
NoneLost initiators t = AllTasks initiators (λ X p. IsNotLost p) t

not_lost_at : {X : Type 0} (x : X) (p : Point X) → p ≡ At x → IsNotLost p
not_lost_at x p e = subst (λ q. IsNotLost q) (sym e) tt

-- a task that is lost makes no move
pub none_lost_before : (deck : List JobData) (initiators : ℕ) (t u : Points) (e : Entry) → Move deck initiators t e u
    → NoneLost initiators u → NoneLost initiators t
none_lost_before deck initiators t u e m f = all_before (λ X p. IsNotLost p) (λ X x p at. not_lost_at x p at) deck initiators t u e m f

-- nor was one before
pub none_lost_along : (c : Setup) (deck : List JobData) (initiators : ℕ) (s : System) (t u : Points) (es : List Entry)
    → WalkTo c deck initiators s t es u → NoneLost initiators u → NoneLost initiators t
none_lost_along c deck initiators s t u [] w n = subst (NoneLost initiators) (sym w) n
none_lost_along c deck initiators s t u (e ∷ es) w n =
    none_lost_before deck initiators t w.0 e w.2 (none_lost_along c deck initiators (next s e) w.0 u es w.3 n)

-- where all have ended with their answers none is lost
not_lost : {X : Type 0} (p : Point X) (a : List ℕ) → p ≡ Finished a → IsNotLost p
not_lost p a e = subst (λ z. IsNotLost z) (sym e) tt

pub none_lost_at_end : (initiators : ℕ) (t : Points) → AreFinished initiators t → NoneLost initiators t
none_lost_at_end initiators t f = record {
  at_reader = not_lost t.reader f.at_reader.0 f.at_reader.1;
  at_scheduler = not_lost t.scheduler f.at_scheduler.0 f.at_scheduler.1;
  at_initiator = λ i lt. not_lost (t.initiators i) (f.at_initiator i lt).0 (f.at_initiator i lt).1;
  at_writer = not_lost t.writer f.at_writer.0 f.at_writer.1;
}

-- ---- events that touch neither elements nor idle blocks

-- elements and idle blocks are as they were
pub record SameTalk (n : ℕ) (s z : System) : Type 0 where
  pub elements : (m : ℕ) → z.element m ≡ s.element m
  pub idles : (i : ℕ) → z.ecb (idle n i) ≡ s.ecb (idle n i)

pub same_talk : (n : ℕ) (s : System) (k : ℕ) (o : Object) (op : Op) → Elsewhere n o → SameTalk n s (moved s k o op)
same_talk n s k o op low = grind (arith, common_steps)

-- ---- from one state and one list of entries there is one walk, so what is known of its end is known along it

pub move_same : (deck : List JobData) (initiators : ℕ) (t u v : Points) (e : Entry) → Move deck initiators t e u
    → Move deck initiators t e v → u ≡ v
move_same deck initiators t u v e x y = grind (arith, common_steps)

pub walk_same : (c : Setup) (deck : List JobData) (initiators : ℕ) (s : System) (t u v : Points) (es : List Entry)
    → WalkTo c deck initiators s t es u → WalkTo c deck initiators s t es v → u ≡ v
walk_same c deck initiators s t u v [] w z = sym w ∙ z
walk_same c deck initiators s t u v (e ∷ es) w z =
    walk_same c deck initiators (next s e) w.0 u v es w.3
    (subst (λ p. WalkTo c deck initiators (next s e) p es v) (move_same deck initiators t z.0 w.0 e z.2 w.2) z.3)

-- wherever a front of a walk's entries leads, what is left of the walk leads on from there
pub walk_later : (c : Setup) (deck : List JobData) (initiators : ℕ) (s : System) (t v u : Points) (xs ys : List Entry)
    → WalkTo c deck initiators s t (xs ++ ys) u → WalkTo c deck initiators s t xs v
    → WalkTo c deck initiators (after_from s xs) v ys u
walk_later c deck initiators s t v u xs ys w z = grind (arith, common_steps, walk-parts, walk_same)

-- ---- what holds at each moment of a walk

module _ (c : Setup) (deck : List JobData) (initiators : ℕ) where
  -- after each front of the entries, wherever the walk along it leads
  abbrev pub Always : (System → Points → List Entry → Type 0) → System → Points → List Entry → List Entry → Type 0
  Always Q s t past es = (xs ys : List Entry) (v : Points) → es ≡ xs ++ ys → WalkTo c deck initiators s t xs v
      → Q (after_from s xs) v (past ++ xs)

  pub always_now : (Q : System → Points → List Entry → Type 0) (s : System) (t : Points) (past es : List Entry) → Always Q s t past es
      → Q s t past
  always_now Q s t past es a = subst (Q s t) (append-nil past) (a [] es t refl refl)

  pub always_next : (Q : System → Points → List Entry → Type 0) (s : System) (t v : Points) (past : List Entry) (e : Entry)
      (es : List Entry)
      → IsNext c s e → Move deck initiators t e v → Always Q s t past (e ∷ es) → Always Q (next s e) v (past ++ e ∷ []) es
  always_next Q s t v past e es n m a =
      λ xs ys z q w. subst (Q (after_from (next s e) xs) z) (sym (append_assoc past (e ∷ []) xs))
      (a (e ∷ xs) ys z (ap (λ l. e ∷ l) q) (v, n, m, w))

  pub always_later : (Q : System → Points → List Entry → Type 0) (s : System) (t v : Points) (past xs ys : List Entry)
      → WalkTo c deck initiators s t xs v → Always Q s t past (xs ++ ys) → Always Q (after_from s xs) v (past ++ xs) ys
  always_later Q s t v past xs ys w a = λ zs rest z q x.
      subst (λ u. Q u z ((past ++ xs) ++ zs)) (after_from-append s xs zs)
      (subst (Q (after_from s (xs ++ zs)) z) (sym (append_assoc past xs zs))
      (a (xs ++ zs) rest z (ap (λ l. xs ++ l) q ∙ sym (append_assoc xs zs rest)) (walk-append c deck initiators s t v z xs zs w x)))

  pub always_front : (Q : System → Points → List Entry → Type 0) (s : System) (t : Points) (past xs ys : List Entry)
      → Always Q s t past (xs ++ ys) → Always Q s t past xs
  always_front Q s t past xs ys a = λ zs rest z q w. a zs (rest ++ ys) z (ap (λ l. l ++ ys) q ∙ append_assoc zs rest ys) w
