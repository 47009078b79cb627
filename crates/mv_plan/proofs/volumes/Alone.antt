-- What volumes hold between the two events of a COUNT or SCAN: while an initiator is at a COUNT, no other's entry is on the volume;
-- while it is at a SCAN, no other changes it. So at the points of a walk, and on its entries.
use Rattle.mv_plan.proofs.Words.{inl, inr, ◌≡◌, ℕ, zero, suc, ◌+◌, ◌<◌, Bool, true, false, List, [], ◌∷◌, length, Some, refl, sym, ap, ◌∙◌}
use Rattle.mv_plan.proofs.Words.{subst, cases_eq, Entry, Object, Volume, Op, Reply, IsNext, next, Setup, Cell, System, moved, with_at}
use Rattle.mv_plan.proofs.Words.{advanced, JobData, Step, Print, job_at, initiator, Free, ElementReply, LatchReply, VolumeOp, VolumeReply}
use Rattle.mv_plan.proofs.Words.{rules, AllByRecursion, arith, ◌++◌, eq-eqb, Ecb, Element, Latches, after_from, of, «at», opening, same_is}
use Rattle.mv_plan.proofs.Words.{common_steps}
use Rattle.mv_machine.proofs.EntryRuns.{entry_of}
use Rattle.mv_plan.proofs.latches.{touched, counted_on, excludes, Apart, hands_next, hands_start}
use Rattle.mv_plan.proofs.latches.Hands.{Hands}
use Rattle.mv_plan.proofs.points.{IsInitiatorAt, Point, At, Running, Hand, empty_hand, InitiatorAt, Pausing, Resuming, Obtaining}
use Rattle.mv_plan.proofs.points.{Confirming, Freeing, Reading, ToAdd, Writing, ToCompare, Compares, initiator_asks, initiator_goes}
use Rattle.mv_plan.proofs.points.{rounds_from, steps_at, running, job_start, given_at, InJob, IsSignal, freeing_lands, given_lands}
use Rattle.mv_plan.proofs.walks.{who_moved, mover_asked, Points, Move, Always, always_now, always_next, AreSound, Mover, mover_else}
use Rattle.mv_plan.proofs.walks.{start_points, WalkTo, always_later, always_front, mover_goes, walk-parts}
use Rattle.mv_plan.proofs.lists.{with_at-same, with_at-other, all_but}
use Rattle.mv_plan.specs.CountingAlone.{IsCountedBy}

-- ---- events elsewhere

pub volumes_same : (s : System) (k : ℕ) (o : Object) (op : Op) → IsSignal o → (moved s k o op).volume ≡ s.volume
volumes_same s k o op free = search rules

-- ---- reading and writing

abbrev pub Numbers : Type 0
Numbers = ℕ → Cell ℕ

-- a read leaves each number
pub read_keeps : (f : Numbers) (v w : ℕ) → (with_at f v (advanced (f v) (f v).state) w).state ≡ (f w).state
read_keeps f v w = search (rules, cases_eq, with_at-same, with_at-other)

pub write_other : (f : Numbers) (v w number : ℕ) → (v ≡ w → ⊥) → (with_at f v (advanced (f v) number) w).state ≡ (f w).state
write_other f v w number n = ap (λ z. z.state) (with_at-other f v w (advanced (f v) number) n)

-- the reply to a read is the number
pub value_is : (c : Setup) (s : System) (k v p number : ℕ)
    → IsNext c s (entry_of k (Volume v) p (Op.Volume VolumeOp.Read) (Reply.Volume (VolumeReply.Value number)))
    → (s.volume v).state ≡ number
value_is c s k v p number h =
    let e = h.reply in sym (cc e)

-- ---- the number that was read is still there

abbrev pub ValueAt : Numbers → Point InitiatorAt → Type 0
ValueAt f (At (InJob run (Writing hand volume amount number steps))) = (f volume).state ≡ number
ValueAt f (At (InJob run (Reading hand volume (Compares number) steps))) = (f volume).state ≡ number
ValueAt f p = Unit {0}

-- Where an initiator is to write what it read plus an amount, or to read a second time, the volume has the number that it read.
abbrev pub Values : ℕ → Numbers → (ℕ → Point InitiatorAt) → Type 0
Values initiators f points = (i : ℕ) → i < initiators → ValueAt f (points i)

value_read : (f : Numbers) (v : ℕ) (p : Point InitiatorAt) → ValueAt f p → ValueAt (with_at f v (advanced (f v) (f v).state)) p
value_read f v (At (InJob run (Writing hand volume amount number steps))) w = read_keeps f v volume ∙ w
value_read f v (At (InJob run (Reading hand volume (Compares number) steps))) w = read_keeps f v volume ∙ w
value_read f v p w = tt

value_write : (f : Numbers) (v number : ℕ) (p : Point InitiatorAt) → (touched p ≡ Some v → ⊥) → ValueAt f p
    → ValueAt (with_at f v (advanced (f v) number)) p
value_write f v new (At (InJob run (Writing hand volume amount number steps))) n w =
    write_other f v volume new (λ e. n (ap (λ z. Some z) (sym e))) ∙ w
value_write f v new (At (InJob run (Reading hand volume (Compares number) steps))) n w = search (rules, write_other)
value_write f v new p n w = tt

-- ---- who leads to such a point

-- the write of a COUNT stands behind its read, and the second read of a SCAN behind its first
abbrev pub LeadsTo : InitiatorAt → Reply → Point InitiatorAt → Type 0
LeadsTo x r (At (InJob run (Writing hand volume amount number steps))) =
    (x ≡ InJob run (Reading hand volume (ToAdd amount) steps)) × (r ≡ Reply.Volume (VolumeReply.Value number))
LeadsTo x r (At (InJob run (Reading hand volume (Compares number) steps))) =
    (x ≡ InJob run (Reading hand volume ToCompare steps)) × (r ≡ Reply.Volume (VolumeReply.Value number))
LeadsTo x r p = Unit {0}

-- no other point leads there
module _ (x : InitiatorAt) (r : Reply) where
  rounds_lead : (m : ℕ) (before : List ℕ) (g : ℕ) → LeadsTo x r (rounds_from m before g)
  rounds_lead zero before g = tt
  rounds_lead (suc m) before g = tt

  steps_lead : (run : Running) (hand : Hand) (steps : List Step) → LeadsTo x r (steps_at run hand steps)
  steps_lead run hand (Print text ∷ steps) = steps_lead run hand steps
  steps_lead run hand (Free latch ∷ steps) = freeing_lands (LeadsTo x r) tt run hand latch (hand.requests latch) steps (λ id e. tt)
  steps_lead run hand steps = tt

  start_lead : (run : Running) (job : JobData) (skipped : Bool) → LeadsTo x r (job_start skipped run job)
  start_lead run job true = tt
  start_lead run job false = steps_lead run empty_hand job.steps

  given_lead : (deck : List JobData) (more : ℕ) (before : List ℕ) (code g : ℕ) → LeadsTo x r (given_at deck more before code g)
  given_lead deck more before code g = given_lands (LeadsTo x r) tt deck more before code g (λ z. tt)
      (λ named left e t m. start_lead (running named before (suc left) g) (job_at deck named.job) named.skipped)

pub leads : (deck : List JobData) (x : InitiatorAt) (r : Reply) → LeadsTo x r (initiator_goes deck x r)
leads deck (Pausing more before g) (Reply.Element (ElementReply.Given code now)) = given_lead _ _ deck more before code now
leads deck (Resuming more before g) (Reply.Element (ElementReply.Given code now)) = given_lead _ _ deck more before code now
leads deck (InJob run (Obtaining hand latch mode steps)) (Reply.Latch (LatchReply.Granted id)) = steps_lead _ _ run _ steps
leads deck (InJob run (Confirming hand latch mode id steps)) (Reply.Latch (LatchReply.Granted same)) = steps_lead _ _ run _ steps
leads deck (InJob run (Freeing hand latch id steps)) (Reply.Latch (LatchReply.Released count)) = steps_lead _ _ run _ steps
leads deck (InJob run (Writing hand volume amount number steps)) (Reply.Volume VolumeReply.Stored) = steps_lead _ _ run hand steps
leads deck (InJob run (Reading hand volume (Compares n) steps)) (Reply.Volume (VolumeReply.Value again)) = steps_lead _ _ run hand steps
leads deck x r = grind (arith, common_steps, rounds_lead)

-- the machine's next entry is what initiator i says at this point, and is answered so
abbrev pub NextAt : Setup → System → List JobData → ℕ → InitiatorAt → ℕ → Reply → Type 0
NextAt c s deck i x p r = IsNext c s (entry_of (initiator i) (initiator_asks (length deck) i x).0 p (initiator_asks (length deck) i x).1 r)

module _ (c : Setup) (s : System) (deck : List JobData) (i : ℕ) where
  abbrev pub volumes_asked : InitiatorAt → Numbers
  volumes_asked x = (moved s (initiator i) (initiator_asks (length deck) i x).0 (initiator_asks (length deck) i x).1).volume

  -- a read keeps the number that it tells
  value_led : (x : InitiatorAt) (p : ℕ) (r : Reply) → NextAt c s deck i x p r
      → (q : Point InitiatorAt) → LeadsTo x r q → ValueAt (volumes_asked x) q
  value_led x p r h q w = search (rules, read_keeps, value_is)

  own_value : (x : InitiatorAt) (p : ℕ) (r : Reply) → NextAt c s deck i x p r → ValueAt (volumes_asked x) (initiator_goes deck x r)
  own_value x p r h = value_led x p r h (initiator_goes deck x r) (leads deck x r)

  -- another initiator's number stays, unless this one writes where that one reads
  other_value : (x : InitiatorAt) (p : Point InitiatorAt) → ((v : ℕ) → counted_on (At x) ≡ Some v → touched p ≡ Some v → ⊥)
      → ValueAt s.volume p → ValueAt (volumes_asked x) p
  other_value (InJob run (Reading hand volume purpose steps)) p n w = value_read s.volume volume p w
  other_value (InJob run (Writing hand volume amount number steps)) p n w =
      value_write s.volume volume (number + amount) p (n volume refl) w
  other_value x p n w = w

pub values_next : (c : Setup) (deck : List JobData) (initiators : ℕ) (s : System) (t u : Points) (e : Entry) → IsNext c s e
    → Move deck initiators t e u → ((i : ℕ) → i < initiators → IsInitiatorAt deck (t.initiators i))
    → Hands initiators s.latches.state t.initiators
    → Values initiators s.volume t.initiators → Values initiators (next s e).volume u.initiators
values_next c deck initiators s t u e h moves stand hands w = elim (who_moved deck initiators t u e moves) [
  | inl a ↦ subst (λ f. Values initiators f u.initiators) (sym (volumes_same s e.caller e.object e.op a.signal))
      (subst (Values initiators s.volume) (sym a.same) w)
  | inr m ↦ subst (Values initiators (next s e).volume) (sym m.moved) (λ k less.
      all_but (λ k p. ValueAt (next s e).volume p) t.initiators m.number (initiator_goes deck m.point e.reply) k
      (mover_asked deck initiators t u e m (λ j o op. IsNext c s (entry_of j o e.place op e.reply)
      → ValueAt (moved s j o op).volume (initiator_goes deck m.point e.reply))
      (λ h. own_value c s deck m.number m.point e.place e.reply h) h)
      (λ other. mover_asked deck initiators t u e m (λ j o op. ValueAt (moved s j o op).volume (t.initiators k))
      (other_value c s deck m.number m.point (t.initiators k)
      (λ v a b. other (excludes deck initiators s.latches.state t.initiators m.number k v m.below less hands stand
      (ap counted_on m.stands ∙ a) b))
      (w k less))))
]

-- ---- what holds at each moment

-- The requests in the lists are those of the jobs that are run, and where an initiator is to write or to read again, the volume
-- has the number that it read.
pub record Latched (initiators : ℕ) (s : System) (t : Points) : Type 0 where
  pub hands : Hands initiators s.latches.state t.initiators
  pub values : Values initiators s.volume t.initiators

pub record CountMoment (deck : List JobData) (initiators : ℕ) (s : System) (t : Points) : Type 0 where
  pub sound : AreSound deck initiators t
  pub latched : Latched initiators s t

pub latched_next : (c : Setup) (deck : List JobData) (initiators : ℕ) (s : System) (t u : Points) (e : Entry) → IsNext c s e
    → Move deck initiators t e u → AreSound deck initiators t → Apart initiators t.initiators
    → Latched initiators s t → Latched initiators (next s e) u
latched_next c deck initiators s t u e h m sound apart w = search (rules, hands_next, values_next)

pub latched_start : (c : Setup) (deck : List JobData) (initiators : ℕ) → Latched initiators (opening c) (start_points deck initiators)
latched_start c deck initiators = record { hands = hands_start c.latches initiators; values = λ i lt. tt }

-- ---- who moves

pub quiet_head : (k : ℕ) (e : Entry) (es : List Entry) → of k (e ∷ es) ≡ [] → (e.caller ≡ k → ⊥) × (of k es ≡ [])
quiet_head k e es q = search (rules, eq-eqb)

pub move_other : (deck : List JobData) (initiators i : ℕ) (t u : Points) (e : Entry) → Move deck initiators t e u
    → (e.caller ≡ initiator i → ⊥) → u.initiators i ≡ t.initiators i
move_other deck initiators i t u e moves n = search (rules, who_moved, mover_else)

pub quiet_point : (c : Setup) (deck : List JobData) (initiators i : ℕ) (s : System) (t u : Points) (es : List Entry)
    → WalkTo c deck initiators s t es u → of (initiator i) es ≡ [] → u.initiators i ≡ t.initiators i
quiet_point c deck initiators i s t u [] w q = ap (λ v. v.initiators i) (sym w)
quiet_point c deck initiators i s t u (e ∷ es) w q =
    let h : (e.caller ≡ initiator i → ⊥) × (of (initiator i) es ≡ []) = quiet_head (initiator i) e es q in
    quiet_point c deck initiators i (next s e) w.0 u es w.3 h.1 ∙ move_other deck initiators i t w.0 e w.2 h.0

-- ---- events on volumes

asks_volume : (n i v : ℕ) (x : InitiatorAt) → (initiator_asks n i x).0 ≡ Volume v → touched (At x) ≡ Some v
asks_volume n i v x e = grind (arith, common_steps)

asks_write : (n i v m : ℕ) (x : InitiatorAt) → (initiator_asks n i x).0 ≡ Volume v
    → (initiator_asks n i x).1 ≡ Op.Volume (VolumeOp.Write m) → counted_on (At x) ≡ Some v
asks_write n i v m x e f = grind (arith, common_steps)

-- the initiator that moves on a volume
pub mover : (deck : List JobData) (initiators v : ℕ) (t u : Points) (e : Entry) → Move deck initiators t e u → e.object ≡ Volume v
    → Mover deck initiators t u e
mover deck initiators v t u e moves f = search (rules, who_moved)

pub mover_touches : (deck : List JobData) (initiators v : ℕ) (t u : Points) (e : Entry) (m : Mover deck initiators t u e)
    → e.object ≡ Volume v → touched (t.initiators m.number) ≡ Some v
mover_touches deck initiators v t u e m f = ap touched m.stands ∙ asks_volume (length deck) m.number v m.point (sym m.object ∙ f)

pub mover_counts : (deck : List JobData) (initiators v n : ℕ) (t u : Points) (e : Entry) (m : Mover deck initiators t u e)
    → e.object ≡ Volume v → e.op ≡ Op.Volume (VolumeOp.Write n) → counted_on (t.initiators m.number) ≡ Some v
mover_counts deck initiators v n t u e m f g =
    ap counted_on m.stands ∙ asks_write (length deck) m.number v n m.point (sym m.object ∙ f) (sym m.op ∙ g)

-- an event changes a volume's number only where it writes there
pub number_kept : (s : System) (k : ℕ) (o : Object) (op : Op) (v : ℕ)
    → ((n : ℕ) → o ≡ Volume v → op ≡ Op.Volume (VolumeOp.Write n) → ⊥) → ((moved s k o op).volume v).state ≡ (s.volume v).state
number_kept s k (Ecb m) (Op.Ecb op) v n = refl
number_kept s k (Element m) (Op.Element op) v n = refl
number_kept s k Latches (Op.Latch op) v n = refl
number_kept s k (Volume w) (Op.Volume VolumeOp.Read) v n = read_keeps s.volume w v
number_kept s k (Volume w) (Op.Volume (VolumeOp.Write m)) v n = write_other s.volume w v m (λ e. n m (ap (λ z. Volume z) e) refl)
number_kept s k o op v n = refl

-- where no entry is on a volume, or none writes there
none_at : (v : ℕ) (es : List Entry) → AllByRecursion (λ e. e.object ≡ Volume v → ⊥) es → «at» (Volume v) es ≡ []
none_at v [] a = refl
none_at v (e ∷ es) a = grind (arith, common_steps, same_is, none_at v es)

number_still : (v : ℕ) (s : System) (es : List Entry)
    → AllByRecursion (λ e. (n : ℕ) → e.object ≡ Volume v → e.op ≡ Op.Volume (VolumeOp.Write n) → ⊥) es
    → ((after_from s es).volume v).state ≡ (s.volume v).state
number_still v s [] a = refl
number_still v s (e ∷ es) a = number_still v (next s e) es a.1 ∙ number_kept s e.caller e.object e.op v a.0

module _ (c : Setup) (deck : List JobData) (initiators : ℕ) where
  abbrev pub CountMoments : System → Points → List Entry → Type 0
  CountMoments s t past = CountMoment deck initiators s t

  -- the entries of a walk along which an initiator says nothing, and stays where it is, are the others'
  others_along : (i : ℕ) (P : Entry → Type 0) (s : System) (t u : Points) (past es : List Entry) → WalkTo c deck initiators s t es u
      → Always c deck initiators CountMoments s t past es → of (initiator i) es ≡ []
      → ((z : System) (v w : Points) (e : Entry) → CountMoment deck initiators z v → v.initiators i ≡ t.initiators i
      → Move deck initiators v e w → (e.caller ≡ initiator i → ⊥) → P e) → AllByRecursion P es
  others_along i P s t u past [] w a q f = tt
  others_along i P s t u past (e ∷ es) w a q f =
      let h = quiet_head (initiator i) e es q in (
        f s t w.0 e (always_now c deck initiators CountMoments s t past (e ∷ es) a) refl w.2 h.0,
        others_along i P (next s e) w.0 u (past ++ e ∷ []) es w.3
            (always_next c deck initiators CountMoments s t w.0 past e es w.1 w.2 a) h.1
            (λ z x y d now at. f z x y d now (at ∙ move_other deck initiators i t w.0 e w.2 h.0)),
      )

  -- while an initiator is at a COUNT, no other's entry is on the volume
  pub alone_along : (i v : ℕ) (s : System) (t u : Points) (past es : List Entry) → i < initiators → WalkTo c deck initiators s t es u
      → Always c deck initiators CountMoments s t past es
      → counted_on (t.initiators i) ≡ Some v → of (initiator i) es ≡ [] → «at» (Volume v) es ≡ []
  alone_along i v s t u past es lt w a on q = none_at v es (others_along i _ s t u past es w a q (λ z x y e now at moves other f.
      let m = mover deck initiators v x y e moves f in
      other (m.caller ∙ ap initiator (sym
      (excludes deck initiators z.latches.state x.initiators i m.number v lt m.below now.latched.hands now.sound (ap counted_on at ∙ on)
      (mover_touches deck initiators v x y e m f))))))

  -- while one is at a COUNT or SCAN, no other changes the volume's number
  pub steady_along : (i v : ℕ) (s : System) (t u : Points) (past es : List Entry) → i < initiators → WalkTo c deck initiators s t es u
      → Always c deck initiators CountMoments s t past es
      → touched (t.initiators i) ≡ Some v → of (initiator i) es ≡ [] → ((after_from s es).volume v).state ≡ (s.volume v).state
  steady_along i v s t u past es lt w a on q = number_still v s es (others_along i _ s t u past es w a q
      (λ z x y e now at moves other n f g.
      let m = mover deck initiators v x y e moves f in
      other (m.caller ∙ ap initiator
      (excludes deck initiators z.latches.state x.initiators m.number i v m.below lt now.latched.hands now.sound
      (mover_counts deck initiators v n x y e m f g) (ap touched at ∙ on)))))

-- ---- on the entries of a walk

-- the initiator that moves, by its number as a caller
pub mover_by : (deck : List JobData) (initiators i : ℕ) (t u : Points) (e : Entry) → Move deck initiators t e u → i < initiators
    → e.caller ≡ initiator i → (m : Mover deck initiators t u e) × (m.number ≡ i)
mover_by deck initiators i t u e moves lt f = elim (who_moved deck initiators t u e moves) [
  | inl a ↦ absurd (a.caller i lt f)
  | inr m ↦ let same = m.caller in (m, omega arith)
]

-- a point that writes
record IsWriting (x : InitiatorAt) (n : ℕ) : Type 0 where
  run : Running
  hand : Hand
  volume : ℕ
  amount : ℕ
  number : ℕ
  steps : List Step
  is : x ≡ InJob run (Writing hand volume amount number steps)
  sum : n ≡ number + amount

writing_point : (m i n : ℕ) (x : InitiatorAt) → (initiator_asks m i x).1 ≡ Op.Volume (VolumeOp.Write n) → IsWriting x n
writing_point m i n x e = grind (arith, common_steps)

-- what a read is told
pub read_tells : (c : Setup) (s : System) (e : Entry) (v : ℕ) → IsNext c s e → e.object ≡ Volume v → e.op ≡ Op.Volume VolumeOp.Read
    → e.reply ≡ Reply.Volume (VolumeReply.Value (s.volume v).state)
read_tells c s e v h f g = grind (arith, common_steps)

module _ (c : Setup) (deck : List JobData) (initiators : ℕ) (s : System) (t u : Points) (xs mid zs : List Entry) (r w : Entry)
    (walk : WalkTo c deck initiators s t (xs ++ r ∷ (mid ++ w ∷ zs)) u)
    (moments : Always c deck initiators (CountMoments c deck initiators) s t [] (xs ++ r ∷ (mid ++ w ∷ zs)))
    (same : r.caller ≡ w.caller) (quiet : of w.caller mid ≡ []) where
  -- the walk part by part
  first : (v : Points) × WalkTo c deck initiators s t xs v × WalkTo c deck initiators (after_from s xs) v (r ∷ (mid ++ w ∷ zs)) u
  first = walk-parts c deck initiators s t u xs (r ∷ (mid ++ w ∷ zs)) walk

  abbrev before : System
  before = after_from s xs

  abbrev here : Points
  here = first.0

  second : (v : Points) × IsNext c before r × Move deck initiators here r v × WalkTo c deck initiators (next before r) v (mid ++ w ∷ zs) u
  second = first.2

  third : (v : Points) × WalkTo c deck initiators (next before r) second.0 mid v
      × WalkTo c deck initiators (after_from (next before r) mid) v (w ∷ zs) u
  third = walk-parts c deck initiators (next before r) second.0 u mid (w ∷ zs) second.3

  last : (v : Points) × IsNext c (after_from (next before r) mid) w × Move deck initiators third.0 w v
      × WalkTo c deck initiators (next (after_from (next before r) mid) w) v zs u
  last = third.2

  between : Always c deck initiators (CountMoments c deck initiators) (next before r) second.0 (([] ++ xs) ++ r ∷ []) mid
  between = always_front c deck initiators (CountMoments c deck initiators) (next before r) second.0 (([] ++ xs) ++ r ∷ []) mid (w ∷ zs)
      (always_next c deck initiators (CountMoments c deck initiators) before here second.0 ([] ++ xs) r
      (mid ++ w ∷ zs) second.1 second.2
      (always_later c deck initiators (CountMoments c deck initiators) s t here [] xs (r ∷ (mid ++ w ∷ zs)) first.1 moments))

  -- the initiator of the two
  module _ (v : ℕ) (on : w.object ≡ Volume v) where
    it : Mover deck initiators third.0 last.0 w
    it = mover deck initiators v third.0 last.0 w last.2 on

    silent : of (initiator it.number) mid ≡ []
    silent = subst (λ k. of k mid ≡ []) it.caller quiet

    still : (third.0).initiators it.number ≡ (second.0).initiators it.number
    still = quiet_point c deck initiators it.number (next before r) second.0 third.0 mid third.1 silent

    -- what was written is the sum of what was read and an amount, and no other entry on the volume stands between
    pub count_apart : (n : ℕ) → w.op ≡ Op.Volume (VolumeOp.Write n) → IsCountedBy w.caller v n (xs ++ r ∷ mid)
    count_apart n wrote = record {
      front = xs;
      read = r;
      behind = mid;
      number = p.number;
      amount = p.amount;
      is = refl;
      caller = same;
      object = m.object ∙ ap (λ x. (initiator_asks (length deck) m.number x).0) led.0 ∙ ap (λ z. Volume z) volume;
      op = m.op ∙ ap (λ x. (initiator_asks (length deck) m.number x).1) led.0;
      reply = led.1;
      sum = p.sum;
      last = quiet;
      alone = alone_along c deck initiators it.number v (next before r) second.0 third.0 (([] ++ xs) ++ r ∷ []) mid it.below third.1
          between (ap counted_on (sym still) ∙ mover_counts deck initiators v n third.0 last.0 w it on wrote) silent;
    } where
      p : IsWriting it.point n
      p = writing_point (length deck) it.number n it.point (sym it.op ∙ wrote)

      volume : p.volume ≡ v
      volume = grind (arith, common_steps)

      own : (m : Mover deck initiators here second.0 r) × (m.number ≡ it.number)
      own = mover_by deck initiators it.number here second.0 r second.2 it.below (same ∙ it.caller)

      m : Mover deck initiators here second.0 r
      m = own.0

      led : (m.point ≡ InJob p.run (Reading p.hand p.volume (ToAdd p.amount) p.steps))
          × (r.reply ≡ Reply.Volume (VolumeReply.Value p.number))
      led = subst (LeadsTo m.point r.reply) (sym (mover_goes deck initiators here second.0 r m)
          ∙ ap (second.0).initiators own.1 ∙ sym still ∙ it.stands ∙ ap (λ x. At x) p.is)
          (leads deck m.point r.reply)

    -- two reads one after the other tell one number
    pub scan_steady : w.op ≡ Op.Volume VolumeOp.Read → r.object ≡ Volume v → r.op ≡ Op.Volume VolumeOp.Read → r.reply ≡ w.reply
    scan_steady read f g =
        read_tells c before r v second.1 f g
        ∙ ap (λ n. Reply.Volume (VolumeReply.Value n))
        (sym (steady_along c deck initiators it.number v (next before r) second.0 third.0
        (([] ++ xs) ++ r ∷ []) mid it.below third.1 between
        (ap touched (sym still) ∙ mover_touches deck initiators v third.0 last.0 w it on) silent
        ∙ number_kept before r.caller r.object r.op v (λ n a b. absurd (reads_not n (sym g ∙ b)))))
        ∙ sym (read_tells c (after_from (next before r) mid) w v last.1 on read) where
          reads_not : (n : ℕ) → Op.Volume VolumeOp.Read ≡ Op.Volume (VolumeOp.Write n) → ⊥
          reads_not n q = absurd (cc q)
