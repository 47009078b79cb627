-- What the scheduler has found at blocks stands in them until it clears them; so the block of an initiator that it chose still has the
-- generation that was found. And a block is waiting only while its owner has it armed in the wait that it is in; so an arm finds it plain
-- or complete. Used by the rows, and where no reply is to lead astray.
use Rattle.mv_plan.proofs.Words.{◌≡◌, ℕ, zero, suc, ◌+◌, List, [], ◌∷◌, ◌++◌, length, map, Some, refl, sym, subst, arith}
use Rattle.mv_plan.proofs.Words.{range_with_len, ecb_step, EcbState, Complete, Object, Ecb, Op, Reply, System, Cell, moved, reply_to}
use Rattle.mv_plan.proofs.Words.{with_at, advanced, JobData, After, Step, scheduler, idle, code_of, EcbOp, common_steps, ◌*◌, ◌<◌, ◌≤◌}
use Rattle.mv_plan.proofs.Words.{◌==◌, IsTrue, ◌⊎◌, inl, inr, AllByRecursion, cases_eq, Entry, IsNext, next, Setup, owner_of, opening}
use Rattle.mv_plan.proofs.Words.{admitted, ecb_admitted, AreDistinct, Kept, writer, end_for_writer, ends_of, WaitSlot}
use Rattle.mv_plan.proofs.points.{Point, At, TooSoon, Astray, Stage, Dispatching, Dismissing, Awaited, ForEntry, ForEnds, ForIdle}
use Rattle.mv_plan.proofs.points.{ToDismiss, WaitAt, Settling, SchedulerAt, Waits, Clears, awaited_blocks, scheduler_asks, scheduler_goes}
use Rattle.mv_plan.proofs.points.{on_settled, settling_from, found_at, ends_at, lowest_at, IsWaitAt, NoClear, lowest_keeps, IsWriterAt}
use Rattle.mv_plan.proofs.points.{on_armed_keeps, Arming, arming_from, on_armed, WriterAt, Keeping, writer_asks, writer_goes, IsAwaited}
use Rattle.mv_plan.proofs.points.{IsSchedulerAt, later_below, later_sound, ends_distinct, idles_distinct, NoArm, no_arm, IsNotLost}
use Rattle.mv_ecb.specs.Word.{Waiting}
use Rattle.mv_plan.proofs.deck.{ArePlannedJobs, Facts}
use Rattle.mv_plan.proofs.walks.{NoneLost, Stand, Points, Move, Each, of_move}

abbrev pub Blocks : Type 0
Blocks = ℕ → Cell EcbState

-- a code that was found at a block stands in it
abbrev pub SlotIs : EcbState → WaitSlot → Type 0
SlotIs v WaitSlot.Open = Unit {0}
SlotIs v (WaitSlot.Complete code) = v ≡ Complete code

-- what was found at the first of these blocks, in their order
abbrev pub Slots : Blocks → List ℕ → List WaitSlot → Type 0
Slots f bs [] = Unit {0}
Slots f [] (slot ∷ found) = ⊥
Slots f (b ∷ bs) (slot ∷ found) = SlotIs (f b).state slot × Slots f bs found

-- what the scheduler has found in its wait, and the generation of the initiator that it is to hand a code, stand in their blocks
abbrev pub Finds : ℕ → ℕ → Blocks → Point SchedulerAt → Type 0
Finds n initiators f (At (Waits a (Settling e todo found))) = Slots f (awaited_blocks n initiators a) found
Finds n initiators f (At (Clears i g code after)) = (f (idle n i)).state ≡ Complete g
Finds n initiators f p = Unit {0}

-- ---- complete blocks stay

-- blocks that are complete in the first are so in the second, with the same codes
abbrev pub Stay : Blocks → Blocks → Type 0
Stay f g = (b code : ℕ) → (f b).state ≡ Complete code → (g b).state ≡ Complete code

pub stay_moved : (s : System) (k : ℕ) (o : Object) (op : Op) → NoClear op → Stay s.ecb (moved s k o op).ecb
stay_moved s k o op w b code e = grind (arith, common_steps)

slot_kept : (f g : Blocks) (b : ℕ) (slot : WaitSlot) → Stay f g → SlotIs (f b).state slot → SlotIs (g b).state slot
slot_kept f g b x stay w = grind (arith, common_steps)

pub slots_kept : (f g : Blocks) (bs : List ℕ) (found : List WaitSlot) → Stay f g → Slots f bs found → Slots g bs found
slots_kept f g bs [] stay w = tt
slots_kept f g [] (slot ∷ found) stay w = w
slots_kept f g (b ∷ bs) (slot ∷ found) stay w = (slot_kept f g b slot stay w.0, slots_kept f g bs found stay w.1)

pub finds_kept : (n initiators : ℕ) (f g : Blocks) (p : Point SchedulerAt) → Stay f g → Finds n initiators f p → Finds n initiators g p
finds_kept n initiators f g p stay w = grind (arith, common_steps, slots_kept)

-- ---- one block more was settled

slots_push : (f : Blocks) (past todo : List ℕ) (e : ℕ) (found : List WaitSlot) (slot : WaitSlot) → length past ≡ length found
    → Slots f (past ++ e ∷ todo) found → SlotIs (f e).state slot → Slots f (past ++ e ∷ todo) (found ++ slot ∷ [])
slots_push f (b ∷ past) todo e (y ∷ found) slot l w x = (w.0, slots_push f past todo e found slot (omega arith) w.1 x)
slots_push f past todo e found slot l w x = grind (arith, common_steps)

-- ---- the points that follow a wait

module _ (n initiators : ℕ) (f : Blocks) where
  abbrev Here : Point SchedulerAt → Type 0
  Here p = Finds n initiators f p

  lowest_idle : (code : ℕ) (after : Stage) (k m : ℕ) (found : List WaitSlot) → Slots f (map (idle n) (range_with_len k m)) found
      → Here (lowest_at (λ i g. At (Clears i g code after)) k found)
  lowest_idle code after k m [] w = tt
  lowest_idle code after k zero (slot ∷ found) w = absurd w
  lowest_idle code after k (suc m) (WaitSlot.Complete g ∷ found) w = w.0
  lowest_idle code after k (suc m) (WaitSlot.Open ∷ found) w = lowest_idle code after (k + 1) m found w.1

  lowest_one : (code : ℕ) (after : Stage) (i k : ℕ) (found : List WaitSlot) → Slots f (idle n i ∷ []) found
      → Here (lowest_at (λ p g. At (Clears i g code after)) k found)
  lowest_one code after i k [] w = tt
  lowest_one code after i k (WaitSlot.Complete g ∷ found) w = w.0
  lowest_one code after i k (WaitSlot.Open ∷ []) w = tt
  lowest_one code after i k (WaitSlot.Open ∷ (slot ∷ found)) w = absurd w.1

  ends_here : (j : ℕ) (name : List ℕ) (after : List After) (steps : List Step) (jobs : List JobData)
      → Here (ends_at n j (record { name = name; after = after; steps = steps }) jobs)
  ends_here j name x steps jobs = grind (arith, common_steps)

  found_here : (a : Awaited) (found : List WaitSlot) → Slots f (awaited_blocks n initiators a) found → Here (found_at n a found)
  found_here (ForEntry j job jobs) found w =
      lowest_keeps Here (λ i code. ends_at n j job jobs) 0 found (λ i code. ends_here j job.name job.after job.steps jobs) tt
  found_here (ForEnds j job jobs) found w = tt
  found_here (ForIdle j job jobs skipped) found w = lowest_idle (code_of j skipped) (Dispatching (j + 1) jobs) 0 initiators found w
  found_here (ToDismiss i more) found w = lowest_one 0 (Dismissing (i + 1) more) i 0 found w

  settling_here : (a : Awaited) (es : List ℕ) (found : List WaitSlot) → Slots f (awaited_blocks n initiators a) found
      → Here (settling_from n a es found)
  settling_here a [] found w = grind (arith, common_steps, TooSoon, found_here)
  settling_here a (e ∷ es) found w = w

-- ---- the scheduler's own event
module _ (n initiators : ℕ) (s : System) where
  abbrev then_s : SchedulerAt → System
  then_s x = moved s scheduler (scheduler_asks n x).0 (scheduler_asks n x).1

  settled_slot : (e : ℕ) (r : Reply) (f : WaitSlot → Point SchedulerAt) (P : Point SchedulerAt → Type 0)
      → r ≡ Reply.Ecb (ecb_step EcbOp.Settle (s.ecb e).state).1
      → ((slot : WaitSlot) → SlotIs (with_at s.ecb e (advanced (s.ecb e) (ecb_step EcbOp.Settle (s.ecb e).state).0) e).state slot
      → P (f slot)) → P Astray → P (on_settled f r)
  settled_slot e r f x q each a = grind (arith, common_steps)

  pub finds_next : (x : SchedulerAt) (r : Reply) → ((a : Awaited) (w : WaitAt) → x ≡ Waits a w → IsWaitAt (awaited_blocks n initiators a) w)
      → Some r ≡ reply_to s scheduler (scheduler_asks n x).0 (scheduler_asks n x).1
      → Finds n initiators s.ecb (At x) → Finds n initiators (then_s x).ecb (scheduler_goes n initiators x r)
  finds_next (Waits a (Settling e todo found)) r sound q w =
      let l = sound a (Settling e todo found) refl in settled_slot e r (λ slot. settling_from n a todo (found ++ slot ∷ []))
      (λ p. Finds n initiators (then_s (Waits a (Settling e todo found))).ecb p) (cc q)
      (λ slot is. settling_here n initiators (then_s (Waits a (Settling e todo found))).ecb a todo (found ++ slot ∷ [])
      (subst (λ bs. Slots (then_s (Waits a (Settling e todo found))).ecb bs (found ++ slot ∷ [])) l.1
      (slots_push (then_s (Waits a (Settling e todo found))).ecb l.0 todo e found slot l.2
      (subst (λ bs. Slots (then_s (Waits a (Settling e todo found))).ecb bs found) (sym l.1)
      (slots_kept s.ecb (then_s (Waits a (Settling e todo found))).ecb (awaited_blocks n initiators a) found
      (stay_moved s scheduler (Ecb e) (Op.Ecb EcbOp.Settle) tt) w)) is))) tt
  finds_next x r sound q w = grind (arith, common_steps)

-- ---- blocks in lists

abbrev pub In : List ℕ → ℕ → Type 0
In [] b = ⊥
In (x ∷ xs) b = (x ≡ b) ⊎ In xs b

pub in_middle : (past : List ℕ) (e : ℕ) (todo : List ℕ) → In (past ++ e ∷ todo) e
in_middle [] e todo = inl refl
in_middle (x ∷ past) e todo = inr (in_middle past e todo)

distinct_behind : (past later : List ℕ) → AreDistinct (past ++ later) → AreDistinct later
distinct_behind [] later d = d
distinct_behind (x ∷ past) later d = distinct_behind past later d.1

not_in : (e : ℕ) (todo : List ℕ) → AllByRecursion (λ m. m ≡ e → ⊥) todo → In todo e → ⊥
not_in e [] d i = grind (arith, common_steps)
not_in e (x ∷ todo) d i = grind (arith, common_steps, not_in e todo)

pub in_all : (P : ℕ → Type 0) (bs : List ℕ) (b : ℕ) → AllByRecursion P bs → In bs b → P b
in_all x [] b w i = grind (arith, common_steps)
in_all x (first ∷ bs) b w i = grind (arith, common_steps, in_all x bs)

-- ---- the blocks of a wait are different, and none is a done block

pub awaited_distinct : (deck : List JobData) (initiators : ℕ) (a : Awaited) → ArePlannedJobs 0 deck → IsAwaited deck initiators a
    → AreDistinct (awaited_blocks (length deck) initiators a)
awaited_distinct deck initiators a sound s = grind (arith, common_steps, ends_distinct, later_sound, idles_distinct)

-- a block that is no done block
abbrev pub IsNoDone : ℕ → ℕ → Type 0
IsNoDone n b = (b < n) ⊎ (2 * n ≤ b)

ends_no_done : (n : ℕ) (parts : List After) → AllByRecursion (IsNoDone n) (ends_of n parts)
ends_no_done n [] = tt
ends_no_done n (part ∷ parts) = (inr (omega arith), ends_no_done n parts)

idles_no_done : (n from count : ℕ) → AllByRecursion (IsNoDone n) (map (idle n) (range_with_len from count))
idles_no_done n from zero = tt
idles_no_done n from (suc count) = (inr (omega arith), idles_no_done n (from + 1) count)

pub awaited_no_done : (deck : List JobData) (initiators : ℕ) (a : Awaited) → IsAwaited deck initiators a
    → AllByRecursion (IsNoDone (length deck)) (awaited_blocks (length deck) initiators a)
awaited_no_done deck initiators a s = grind (arith, common_steps, later_below, ends_no_done, idles_no_done)

-- so not that which a wait arms or settles
pub wait_no_done : (deck : List JobData) (initiators : ℕ) (a : Awaited) (past : List ℕ) (e : ℕ) (todo : List ℕ)
    → IsAwaited deck initiators a → past ++ e ∷ todo ≡ awaited_blocks (length deck) initiators a → IsNoDone (length deck) e
wait_no_done deck initiators a past e todo s is = in_all (IsNoDone (length deck)) (awaited_blocks (length deck) initiators a) e
    (awaited_no_done deck initiators a s) (subst (λ l. In l e) is (in_middle past e todo))

-- ---- what a wait has armed and not settled yet

abbrev pub Unsettled : List ℕ → WaitAt → ℕ → Type 0
Unsettled blocks (Arming e todo) b = In blocks b × (In (e ∷ todo) b → ⊥)
Unsettled blocks (Settling e todo found) b = In (e ∷ todo) b

abbrev pub SchedulerArms : ℕ → ℕ → Point SchedulerAt → ℕ → Type 0
SchedulerArms n initiators (At (Waits a w)) b = Unsettled (awaited_blocks n initiators a) w b
SchedulerArms n initiators p b = ⊥

abbrev pub WriterArms : ℕ → Point WriterAt → ℕ → Type 0
WriterArms n (At (Keeping j more ends w)) b = Unsettled (end_for_writer n j ∷ []) w b
WriterArms n p b = ⊥

-- a block that is waiting was armed by its owner, the scheduler or the writer, and is still to be settled
pub record Armed (c : Setup) (n initiators : ℕ) (s : System) (t : Points) : Type 0 where
  pub armed : (b : ℕ) → (s.ecb b).state ≡ Waiting → ((owner_of c b ≡ scheduler) × SchedulerArms n initiators t.scheduler b)
      ⊎ ((owner_of c b ≡ writer initiators) × WriterArms n t.writer b)

-- ---- tables

-- only an arm makes a block wait
pub still_waiting : (s : System) (k : ℕ) (o : Object) (op : Op) (b : ℕ) → NoArm op → ((moved s k o op).ecb b).state ≡ Waiting
    → (s.ecb b).state ≡ Waiting
still_waiting s k o op b w e = grind (arith, common_steps)

-- ---- the points that follow have armed what they are to settle

arming_arms : (n initiators : ℕ) (a : Awaited) (todo : List ℕ) (b : ℕ) → In (awaited_blocks n initiators a) b → (In todo b → ⊥)
    → SchedulerArms n initiators (arming_from n initiators a todo) b
arming_arms n initiators a x b i d = grind (arith, common_steps)

found_armed : {X : Type 0} (p : Point X) (r : Reply) → IsNotLost (on_armed p r) → on_armed p r ≡ p
found_armed p r f = on_armed_keeps (λ z. IsNotLost z → z ≡ p) p r (λ g. refl) (λ g. absurd g) f

-- an arm is made by the owner
pub arm_owner : (c : Setup) (s : System) (k e : ℕ) (op : EcbOp) → (ecb_admitted c k e op ≡ (owner_of c e == k))
    → IsTrue (admitted c s k (Ecb e) (Op.Ecb op)) → owner_of c e ≡ k
arm_owner c s k e op q adm = grind (arith, common_steps)

module _ (c : Setup) (deck : List JobData) (initiators : ℕ) (facts : Facts c (length deck) initiators) (sound : ArePlannedJobs 0 deck)
    (kept : ℕ → Kept) where
  abbrev n : ℕ
  n = length deck

  -- a block and who waits for it, at these points of the scheduler and the writer
  abbrev Arms : Point SchedulerAt → Point WriterAt → ℕ → Type 0
  Arms q w b = ((owner_of c b ≡ scheduler) × SchedulerArms n initiators q b) ⊎ ((owner_of c b ≡ writer initiators) × WriterArms n w b)

  abbrev ArmedThen : System → Point SchedulerAt → Point WriterAt → Type 0
  ArmedThen s q w = (b : ℕ) → (s.ecb b).state ≡ Waiting → Arms q w b

  -- the scheduler
  scheduled : (s : System) (x : SchedulerAt) (r : Reply) (w : Point WriterAt) → IsSchedulerAt deck initiators (At x)
      → IsTrue (admitted c s scheduler (scheduler_asks n x).0 (scheduler_asks n x).1) → IsNotLost (scheduler_goes n initiators x r)
      → ArmedThen s (At x) w → ArmedThen (moved s scheduler (scheduler_asks n x).0 (scheduler_asks n x).1)
      (scheduler_goes n initiators x r) w
  scheduled s x r w st adm f armed b q =
      grind (arith, common_steps, found_armed, cases_eq, distinct_behind, awaited_distinct, arm_owner, arming_arms, in_middle, not_in)

  -- the writer
  written : (s : System) (x : WriterAt) (r : Reply) (y : Point SchedulerAt) → IsWriterAt n (At x)
      → IsTrue (admitted c s (writer initiators) (writer_asks x).0 (writer_asks x).1) → IsNotLost (writer_goes n x r)
      → ArmedThen s y (At x) → ArmedThen (moved s (writer initiators) (writer_asks x).0 (writer_asks x).1) y (writer_goes n x r)
  written s x r y st adm f armed b q = grind (arith, common_steps)

  abbrev ArmedBy : System → Points → Entry → Points → Type 0
  ArmedBy s t e u = Stand deck initiators kept t → NoneLost initiators u → Armed c n initiators s t → Armed c n initiators (next s e) u

  each_armed : Each c deck initiators ArmedBy
  each_armed = grind (arith, common_steps, still_waiting, scheduled, no_arm, written)

  pub armed_next : (s : System) (t u : Points) (e : Entry) → IsNext c s e → Move deck initiators t e u → Stand deck initiators kept t
      → NoneLost initiators u → Armed c n initiators s t → Armed c n initiators (next s e) u
  armed_next s t u e nx m st f w = of_move c deck initiators ArmedBy each_armed s t u e nx m st f w

pub armed_start : (c : Setup) (n initiators : ℕ) (t : Points) → Armed c n initiators (opening c) t
armed_start c n initiators t = record { armed = λ b q. absurd (cc q) }
