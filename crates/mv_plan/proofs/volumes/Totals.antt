-- The codes that pauses are given in a history, and what the jobs that they name add to a volume. What the running jobs have still to
-- add to it, and how an event pays it; the balance: what a volume has and is still due is what the named jobs add, so a COUNT's sum has
-- 32 bits; and in the end that is the deck's total.
use Rattle.mv_plan.proofs.Words.{◌≡◌, ℕ, ◌+◌, List, [], ◌∷◌, refl, ap, ◌∙◌, suc, ◌-◌, ◌<◌, ◌≤◌, nat_le, Bool, true, false, ◌&&◌, ◌++◌, Some}
use Rattle.mv_plan.proofs.Words.{if◌then◌else◌, length, Option, None, sym, arith, eq-eqb, leb-true, and_parts, Entry, gift_code, JobData}
use Rattle.mv_plan.proofs.Words.{job_at, before_end, Named, job_named, common_steps, Reply, Setup, System, with_at, advanced, Step, Count}
use Rattle.mv_plan.proofs.Words.{added, IsNext, LatchReply, VolumeReply, inl, inr, ◌*◌, ◌^◌, subst, append-nil, next, opening}
use Rattle.mv_plan.proofs.Words.{moved, ◌==◌, slice_index, ne_eqb, given_codes, step_events, sum_by-cons, end_of, not_run, ends, total}
use Rattle.mv_plan.proofs.Words.{code_of, one_end_per_job, sum_by, rules}
use Rattle.mv_report.specs.Outcome.{added_by, steps_with, all_steps_with}
use Rattle.mv_plan.proofs.lists.{sum_to, sum_zero, sum_change, times, count_of, sum_le, sum_member, sum_front, times_once, sum_ext}
use Rattle.mv_machine.proofs.EntryRuns.{entry_of}
use Rattle.mv_plan.proofs.points.{Point, At, Running, Hand, InitiatorAt, Obtaining, Confirming, Freeing, Reading, ToAdd, Writing, Compares}
use Rattle.mv_plan.proofs.points.{initiator_goes, steps_at, running, job_start, given_at, InJob, IsNotLost, given_lands}
use Rattle.mv_plan.proofs.points.{no_gift, ToCompare}
use Rattle.mv_plan.proofs.volumes.Alone.{ValueAt, read_keeps, volumes_asked, Values, volumes_same, NextAt}
use Rattle.mv_plan.proofs.deck.{Held, ArePlannedSteps, ArePlannedJobs, IsPlanned}
use Rattle.mv_plan.proofs.walks.{NoneLost, none_lost_before, who_moved, mover_asked, mover_goes, mover_sum, Points, start_points, Move}
use Rattle.mv_deck.specs.Weight.{all_events}

-- ---- codes

abbrev pub with_code : Option ℕ → List ℕ → List ℕ
with_code None cs = cs
with_code (Some code) cs = code ∷ cs

-- the codes that were given, in order
abbrev pub codes_of : List Entry → List ℕ
codes_of [] = []
codes_of (e ∷ es) = with_code (gift_code e.reply) (codes_of es)

codes-push : (xs : List Entry) (e : Entry) → codes_of (xs ++ e ∷ []) ≡ codes_of xs ++ with_code (gift_code e.reply) []
codes-push [] e = refl
codes-push (x ∷ xs) e = grind (arith, common_steps, codes-push xs e)

-- ---- what is added

abbrev pub full : List JobData → ℕ → ℕ → ℕ
full deck v j = added_by v (before_end (job_at deck j).steps)

abbrev pub adds_if : List JobData → ℕ → ℕ → Bool → ℕ
adds_if deck v j true = 0
adds_if deck v j false = full deck v j

abbrev pub adds_named : List JobData → ℕ → Option Named → ℕ
adds_named deck v None = 0
adds_named deck v (Some named) = adds_if deck v named.job named.skipped

-- what the job that a code names adds, if it is to be run
abbrev pub adds : List JobData → ℕ → ℕ → ℕ
adds deck v code = adds_named deck v (job_named (length deck) code)

abbrev pub adds_all : List JobData → ℕ → List ℕ → ℕ
adds_all deck v [] = 0
adds_all deck v (code ∷ codes) = adds deck v code + adds_all deck v codes

adds-append : (deck : List JobData) (v : ℕ) (xs ys : List ℕ) → adds_all deck v (xs ++ ys) ≡ adds_all deck v xs + adds_all deck v ys
adds-append deck v [] ys = omega arith
adds-append deck v (x ∷ xs) ys = grind (arith, common_steps, adds-append deck v xs ys)

-- the code of a job that is to be run adds what the job does
adds_low : (deck : List JobData) (v code : ℕ) → 1 ≤ code → code ≤ length deck → adds deck v code ≡ full deck v (code - 1)
adds_low deck v code a b = grind (arith, common_steps)

-- a code that names no job to be run adds nothing
adds_high : (deck : List JobData) (v code : ℕ) → ((nat_le 1 code && nat_le code (length deck)) ≡ false) → adds deck v code ≡ 0
adds_high deck v code e = grind (arith, common_steps)

-- What the codes given add is, summed over the jobs, what each adds as often as it was named to be run.
adds_by_jobs : (deck : List JobData) (v : ℕ) (codes : List ℕ)
    → adds_all deck v codes ≡ sum_to (length deck) (λ j. times (count_of (j + 1) codes) (full deck v j))
adds_by_jobs deck v [] = sym (sum_zero (length deck) (λ j. 0) (λ j lt. refl))
adds_by_jobs deck v (code ∷ codes) = go (nat_le 1 code && nat_le code (length deck)) refl (adds_by_jobs deck v codes) where
  f : ℕ → ℕ
  f j = times (count_of (j + 1) codes) (full deck v j)

  g : ℕ → ℕ
  g j = times (count_of (j + 1) (code ∷ codes)) (full deck v j)

  other : (j : ℕ) → (code ≡ j + 1 → ⊥) → g j ≡ f j
  other j n = grind (arith, common_steps)

  here : (j : ℕ) → code ≡ j + 1 → j < length deck → sum_to (length deck) g ≡ full deck v j + sum_to (length deck) f
  here j e lt =
      let a = sum_change (length deck) j f g lt (λ m d. other m (λ q. d (let z = sym e ∙ q in omega arith))) in
      let b = ap (λ b. times (if b then suc (count_of (j + 1) codes) else count_of (j + 1) codes) (full deck v j))
      (eq-eqb code (j + 1) e) in
      omega arith

  go : (b : Bool) → (nat_le 1 code && nat_le code (length deck)) ≡ b → adds_all deck v codes ≡ sum_to (length deck) f
      → adds deck v code + adds_all deck v codes ≡ sum_to (length deck) g
  go true e rest =
      let parts = and_parts (nat_le 1 code) (nat_le code (length deck)) e in
      let low = leb-true 1 code parts.0 in
      let high = leb-true code (length deck) parts.1 in
      let is = here (code - 1) (omega arith) (omega arith) in
      let added_now = adds_low deck v code low high in
      omega arith
  go false e rest = grind (arith, common_steps)

-- ---- what is still to be added

-- by the job that is run
abbrev pub due : ℕ → Point InitiatorAt → ℕ
due v (At (InJob run (Obtaining hand latch mode steps))) = added_by v (before_end steps)
due v (At (InJob run (Confirming hand latch mode id steps))) = added_by v (before_end steps)
due v (At (InJob run (Freeing hand latch id steps))) = added_by v (before_end steps)
due v (At (InJob run (Reading hand volume (ToAdd amount) steps))) = added v (Count volume amount) + added_by v (before_end steps)
due v (At (InJob run (Writing hand volume amount number steps))) = added v (Count volume amount) + added_by v (before_end steps)
due v (At (InJob run (Reading hand volume ToCompare steps))) = added_by v (before_end steps)
due v (At (InJob run (Reading hand volume (Compares number) steps))) = added_by v (before_end steps)
due v p = 0

-- what the job that a given code names adds
abbrev pub gift_adds : List JobData → ℕ → Reply → ℕ
gift_adds deck v r = adds_all deck v (with_code (gift_code r) [])

module _ (v : ℕ) where
  due_steps : (run : Running) (hand : Hand) (steps : List Step) → IsNotLost (steps_at run hand steps)
      → due v (steps_at run hand steps) ≡ added_by v (before_end steps)
  due_steps run hand [] n = grind (arith, common_steps)
  due_steps run hand (first ∷ steps) n = grind (arith, common_steps, sum_by-cons, due_steps run hand steps)

  due_start : (deck : List JobData) (run : Running) (job : ℕ) (skipped : Bool) → IsNotLost (job_start skipped run (job_at deck job))
      → due v (job_start skipped run (job_at deck job)) ≡ adds_if deck v job skipped
  due_start deck run job skipped n = grind (arith, common_steps, due_steps)

  due_given : (deck : List JobData) (more : ℕ) (before : List ℕ) (code g : ℕ) → IsNotLost (given_at deck more before code g)
      → due v (given_at deck more before code g) ≡ adds deck v code
  due_given deck more before code g =
      given_lands (λ p. IsNotLost p → due v p ≡ adds deck v code) (λ n. absurd n) deck more before code g
      (λ z n. sym (ap (adds deck v) z ∙ adds_high deck v 0 refl))
      (λ named left e t m n. due_start deck (running named before (suc left) g) named.job named.skipped n ∙ sym (ap (adds_named deck v) e))

-- ---- what an initiator's event pays of what is due

module _ (c : Setup) (s : System) (deck : List JobData) (i v : ℕ) where
  abbrev DueNext : InitiatorAt → Reply → Type 0
  DueNext x r = (volumes_asked c s deck i x v).state + due v (initiator_goes deck x r) ≡ (s.volume v).state + due v
      (At x) + gift_adds deck v r

  write_due : (volume amount number d a : ℕ) → (s.volume volume).state ≡ number → d ≡ a
      → (with_at s.volume volume (advanced (s.volume volume) (number + amount)) v).state + d ≡ (s.volume v).state +
      (added v (Count volume amount) + a) + 0
  write_due volume amount number d a e f = grind (arith, common_steps)

  pub own_due : (x : InitiatorAt) (p : ℕ) (r : Reply) → NextAt c s deck i x p r → ValueAt s.volume (At x)
      → IsNotLost (initiator_goes deck x r) → DueNext x r
  own_due (InJob run (Obtaining hand latch mode steps)) p (Reply.Latch (LatchReply.Granted id)) h a n =
      let f = due_steps v run _ steps n in omega arith
  own_due (InJob run (Confirming hand latch mode id steps)) p (Reply.Latch (LatchReply.Granted same)) h a n =
      let f = due_steps v run _ steps n in omega arith
  own_due (InJob run (Freeing hand latch id steps)) p (Reply.Latch (LatchReply.Released count)) h a n =
      let f = due_steps v run _ steps n in omega arith
  own_due (InJob run (Writing hand volume amount number steps)) p (Reply.Volume VolumeReply.Stored) h a n =
      write_due volume amount number _ (added_by v (before_end steps)) a (due_steps v run hand steps n)
  own_due (InJob run (Reading hand volume (Compares number) steps)) p (Reply.Volume (VolumeReply.Value again)) h a n =
      let e = read_keeps s.volume volume v in let f = due_steps v run hand steps n in omega arith
  own_due x p r h a n = grind (arith, common_steps, due_given)

-- ---- the balance

-- Where no initiator is lost, what each volume has, and what the jobs that are run have still to add to it, is what the jobs
-- that were named so far add.
abbrev pub Balance : List JobData → ℕ → System → Points → List Entry → Type 0
Balance deck initiators s t past = NoneLost initiators t → (v : ℕ)
    → (s.volume v).state + sum_to initiators (λ i. due v (t.initiators i)) ≡ adds_all deck v (codes_of past)

pub balance_start : (c : Setup) (deck : List JobData) (initiators : ℕ)
    → Balance deck initiators (opening c) (start_points deck initiators) []
balance_start c deck initiators n v = grind (arith, common_steps, sum_zero)

codes_same : (past : List Entry) (e : Entry) → gift_code e.reply ≡ None → codes_of (past ++ e ∷ []) ≡ codes_of past
codes_same past e q = codes-push past e ∙ ap (λ slot. codes_of past ++ with_code slot []) q ∙ append-nil (codes_of past)

-- each move keeps it
pub balance_next : (c : Setup) (deck : List JobData) (initiators : ℕ) (s : System) (t u : Points) (past : List Entry) (e : Entry)
    → IsNext c s e → Move deck initiators t e u → Values initiators s.volume t.initiators
    → Balance deck initiators s t past → Balance deck initiators (next s e) u (past ++ e ∷ [])
balance_next c deck initiators s t u past e h moves values w n v = elim (who_moved deck initiators t u e moves) [
  | inl a ↦ let o = old in
      let f = ap (λ f. (f v).state) (volumes_same s e.caller e.object e.op a.signal) in
      let g = ap (λ g. sum_to initiators (λ i. due v (g i))) a.same in
      let d = ap (adds_all deck v) (codes_same past e (no_gift s e.caller e.object e.op e.reply h.reply a.no_pause)) in omega arith
  | inr m ↦
      let own = mover_asked deck initiators t u e m (λ j o op. IsNext c s (entry_of j o e.place op e.reply)
      → ((moved s j o op).volume v).state + due v (initiator_goes deck m.point e.reply)
      ≡ (s.volume v).state + due v (At m.point) + gift_adds deck v e.reply)
      (λ h. own_due c s deck m.number v m.point e.place e.reply h (subst (ValueAt s.volume) m.stands (values m.number m.below))
      (subst IsNotLost (mover_goes deck initiators t u e m) (n.at_initiator m.number m.below))) h in
      let o = old in let f = mover_sum deck initiators t u e m (due v) in
      let d = ap (adds_all deck v) (codes-push past e) ∙ adds-append deck v (codes_of past) (with_code (gift_code e.reply) []) in
      omega arith
] where
  old : (s.volume v).state + sum_to initiators (λ i. due v (t.initiators i)) ≡ adds_all deck v (codes_of past)
  old = w (none_lost_before deck initiators t u e moves n) v

-- ---- how much a volume may have

steps_bound : (v : ℕ) (steps : List Step) (held : List Held) → ArePlannedSteps held steps
    → 2 * added_by v (before_end steps) ≤ 9999 * sum_by step_events steps
steps_bound v [] held s = grind (arith, common_steps)
steps_bound v (first ∷ steps) held s = grind (arith, common_steps, sum_by-cons, steps_bound v steps)

fulls_bound : (v k : ℕ) (jobs : List JobData) → ArePlannedJobs k jobs → 2 * sum_to (length jobs) (full jobs v) ≤ 9999 * all_events jobs
fulls_bound v k [] s = omega arith
fulls_bound v k (job ∷ jobs) s =
    let first = sum_front (length jobs) (full (job ∷ jobs) v) in
    let rest = fulls_bound v (k + 1) jobs s.1 in
    let more = sum_by-cons (λ (j : JobData). sum_by step_events j.steps) job jobs in
    let one = steps_bound v job.steps [] s.0.steps in omega arith

few_events : (deck : List JobData) (initiators : ℕ) → 1 ≤ initiators → IsPlanned deck initiators → all_events deck ≤ 524287
few_events deck initiators some sound = grind (arith, common_steps)

-- each job was named to be run at most once
abbrev pub OnceEach : List JobData → List ℕ → Type 0
OnceEach deck codes = (j : ℕ) → j < length deck → count_of (j + 1) codes ≤ 1

pub adds_few : (deck : List JobData) (initiators v : ℕ) (codes : List ℕ) → 1 ≤ initiators → IsPlanned deck initiators → OnceEach deck codes
    → 2 * adds_all deck v codes ≤ 9999 * 524287
adds_few deck initiators v codes some sound once =
    let a = adds_by_jobs deck v codes in
    let b = sum_le (length deck) (λ j. times (count_of (j + 1) codes) (full deck v j)) (full deck v)
    (λ j lt. times_once (count_of (j + 1) codes) (full deck v j) (once j lt)) in
    let d = fulls_bound v 0 deck sound.jobs in
    let e = few_events deck initiators some sound in omega arith

-- a COUNT's sum has 32 bits
pub count_small : (deck : List JobData) (initiators : ℕ) (s : System) (t : Points) (past : List Entry) (i : ℕ) (run : Running) (hand : Hand)
    (volume amount : ℕ) (steps : List Step)
    → 1 ≤ initiators → IsPlanned deck initiators → i < initiators → NoneLost initiators t → Balance deck initiators s t past
    → OnceEach deck (codes_of past)
    → t.initiators i ≡ At (InJob run (Reading hand volume (ToAdd amount) steps)) → (s.volume volume).state + amount < 2 ^ 32
count_small deck initiators s t past i run hand volume amount steps some sound lt none w once at =
    let a = w none volume in
    let b = sum_member initiators i (λ m. due volume (t.initiators m)) lt in
    let d = ap (due volume) at in
    let e = ap (λ b. if b then amount else 0) (eq-eqb volume volume refl) in
    let f = adds_few deck initiators volume (codes_of past) some sound once in
    omega arith

-- ---- all codes, and those that name one job

pub count_named : (j : ℕ) (b : Bool) (es : List Entry) → count_of (code_of j b) (codes_of es) ≡ count_of (code_of j b) (given_codes j es)
count_named j b [] = refl
count_named j b (e ∷ es) = grind (arith, common_steps, count_named j b es)

-- two numbers that differ are not more often in a list than it is long
count_two : (a b : ℕ) (cs : List ℕ) → (a ≡ b → ⊥) → count_of a cs + count_of b cs ≤ length cs
count_two a b [] n = omega arith
count_two a b (c ∷ cs) n = grind (arith, common_steps, count_two a b cs n)

pub codes_differ : (j : ℕ) → code_of j false ≡ code_of j true → ⊥
codes_differ j e = absurd (omega arith)

-- how often a job was named
pub named_few : (j : ℕ) (es : List Entry)
    → count_of (code_of j false) (codes_of es) + count_of (code_of j true) (codes_of es) ≤ length (given_codes j es)
named_few j es = search (rules, count_named, count_two, codes_differ)

count_self : (n : ℕ) → count_of n (n ∷ []) ≡ 1
count_self n = rw (eq-eqb n n refl) refl

count_other : (n m : ℕ) → (m ≡ n → ⊥) → count_of n (m ∷ []) ≡ 0
count_other n m d = rw (ne_eqb m n d) refl

-- ---- the total

-- the steps that a job of this deck does
abbrev done_by : List JobData → ℕ → List Step
done_by deck j = steps_with (end_of deck j) (job_at deck j).steps

total_from : (v : ℕ) (es : List ℕ) (jobs : List JobData) → length es ≡ length jobs
    → sum_to (length jobs) (λ j. added_by v (steps_with (slice_index es j) (job_at jobs j).steps))
    ≡ sum_by (added_by v) (all_steps_with es jobs)
total_from v [] [] e = refl
total_from v [] (job ∷ jobs) e = absurd (omega arith)
total_from v (x ∷ es) [] e = absurd (omega arith)
total_from v (x ∷ es) (job ∷ jobs) e =
    grind (
      arith,
      common_steps,
      sum_front,
      sum_by-cons,
      total_from v es jobs (let f : suc (length es) ≡ suc (length jobs) = e in omega arith),
    )

-- each job was given once, to be run unless its end says that it is not
abbrev pub GivenByEnds : List JobData → List Entry → Type 0
GivenByEnds deck es = (j : ℕ) → j < length deck → given_codes j es ≡ code_of j (end_of deck j == not_run) ∷ []

pub adds_total : (deck : List JobData) (v : ℕ) (es : List Entry) → GivenByEnds deck es → adds_all deck v (codes_of es) ≡ total deck v
adds_total deck v es given =
    adds_by_jobs deck v (codes_of es)
    ∙ sum_ext (length deck) (λ j. times (count_of (code_of j false) (codes_of es)) (full deck v j))
    (λ j. added_by v (done_by deck j))
    (λ j lt. ap (λ k. times k (full deck v j)) (count_named j false es ∙ ap (count_of (code_of j false)) (given j lt))
    ∙ once j (end_of deck j == not_run))
    ∙ total_from v (ends deck) deck (one_end_per_job deck) where
      once : (j : ℕ) (b : Bool) → times (count_of (code_of j false) (code_of j b ∷ [])) (full deck v j) ≡ added_by v
          (if b then [] else before_end (job_at deck j).steps)
      once j true = ap (λ k. times k (full deck v j)) (count_other (code_of j false) (code_of j true) (λ e. codes_differ j (sym e)))
      once j false = ap (λ k. times k (full deck v j)) (count_self (code_of j false)) ∙ plus_zero (full deck v j) where
        plus_zero : (n : ℕ) → n + 0 ≡ n
        plus_zero n = omega arith
