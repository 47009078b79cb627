-- The history that the tasks' logs are parts of is a run, where each task has made all events of its program; and what the tasks
-- bring back is what their parts of it say. For whoever runs tasks.
use Rattle.std.proofs.Common.{◌≡◌, ℕ, ◌+◌, ◌-◌, ◌<◌, ◌≤◌, List, [], ◌++◌, length, get_or, refl}
use Rattle.std.proofs.Common.{sym, ap, ◌∷◌, ◌∙◌, map, take, subst, arith}
use Rattle.std.proofs.lemmas.Bool.{eq-eqb, ne_eqb}
use Rattle.std.proofs.lemmas.List.{get_or_default, get_or-drop, get_or-map, get_or-take, length-drop, length-map, length-take-le}
use Rattle.std.specs.List.{AllByRecursion}
use Rattle.mv_board.specs.Faces.{AreHeld, CallerFace, IsIn}
use Rattle.mv_board.specs.declared.closing.Closed.{Closed}
use Rattle.mv_config.specs.Setup.{Setup}
use Rattle.mv_machine.specs.declared.entry.Entry.{Entry}
use Rattle.mv_machine.specs.Legal.{Legal, after}
use Rattle.mv_config.specs.Limits.{events_limit}
use Rattle.mv_machine.specs.System.{opening}
use Rattle.mv_machine.specs.Told.{told as told_to}
use Rattle.mv_calls.specs.Keeping.{kept_of, nothing_kept}
use Rattle.mv_calls.specs.Made.{told_by}
use Rattle.mv_calls.specs.Program.{Program, Do, Done, Early, Wrong, Call, Says, left, entries, followed, noted}
use Rattle.mv_calls.specs.Runs.{heard_in, left_in}
use Rattle.mv_calls.proofs.Interleaved.{callers_exist}
use Rattle.mv_calls.proofs.Making.{noted_again}
use Rattle.mv_deck.specs.Deck.{JobData}
use Rattle.mv_deck.specs.Sound as deck_is
use Rattle.mv_plan.specs.SpoolRun.{Follows}
use Rattle.mv_plan.specs.SpoolSetup.{spool_setup, reader, scheduler, initiator, writer}
use Rattle.mv_plan.specs.SpoolTasks.{task, task_program, reading, scheduling, writing, initiating}
use Rattle.mv_plan.proofs.deck.Planned.{planned}
use Rattle.mv_plan.proofs.results.NoneWrong.{none_wrong}
use Rattle.mv_work.specs.declared.results.RunResults.{RunResults}
use Rattle.mv_work.specs.declared.work.Role.{Role}
use Rattle.mv_work.specs.declared.work.Role.TheVariants as role
use Rattle.mv_work.specs.declared.work.SpoolWork.{SpoolWork}
use Rattle.mv_work.specs.Noting.{initiating_noted}
use Rattle.mv_work.specs.Ran.{Ran, RanOut, IsOver}
use Rattle.mv_work.specs.Recording.{AreResults}
use Rattle.mv_work.specs.Records.{JobRecord}
use Rattle.mv_work.specs.Spool.{SpoolFace}
use Rattle.mv_work.specs.Works.{AreWorked, IsWorked, IsWriter, ProgramIs, ends_in, records}
use Rattle.mv_work.proofs.brought.Forgetting.{done_noted, forgotten, initiating_forgets}
use Rattle.mv_work.proofs.Roles.{IsRole, last_writes, noted_in, records_front}
use Rattle.mv_work.proofs.Runs.{out_done, out_wrong, ran_astray, ran_last}
use Rattle.mv_wait.proofs.Parts.{one_of}

-- a new task heard just the events that it made
heard_of : {A : Type 0} (call : Call A) (q : Program A) (t u : CallerFace) (r : Ran call q t u) → t.log ≡ [] → t.told ≡ []
    → noted u.log u.told ≡ r.events
heard_of call q t u r log told =
    ap (λ es. noted es u.told) (r.went.logged ∙ ap (λ es. es ++ entries r.events) log)
    ∙ ap (λ ws. noted (entries r.events) ws) (r.went.told ∙ ap (λ ws. ws ++ told_by r.events) told)
    ∙ noted_again r.events r.went.wakes

-- a program that is over is done, unless it went wrong
is_done : {A : Type 0} (a : A) (q : Program A) → IsOver a q → (q ≡ Wrong → ⊥) → q ≡ Done a
is_done a (Done b) over right = ap (λ x. Done x) over
is_done a Wrong over right = absurd (right refl)
is_done a (Do object op next) over right = absurd over
is_done a Early over right = absurd over

-- ---- an initiator that notes is one of the plan

forgets : (c : Setup) (deck : List JobData) (m : ℕ) {records : List JobRecord} {t u : CallerFace}
    → RanOut (initiating_noted c deck m) records t u → RanOut (initiating c deck m) [] t u
forgets c deck m {records} {t} {u} r =
    subst (λ call. RanOut call [] t u) (initiating_forgets c deck m) (go r.last r.over r.ran) where
      go : (p : Program (List JobRecord)) → IsOver records p → Ran (initiating_noted c deck m) p t u
          → RanOut (followed (initiating_noted c deck m) forgotten) [] t u
      go (Done records) over x = out_done (ran_last x forgotten refl)
      go Wrong over x = out_wrong [] (ran_astray x forgotten)
      go (Do object op next) over x = absurd over
      go Early over x = absurd over

-- ---- what a task has made in each role

-- the task has made all events of its role's program
abbrev HasRun : SpoolFace → Role → CallerFace → CallerFace → Type 0
HasRun s r t u = ProgramIs (λ A program answer. RanOut program answer t u) s r t.number

-- which task has an initiator's number
pub initiator_is : (deck : List JobData) (i m : ℕ) → m < i → task deck i (initiator m) ≡ initiating (spool_setup deck i) deck m
initiator_is deck i m lt =
    rw (
      ne_eqb (initiator m) reader (λ e. omega arith),
      ne_eqb (initiator m) scheduler (λ e. omega arith),
      ne_eqb (initiator m) (writer i) (λ e. omega arith),
    )
    (ap (initiating (spool_setup deck i) deck) (let e : initiator m - 2 ≡ m = omega arith in e))

-- and the writer's
writer_is : (deck : List JobData) (i : ℕ) → task deck i (writer i) ≡ writing (spool_setup deck i) (length deck)
writer_is deck i =
    rw (ne_eqb (writer i) reader (λ e. omega arith), ne_eqb (writer i) scheduler (λ e. omega arith), eq-eqb (writer i) (writer i) refl) refl

module _ (s : SpoolFace) (config : s.board.config ≡ spool_setup s.jobs s.initiators) (t u : CallerFace) where
  -- what the plan says of it
  plan_made : (r : Role) → HasRun s r t u → RanOut (task s.jobs s.initiators t.number) (ends_in r) t u
  plan_made role.Reader made =
      subst (λ k. RanOut (task s.jobs s.initiators k) [] t u) (sym made.0)
      (subst (λ (c : Setup). RanOut (reading c (length s.jobs)) [] t u) config made.1)
  plan_made (role.Scheduler stage) made =
      subst (λ k. RanOut (task s.jobs s.initiators k) [] t u) (sym made.0)
      (subst (λ (c : Setup). RanOut (scheduling c s.initiators s.jobs) [] t u) config made.1)
  plan_made (role.Initiator me stage) made =
      subst (λ k. RanOut (task s.jobs s.initiators k) [] t u) (sym made.0)
      (subst (λ call. RanOut call [] t u) (sym (initiator_is s.jobs s.initiators me.index made.1))
      (forgets (spool_setup s.jobs s.initiators) s.jobs me.index
      (subst (λ (c : Setup). RanOut (initiating_noted c s.jobs me.index) me.noted.jobs t u) config made.2)))
  plan_made (role.Writer ends job) made =
      subst (λ k. RanOut (task s.jobs s.initiators k) ends.items t u) (sym made.0)
      (subst (λ call. RanOut call ends.items t u) (sym (writer_is s.jobs s.initiators))
      (subst (λ (c : Setup). RanOut (writing c (length s.jobs)) ends.items t u) config made.1))

  -- what an initiator of this number noted
  initiator_made : (m : ℕ) → t.number ≡ initiator m → m < s.initiators → (r : Role) → HasRun s r t u
      → RanOut (initiating_noted (spool_setup s.jobs s.initiators) s.jobs m) (noted_in r) t u
  initiator_made m is lt role.Reader made = absurd (let e = made.0 in omega arith)
  initiator_made m is lt (role.Scheduler stage) made = absurd (let e = made.0 in omega arith)
  initiator_made m is lt (role.Initiator me stage) made =
      subst (λ k. RanOut (initiating_noted (spool_setup s.jobs s.initiators) s.jobs k) me.noted.jobs t u)
      (let e : me.index ≡ m = (let own = made.0 in omega arith) in e)
      (subst (λ (c : Setup). RanOut (initiating_noted c s.jobs me.index) me.noted.jobs t u) config made.2)
  initiator_made m is lt (role.Writer ends job) made = absurd (let e = made.0 in omega arith)

-- the role of a task that has worked is that of its number
role_is : (s : SpoolFace) (t u : CallerFace) (r : Role) → HasRun s r t u → IsRole s.initiators t.number r
role_is s t u role.Reader made = made.0
role_is s t u (role.Scheduler stage) made = made.0
role_is s t u (role.Initiator me stage) made = (made.0, made.1)
role_is s t u (role.Writer ends job) made = made.0

-- ---- all tasks

-- a list that is not empty has a first
pub first_of : {A : Type 0} (xs : List A) → 0 < length xs → A
first_of [] some = absurd (omega arith)
first_of (x ∷ xs) some = x

-- what tasks of a spool brought back, that have all worked
module _ (s : SpoolFace) (works : List SpoolWork) (tasks : List CallerFace) (worked : AreWorked s works tasks) where
  -- where none is to be read, the first is
  first_work : SpoolWork
  first_work = first_of works (let size = worked.works in omega arith)

  first_task : CallerFace
  first_task = first_of tasks (let size = worked.tasks in omega arith)

  abbrev work : ℕ → SpoolWork
  work k = get_or works k first_work

  abbrev back : ℕ → CallerFace
  back k = get_or tasks k first_task

  one : (k : ℕ) → k < s.initiators + 3 → IsWorked s k (work k) (back k)
  one k lt = worked.each k first_work first_task lt

  role_at : (k : ℕ) → k < s.initiators + 3 → IsRole s.initiators k (work k).role
  role_at k lt =
      let w = one k lt in
      subst (λ n. IsRole s.initiators n (work k).role) w.fresh.number (role_is s w.before (back k) (work k).role w.worked.1)

  -- the last work is the writer's
  pub works_end : (d : SpoolWork) → IsWriter (get_or works (length works - 1) d).role
  works_end d =
      let size = worked.works in
      let last : length works - 1 ≡ writer s.initiators = omega arith in
      let at = role_at (writer s.initiators) (omega arith) in
      subst (λ (w : SpoolWork). IsWriter w.role)
      (get_or_default works (writer s.initiators) first_work d (omega arith) ∙ ap (λ k. get_or works k d) (sym last))
      (last_writes s.initiators (work (writer s.initiators)).role at)

  module _ (closed : Closed) (some : 1 ≤ s.initiators)
      (sound : deck_is.IsSound s.jobs s.initiators) (config : s.board.config ≡ spool_setup s.jobs s.initiators)
      (legal : Legal s.board.config closed.history.coming) (within : AllByRecursion (IsIn s.board.config closed.history.coming) tasks) where
    abbrev es : List Entry
    es = closed.history.coming

    abbrev setup : Setup
    setup = spool_setup s.jobs s.initiators

    part : (k : ℕ) → k < s.initiators + 3 → IsIn setup es (back k)
    part k lt = subst (λ (c : Setup). IsIn c es (back k)) config
        (one_of (IsIn s.board.config es) tasks k first_task within (let size = worked.tasks in omega arith))

    -- a call of the task of number k: it heard just the events that it made
    module _ {A : Type 0} (call : Call A) (q : Program A) (k : ℕ) (lt : k < s.initiators + 3) (r : Ran call q (one k lt).before (back k))
      where
        heard : heard_in setup k es ≡ r.events
        heard =
            let w = one k lt in
            let u = back k in
            let number : u.number ≡ k = w.worked.0.number ∙ w.fresh.number in
            ap (λ n. heard_in setup n es) (sym number)
            ∙ ap (λ log. noted log (told_to setup u.number es)) (part k lt).logged
            ∙ ap (λ ws. noted u.log ws) (part k lt).told
            ∙ heard_of call q w.before u r w.fresh.log w.fresh.told

        -- it began with nothing kept
        begun : kept_of (one k lt).before.number (one k lt).before.log ≡ nothing_kept k
        begun =
            let w = one k lt in ap (λ log. kept_of w.before.number log) w.fresh.log ∙ ap nothing_kept w.fresh.number

        comes_to : left (call (nothing_kept k)) (heard_in setup k es) ≡ q
        comes_to = ap (λ hs. left (call (nothing_kept k)) hs) heard ∙ ap (λ kept. left (call kept) r.events) (sym begun) ∙ r.leaves

        says_so : Says (call (nothing_kept k)) (heard_in setup k es)
        says_so = subst (λ hs. Says (call (nothing_kept k)) hs) (sym heard) (subst (λ kept. Says (call kept) r.events) begun r.says)

    -- what the plan says of each task
    plan_of : (k : ℕ) (lt : k < s.initiators + 3)
        → RanOut (task s.jobs s.initiators k) (ends_in (work k).role) (one k lt).before (back k)
    plan_of k lt =
        let w = one k lt in
        subst (λ n. RanOut (task s.jobs s.initiators n) (ends_in (work k).role) w.before (back k)) w.fresh.number
        (plan_made s config w.before (back k) (work k).role w.worked.1)

    follows : Follows s.jobs s.initiators es
    follows =
        let own = subst (λ (c : Setup). Legal c es) config legal in record {
          legal = own;
          callers = callers_exist setup (opening setup) es own;
          says = λ k lt. says_so (task s.jobs s.initiators k) (plan_of k lt).last k lt (plan_of k lt).ran;
          waits = λ k lt early.
              subst (IsOver (ends_in (work k).role))
              (sym (comes_to (task s.jobs s.initiators k) (plan_of k lt).last k lt (plan_of k lt).ran) ∙ early)
              (plan_of k lt).over;
        }

    -- since no task goes wrong, all are done
    done_at : (k : ℕ) → k < s.initiators + 3 → left_in setup (task_program s.jobs s.initiators) k es ≡ Done (ends_in (work k).role)
    done_at k lt =
        let comes = comes_to (task s.jobs s.initiators k) (plan_of k lt).last k lt (plan_of k lt).ran in
        comes ∙ is_done (ends_in (work k).role) (plan_of k lt).last (plan_of k lt).over
        (λ wrong. none_wrong s.jobs s.initiators some (planned s.jobs s.initiators sound) es follows k lt (comes ∙ wrong))

    -- an initiator's part of the history says what it noted
    records_said : (m : ℕ) → m < s.initiators → left (initiating_noted setup s.jobs m (nothing_kept (initiator m)))
        (heard_in setup (initiator m) es) ≡ Done (noted_in (work (initiator m)).role)
    records_said m low =
        let k = initiator m in
        let lt : k < s.initiators + 3 = omega arith in
        let w = one k lt in
        let hs = heard_in setup k es in
        let kept = nothing_kept k in
        let ends = ends_in (work k).role in
        let r = initiator_made s config w.before (back k) m w.fresh.number low (work k).role w.worked.1 in
        let comes = comes_to (initiating_noted setup s.jobs m) r.last k lt r.ran in
        let plan = subst (λ call. left (call kept) hs ≡ Done ends) (initiator_is s.jobs s.initiators m low) (done_at k lt) in
        let noted = done_noted setup s.jobs m kept hs ends plan in
        noted.1 ∙ ap (λ rs. Done rs) (subst (IsOver (noted_in (work k).role)) (sym comes ∙ noted.1) r.over)

    -- so the history is a run, and what the tasks brought back is what their parts of it say
    pub are_results : (results : RunResults) → results.closed ≡ closed → closed.history.config ≡ s.board.config
        → closed.history.past ≡ [] → length es ≤ events_limit → AreHeld s.board.config (after s.board.config es) closed.volumes
        → map (λ r. r.jobs) results.records.items ≡ records (take (length works - 1) works)
        → ((d : SpoolWork) → results.ends.items ≡ ends_in (get_or works (length works - 1) d).role)
        → AreResults s.jobs s.initiators results
    are_results results same own whole few held noted ends =
        let size = worked.works in
        let front : List SpoolWork = take (length works - 1) works in
        let count : length front ≡ s.initiators + 2 = length-take-le (length works - 1) works (omega arith) ∙ (let e : length works - 1
        ≡ s.initiators + 2 = omega arith in e) in
        let all = noted ∙ records_front s.initiators front count (λ k d lt.
        subst (λ (w : SpoolWork). IsRole s.initiators k w.role)
        (get_or_default works k first_work d (omega arith) ∙ sym (get_or-take (length works - 1) works k d (omega arith)))
        (role_at k (omega arith))) in
        rw same (record {
          config = own ∙ config;
          whole = whole;
          few = few;
          of_run = record {
            run = record { follow = follows; done = λ k lt. (ends_in (work k).role, done_at k lt) };
            volumes = subst (λ (c : Setup). AreHeld c (after c es) closed.volumes) config held;
            records = record {
              count = ap (λ (rs : List (List JobRecord)). length rs) all
                  ∙ length-drop 2 (map (λ (w : SpoolWork). noted_in w.role) front)
                  ∙ ap (λ n. n - 2) (length-map front (λ (w : SpoolWork). noted_in w.role))
                  ∙ (let e : length front - 2 ≡ s.initiators = omega arith in e);
              each = λ m lt. records_said m lt ∙ ap (λ (rs : List JobRecord). Done rs)
                  (sym (ap (λ (rs : List (List JobRecord)). get_or rs m []) all
                  ∙ get_or-drop 2 (map (λ (w : SpoolWork). noted_in w.role) front) m []
                  ∙ get_or-map (λ (w : SpoolWork). noted_in w.role) front (2 + m) first_work [] (omega arith)
                  ∙ ap (λ (w : SpoolWork). noted_in w.role) (get_or-take (length works - 1) works (2 + m) first_work (omega arith))
                  ∙ ap (λ k. noted_in (get_or works k first_work).role) (let e : 2 + m ≡ initiator m = omega arith in e)));
            };
            ends = done_at (writer s.initiators) (omega arith) ∙ ap (λ (es : List ℕ). Done es)
                (sym (ends first_work ∙ ap (λ k. ends_in (get_or works k first_work).role)
                (let e : length works - 1 ≡ writer s.initiators = omega arith in e)));
          };
        })
