-- Waits between two polls.
use Rattle.std.proofs.Common.{◌≡◌, ℕ, ◌*◌, [], ◌++◌, List, length, Some, Result, Ok, Err, refl, sym, ◌∙◌, subst, arith}
use Rattle.mv_config.specs.Setup.{Setup}
use Rattle.mv_board.specs.declared.view.Sight.{Sight}
use Rattle.mv_board.specs.Faces.{CallerFace}
use Rattle.mv_calls.specs.Keeping.{kept_of}
use Rattle.mv_calls.specs.Program.{Wrong}
use Rattle.mv_calls.specs.Rest.{IsAtRest}
use Rattle.mv_calls.specs.Waits.{wait, arm_all, wait_refusal}
use Rattle.mv_calls.specs.declared.outcomes.WaitSlot.{WaitSlot}
use Rattle.mv_wait.specs.Answers.{wait_refused}
use Rattle.mv_wait.specs.Run.{Went, IsServed}
use Rattle.mv_wait.specs.Waiting.{IsArmed, IsArmedFor, AreOwn, SettlesEnough}
use Rattle.mv_wait.specs.declared.waiting.WaitRefusal.{WaitRefusal}
use Rattle.mv_wait.proofs.Parts.{plain_still}
use Rattle.mv_wait.proofs.Runs.{went_log, went_none, runs_look}
use Rattle.mv_wait.proofs.Unrefusing.{wait_served, wait_is_refused}
use Rattle.mv_polled.specs.declared.turn.Stage.TheVariants.{New, Over}
use Rattle.mv_polled.specs.declared.turn.Turn.{Turn}
use Rattle.mv_polled.specs.declared.turn.Turn.TheVariants.{Ready, Pending}
use Rattle.mv_polled.specs.Turn.{AtStage, MatchTurn}
use Rattle.mv_polled.specs.Waiting.{WaitFace, new_wait, IsWaiting, IsWaitAt, IsWaited, IsLeftWaiting, MayWait}
use Rattle.mv_polled.proofs.Arms.{arms_listed}
use Rattle.mv_polled.proofs.Looks.{open_since, met_since}
use Rattle.mv_polled.proofs.Stages.{at_new}

-- a wait whose blocks were armed goes on
pub waiting_begun : (c : Setup) (count : ℕ) (es : List ℕ) (t u : CallerFace) → MayWait c es t → IsArmed c count es t u
    → IsWaiting c count es t u
waiting_begun c count es t u may a =
    let run = a.arms Wrong in
    let few = run.few in
    let spent = run.went.left in
    let much = may.left in record {
      may = may;
      accepted = a.accepted;
      runs = a.arms;
      arms = arms_listed es t u a.arms;
      waits = a.waits;
      own = a.own;
      plain = a.plain;
      distinct = a.distinct;
      left = omega arith;
    }

-- what is met and seen ready makes no difference
pub waiting_look : (c : Setup) (count : ℕ) (es : List ℕ) (t0 t u : CallerFace) → IsWaiting c count es t0 t → Went [] t u
    → IsWaiting c count es t0 u
waiting_look c count es t0 t u w looks =
    let log = went_log t u looks in
    let left = w.left in
    let same = looks.left in record {
      may = w.may;
      accepted = w.accepted;
      runs = λ p. runs_look (length es) (arm_all es p) p t0 t u (w.runs p) looks;
      arms = record { entries = w.arms.entries; logged = log ∙ w.arms.logged; arms = w.arms.arms };
      waits = subst (IsArmedFor es) (sym log) w.waits;
      own = subst (λ k. AreOwn c k es) (sym looks.same.number) w.own;
      plain = plain_still t u es looks.same.number log w.plain;
      distinct = w.distinct;
      left = omega arith;
    }

-- one whose blocks were settled was made
pub waiting_ends : (c : Setup) (count : ℕ) (es : List ℕ) (slots : List WaitSlot) (t0 t u : CallerFace) → IsWaiting c count es t0 t
    → SettlesEnough count es slots t u → IsAtRest u.log
    → IsServed (2 * length es) (wait c count es) (λ a. a ≡ Ok slots) t0 u
waiting_ends c count es slots t0 t u w settles rest =
    wait_served c count es slots t0 t t u w.accepted w.may.rest w.runs (went_none t) settles rest

-- ---- its first poll

-- one that is accepted
pub wait_begins : (c : Setup) (w x : WaitFace) (es : List ℕ) (t0 t u : CallerFace) → IsWaitAt c w t0 t → w.stage ≡ New → x ≡ w
    → es ≡ x.ecbs → IsArmed c x.count es t u → IsWaiting c x.count x.ecbs t0 u
wait_begins c w x es t0 t u at new same here armed =
    let first = at_new w.stage ((t ≡ t0) × MayWait c w.ecbs t0) (IsWaiting c w.count w.ecbs t0 t) new at in
    let may = subst (λ (d : CallerFace). MayWait c w.ecbs d) (sym first.0) first.1 in
    subst (λ (d : CallerFace). IsWaiting c x.count x.ecbs d u) first.0
    (waiting_begun c x.count x.ecbs t u (subst (λ (f : WaitFace). MayWait c f.ecbs t) (sym same) may)
    (subst (λ ys. IsArmed c x.count ys t u) here armed))

-- a first poll that is refused
pub refused_at_once : (c : Setup) (w f : WaitFace) (why : WaitRefusal) (t0 t u : CallerFace) → IsWaitAt c w t0 t → w.stage ≡ New
    → f ≡ record { room = w.room; count = w.count; ecbs = w.ecbs; stage = Over; keys = []; slots = []; wakers = w.wakers }
    → wait_refusal c w.count w.ecbs (kept_of t.number t.log) ≡ Some (wait_refused why) → u ≡ t → IsWaited c f (Err why) t0 u
refused_at_once c w f why t0 t u at new is refusal same =
    let first = at_new w.stage ((t ≡ t0) × MayWait c w.ecbs t0) (IsWaiting c w.count w.ecbs t0 t) new at in
    let refuses = subst (λ (d : CallerFace). wait_refusal c w.count w.ecbs (kept_of d.number d.log) ≡ Some (wait_refused why)) first.0
    refusal in
    subst (λ (x : WaitFace). IsWaited c x (Err why) t0 u) (sym is)
    (record {
      served = subst (λ (d : CallerFace). IsServed (2 * length w.ecbs) (wait c w.count w.ecbs) (λ a. a ≡ Err (wait_refused why)) t0 d)
          (sym (same ∙ first.0)) (wait_is_refused c w.count w.ecbs (wait_refused why) t0 refuses first.1.rest);
      causes = (refuses, same ∙ first.0, refl);
      stage = refl;
      keys = refl;
    })

-- one that was not over by a later look in the same poll
pub left_since : (c : Setup) (w : WaitFace) (more : List Sight) (t0 t u v : CallerFace) → u.met ≡ t.met ++ more
    → IsLeftWaiting c w t0 u v → IsLeftWaiting c w t0 t v
left_since c w more t0 t u v m l = record {
  waiting = l.waiting;
  few = l.few;
  found = open_since w.ecbs more t u v m l.found;
  met = met_since more t u v m l.met;
  stage = l.stage;
  keys = l.keys;
  slots = l.slots;
}

pub turn_since : (c : Setup) (w : WaitFace) (more : List Sight) (t0 t u v : CallerFace) (r : Turn (Result (Unit {0}) WaitRefusal))
    → u.met ≡ t.met ++ more → MatchTurn r (λ a. IsWaited c w a t0 v) (IsLeftWaiting c w t0 u v)
    → MatchTurn r (λ a. IsWaited c w a t0 v) (IsLeftWaiting c w t0 t v)
turn_since c w more t0 t u v (Ready a) m is = is
turn_since c w more t0 t u v Pending m is = left_since c w more t0 t u v m is

-- ---- for those who poll

-- one that was left waiting may be polled again
pub wait_goes_on : (c : Setup) (w : WaitFace) (t0 t u : CallerFace) → IsLeftWaiting c w t0 t u → IsWaitAt c w t0 u
wait_goes_on c w t0 t u l = subst (λ s. AtStage s ((u ≡ t0) × MayWait c w.ecbs t0) (IsWaiting c w.count w.ecbs t0 u))
    (sym l.stage) l.waiting

-- a new wait may be polled by a task that meets what it asks
pub wait_may_begin : (c : Setup) (w : WaitFace) (room count : ℕ) (es : List ℕ) (t : CallerFace) → w ≡ new_wait room count es
    → MayWait c es t
    → (t0 : CallerFace) × IsWaitAt c w t0 t
wait_may_begin c w room count es t is may = (t, subst (λ (f : WaitFace). IsWaitAt c f t t) (sym is) (refl, may))
