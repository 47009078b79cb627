-- A task that comes to its next wait. Used by all that ask for something, and by begin and go_on.
use Rattle.std.proofs.Common.{◌≡◌, ℕ, ◌+◌, ◌≤◌, Result, Ok, Err, ap, ◌∙◌, subst, arith}
use Rattle.mv_board.specs.Faces.{BoardFace, CallerFace}
use Rattle.mv_calls.specs.Keeping.{kept_of}
use Rattle.mv_calls.specs.Program.{Call, Done, Wrong, followed, wrong}
use Rattle.mv_calls.specs.Rest.{IsAtRest}
use Rattle.mv_config.specs.Setup.{Setup}
use Rattle.mv_wait.proofs.Runs.{same_then}
use Rattle.mv_wait.specs.Run.{IsServed, MayCall}
use Rattle.mv_work.specs.declared.lost.Lost.{Lost}
use Rattle.mv_work.specs.declared.need.Got.{Got}
use Rattle.mv_work.specs.declared.need.Need.{Need}
use Rattle.mv_work.specs.declared.next.Next.{Next}
use Rattle.mv_work.specs.declared.next.Next.TheVariants as next
use Rattle.mv_work.specs.Needs.{answer_of, need_call, need_events}
use Rattle.mv_work.specs.Ran.{Ran, Leads}
use Rattle.mv_work.specs.Waiting.{Asks, AsksFor, Comes, ComesTo, Stages, Told, Waits}
use Rattle.mv_work.proofs.Runs.{astray, leads_all, leads_on, leads_same, leads_then, ran_nothing}
use Rattle.mv_work.proofs.Runs.{served_few, served_ran, still_of}

-- a task at rest, with fewer events that it needs
pub rests_less : {b : BoardFace} {most less : ℕ} {u : CallerFace} → MayCall b most u → less ≤ most → MayCall b less u
rests_less r le = record { board = r.board; rest = r.rest; left = (let left = r.left in omega arith) }

-- a call was run, of so many events
pub rests_ran : {A : Type 0} {call : Call A} {a : A} {b : BoardFace} {most less : ℕ} {u v : CallerFace} (n : ℕ) → Ran call (Done a) u v
    → u.left ≤ v.left + n → MayCall b most u → less + n ≤ most → MayCall b less v
rests_ran {b = b} n x few r le = record {
  board = still_of b r.board x.went.same;
  rest = x.quiet;
  left = (let left = r.left in omega arith);
}

-- a call was served
pub rests_then : {A : Type 0} {n : ℕ} {call : Call A} {Is : A → Type 0} {b : BoardFace} {most less : ℕ} {u v : CallerFace}
    → IsServed n call Is u v → MayCall b most u → less + n ≤ most → MayCall b less v
rests_then {n = n} s r le = rests_ran n (served_ran s) (served_few s) r le

-- what is left to do, by another name
pub leads_as : {A : Type 0} {whole later : Call A} (u : CallerFace) → whole ≡ later → Leads whole later u u
leads_as {A} {whole} {later} u is = subst (λ call. Leads whole call u u) is (leads_all whole u)

module _ {S A : Type 0} {b : BoardFace} {stages : Stages S A} {Fits : S → Need → Type 0} {a : A} where
  -- what is left to do, asked for, is what the task comes to
  pub asks_come : {later whole : Call A} {t u : CallerFace} {most : ℕ} {came : Next S}
      → Asks b.config stages Fits a later most came → Leads whole later t u → MayCall b most u
      → Comes b stages Fits a whole t (Ok came) u
  asks_come {later} {whole} {t} {u} {most} {came} asks leads rests = record { come = go came asks.asks } where
    go : (came : Next S) → AsksFor b.config stages Fits a later most came → ComesTo b stages Fits a whole t (Ok came) u
    go (next.Wait s n) asks = record {
      same = leads_same leads rests.rest;
      task = rests_less rests asks.2;
      fits = asks.1;
      leads = subst (λ r. Leads whole r t u) asks.0 leads;
    }
    go next.Done asks = leads (Done a) u (ran_nothing later (asks (kept_of u.number u.log)) rests.rest)

  -- with nothing done before
  pub asks_first : {later : Call A} {u : CallerFace} {most : ℕ} {came : Next S} → Asks b.config stages Fits a later most came
      → MayCall b most u → Comes b stages Fits a later u (Ok came) u
  asks_first {later} {u} asks rests = asks_come asks (leads_all later u) rests

  -- what was left to do has come to its next wait: so has the whole
  pub comes_on : {later whole : Call A} {t u v : CallerFace} {came : Result (Next S) Lost} → Leads whole later t u
      → Comes b stages Fits a later u came v → Comes b stages Fits a whole t came v
  comes_on {later} {whole} {t} {u} {v} {came} leads w = record { come = go came w.come } where
    go : (came : Result (Next S) Lost) → ComesTo b stages Fits a later u came v → ComesTo b stages Fits a whole t came v
    go (Ok (next.Wait s n)) w =
        let all : Leads whole (followed (need_call b.config n) (stages.then s)) t v = leads_then leads w.leads in
        record { same = leads_same all w.task.rest; task = w.task; fits = w.fits; leads = all }
    go (Ok next.Done) w = leads (Done a) v w
    go (Err lost) w = leads Wrong v w

  -- what is left to do, by another name
  pub comes_as : {later whole : Call A} {u v : CallerFace} {came : Result (Next S) Lost} → whole ≡ later
      → Comes b stages Fits a later u came v → Comes b stages Fits a whole u came v
  comes_as {later} {whole} {u} is w = comes_on (leads_as u is) w

  -- a call of it went astray
  pub comes_astray : {whole : Call A} {u v : CallerFace} {lost : Lost} → Ran whole Wrong u v
      → Comes b stages Fits a whole u (Err lost) v
  comes_astray x = record { come = x }

  -- it is foreseen nowhere
  pub comes_nowhere : {whole : Call A} {lost : Lost} (u : CallerFace) → whole ≡ wrong → IsAtRest u.log
      → Comes b stages Fits a whole u (Err lost) u
  comes_nowhere {whole} u is quiet = comes_astray (astray (leads_all whole u) is quiet)

-- what is asked for, by another name, and by no more events
pub asks_as : {S A : Type 0} {c : Setup} {stages : Stages S A} {Fits : S → Need → Type 0} {a : A} {later whole : Call A} {less most : ℕ}
    {came : Next S} → whole ≡ later → less ≤ most → Asks c stages Fits a later less came → Asks c stages Fits a whole most came
asks_as {S} {A} {c} {stages} {Fits} {a} {later} {whole} {less} {most} {came} is le asks = record { asks = go came asks.asks } where
  go : (came : Next S) → AsksFor c stages Fits a later less came → AsksFor c stages Fits a whole most came
  go (next.Wait s n) asks = (is ∙ asks.0, asks.1, (let few = asks.2 in omega arith))
  go next.Done asks = λ kept. ap (λ call. call kept) is ∙ asks kept

-- the task was told an answer
pub told_answer : {S A : Type 0} {b : BoardFace} {stages : Stages S A} {Fits : S → Need → Type 0} {Answers : S → Got → Type 0}
    {whole : Call A} {t u v : CallerFace} {s : S} {n : Need} (g : Got) → (Fits s n → Answers s g)
    → Waits b stages Fits whole t s n u → Ran (need_call b.config n) (Done (answer_of g)) u v → u.left ≤ v.left + need_events n
    → Told b stages Answers whole t s g v
told_answer {stages = stages} {t = t} {u = u} {v = v} {s = s} {n = n} g is w x few = record {
  same = same_then t u v w.same x.went.same;
  task = rests_ran (need_events n) x few w.task (omega arith);
  answers = is w.fits;
  leads = leads_on (stages.then s) w.leads x;
}
