-- One call of a script, by what its service did.
use Rattle.std.proofs.Common.{◌≡◌, ℕ, zero, suc, ◌-◌, false, List, [], ◌∷◌, ◌++◌, get_or, Option, Some, None}
use Rattle.std.proofs.Common.{refl, sym, ap, ◌∙◌, subst, arith}
use Rattle.std.specs.Prelude.{slice_get, option_map, option_and_then, unwrap_or, is_none}
use Rattle.mv_board.specs.Faces.{BoardFace, CallerFace, Missed}
use Rattle.mv_board.specs.declared.caller.Moved.{Moved}
use Rattle.mv_calls.specs.Keeping.{kept_of}
use Rattle.mv_calls.specs.Program.{followed, finished}
use Rattle.mv_calls.specs.Program as program
use Rattle.mv_calls.specs.Rest.{IsAtRest}
use Rattle.mv_calls.specs.Services.{Service, most_events}
use Rattle.mv_calls.specs.Services as service
use Rattle.mv_latchset.specs.declared.token.LatchToken.{LatchToken}
use Rattle.mv_machine.specs.declared.entry.Object.{Object}
use Rattle.mv_config.specs.Setup.{Setup}
use Rattle.mv_calls.specs.declared.table.Table.{Table}
use Rattle.mv_wait.specs.Run.{IsServed, MayCall}
use Rattle.mv_wait.proofs.Runs.{runs_none, runs_within, runs_look, went_look, serves}
use Rattle.mv_script.specs.declared.answer.Answer.{Answer}
use Rattle.mv_script.specs.declared.answer.Answer.TheVariants as answer
use Rattle.mv_scriptline.specs.declared.call.Call.{Call}
use Rattle.mv_script.specs.Answered.{answer_to}
use Rattle.mv_script.specs.Costs.{Asked, service_of, cost}
use Rattle.mv_script.specs.Fault.{obtain_meant}
use Rattle.mv_script.specs.Run.{try_target, word_in}
use Rattle.mv_script.specs.Script.{is_obtain}
use Rattle.mv_script.specs.Tasks.{Past, request_of, lacks_request, requests_with, served, named_table, made}
use Rattle.mv_script.proofs.Suffices.{suffices}
use Rattle.mv_runscript.specs.Making.{asked_by, requests_of, past_with, HasMet, MakesCall}
use Rattle.mv_runscript.specs.Served.{MakesService}
use Rattle.mv_runscript.proofs.Answers.{no_word, keeps_requests}
use Rattle.mv_runscript.proofs.Served.{served_so, served_none, served_then}

-- the task may begin a call of what the call costs, once it is known which call that is
pub may_paid : (b : BoardFace) {d e : Call} {t : CallerFace} → d ≡ e → MayCall b (cost b.config d) t → MayCall b (cost b.config e) t
may_paid b {d} {e} {t} is may = subst (λ d. MayCall b (cost b.config d) t) is may

-- ---- a call that is its service's

-- the service that a call asks for, where the task's OBTAINs got these requests
abbrev pub asks : Option Table → Call → List (Option LatchToken) → Service
asks table d tokens = service_of (named_table table) (request_of (requests_of tokens)) d

-- where it lacks no request
unmoved : (c : Setup) (table : Option Table) (past : Past) (d : Call) → lacks_request past.requests (obtain_meant d) ≡ false
    → made c (named_table table) None past d ≡ followed (service.program c (service_of (named_table table) (request_of past.requests) d))
    (λ a. finished (served past (service_of (named_table table) (request_of past.requests) d) a))
unmoved c table past d has = rw has refl

-- its service answered so, and left these requests
makes : {c : Setup} {table : Option Table} {d : Call} {reply : Answer} {old new : List (Option LatchToken)} {t u : CallerFace}
    {Is : service.Answer (asks table d old) → Type 0}
    → lacks_request (requests_of old) (obtain_meant d) ≡ false
    → (x : IsServed (most_events c (kept_of t.number t.log) (asks table d old)) (service.program c (asks table d old)) Is t u)
    → answer_to (asks table d old) x.answer ≡ reply
    → requests_with (requests_of old) (asks table d old) x.answer ≡ requests_of new → MakesCall c table d reply old new t u
makes {c} {table} {d} {reply} {old} {new} {t} {u} {Is} has x is more = record {
  served = λ answers. subst (λ m. IsServed (cost c d) (made c (named_table table) m (past_with answers old) d)
      (λ past. past ≡ past_with (answers ++ reply ∷ []) new) t u) (sym none)
      (subst (λ call. IsServed (cost c d) call (λ past. past ≡ past_with (answers ++ reply ∷ []) new) t u)
      (sym (unmoved c table (past_with answers old) d has))
      (served_so (most_events c (kept_of t.number t.log) (asks table d old)) (cost c d)
      (followed (service.program c (asks table d old)) (λ a. finished (served (past_with answers old) (asks table d old) a)))
      (λ past. past ≡ past_with (answers ++ reply ∷ []) new) (λ past. past ≡ past_with (answers ++ reply ∷ []) new) t u
      (suffices c (kept_of t.number t.log) (named_table table) (request_of (requests_of old)) d) (λ past same. same)
      (served_then (most_events c (kept_of t.number t.log) (asks table d old)) (service.program c (asks table d old))
      (served (past_with answers old) (asks table d old)) Is
      (λ past. past ≡ past_with (answers ++ reply ∷ []) new) t u x (behind answers))));
  met = λ w shown. absurd (cc (sym none ∙ shown));
} where
  none : word_in reply ≡ None
  none = ap word_in (sym is) ∙ no_word (asks table d old) x.answer

  behind : (answers : List Answer) → served (past_with answers old) (asks table d old) x.answer ≡ past_with (answers ++ reply ∷ []) new
  behind answers =
      ap (λ b. record { answers = answers ++ b ∷ []; requests = requests_with (requests_of old) (asks table d old) x.answer }) is
      ∙ ap (λ rs. record { answers = answers ++ reply ∷ []; requests = rs }) more

-- with an answer that is known
pub known_makes : {c : Setup} {table : Option Table} {d : Call} {reply : Answer} {old new : List (Option LatchToken)} {t u : CallerFace}
    {a : service.Answer (asks table d old)}
    → lacks_request (requests_of old) (obtain_meant d) ≡ false → reply ≡ answer_to (asks table d old) a
    → IsServed (most_events c (kept_of t.number t.log) (asks table d old)) (service.program c (asks table d old)) (λ b. b ≡ a) t u
    → requests_with (requests_of old) (asks table d old) a ≡ requests_of new → MakesCall c table d reply old new t u
known_makes {c} {table} {d} {reply} {old} {new} {t} {u} {a} has is x more =
    makes has x (ap (answer_to (asks table d old)) x.is ∙ sym is) (ap (requests_with (requests_of old) (asks table d old)) x.is ∙ more)

-- a call that is no OBTAIN and lacks none
keeps : {c : Setup} {table : Option Table} {d : Call} {reply : Answer} {tokens : List (Option LatchToken)} {t u : CallerFace}
    → lacks_request (requests_of tokens) (obtain_meant d) ≡ false → is_obtain d ≡ false → MakesService c (asks table d tokens) reply t u
    → MakesCall c table d reply tokens tokens t u
keeps {c} {table} {d} {reply} {tokens} {t} {u} has other x =
    makes has x x.is (keeps_requests (named_table table) (requests_of tokens) (request_of (requests_of tokens)) d x.answer other)

-- a call that is no OBTAIN and means none
pub plain_makes : {c : Setup} {table : Option Table} {e : Call} (d : Call) {reply : Answer} {tokens : List (Option LatchToken)}
    {t u : CallerFace} → e ≡ d → is_obtain d ≡ false → obtain_meant d ≡ None → MakesService c (asks table d tokens) reply t u → MakesCall c
    table e reply tokens tokens t u
plain_makes {c} {table} {e} d {reply} {tokens} {t} {u} same other none x =
    subst (λ d. MakesCall c table d reply tokens tokens t u) (sym same) (keeps (ap (lacks_request (requests_of tokens)) none) other x)

-- ---- a call that means an OBTAIN

request_is : (tokens : List (Option LatchToken)) (n : ℕ)
    → option_and_then (λ r. r) (slice_get (requests_of tokens) n) ≡ option_map asked_by (get_or tokens n None)
request_is [] n = refl
request_is (token ∷ tokens) zero = refl
request_is (token ∷ tokens) (suc n) = request_is tokens n

module _ (c : Setup) (table : Option Table) (d : Call) (k : ℕ) (tokens : List (Option LatchToken)) (t : CallerFace)
    (means : obtain_meant d ≡ Some k) where
  -- what it is found to have got
  lacks_as : (got : Option LatchToken) → get_or tokens (k - 1) None ≡ got
      → lacks_request (requests_of tokens) (obtain_meant d) ≡ is_none (option_map asked_by got)
  lacks_as got is =
      ap (lacks_request (requests_of tokens)) means
      ∙ ap (λ o. is_none o) (request_is tokens (k - 1) ∙ ap (λ o. option_map asked_by o) is)

  -- which got this request, of which a service is asked
  pub held_makes : (of : Asked → Service) (token : LatchToken) (reply : Answer) (u : CallerFace)
      → asks table d tokens ≡ of (request_of (requests_of tokens) k) → get_or tokens (k - 1) None ≡ Some token → is_obtain d ≡ false
      → MakesService c (of (asked_by token)) reply t u → MakesCall c table d reply tokens tokens t u
  held_makes of token reply u asked is other x =
      keeps (lacks_as (Some token) is) other (subst (λ s. MakesService c s reply t u) (ap of (sym held) ∙ sym asked) x) where
        held : request_of (requests_of tokens) k ≡ asked_by token
        held = ap (λ o. unwrap_or o (record { latch = 0; id = 0 }))
            (request_is tokens (k - 1) ∙ ap (λ o. option_map asked_by o) is)

  -- which got none
  pub unheld_makes : get_or tokens (k - 1) None ≡ None → IsAtRest t.log → MakesCall c table d answer.NoToken tokens tokens t t
  unheld_makes is quiet = record {
    served = λ answers. served_so 0 (cost c d) (made c (named_table table) None (past_with answers tokens) d)
        (λ past. past ≡ past_with (answers ++ answer.NoToken ∷ []) tokens)
        (λ past. past ≡ past_with (answers ++ answer.NoToken ∷ []) tokens)
        t t (omega arith) (λ past same. same)
        (served_none (made c (named_table table) None (past_with answers tokens) d) (past_with (answers ++ answer.NoToken ∷ []) tokens)
        (λ past. past ≡ past_with (answers ++ answer.NoToken ∷ []) tokens) t (ends answers) refl quiet);
    met = λ w is. absurd (cc is);
  } where
    ends : (answers : List Answer) → made c (named_table table) None (past_with answers tokens) d (kept_of t.number t.log)
        ≡ program.Done (past_with (answers ++ answer.NoToken ∷ []) tokens)
    ends answers = rw (lacks_as None is) refl

-- ---- a try that met another word

pub missed_makes : {c : Setup} {table : Option Table} {d : Call} {o : Object} {expected : ℕ} {moved : Moved}
    {tokens : List (Option LatchToken)} {t u : CallerFace}
    → try_target d ≡ Some (o, expected) → IsAtRest t.log → Missed t o expected moved u
    → MakesCall c table d (answer.Moved moved.0) tokens tokens t u
missed_makes {c} {table} {d} {o} {expected} {moved} {tokens} {t} {u} tries quiet missed = record {
  served = λ answers. serves (cost c d) (made c (named_table table) (Some moved.0) (past_with answers tokens) d)
      (λ past. past ≡ past_with (answers ++ answer.Moved moved.0 ∷ []) tokens) t u
      (past_with (answers ++ answer.Moved moved.0 ∷ []) tokens) quiet refl
      (runs_within 0 (cost c d) (program.Done (past_with (answers ++ answer.Moved moved.0 ∷ []) tokens))
      (program.Done (past_with (answers ++ answer.Moved moved.0 ∷ []) tokens)) t u (omega arith)
      (runs_look 0 (program.Done (past_with (answers ++ answer.Moved moved.0 ∷ []) tokens))
      (program.Done (past_with (answers ++ answer.Moved moved.0 ∷ []) tokens)) t t u
      (runs_none (program.Done (past_with (answers ++ answer.Moved moved.0 ∷ []) tokens)) t) (went_look t o moved.0 u missed.found)))
      (subst IsAtRest (sym missed.found.log) quiet);
  met = λ w is. subst (λ w. HasMet d w t u) (let e : moved.0 ≡ w = cc is in e)
      (record { object = o; expected = expected; tries = tries; other = missed.other; met = missed.found.met });
}
