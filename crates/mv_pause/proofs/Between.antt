-- A pause that goes on, between its two events.
use Rattle.std.proofs.Common.{◌≡◌, ℕ, ◌+◌, ◌<◌, ◌≤◌, true, false, [], Some, Result, Ok, refl, sym, ap, ◌∙◌, subst, arith}
use Rattle.std.proofs.lemmas.Bool.{false≢true}
use Rattle.mv_element.specs.declared.element.Token.{Token}
use Rattle.mv_element.specs.declared.operation.ElementOp.TheVariants.{Pause, Resume}
use Rattle.mv_element.specs.declared.operation.ElementReply.TheVariants as element_reply
use Rattle.mv_machine.specs.declared.entry.Object.TheVariants.{Element}
use Rattle.mv_machine.specs.declared.entry.Op.TheVariants as op_on
use Rattle.mv_machine.specs.declared.entry.Reply.{Reply}
use Rattle.mv_machine.specs.declared.entry.Reply.TheVariants as reply_of
use Rattle.mv_machine.specs.Parked.{parked}
use Rattle.mv_machine.specs.Parts.{IsPossible}
use Rattle.mv_machine.specs.Replies.{NamesUpTo}
use Rattle.mv_config.specs.Setup.{Setup, element_owner}
use Rattle.mv_board.specs.Faces.{CallerFace, Happened, IsSame, is_given}
use Rattle.mv_calls.specs.Keeping.{kept_of}
use Rattle.mv_calls.specs.Pauses.{gift_of, paused, resumed, is_others_token}
use Rattle.mv_calls.specs.Program.{Done}
use Rattle.mv_calls.specs.Rest.{no_waits, waits_from, waits_after}
use Rattle.mv_wait.specs.Begun.{MatchBegun}
use Rattle.mv_wait.specs.Run.{Went, Runs}
use Rattle.mv_wait.specs.declared.begun.Begun.{Begun}
use Rattle.mv_wait.specs.declared.begun.Begun.TheVariants.{Over, Waits}
use Rattle.mv_wait.proofs.Runs.{same_then, went_log, went_none, went_then, runs_then}
use Rattle.mv_wait.proofs.Steps.{element_runs, looked_runs, waits_one}
use Rattle.mv_pause.specs.Pausing.{pause_own, resume_own, IsPausedOwn, IsPauseMade, IsPausing, MayPause}
use Rattle.mv_pause.specs.Replies.{HappenedOn, SaysGiven}
use Rattle.mv_calls.specs.declared.outcomes.Given.{Given}
use Rattle.mv_pause.specs.declared.pausing.PauseRefusal.{PauseRefusal}
use Rattle.mv_pause.proofs.Answering.{resume_gives, gives_next}
use Rattle.mv_pause.proofs.Gifts.{was_given, given_is_so, made_own}
use Rattle.mv_pause.proofs.Served.{own_is, rests_by, none_resumed, is_parked}

-- it is the same task
pub pausing_same : (c : Setup) (token : Token) (t0 t : CallerFace) → IsPausing c token t0 t → IsSame t0 t
pausing_same c token t0 t p = same_then t0 p.parked t p.event.1.same p.since.same

-- the element is its own
pub pausing_own : (c : Setup) (token : Token) (t0 t : CallerFace) → IsPausing c token t0 t → element_owner c token.element ≡ t.number
pausing_own c token t0 t p = own_is c t0.number t0.log token p.own ∙ sym (pausing_same c token t0 t p).number

-- its last pause was answered Parked
pub pausing_parked : (c : Setup) (token : Token) (t0 t : CallerFace) → IsPausing c token t0 t
    → parked token.element t.log ≡ Some token.generation
pausing_parked c token t0 t p =
    ap (parked token.element) (went_log p.parked t p.since) ∙ is_parked t0 p.parked token.element token.generation p.event

-- an event is left
pub pausing_left : (c : Setup) (token : Token) (t0 t : CallerFace) → IsPausing c token t0 t → 0 < t.left
pausing_left c token t0 t p =
    let much = p.may.left in
    let first = p.event.1.left in
    let since = p.since.left in omega arith

-- looks make no difference
pub pausing_look : (c : Setup) (token : Token) (t0 t u : CallerFace) → IsPausing c token t0 t → Went [] t u → IsPausing c token t0 u
pausing_look c token t0 t u p looks =
    record { may = p.may; own = p.own; parked = p.parked; event = p.event; since = went_then [] [] p.parked t u p.since looks }

-- a reply that gives says what is given
pub says_given : (r : Reply) → is_given r ≡ true → SaysGiven r
says_given (reply_of.Element (element_reply.Given code next)) e = tt
says_given (reply_of.Element element_reply.Parked) e = absurd (false≢true e)
says_given (reply_of.Element r) e = absurd (false≢true e)
says_given r e = absurd (false≢true e)

-- its end
pub pausing_ends : (c : Setup) (token : Token) (t0 t u : CallerFace) (code next : ℕ) (result : Given) → IsPausing c token t0 t
    → Happened t (Element token.element) (op_on.Element (Resume token.generation)) (reply_of.Element (element_reply.Given code next)) u
    → IsPossible c u.number u.log u.told → NamesUpTo 262143 (reply_of.Element (element_reply.Given code next))
    → result ≡ gift_of token.element code next
    → IsPausedOwn token t0 (Ok result) u
pausing_ends c token t0 t u code next result p h possible low e =
    let n = token.element in
    let op = op_on.Element (Pause token.generation) in
    let resume = op_on.Element (Resume token.generation) in
    let reply = reply_of.Element (element_reply.Given code next) in
    let whole = Done (Ok (gift_of n code next)) in
    let is : next ≡ token.generation + 1 =
    gives_next c t u n token.generation (Resume token.generation) code next (resume_gives token.generation code next) h possible in
    record {
      runs = subst (λ q. Runs 2 (pause_own token) q t0 u) (ap (λ z. Done (Ok z)) (sym e))
          (runs_then 1 1 (pause_own token) (resume_own token) whole t0 p.parked u
          (element_runs (paused n token.generation) (resume_own token) t0 p.parked n (Pause token.generation) element_reply.Parked p.event
          refl)
          (looked_runs 1 (resume_own token) whole p.parked t u p.since
          (element_runs (resumed n) whole t u n (Resume token.generation) (element_reply.Given code next) h refl)));
      rest = rests_by u.log
          (waits_after (waits_after (waits_from no_waits t0.log) (Element n) op (reply_of.Element element_reply.Parked)) (Element n) resume
          reply)
          (waits_one t u (Element n) resume reply h ∙ ap (λ w. waits_after w (Element n) resume reply)
          (ap (waits_from no_waits) (went_log p.parked t p.since)
          ∙ waits_one t0 p.parked (Element n) op (reply_of.Element element_reply.Parked) p.event))
          (none_resumed (waits_from no_waits t0.log) n code next op resume p.may.rest);
      current = λ current. (result, refl);
      answer = given_is_so u token result code next e (was_given t u token resume code next h is) is;
      low = (tt, subst (λ (z : Given). z.next.generation ≤ 262143) (sym e) low);
    }

-- how a pause that is not refused begins: it is made, or goes on
pub pausing_begun : (c : Setup) (token : Token) (t u : CallerFace) (b : Begun (Result Given PauseRefusal) (Unit {0}))
    → is_others_token c (kept_of t.number t.log) token ≡ false → MayPause c token t
    → MatchBegun b (λ r. IsPausedOwn token t r u) (λ _. HappenedOn token t (Pause token.generation) element_reply.Parked u)
    → MatchBegun b (λ r. IsPauseMade c token t r u) (λ _. IsPausing c token t u)
pausing_begun c token t u (Over r) own may is = made_own c token t u r own may.rest is
pausing_begun c token t u (Waits w) own may is =
    record { may = may; own = own; parked = u; event = is; since = went_none u }
