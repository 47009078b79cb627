-- What a pause was given.
use Rattle.std.proofs.Common.{◌≡◌, ℕ, ◌+◌, true, false, Result, Ok, Err, refl, sym, ap, ◌∙◌, subst}
use Rattle.std.proofs.lemmas.Bool.{false≢true}
use Rattle.std.specs.Prelude.{IfOk, MatchResult}
use Rattle.mv_element.specs.declared.element.Token.{Token}
use Rattle.mv_element.specs.declared.operation.ElementReply.TheVariants.{Given as GivenWith}
use Rattle.mv_machine.specs.declared.entry.Object.TheVariants.{Element}
use Rattle.mv_machine.specs.declared.entry.Op.{Op}
use Rattle.mv_machine.specs.declared.entry.Reply.TheVariants as reply_of
use Rattle.mv_config.specs.Setup.{Setup}
use Rattle.mv_board.specs.Faces.{CallerFace, Happened}
use Rattle.mv_calls.specs.Keeping.{kept_of}
use Rattle.mv_calls.specs.Pauses.{gift_of, pause, is_others_token}
use Rattle.mv_calls.specs.Refusal as refusal
use Rattle.mv_calls.specs.Rest.{IsAtRest}
use Rattle.mv_wait.proofs.Runs.{entry_of}
use Rattle.mv_wait.proofs.Steps.{served_by, done_served}
use Rattle.mv_pause.specs.Answers.{pause_answer}
use Rattle.mv_pause.specs.Pausing.{WasGiven, IsGiven, IsSpent, IsPauseCause, IsPausedOwn, IsPauseMade, pause_own}
use Rattle.mv_pause.proofs.Served.{mine, others}
use Rattle.mv_calls.specs.declared.outcomes.Given.{Given}
use Rattle.mv_pause.specs.declared.pausing.PauseRefusal.{PauseRefusal}
use Rattle.mv_pause.specs.declared.pausing.PauseRefusal.TheVariants as refused

-- an event that gives the token's next generation
pub was_given : (t u : CallerFace) (token : Token) (op : Op) (code next : ℕ)
    → Happened t (Element token.element) op (reply_of.Element (GivenWith code next)) u → next ≡ token.generation + 1
    → WasGiven token code u.log
was_given t u token op code next h is = record {
  before = t.log;
  entry = entry_of t (Element token.element) h.0 op (reply_of.Element (GivenWith code next));
  last = h.1.logged;
  object = refl;
  reply = ap (λ m. reply_of.Element (GivenWith code m)) is;
}

-- what the call answers of it
pub given_is_so : (u : CallerFace) (token : Token) (given : Given) (code next : ℕ) → given ≡ gift_of token.element code next
    → WasGiven token code u.log → next ≡ token.generation + 1 → IsGiven token given u.log
given_is_so u token given code next e was is = record {
  was = subst (λ d. WasGiven token d u.log) (sym (ap (λ (z : Given). z.code) e)) was;
  element = ap (λ (z : Given). z.next.element) e;
  generation = ap (λ (z : Given). z.next.generation) e ∙ is;
}

-- ---- why a pause is answered so

pub pause_cause : (c : Setup) (token : Token) (t u : CallerFace) (result : Result Given PauseRefusal)
    → is_others_token c (kept_of t.number t.log) token ≡ false
    → MatchResult result (λ given. IsGiven token given u.log) (λ why. IsSpent token t why u)
    → MatchResult result
    (λ given. (is_others_token c (kept_of t.number t.log) token ≡ false) × IsGiven token given u.log)
    (λ why. IsPauseCause c token t why u)
pause_cause c token t u (Ok given) own is = (own, is)
pause_cause c token t u (Err refused.NotOwner) own is = absurd is
pause_cause c token t u (Err (refused.Spent now)) own is = (own, is)

pub next_element : (token : Token) (t u : CallerFace) (result : Result Given PauseRefusal)
    → MatchResult result (λ given. IsGiven token given u.log) (λ why. IsSpent token t why u)
    → IfOk result (λ given. given.next.element ≡ token.element)
next_element token t u (Ok given) is = is.element
next_element token t u (Err why) is = tt

-- ---- a pause that was made

pub made_own : (c : Setup) (token : Token) (t u : CallerFace) (result : Result Given PauseRefusal)
    → is_others_token c (kept_of t.number t.log) token ≡ false → IsAtRest t.log → IsPausedOwn token t result u
    → IsPauseMade c token t result u
made_own c token t u result own rest p = record {
  served = served_by 2 (pause c token) (λ a. a ≡ pause_answer result) t u (pause_own token) (pause_answer result)
      (mine c (kept_of t.number t.log) token (pause_own token) own) p.runs rest p.rest refl;
  causes = pause_cause c token t u result own p.answer;
  next = next_element token t u result p.answer;
  current = λ mine current. p.current current;
  low = p.low;
}

-- one that was refused since the element is another caller's
pub made_not : (c : Setup) (token : Token) (t : CallerFace) → is_others_token c (kept_of t.number t.log) token ≡ true → IsAtRest t.log
    → IsPauseMade c token t (Err refused.NotOwner) t
made_not c token t other rest = record {
  served = done_served 2 (pause c token) (λ a. a ≡ Err refusal.NotOwner) t (Err refusal.NotOwner)
      (others c (kept_of t.number t.log) token (pause_own token) other) rest refl;
  causes = (other, refl);
  next = tt;
  current = λ own current. absurd (false≢true (sym own ∙ other));
  low = (tt, tt);
}
