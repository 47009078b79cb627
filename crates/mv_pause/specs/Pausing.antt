-- The parts of a pause, and what it was given.
use Rattle.std.specs.Prelude.{◌≡◌, ℕ, ◌+◌, ◌<◌, ◌≤◌, true, false, List, [], ◌∷◌, ◌++◌, Result, Ok, IfOk, MatchResult}
use Rattle.mv_element.specs.declared.element.Token.{Token}
use Rattle.mv_element.specs.declared.operation.ElementOp.TheVariants as element_op
use Rattle.mv_element.specs.declared.operation.ElementReply.TheVariants as element_reply
use Rattle.mv_machine.specs.declared.entry.Entry.{Entry}
use Rattle.mv_machine.specs.declared.entry.Object.TheVariants.{Element}
use Rattle.mv_machine.specs.declared.entry.Op.TheVariants as op_on
use Rattle.mv_machine.specs.declared.entry.Reply.TheVariants as reply_of
use Rattle.mv_config.specs.Limits.{highest_generation}
use Rattle.mv_config.specs.Setup.{Setup, element_count}
use Rattle.mv_board.specs.Faces.{CallerFace}
use Rattle.mv_calls.specs.Keeping.{Kept, kept_of}
use Rattle.mv_calls.specs.Pauses.{pause, paused, resumed, is_others_token}
use Rattle.mv_calls.specs.Program.{Program, Do, Done, on_element}
use Rattle.mv_calls.specs.Refusal.{Refusal}
use Rattle.mv_calls.specs.Rest.{IsAtRest}
use Rattle.mv_wait.specs.Run.{Went, Runs, IsServed}
use Rattle.mv_pause.specs.Answers.{pause_answer, IsLow}
use Rattle.mv_pause.specs.Replies.{HappenedOn}
use Rattle.mv_calls.specs.declared.outcomes.Given.{Given}
use Rattle.mv_pause.specs.declared.pausing.PauseRefusal.{PauseRefusal}
use Rattle.mv_pause.specs.declared.pausing.PauseRefusal.TheVariants as refused

-- the program of a pause with a token of an own element
abbrev pub pause_own : Token → Program (Result Given Refusal)
pause_own t = Do (Element t.element) (op_on.Element (element_op.Pause t.generation))
    (λ h. on_element h.entry.reply (paused t.element t.generation))

-- the rest of that program after the pause has parked
abbrev pub resume_own : Token → Program (Result Given Refusal)
resume_own t = Do (Element t.element) (op_on.Element (element_op.Resume t.generation)) (λ h. on_element h.entry.reply (resumed t.element))

-- the token is current: its element is in use, and has the token's generation
pub record IsCurrent (kept : Kept) (t : Token) : Type 0 where
  pub used : kept.in_use t.element ≡ true
  pub generation : kept.generation t.element ≡ t.generation

-- the last entry of a log is on the token's element, and gives the pause of the token's generation this code, which ends the
-- pause
pub record WasGiven (token : Token) (code : ℕ) (log : List Entry) : Type 0 where
  pub before : List Entry
  pub entry : Entry
  pub last : log ≡ before ++ entry ∷ []
  pub object : entry.object ≡ Element token.element
  pub reply : entry.reply ≡ reply_of.Element (element_reply.Given code (token.generation + 1))

-- by this log, a pause with this token was given this code; the next token is that of the next generation
pub record IsGiven (token : Token) (given : Given) (log : List Entry) : Type 0 where
  pub was : WasGiven token given.code log
  pub element : given.next.element ≡ token.element
  pub generation : given.next.generation ≡ token.generation + 1

-- the pause was refused by the reply to its one event: the token is spent
abbrev pub IsSpent : Token → CallerFace → PauseRefusal → CallerFace → Type 0
IsSpent token t refused.NotOwner u = ⊥
IsSpent token t (refused.Spent now) u = HappenedOn token t (element_op.Pause token.generation) (element_reply.Spent now) u

-- The reason for which a pause was refused: the element is another caller's, and no event was made, or the token is spent.
abbrev pub IsPauseCause : Setup → Token → CallerFace → PauseRefusal → CallerFace → Type 0
IsPauseCause c token t refused.NotOwner u = (is_others_token c (kept_of t.number t.log) token ≡ true) × (u ≡ t)
IsPauseCause c token t (refused.Spent now) u =
    (is_others_token c (kept_of t.number t.log) token ≡ false)
    × HappenedOn token t (element_op.Pause token.generation) (element_reply.Spent now) u

-- ---- a pause in its parts

-- a pause with a token of an own element was made: its program ran to its end with this answer, and the task is at rest
pub record IsPausedOwn (token : Token) (t : CallerFace) (r : Result Given PauseRefusal) (u : CallerFace) : Type 0 where
  pub runs : Runs 2 (pause_own token) (Done (pause_answer r)) t u
  pub rest : IsAtRest u.log
  pub current : IsCurrent (kept_of t.number t.log) token → (given : Given) × (r ≡ Ok given)
  pub answer : MatchResult r (λ given. IsGiven token given u.log) (λ why. IsSpent token t why u)
  pub low : IsLow (pause_answer r) × IfOk r (λ given. given.next.generation ≤ highest_generation)

-- a pause was made with this answer; this is all that the contract of the call says
pub record IsPauseMade (c : Setup) (token : Token) (t : CallerFace) (r : Result Given PauseRefusal) (u : CallerFace) : Type 0 where
  pub served : IsServed 2 (pause c token) (λ a. a ≡ pause_answer r) t u
  pub causes : MatchResult r
      (λ given. (is_others_token c (kept_of t.number t.log) token ≡ false) × IsGiven token given u.log)
      (λ why. IsPauseCause c token t why u)
  pub next : IfOk r (λ given. given.next.element ≡ token.element)
  pub current : is_others_token c (kept_of t.number t.log) token ≡ false → IsCurrent (kept_of t.number t.log) token
      → (given : Given) × (r ≡ Ok given)
  pub low : IsLow (pause_answer r) × IfOk r (λ given. given.next.generation ≤ highest_generation)

-- what a pause requires of its task
pub record MayPause (c : Setup) (token : Token) (t : CallerFace) : Type 0 where
  pub rest : IsAtRest t.log
  pub element : token.element < element_count c
  pub left : 2 ≤ t.left

-- A pause with a token of an own element is under way: since it began the task made one event, the pause, which parked.
pub record IsPausing (c : Setup) (token : Token) (t0 t : CallerFace) : Type 0 where
  pub may : MayPause c token t0
  pub own : is_others_token c (kept_of t0.number t0.log) token ≡ false
  pub parked : CallerFace
  pub event : HappenedOn token t0 (element_op.Pause token.generation) element_reply.Parked parked
  pub since : Went [] parked t
