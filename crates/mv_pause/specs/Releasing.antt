-- A release by an exchange.
use Rattle.std.specs.Prelude.{◌≡◌, ℕ, Some, Result, Ok, Err}
use Rattle.mv_element.specs.declared.element.ElementState.{ElementState}
use Rattle.mv_element.specs.declared.element.Phase.TheVariants.{Paused}
use Rattle.mv_element.specs.declared.element.Token.{Token}
use Rattle.mv_element.specs.declared.operation.ElementOp.TheVariants.{Release}
use Rattle.mv_element.specs.declared.operation.ElementReply.{ElementReply}
use Rattle.mv_machine.specs.declared.entry.Object.TheVariants.{Element}
use Rattle.mv_machine.specs.declared.entry.Op.TheVariants as op_on
use Rattle.mv_machine.specs.declared.entry.Reply.TheVariants as reply_of
use Rattle.mv_machine.specs.declared.packing.WordState.TheVariants as word_state
use Rattle.mv_machine.specs.Packing.{unpack}
use Rattle.mv_board.specs.Faces.{CallerFace, Exchanged, Missed}
use Rattle.mv_pause.specs.Replies.{reply_to_release}
use Rattle.mv_calls.specs.declared.outcomes.ReleaseAnswer.{ReleaseAnswer}
use Rattle.mv_pause.specs.declared.releasing.ReleaseRefusal.TheVariants as refused
use Rattle.mv_pause.specs.declared.releasing.TryReleaseRefusal.{TryReleaseRefusal}
use Rattle.mv_pause.specs.declared.releasing.TryReleaseRefusal.TheVariants as try_refused

-- in this word of an element no task pauses
pub record HasNoPause (n w : ℕ) : Type 0 where
  pub place : ℕ
  pub state : ElementState
  pub unpacks : unpack (Element n) w ≡ Some (place, word_state.Element state)
  pub phase : state.phase ≡ Paused → ⊥

-- the exchange of a release succeeded, with this reply
abbrev pub ExchangedOn : Token → ℕ → ℕ → CallerFace → ElementReply → CallerFace → Type 0
ExchangedOn token expected code t reply u =
    Exchanged t (Element token.element) (op_on.Element (Release token.generation code)) expected (reply_of.Element reply) u

-- The answer of a release by an exchange is the reply to its event if the exchange succeeded, and Moved if the exchange found
-- another word than the expected one.
abbrev pub IsTried : Token → ℕ → ℕ → CallerFace → Result ReleaseAnswer TryReleaseRefusal → CallerFace → Type 0
IsTried token expected code t (Ok answer) u = ExchangedOn token expected code t (reply_to_release (Ok answer)) u
IsTried token expected code t (Err (try_refused.Spent now)) u =
    ExchangedOn token expected code t (reply_to_release (Err (refused.Spent now))) u
IsTried token expected code t (Err try_refused.Already) u = ExchangedOn token expected code t (reply_to_release (Err refused.Already)) u
IsTried token expected code t (Err (try_refused.Moved word)) u = Missed t (Element token.element) expected (record { 0 = word }) u
