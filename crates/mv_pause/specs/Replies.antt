-- Predicates on replies, which say what kind of answer a reply gives; and the reply that corresponds to each answer of a call.
use Rattle.std.specs.Prelude.{ℕ, Option, Some, None, Result, Ok, Err}
use Rattle.mv_element.specs.declared.element.Token.{Token}
use Rattle.mv_element.specs.declared.operation.ElementOp.{ElementOp}
use Rattle.mv_element.specs.declared.operation.ElementReply.{ElementReply}
use Rattle.mv_element.specs.declared.operation.ElementReply.TheVariants as element_reply
use Rattle.mv_machine.specs.declared.entry.Object.TheVariants.{Element}
use Rattle.mv_machine.specs.declared.entry.Op.TheVariants as op_on
use Rattle.mv_machine.specs.declared.entry.Reply.{Reply}
use Rattle.mv_machine.specs.declared.entry.Reply.TheVariants as reply_of
use Rattle.mv_board.specs.Faces.{CallerFace, Happened}
use Rattle.mv_calls.specs.declared.outcomes.ReleaseAnswer.{ReleaseAnswer}
use Rattle.mv_calls.specs.declared.outcomes.ReleaseAnswer.TheVariants as answer
use Rattle.mv_pause.specs.declared.releasing.ReleaseRefusal.{ReleaseRefusal}
use Rattle.mv_pause.specs.declared.releasing.ReleaseRefusal.TheVariants as release_refusal
use Rattle.mv_pause.specs.declared.replies.FirstReply.{FirstReply}
use Rattle.mv_pause.specs.declared.replies.FirstReply.TheVariants as first_reply

-- the reply to Open: the element is opened
abbrev pub SaysOpened : Reply → Type 0
SaysOpened (reply_of.Element (element_reply.Opened g)) = Unit {0}
SaysOpened reply = ⊥

-- the reply to Resume: the pause is given its code
abbrev pub SaysGiven : Reply → Type 0
SaysGiven (reply_of.Element (element_reply.Given code next)) = Unit {0}
SaysGiven reply = ⊥

-- the reply to Pause: the pause parks, or is given its code at once, or its token is spent
abbrev pub SaysBegun : Reply → Type 0
SaysBegun (reply_of.Element element_reply.Parked) = Unit {0}
SaysBegun (reply_of.Element (element_reply.Given code next)) = Unit {0}
SaysBegun (reply_of.Element (element_reply.Spent g)) = Unit {0}
SaysBegun reply = ⊥

-- the reply to Release: the release comes before its pause or wakes the pausing task, or its token is spent, or was released
-- before
abbrev pub SaysReleased : Reply → Type 0
SaysReleased (reply_of.Element element_reply.Early) = Unit {0}
SaysReleased (reply_of.Element element_reply.Woke) = Unit {0}
SaysReleased (reply_of.Element (element_reply.Spent g)) = Unit {0}
SaysReleased (reply_of.Element element_reply.Already) = Unit {0}
SaysReleased reply = ⊥

-- the reply to Close: the element is closed, or the token is spent
abbrev pub SaysClosed : Reply → Type 0
SaysClosed (reply_of.Element element_reply.Closed) = Unit {0}
SaysClosed (reply_of.Element (element_reply.Spent g)) = Unit {0}
SaysClosed reply = ⊥

-- a reply with the state of an element
abbrev pub SaysState : Reply → Type 0
SaysState (reply_of.Element (element_reply.State s)) = Unit {0}
SaysState reply = ⊥

-- the reply to the first event of a pause that says this
abbrev pub reply_to_pause : FirstReply → ElementReply
reply_to_pause first_reply.Parked = element_reply.Parked
reply_to_pause (first_reply.Given gift) = element_reply.Given gift.code gift.next
reply_to_pause (first_reply.Spent now) = element_reply.Spent now

-- the reply to the event of a release with this answer
abbrev pub reply_to_release : Result ReleaseAnswer ReleaseRefusal → ElementReply
reply_to_release (Ok answer.Early) = element_reply.Early
reply_to_release (Ok answer.Woke) = element_reply.Woke
reply_to_release (Err (release_refusal.Spent now)) = element_reply.Spent now
reply_to_release (Err release_refusal.Already) = element_reply.Already

-- the reply to the event of a deallocate: closed, or if the token is spent the element's generation
abbrev pub reply_to_close : Option ℕ → ElementReply
reply_to_close None = element_reply.Closed
reply_to_close (Some now) = element_reply.Spent now

-- the task made one event on the token's element, with this reply
abbrev pub HappenedOn : Token → CallerFace → ElementOp → ElementReply → CallerFace → Type 0
HappenedOn token t op reply u = Happened t (Element token.element) (op_on.Element op) (reply_of.Element reply) u
