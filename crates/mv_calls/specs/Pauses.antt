-- The calls on pause elements.
use Rattle.std.specs.Prelude.{ℕ, ◌==◌, Bool, true, false, not, ◌&&◌, find, Option, Some, None, Result, Ok, Err}
use Rattle.std.specs.Option.{option_or}
use Rattle.mv_element.specs.declared.element.ElementState.{ElementState}
use Rattle.mv_element.specs.declared.element.Token.{Token}
use Rattle.mv_element.specs.declared.operation.ElementOp.TheVariants as element_op
use Rattle.mv_element.specs.declared.operation.ElementReply.{ElementReply}
use Rattle.mv_element.specs.declared.operation.ElementReply.TheVariants as element_reply
use Rattle.mv_machine.specs.declared.entry.Object.TheVariants.{Element}
use Rattle.mv_machine.specs.declared.entry.Op.TheVariants as op_on
use Rattle.mv_machine.specs.declared.entry.Reply.{Reply}
use Rattle.mv_machine.specs.declared.entry.Reply.TheVariants as reply_of
use Rattle.mv_config.specs.Setup.{Setup, element_owner, own_elements}
use Rattle.mv_calls.specs.declared.outcomes.Given.{Given}
use Rattle.mv_calls.specs.declared.outcomes.ReleaseAnswer.{ReleaseAnswer}
use Rattle.mv_calls.specs.declared.outcomes.ReleaseAnswer.TheVariants as release_answer
use Rattle.mv_calls.specs.Keeping.{Kept}
use Rattle.mv_calls.specs.Posts.{tried}
use Rattle.mv_calls.specs.Program.{Program, Do, Done, Early, Wrong, Call, and_then, on_element, unless_refused}
use Rattle.mv_calls.specs.Refusal.{Refusal}
use Rattle.mv_calls.specs.Refusal as refusal
use Rattle.mv_calls.specs.Waits.{refused_if}

-- the token of this generation of an element
abbrev pub token_of : ℕ → ℕ → Token
token_of element generation = record { element = element; generation = generation }

-- the lowest of the caller's elements that is not in use
abbrev pub lowest_free : Setup → Kept → Option ℕ
lowest_free c kept = find (λ n. not (kept.in_use n)) (own_elements c kept.caller)

-- ---- allocate

-- the rest of an allocate after the reply to the opening
abbrev pub opened : ℕ → ElementReply → Program (Result Token Refusal)
opened n (element_reply.Opened g) = Done (Ok (token_of n g))
opened n reply = Wrong

-- opens the element that was found; without one the call is refused
abbrev pub open_lowest : Option ℕ → Program (Result Token Refusal)
open_lowest None = Done (Err refusal.NoElement)
open_lowest (Some n) = Do (Element n) (op_on.Element element_op.Open) (λ h. on_element h.entry.reply (opened n))

-- allocate: opens the lowest of the caller's elements that is not in use
abbrev pub allocate : Setup → Call (Result Token Refusal)
allocate c kept = open_lowest (lowest_free c kept)

-- ---- pause

-- whether a token is of an element of another caller
abbrev pub is_others_token : Setup → Kept → Token → Bool
is_others_token c kept t = not (element_owner c t.element == kept.caller)

-- the code that a pause of element n was given, and the token of its next pause
abbrev pub gift_of : ℕ → ℕ → ℕ → Given
gift_of n code next = record { code = code; next = token_of n next }

-- the rest of a pause after its resume: a resume without a code has ended the wait too soon
abbrev pub resumed : ℕ → ElementReply → Program (Result Given Refusal)
resumed n (element_reply.Given code next) = Done (Ok (gift_of n code next))
resumed n element_reply.NotYet = Early
resumed n reply = Wrong

-- the rest of a pause of generation g after its reply
abbrev pub paused : ℕ → ℕ → ElementReply → Program (Result Given Refusal)
paused n g (element_reply.Given code next) = Done (Ok (gift_of n code next))
paused n g element_reply.Parked = Do (Element n) (op_on.Element (element_op.Resume g)) (λ h. on_element h.entry.reply (resumed n))
paused n g (element_reply.Spent now) = Done (Err (refusal.Spent now))
paused n g reply = Wrong

-- pause: a code that was kept is given at once; otherwise the task parks, and is given a code when it resumes
abbrev pub pause : Setup → Token → Call (Result Given Refusal)
pause c t kept =
    unless_refused (refused_if (is_others_token c kept t) refusal.NotOwner)
    (Do (Element t.element) (op_on.Element (element_op.Pause t.generation))
    (λ h. on_element h.entry.reply (paused t.element t.generation)))

-- ---- release

-- the rest of a release after its reply
abbrev pub released : ElementReply → Program (Result ReleaseAnswer Refusal)
released element_reply.Early = Done (Ok release_answer.Early)
released element_reply.Woke = Done (Ok release_answer.Woke)
released (element_reply.Spent g) = Done (Err (refusal.Spent g))
released element_reply.Already = Done (Err refusal.Already)
released reply = Wrong

-- release: gives the pause of this token a code
abbrev pub release : Token → ℕ → Call (Result ReleaseAnswer Refusal)
release t code kept = Do (Element t.element) (op_on.Element (element_op.Release t.generation code))
    (λ h. on_element h.entry.reply released)

-- whether two replies of elements are the same reply to a release
abbrev pub same_release : ElementReply → ElementReply → Bool
same_release element_reply.Early element_reply.Early = true
same_release element_reply.Woke element_reply.Woke = true
same_release element_reply.Already element_reply.Already = true
same_release (element_reply.Spent g) (element_reply.Spent h) = g == h
same_release x y = false

-- whether two replies of any kind are the same reply to a release of an element
abbrev pub same_release_reply : Reply → Reply → Bool
same_release_reply (reply_of.Element x) (reply_of.Element y) = same_release x y
same_release_reply x y = false

-- try release: makes one release, which has to find the element as expected
abbrev pub try_release : Token → ℕ → ℕ → Call (Result ReleaseAnswer Refusal)
try_release t expected code kept = tried same_release_reply (Element t.element) (op_on.Element (element_op.Release t.generation code))
    expected (λ r. on_element r released)

-- ---- transfer

-- why a transfer is refused: its current token is of another caller's element, or the element is not in use with the token's
-- generation
abbrev pub transfer_refusal : Setup → Option Token → Kept → Option Refusal
transfer_refusal c None kept = None
transfer_refusal c (Some t) kept =
    option_or (refused_if (is_others_token c kept t) refusal.NotOwner)
    (refused_if (not (kept.in_use t.element && (kept.generation t.element == t.generation)))
    (refusal.Spent (kept.generation t.element)))

-- the rest of a transfer after its pause: a pause after the target's release is not refused
abbrev pub gave : Result Given Refusal → Program (Result (Option Given) Refusal)
gave (Ok gift) = Done (Ok (Some gift))
gave (Err why) = Wrong

-- the pause of a transfer, if there is a current token
abbrev pub pause_current : Setup → Option Token → Kept → Program (Result (Option Given) Refusal)
pause_current c None kept = Done (Ok None)
pause_current c (Some t) kept = and_then (pause c t kept) gave

-- the rest of a transfer after the reply to the target's release
abbrev pub transferred : Setup → Option Token → Kept → ElementReply → Program (Result (Option Given) Refusal)
transferred c current kept element_reply.Early = pause_current c current kept
transferred c current kept element_reply.Woke = pause_current c current kept
transferred c current kept (element_reply.Spent g) = Done (Err (refusal.TargetSpent g))
transferred c current kept element_reply.Already = Done (Err refusal.TargetAlready)
transferred c current kept reply = Wrong

-- transfer: releases the target, and then pauses with the current token, if there is one
abbrev pub transfer : Setup → Option Token → Token → ℕ → Call (Result (Option Given) Refusal)
transfer c current target code kept =
    unless_refused (transfer_refusal c current kept)
    (Do (Element target.element) (op_on.Element (element_op.Release target.generation code))
    (λ h. on_element h.entry.reply (transferred c current kept)))

-- ---- deallocate and test

-- the rest of a deallocate after the reply to its close
abbrev pub closed : ElementReply → Program (Result (Unit {0}) Refusal)
closed element_reply.Closed = Done (Ok tt)
closed (element_reply.Spent g) = Done (Err (refusal.Spent g))
closed reply = Wrong

-- deallocate: closes the element
abbrev pub deallocate : Setup → Token → Call (Result (Unit {0}) Refusal)
deallocate c t kept =
    unless_refused (refused_if (is_others_token c kept t) refusal.NotOwner)
    (Do (Element t.element) (op_on.Element (element_op.Close t.generation)) (λ h. on_element h.entry.reply closed))

-- the element's state, by the reply to a test
abbrev pub the_state : ElementReply → Program ElementState
the_state (element_reply.State s) = Done s
the_state reply = Wrong

-- test: reads the element's state
abbrev pub test_element : ℕ → Call ElementState
test_element n kept = Do (Element n) (op_on.Element element_op.Test) (λ h. on_element h.entry.reply the_state)
