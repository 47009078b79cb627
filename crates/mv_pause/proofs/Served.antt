-- Whose an element is, and what is open after an event on one.
use Rattle.std.proofs.Common.{◌≡◌, ℕ, ◌==◌, Bool, true, false, not, cond, List, [], ◌∷◌, ◌++◌, Option, Some, None}
use Rattle.std.proofs.Common.{Result, Ok, Err, refl, sym, ap, ◌∙◌, subst}
use Rattle.std.proofs.lemmas.Bool.{eq-eqb, eqb-true, not-false}
use Rattle.mv_element.specs.declared.element.Token.{Token}
use Rattle.mv_element.specs.declared.operation.ElementOp.TheVariants as element_op
use Rattle.mv_element.specs.declared.operation.ElementReply.TheVariants as element_reply
use Rattle.mv_machine.specs.declared.entry.Entry.{Entry}
use Rattle.mv_machine.specs.declared.entry.Object.TheVariants.{Element}
use Rattle.mv_machine.specs.declared.entry.Op.{Op}
use Rattle.mv_machine.specs.declared.entry.Op.TheVariants as op_on
use Rattle.mv_machine.specs.declared.entry.Reply.TheVariants as reply_of
use Rattle.mv_machine.specs.Parked.{parked, parked_by, parked_from}
use Rattle.mv_machine.specs.Replies.{NamesUpTo}
use Rattle.mv_config.specs.Setup.{Setup, element_owner}
use Rattle.mv_board.specs.Faces.{CallerFace, Happened}
use Rattle.mv_calls.specs.Keeping.{Kept, kept_of, nothing_kept}
use Rattle.mv_calls.specs.Pauses.{is_others_token, released}
use Rattle.mv_calls.specs.Program.{Program, Done, unless_refused}
use Rattle.mv_calls.specs.Refusal.{Refusal}
use Rattle.mv_calls.specs.Refusal as refusal
use Rattle.mv_calls.specs.Rest.{OpenWaits, AreNone, IsAtRest, no_waits, waits_from, waits_after}
use Rattle.mv_calls.specs.Waits.{refused_if}
use Rattle.mv_calls.proofs.Making.{kept_caller}
use Rattle.mv_wait.proofs.Runs.{entry_of}
use Rattle.mv_wait.proofs.Steps.{still_at_rest}
use Rattle.mv_pause.specs.Answers.{release_answer, IsLow}
use Rattle.mv_pause.specs.Replies.{reply_to_release}
use Rattle.mv_calls.specs.declared.outcomes.ReleaseAnswer.{ReleaseAnswer}
use Rattle.mv_calls.specs.declared.outcomes.ReleaseAnswer.TheVariants as answer
use Rattle.mv_pause.specs.declared.releasing.ReleaseRefusal.{ReleaseRefusal}
use Rattle.mv_pause.specs.declared.releasing.ReleaseRefusal.TheVariants as release_refusal

-- ---- whose an element is

pub mine : {A : Type 0} (c : Setup) (kept : Kept) (token : Token) (p : Program (Result A Refusal)) → is_others_token c kept token ≡ false
    → unless_refused (refused_if (is_others_token c kept token) refusal.NotOwner) p ≡ p
mine c kept token p own = ap (λ b. unless_refused (refused_if b refusal.NotOwner) p) own

pub others : {A : Type 0} (c : Setup) (kept : Kept) (token : Token) (p : Program (Result A Refusal))
    → is_others_token c kept token ≡ true
    → unless_refused (refused_if (is_others_token c kept token) refusal.NotOwner) p ≡ Done (Err refusal.NotOwner)
others c kept token p other = ap (λ b. unless_refused (refused_if b refusal.NotOwner) p) other

pub own_is : (c : Setup) (k : ℕ) (log : List Entry) (token : Token) → is_others_token c (kept_of k log) token ≡ false
    → element_owner c token.element ≡ k
own_is c k log token is =
    eqb-true (element_owner c token.element) (kept_of k log).caller (not-false (element_owner c token.element == (kept_of k log).caller) is)
    ∙ kept_caller (nothing_kept k) log

-- a token of an own element is not another's
pub is_mine : (c : Setup) (k : ℕ) (log : List Entry) (token : Token) → element_owner c token.element ≡ k
    → is_others_token c (kept_of k log) token ≡ false
is_mine c k log token own =
    ap not (eq-eqb (element_owner c token.element) (kept_of k log).caller (own ∙ sym (kept_caller (nothing_kept k) log)))

-- ---- what is open after an event

pub rests_by : (log : List Entry) (w : OpenWaits) → waits_from no_waits log ≡ w → AreNone w → IsAtRest log
rests_by log w e none = subst AreNone (sym e) none

false_at : (b : Bool) (a : Bool) → a ≡ false → cond b false a ≡ false
false_at true a e = refl
false_at false a e = e

false_again : (b : Bool) (a : Bool) → a ≡ false → cond b false (cond b true a) ≡ false
false_again true a e = refl
false_again false a e = e

pub none_given : (w : OpenWaits) (n code next : ℕ) (op : Op) → AreNone w
    → AreNone (waits_after w (Element n) op (reply_of.Element (element_reply.Given code next)))
none_given w n code next op none =
    record { armed = none.armed; parked = λ m. false_at (m == n) (w.parked m) (none.parked m); queued = none.queued }

pub none_resumed : (w : OpenWaits) (n code next : ℕ) (op op' : Op) → AreNone w
    → AreNone (waits_after (waits_after w (Element n) op (reply_of.Element element_reply.Parked)) (Element n) op'
    (reply_of.Element (element_reply.Given code next)))
none_resumed w n code next op op' none =
    record { armed = none.armed; parked = λ m. false_again (m == n) (w.parked m) (none.parked m); queued = none.queued }

-- ---- the pause that parked

parked_from-append : (n : ℕ) (last : Option ℕ) (xs ys : List Entry)
    → parked_from n last (xs ++ ys) ≡ parked_from n (parked_from n last xs) ys
parked_from-append n last [] ys = refl
parked_from-append n last (x ∷ xs) ys = parked_from-append n (parked_by n last x.object x.op x.reply) xs ys

pub is_parked : (t u : CallerFace) (n g : ℕ)
    → Happened t (Element n) (op_on.Element (element_op.Pause g)) (reply_of.Element element_reply.Parked) u → parked n u.log ≡ Some g
is_parked t u n g h =
    ap (parked n) h.1.logged
    ∙ (parked_from-append n None t.log
    (entry_of t (Element n) h.0 (op_on.Element (element_op.Pause g)) (reply_of.Element element_reply.Parked) ∷ [])
    ∙ ap (λ b. cond b (Some g) (parked n t.log)) (eq-eqb n n refl))

-- ---- what replies come to

pub release_says_so : (r : Result ReleaseAnswer ReleaseRefusal) → released (reply_to_release r) ≡ Done (release_answer r)
release_says_so (Ok answer.Early) = refl
release_says_so (Ok answer.Woke) = refl
release_says_so (Err (release_refusal.Spent now)) = refl
release_says_so (Err release_refusal.Already) = refl

pub release_opens_nothing : (r : Result ReleaseAnswer ReleaseRefusal) (w : OpenWaits) (n : ℕ) (op : Op)
    → waits_after w (Element n) op (reply_of.Element (reply_to_release r)) ≡ w
release_opens_nothing (Ok answer.Early) w n op = refl
release_opens_nothing (Ok answer.Woke) w n op = refl
release_opens_nothing (Err (release_refusal.Spent now)) w n op = refl
release_opens_nothing (Err release_refusal.Already) w n op = refl

-- a task is at rest after a release
pub rests_released : (t u : CallerFace) (n : ℕ) (op : Op) (r : Result ReleaseAnswer ReleaseRefusal)
    → Happened t (Element n) op (reply_of.Element (reply_to_release r)) u → IsAtRest t.log → IsAtRest u.log
rests_released t u n op r h rest =
    still_at_rest t u (Element n) op (reply_of.Element (reply_to_release r)) h (λ w. release_opens_nothing r w n op) rest

pub release_is_low : (r : Result ReleaseAnswer ReleaseRefusal) → NamesUpTo 262143 (reply_of.Element (reply_to_release r))
    → IsLow (release_answer r)
release_is_low (Ok answer.Early) h = tt
release_is_low (Ok answer.Woke) h = tt
release_is_low (Err (release_refusal.Spent now)) h = h
release_is_low (Err release_refusal.Already) h = tt
