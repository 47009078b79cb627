-- A release by an exchange.
use Rattle.std.proofs.Common.{◌≡◌, ℕ, ◌&&◌, true, [], ◌∷◌, Some, Option, Result, Ok, Err, refl, sym, ap, ◌∙◌, subst, arith}
use Rattle.std.specs.Prelude.{IfOk, option_map, option_and_then}
use Rattle.std.proofs.lemmas.Bool.{eq-eqb}
use Rattle.std.proofs.lemmas.Option.{some_pair_parts}
use Rattle.mv_element.specs.declared.element.ElementState.{ElementState}
use Rattle.mv_element.specs.declared.element.Phase.TheVariants.{Paused}
use Rattle.mv_element.specs.declared.element.Token.{Token}
use Rattle.mv_element.specs.declared.operation.ElementOp.TheVariants.{Release}
use Rattle.mv_element.specs.declared.operation.ElementReply.TheVariants as element_reply
use Rattle.mv_element.specs.Table.{element_step}
use Rattle.mv_machine.specs.declared.entry.Object.TheVariants.{Element}
use Rattle.mv_machine.specs.declared.entry.Op.TheVariants as op_on
use Rattle.mv_machine.specs.declared.entry.Reply.TheVariants as reply_of
use Rattle.mv_machine.specs.declared.packing.WordState.{WordState}
use Rattle.mv_machine.specs.declared.packing.WordState.TheVariants as word_state
use Rattle.mv_machine.specs.Packing.{reply_in}
use Rattle.mv_board.specs.Faces.{CallerFace, IsSame}
use Rattle.mv_calls.specs.Keeping.{kept_of}
use Rattle.mv_calls.specs.Pauses.{try_release, same_release, same_release_reply}
use Rattle.mv_calls.specs.Posts.{expected_of, is_expected}
use Rattle.mv_calls.specs.Program.{Done}
use Rattle.mv_wait.specs.Run.{Runs}
use Rattle.mv_wait.proofs.Runs.{heard_of, went_word}
use Rattle.mv_pause.specs.Answers.{release_answer, try_release_answer}
use Rattle.mv_pause.specs.Releasing.{HasNoPause, ExchangedOn, IsTried}
use Rattle.mv_pause.specs.Replies.{reply_to_release}
use Rattle.mv_calls.specs.declared.outcomes.ReleaseAnswer.{ReleaseAnswer}
use Rattle.mv_calls.specs.declared.outcomes.ReleaseAnswer.TheVariants as answer
use Rattle.mv_pause.specs.declared.releasing.ReleaseRefusal.{ReleaseRefusal}
use Rattle.mv_pause.specs.declared.releasing.ReleaseRefusal.TheVariants as refused
use Rattle.mv_pause.specs.declared.releasing.TryReleaseRefusal.{TryReleaseRefusal}
use Rattle.mv_pause.specs.declared.releasing.TryReleaseRefusal.TheVariants as try_refused
use Rattle.mv_pause.proofs.Served.{release_says_so}

same_itself : (r : Result ReleaseAnswer ReleaseRefusal) → same_release (reply_to_release r) (reply_to_release r) ≡ true
same_itself (Ok answer.Early) = refl
same_itself (Ok answer.Woke) = refl
same_itself (Err (refused.Spent now)) = eq-eqb now now refl
same_itself (Err refused.Already) = refl

-- the event that an exchange made is the one that was expected
pub tried_runs : (t u : CallerFace) (token : Token) (expected code : ℕ) (r : Result ReleaseAnswer ReleaseRefusal)
    → ExchangedOn token expected code t (reply_to_release r) u
    → Runs 1 (try_release token expected code (kept_of t.number t.log)) (Done (release_answer r)) t u
tried_runs t u token expected code r x =
    let o = Element token.element in
    let op = op_on.Element (Release token.generation code) in
    let reply = reply_of.Element (reply_to_release r) in
    let is : expected_of o op expected ≡ Some (x.place, reply) =
    ap (λ w. option_and_then (λ v. option_map (λ q. (v.0, q)) (reply_in op v.1)) w) x.unpacks
    ∙ ap (λ w. option_map (λ q. (x.place, q)) w) x.replies in
    let meets : is_expected same_release_reply (expected_of o op expected) x.place reply ≡ true =
    ap (λ e. is_expected same_release_reply e x.place reply) is
    ∙ (ap (λ b. b && same_release (reply_to_release r) (reply_to_release r)) (eq-eqb x.place x.place refl) ∙ same_itself r) in record {
      events = heard_of t o x.place op reply ∷ [];
      went = went_word t o x.place op reply u tt x.happened;
      few = omega arith;
      says = (refl, tt);
      leaves = rw meets (release_says_so r);
    }

-- what is answered says what came of the exchange
pub tried_is : (t u : CallerFace) (token : Token) (expected code : ℕ) (r : Result ReleaseAnswer ReleaseRefusal)
    (result : Result ReleaseAnswer TryReleaseRefusal)
    → try_release_answer result ≡ Some (release_answer r) → ExchangedOn token expected code t (reply_to_release r) u
    → IsTried token expected code t result u
tried_is t u token expected code (Ok answer.Early) (Ok answer.Early) e x = x
tried_is t u token expected code (Ok answer.Woke) (Ok answer.Woke) e x = x
tried_is t u token expected code (Err (refused.Spent m)) (Err (try_refused.Spent now)) e x =
    let same : m ≡ now = cc e in subst (λ g. ExchangedOn token expected code t (element_reply.Spent g) u) same x
tried_is t u token expected code (Err refused.Already) (Err try_refused.Already) e x = x
tried_is t u token expected code (Ok answer.Early) (Ok answer.Woke) e x = absurd (cc e)
tried_is t u token expected code (Ok answer.Woke) (Ok answer.Early) e x = absurd (cc e)
tried_is t u token expected code (Err (refused.Spent m)) (Ok a) e x = absurd (cc e)
tried_is t u token expected code (Err refused.Already) (Ok a) e x = absurd (cc e)
tried_is t u token expected code r (Err (try_refused.Moved word)) e x = absurd (cc e)
tried_is t u token expected code (Ok a) (Err (try_refused.Spent now)) e x = absurd (cc e)
tried_is t u token expected code (Err refused.Already) (Err (try_refused.Spent now)) e x = absurd (cc e)
tried_is t u token expected code (Ok a) (Err try_refused.Already) e x = absurd (cc e)
tried_is t u token expected code (Err (refused.Spent m)) (Err try_refused.Already) e x = absurd (cc e)

-- ---- nobody pauses, so nobody is woken

not_waking : (g d : ℕ) (s : ElementState) → (s.phase ≡ Paused → ⊥) → (element_step (Release g d) s).1 ≡ element_reply.Woke → ⊥
not_waking g d s quietly e = grind arith

early_only : (r : Result ReleaseAnswer ReleaseRefusal) (result : Result ReleaseAnswer TryReleaseRefusal) → (r ≡ Ok answer.Woke → ⊥)
    → try_release_answer result ≡ Some (release_answer r) → IfOk result (λ a. a ≡ answer.Early)
early_only r (Ok answer.Early) quietly e = refl
early_only (Ok answer.Woke) (Ok answer.Woke) quietly e = absurd (quietly refl)
early_only (Ok answer.Early) (Ok answer.Woke) quietly e = absurd (cc e)
early_only (Err (refused.Spent now)) (Ok answer.Woke) quietly e = absurd (cc e)
early_only (Err refused.Already) (Ok answer.Woke) quietly e = absurd (cc e)
early_only r (Err why) quietly e = tt

pub tried_early : (t u : CallerFace) (token : Token) (expected code : ℕ) (r : Result ReleaseAnswer ReleaseRefusal)
    (result : Result ReleaseAnswer TryReleaseRefusal) → ExchangedOn token expected code t (reply_to_release r) u
    → HasNoPause token.element expected → try_release_answer result ≡ Some (release_answer r) → IfOk result (λ a. a ≡ answer.Early)
tried_early t u token expected code r result x quiet e =
    early_only r result (λ woke.
    let op = op_on.Element (Release token.generation code) in
    let q : ◌≡◌ {A = Option (ℕ × WordState)} (Some (x.place, x.state)) (Some (quiet.place, word_state.Element quiet.state)) =
    sym x.unpacks ∙ quiet.unpacks in
    let state : x.state ≡ word_state.Element quiet.state =
    (some_pair_parts x.place quiet.place x.state (word_state.Element quiet.state) q).1 in
    let reply : Some (reply_of.Element (element_step (Release token.generation code) quiet.state).1)
    ≡ Some (reply_of.Element (reply_to_release (Ok answer.Woke))) =
    sym (ap (λ s. reply_in op s) state) ∙ (x.replies ∙ ap (λ z. Some (reply_of.Element (reply_to_release z))) woke) in
    not_waking token.generation code quiet.state quiet.phase (cc reply)) e

-- the task stays the same caller of the same station
pub tried_same : (token : Token) (expected code : ℕ) (t : CallerFace) (result : Result ReleaseAnswer TryReleaseRefusal) (u : CallerFace)
    → IsTried token expected code t result u → IsSame t u
tried_same token expected code t (Ok answer.Early) u x = x.happened.same
tried_same token expected code t (Ok answer.Woke) u x = x.happened.same
tried_same token expected code t (Err (try_refused.Spent now)) u x = x.happened.same
tried_same token expected code t (Err try_refused.Already) u x = x.happened.same
tried_same token expected code t (Err (try_refused.Moved word)) u x = x.found.same
