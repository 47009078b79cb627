-- Transfers.
use Rattle.std.proofs.Common.{◌≡◌, ◌≢◌, ℕ, ◌+◌, ◌≤◌, ◌==◌, ◌&&◌, Bool, true, false, not, cond, Option, Some, None, Result, Ok, Err, List}
use Rattle.std.proofs.Common.{refl, sym, ap, ◌∙◌, subst, arith}
use Rattle.std.proofs.lemmas.Bool.{eq-eqb, eqb-true, ne_eqb}
use Rattle.std.specs.Option.{option_or}
use Rattle.mv_element.specs.declared.element.Token.{Token}
use Rattle.mv_element.specs.declared.operation.ElementOp.TheVariants.{Release}
use Rattle.mv_element.specs.declared.operation.ElementReply.TheVariants as element_reply
use Rattle.mv_machine.specs.declared.entry.Entry.{Entry}
use Rattle.mv_machine.specs.declared.entry.Object.TheVariants.{Element}
use Rattle.mv_machine.specs.declared.entry.Op.TheVariants as op_on
use Rattle.mv_machine.specs.declared.entry.Reply.TheVariants as reply_of
use Rattle.mv_config.specs.Limits.{highest_generation}
use Rattle.mv_config.specs.Setup.{Setup, element_owner}
use Rattle.mv_machine.specs.System.{with_at}
use Rattle.mv_board.specs.Faces.{CallerFace, Happened}
use Rattle.mv_calls.specs.Keeping.{Kept, kept_of, kept_after, nothing_kept}
use Rattle.mv_calls.specs.Pauses.{is_others_token, pause, pause_current, gave, transfer, transfer_refusal, transferred}
use Rattle.mv_calls.specs.Program.{Do, Done, and_then, on_element, unless_refused}
use Rattle.mv_calls.specs.Refusal.{Refusal}
use Rattle.mv_calls.specs.Refusal as refusal
use Rattle.mv_calls.specs.Waits.{refused_if}
use Rattle.mv_calls.proofs.Making.{kept_caller}
use Rattle.mv_wait.specs.Run.{Runs}
use Rattle.mv_wait.proofs.Compose.{runs_and_then}
use Rattle.mv_wait.proofs.Runs.{entry_of, runs_none}
use Rattle.mv_wait.proofs.Waits.{kept_one}
use Rattle.mv_pause.specs.Answers.{release_answer, transfer_answer, transfer_refused, IsLow, IsLowRefusal}
use Rattle.mv_pause.specs.Pausing.{pause_own}
use Rattle.mv_pause.specs.Replies.{HappenedOn, reply_to_release}
use Rattle.mv_pause.specs.Transferring.{pause_cost, target_refused, IsTransferCause}
use Rattle.mv_calls.specs.declared.outcomes.Given.{Given}
use Rattle.mv_calls.specs.declared.outcomes.ReleaseAnswer.{ReleaseAnswer}
use Rattle.mv_calls.specs.declared.outcomes.ReleaseAnswer.TheVariants as answer
use Rattle.mv_pause.specs.declared.releasing.ReleaseRefusal.{ReleaseRefusal}
use Rattle.mv_pause.specs.declared.releasing.ReleaseRefusal.TheVariants as release_refusal
use Rattle.mv_pause.specs.declared.transferring.TransferRefusal.{TransferRefusal}
use Rattle.mv_pause.specs.declared.transferring.TransferRefusal.TheVariants as refused
use Rattle.mv_pause.proofs.Served.{mine}
use Rattle.mv_calls.specs.Services.{transfer_events}

-- ---- the refusal without event

-- it looks at whose the current token's element is, at its use and at its generation
abbrev pub refusal_by : Bool → Bool → (generation carried : ℕ) → Option Refusal
refusal_by others used generation carried =
    option_or (refused_if others refusal.NotOwner) (refused_if (not (used && (generation == carried))) (refusal.Spent generation))

pub not_owned : (others used : Bool) (generation carried : ℕ) → others ≡ true
    → refusal_by others used generation carried ≡ Some refusal.NotOwner
not_owned others used generation carried other =
    ap (λ b. option_or (refused_if b refusal.NotOwner)
    (refused_if (not (used && (generation == carried))) (refusal.Spent generation))) other

pub not_in_use : (others used : Bool) (generation carried : ℕ) → others ≡ false → used ≡ false
    → refusal_by others used generation carried ≡ Some (refusal.Spent generation)
not_in_use others used generation carried own idle = rw (own, idle) refl

pub not_now : (others used : Bool) (generation carried : ℕ) → others ≡ false → generation ≢ carried
    → refusal_by others used generation carried ≡ Some (refusal.Spent generation)
not_now others true generation carried own other = rw (own, ne_eqb generation carried other) refl
not_now others false generation carried own other = rw own refl

pub none_refused : (others used : Bool) (generation carried : ℕ) → others ≡ false → used ≡ true → generation ≡ carried
    → refusal_by others used generation carried ≡ None
none_refused others used generation carried own in_use same = rw (own, in_use, eq-eqb generation carried same) refl

-- a current token that is not refused
pub record IsAccepted (others used : Bool) (generation carried : ℕ) : Type 0 where
  pub own : others ≡ false
  pub in_use : used ≡ true
  pub now : generation ≡ carried

accepted_by : (others used : Bool) (generation carried : ℕ) (b : Bool) → (generation == carried) ≡ b
    → option_or (refused_if others refusal.NotOwner) (refused_if (not (used && b)) (refusal.Spent generation)) ≡ None
    → IsAccepted others used generation carried
accepted_by false true generation carried true now e = record { own = refl; in_use = refl; now = eqb-true generation carried now }
accepted_by true used generation carried b now e = absurd (cc e)
accepted_by false true generation carried false now e = absurd (cc e)
accepted_by false false generation carried b now e = absurd (cc e)

pub accepted : (s : Setup) (token : Token) (kept : Kept) → transfer_refusal s (Some token) kept ≡ None
    → IsAccepted (is_others_token s kept token) (kept.in_use token.element) (kept.generation token.element) token.generation
accepted s token kept e = accepted_by _ _ _ _ (kept.generation token.element == token.generation) refl e

-- ---- a release changes nothing that is kept

same_at : (f : ℕ → ℕ) (m n : ℕ) → with_at f m (f m) n ≡ f n
same_at f m n = go (n == m) refl where
  go : (b : Bool) → (n == m) ≡ b → cond b (f m) (f n) ≡ f n
  go true is = ap f (sym (eqb-true n m is))
  go false is = refl

-- what is kept after a release that was answered so
abbrev pub after_release : Kept → (m g d : ℕ) → Result ReleaseAnswer ReleaseRefusal → Kept
after_release kept m g d r = kept_after kept (Element m) (op_on.Element (Release g d)) (reply_of.Element (reply_to_release r))

release_keeps_use : (kept : Kept) (m n g d : ℕ) (r : Result ReleaseAnswer ReleaseRefusal)
    → (after_release kept m g d r).in_use n ≡ kept.in_use n
release_keeps_use kept m n g d (Ok answer.Early) = refl
release_keeps_use kept m n g d (Ok answer.Woke) = refl
release_keeps_use kept m n g d (Err (release_refusal.Spent now)) = refl
release_keeps_use kept m n g d (Err release_refusal.Already) = refl

release_keeps_generation : (kept : Kept) (m n g d : ℕ) (r : Result ReleaseAnswer ReleaseRefusal)
    → (after_release kept m g d r).generation n ≡ kept.generation n
release_keeps_generation kept m n g d (Ok answer.Early) = same_at kept.generation m n
release_keeps_generation kept m n g d (Ok answer.Woke) = same_at kept.generation m n
release_keeps_generation kept m n g d (Err (release_refusal.Spent now)) = same_at kept.generation m n
release_keeps_generation kept m n g d (Err release_refusal.Already) = same_at kept.generation m n

still_by : (s : Setup) (token : Token) (kept : Kept) (m g d : ℕ) (r : Result ReleaseAnswer ReleaseRefusal)
    → transfer_refusal s (Some token) kept ≡ None → transfer_refusal s (Some token) (after_release kept m g d r) ≡ None
still_by s token kept m g d r e =
    let a = accepted s token kept e in
    none_refused (is_others_token s kept token) ((after_release kept m g d r).in_use token.element)
    ((after_release kept m g d r).generation token.element) token.generation a.own
    (release_keeps_use kept m token.element g d r ∙ a.in_use) (release_keeps_generation kept m token.element g d r ∙ a.now)

-- a current token is accepted after the release of the target as it was before
pub still_accepted : (s : Setup) (current : Option Token) (t u : CallerFace) (m g d : ℕ) (r : Result ReleaseAnswer ReleaseRefusal)
    → Happened t (Element m) (op_on.Element (Release g d)) (reply_of.Element (reply_to_release r)) u
    → transfer_refusal s current (kept_of t.number t.log) ≡ None → transfer_refusal s current (kept_of u.number u.log) ≡ None
still_accepted s None t u m g d r h e = refl
still_accepted s (Some token) t u m g d r h e =
    let same : kept_of u.number u.log ≡ after_release (kept_of t.number t.log) m g d r =
    (λ i. kept_of (h.1.same.number i) (h.1.logged i)) ∙ kept_one t.number t.log
    (entry_of t (Element m) h.0 (op_on.Element (Release g d)) (reply_of.Element (reply_to_release r))) in
    subst (λ (q : Kept). transfer_refusal s (Some token) q ≡ None) (sym same) (still_by s token (kept_of t.number t.log) m g d r e)

-- ---- the pause with the current token

pub paused_with : (s : Setup) (token : Token) (t u : CallerFace) (given : Given)
    → is_others_token s (kept_of t.number t.log) token ≡ false
    → Runs 2 (pause_own token) (Done (Ok given)) t u
    → Runs 2 (pause_current s (Some token) (kept_of t.number t.log)) (Done (Ok (Some given))) t u
paused_with s token t u given own runs =
    runs_and_then 2 0 (pause s token (kept_of t.number t.log)) gave (Ok given) (Done (Ok (Some given))) t u u
    (subst (λ p. Runs 2 p (Done (Ok given)) t u) (sym (mine s (kept_of t.number t.log) token (pause_own token) own)) runs)
    (runs_none (Done (Ok (Some given))) u)

-- it looks at the caller alone
pub same_pause : (s : Setup) (current : Option Token) (k j : ℕ) (log since : List Entry) → j ≡ k
    → pause_current s current (kept_of j since) ≡ pause_current s current (kept_of k log)
same_pause s None k j log since e = refl
same_pause s (Some token) k j log since e =
    ap (λ i. and_then (unless_refused (refused_if (not (element_owner s token.element == i)) refusal.NotOwner) (pause_own token)) gave)
    (kept_caller (nothing_kept j) since ∙ (e ∙ sym (kept_caller (nothing_kept k) log)))

-- ---- the whole

pub refused_whole : (s : Setup) (current : Option Token) (target : Token) (code : ℕ) (kept : Kept) (why : Refusal)
    → transfer_refusal s current kept ≡ Some why → transfer s current target code kept ≡ Done (Err why)
refused_whole s current target code kept why e = rw e refl

pub accepted_whole : (s : Setup) (current : Option Token) (target : Token) (code : ℕ) (kept : Kept)
    → transfer_refusal s current kept ≡ None
    → transfer s current target code kept ≡ Do (Element target.element) (op_on.Element (Release target.generation code))
    (λ h. on_element h.entry.reply (transferred s current kept))
accepted_whole s current target code kept e = rw e refl

pub target_is_refused : (s : Setup) (current : Option Token) (kept : Kept) (r : Result ReleaseAnswer ReleaseRefusal) (why : Refusal)
    → target_refused r ≡ Some why → transferred s current kept (reply_to_release r) ≡ Done (Err why)
target_is_refused s current kept (Ok a) why e = absurd (cc e)
target_is_refused s current kept (Err (release_refusal.Spent now)) why e =
    let same : refusal.TargetSpent now ≡ why = cc e in ap (λ z. Done (Err z)) same
target_is_refused s current kept (Err release_refusal.Already) why e =
    let same : refusal.TargetAlready ≡ why = cc e in ap (λ z. Done (Err z)) same

pub target_is_released : (s : Setup) (current : Option Token) (kept : Kept) (r : Result ReleaseAnswer ReleaseRefusal)
    → target_refused r ≡ None → transferred s current kept (reply_to_release r) ≡ pause_current s current kept
target_is_released s current kept (Ok answer.Early) e = refl
target_is_released s current kept (Ok answer.Woke) e = refl
target_is_released s current kept (Err (release_refusal.Spent now)) e = absurd (cc e)
target_is_released s current kept (Err release_refusal.Already) e = absurd (cc e)

pub cost_parts : (current : Option Token) → (transfer_events current ≡ 1 + pause_cost current) × (1 ≤ transfer_events current)
cost_parts None = (refl, omega arith)
cost_parts (Some t) = (refl, omega arith)

-- ---- why a transfer is refused

-- the release of the target was not accepted
pub target_cause : (c : Setup) (current : Option Token) (target : Token) (code : ℕ) (t u : CallerFace)
    (r : Result ReleaseAnswer ReleaseRefusal) (why : TransferRefusal)
    → Some (transfer_refused why) ≡ target_refused r → transfer_refusal c current (kept_of t.number t.log) ≡ None
    → HappenedOn target t (Release target.generation code) (reply_to_release r) u
    → IsTransferCause c current target code t why u
target_cause c current target code t u (Err (release_refusal.Spent m)) (refused.TargetSpent now) e none h =
    let same : m ≡ now = cc e in
    (none, subst (λ g. HappenedOn target t (Release target.generation code) (element_reply.Spent g) u) same h)
target_cause c current target code t u (Err release_refusal.Already) refused.TargetAlready e none h = (none, h)
target_cause c current target code t u (Ok a) why e none h = absurd (cc e)
target_cause c current target code t u (Err (release_refusal.Spent m)) refused.NotOwner e none h = absurd (cc e)
target_cause c current target code t u (Err (release_refusal.Spent m)) (refused.Spent now) e none h = absurd (cc e)
target_cause c current target code t u (Err (release_refusal.Spent m)) refused.TargetAlready e none h = absurd (cc e)
target_cause c current target code t u (Err release_refusal.Already) refused.NotOwner e none h = absurd (cc e)
target_cause c current target code t u (Err release_refusal.Already) (refused.Spent now) e none h = absurd (cc e)
target_cause c current target code t u (Err release_refusal.Already) (refused.TargetSpent now) e none h = absurd (cc e)

-- a refusal that comes without event is one of the current token
pub current_cause : (c : Setup) (current : Option Token) (target : Token) (code : ℕ) (t : CallerFace) (why : TransferRefusal)
    → transfer_refusal c current (kept_of t.number t.log) ≡ Some (transfer_refused why) → IsTransferCause c current target code t why t
current_cause c current target code t refused.NotOwner e = (e, refl)
current_cause c current target code t (refused.Spent now) e = (e, refl)
current_cause c current target code t (refused.TargetSpent now) e = absurd (never (kept_of t.number t.log) now current e) where
  after_all : (a b : Bool) (g now : ℕ) → option_or (refused_if a refusal.NotOwner) (refused_if b (refusal.Spent g))
      ≡ Some (refusal.TargetSpent now) → ⊥
  after_all true b g now q = cc q
  after_all false true g now q = cc q
  after_all false false g now q = cc q

  never : (kept : Kept) (now : ℕ) (token : Option Token) → transfer_refusal c token kept ≡ Some (refusal.TargetSpent now) → ⊥
  never kept now None q = cc q
  never kept now (Some x) q = after_all _ _ _ now q
current_cause c current target code t refused.TargetAlready e = absurd (never (kept_of t.number t.log) current e) where
  after_all : (a b : Bool) (g : ℕ) → option_or (refused_if a refusal.NotOwner) (refused_if b (refusal.Spent g))
      ≡ Some refusal.TargetAlready → ⊥
  after_all true b g q = cc q
  after_all false true g q = cc q
  after_all false false g q = cc q

  never : (kept : Kept) (token : Option Token) → transfer_refusal c token kept ≡ Some refusal.TargetAlready → ⊥
  never kept None q = cc q
  never kept (Some x) q = after_all _ _ _ q

-- ---- the generations that a transfer names

pub target_is_low : (r : Result ReleaseAnswer ReleaseRefusal) (why : TransferRefusal) → Some (transfer_refused why) ≡ target_refused r
    → IsLow (release_answer r) → IsLowRefusal (transfer_refused why)
target_is_low (Err (release_refusal.Spent m)) (refused.TargetSpent now) e h =
    let same : m ≡ now = cc e in subst (λ g. g ≤ highest_generation) same h
target_is_low (Err (release_refusal.Spent m)) refused.NotOwner e h = tt
target_is_low (Err (release_refusal.Spent m)) (refused.Spent now) e h = absurd (cc e)
target_is_low (Err (release_refusal.Spent m)) refused.TargetAlready e h = tt
target_is_low (Err release_refusal.Already) refused.NotOwner e h = tt
target_is_low (Err release_refusal.Already) (refused.Spent now) e h = absurd (cc e)
target_is_low (Err release_refusal.Already) (refused.TargetSpent now) e h = absurd (cc e)
target_is_low (Err release_refusal.Already) refused.TargetAlready e h = tt
target_is_low (Ok a) why e h = absurd (cc e)

pub transfer_is_low : (given : Option Given) → IsLow (transfer_answer (Ok given))
transfer_is_low None = tt
transfer_is_low (Some g) = tt
