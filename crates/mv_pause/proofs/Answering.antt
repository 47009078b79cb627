-- What an event on an element is answered, by the state in which it found the element.
use Rattle.std.proofs.Common.{◌≡◌, ℕ, ◌+◌, Bool, true, false, sym, ◌∙◌, subst, arith}
use Rattle.mv_element.specs.declared.element.ElementState.{ElementState}
use Rattle.mv_element.specs.declared.element.Token.{Token}
use Rattle.mv_element.specs.declared.operation.ElementOp.{ElementOp}
use Rattle.mv_element.specs.declared.operation.ElementOp.TheVariants as element_op
use Rattle.mv_element.specs.declared.operation.ElementReply.TheVariants as element_reply
use Rattle.mv_element.specs.Table.{element_step}
use Rattle.mv_machine.specs.declared.entry.Object.TheVariants.{Element}
use Rattle.mv_machine.specs.declared.entry.Op.TheVariants as op_on
use Rattle.mv_machine.specs.declared.entry.Reply.{Reply}
use Rattle.mv_machine.specs.declared.entry.Reply.TheVariants as reply_of
use Rattle.mv_machine.specs.Legal.{after}
use Rattle.mv_machine.specs.Parts.{IsPossible}
use Rattle.mv_config.specs.Setup.{Setup, element_owner}
use Rattle.mv_board.specs.Faces.{CallerFace, Happened}
use Rattle.mv_calls.specs.Keeping.{kept_of}
use Rattle.mv_calls.specs.Known.{ElementAgrees}
use Rattle.mv_calls.specs.Rest.{IsAtRest, no_waits, waits_from}
use Rattle.mv_calls.proofs.Elements.{element_agrees}
use Rattle.mv_wait.proofs.Answering.{made_behind}
use Rattle.mv_pause.specs.Pausing.{IsCurrent}
use Rattle.mv_pause.specs.Replies.{SaysOpened, SaysBegun, SaysReleased, SaysClosed, SaysState}

-- an element that was found in some state, which agrees with what its owner's log says, answers by its table
pub record Answers (c : Setup) (t : CallerFace) (n : ℕ) (op : ElementOp) (reply : Reply) : Type 0 where
  pub state : ElementState
  pub reply_is : reply ≡ reply_of.Element (element_step op state).1
  pub agrees : element_owner c n ≡ t.number
      → ElementAgrees state ((kept_of t.number t.log).in_use n) ((waits_from no_waits t.log).parked n)
      ((kept_of t.number t.log).generation n)

pub element_answers : (c : Setup) (t u : CallerFace) (n : ℕ) (op : ElementOp) (reply : Reply)
    → Happened t (Element n) (op_on.Element op) reply u
    → IsPossible c u.number u.log u.told → Answers c t n op reply
element_answers c t u n op reply h p =
    let b = made_behind c t u (Element n) h.0 (op_on.Element op) reply h.1 p in record {
      state = ((after c b.before).element n).state;
      reply_is = (let r = b.follows.reply in cc);
      agrees = λ own. subst (λ log. ElementAgrees ((after c b.before).element n).state ((kept_of t.number log).in_use n)
          ((waits_from no_waits log).parked n) ((kept_of t.number log).generation n)) b.logged
          (element_agrees c n t.number own b.before b.legal);
    }

-- ---- anyone's

release_says : (g d : ℕ) (s : ElementState) → SaysReleased (reply_of.Element (element_step (element_op.Release g d) s).1)
release_says g d s = grind arith

pub says_released : (c : Setup) (t u : CallerFace) (n g d : ℕ) (reply : Reply)
    → Happened t (Element n) (op_on.Element (element_op.Release g d)) reply u
    → IsPossible c u.number u.log u.told → SaysReleased reply
says_released c t u n g d reply h p =
    let a = element_answers c t u n (element_op.Release g d) reply h p in subst SaysReleased (sym a.reply_is) (release_says g d a.state)

pub says_state : (c : Setup) (t u : CallerFace) (n : ℕ) (reply : Reply) → Happened t (Element n) (op_on.Element element_op.Test) reply u
    → IsPossible c u.number u.log u.told → SaysState reply
says_state c t u n reply h p = let a = element_answers c t u n element_op.Test reply h p in subst SaysState (sym a.reply_is) tt

-- ---- the owner's, where the owner does not pause with it

-- an element that is not in use opens
open_says : (s : ElementState) (used parked : Bool) (kept : ℕ) → ElementAgrees s used parked kept → used ≡ false
    → SaysOpened (reply_of.Element (element_step element_op.Open s).1)
open_says s used parked kept h none = grind arith

pub says_opened : (c : Setup) (t u : CallerFace) (n : ℕ) (reply : Reply) → Happened t (Element n) (op_on.Element element_op.Open) reply u
    → IsPossible c u.number u.log u.told → element_owner c n ≡ t.number → (kept_of t.number t.log).in_use n ≡ false → SaysOpened reply
says_opened c t u n reply h p own none =
    let a = element_answers c t u n element_op.Open reply h p in
    subst SaysOpened (sym a.reply_is) (open_says a.state _ _ _ (a.agrees own) none)

-- it is not busy
pub pause_says : (g : ℕ) (s : ElementState) (used parked : Bool) (kept : ℕ) → ElementAgrees s used parked kept → parked ≡ false
    → SaysBegun (reply_of.Element (element_step (element_op.Pause g) s).1)
pause_says g s used parked kept h idle = grind arith

pub close_says : (g : ℕ) (s : ElementState) (used parked : Bool) (kept : ℕ) → ElementAgrees s used parked kept → parked ≡ false
    → SaysClosed (reply_of.Element (element_step (element_op.Close g) s).1)
close_says g s used parked kept h idle = grind arith

-- so is the reply to an event with such an operation
pub says_idle : (c : Setup) (t u : CallerFace) (n : ℕ) (op : ElementOp) (reply : Reply) (Says : Reply → Type 0)
    → ((s : ElementState) (used parked : Bool) (kept : ℕ) → ElementAgrees s used parked kept → parked ≡ false
    → Says (reply_of.Element (element_step op s).1))
    → Happened t (Element n) (op_on.Element op) reply u
    → IsPossible c u.number u.log u.told → element_owner c n ≡ t.number → IsAtRest t.log → Says reply
says_idle c t u n op reply Says cell h p own rest =
    let a = element_answers c t u n op reply h p in
    subst Says (sym a.reply_is) (cell a.state _ _ _ (a.agrees own) (rest.parked n))

-- a pause and a close with a token that is current are not answered Spent
pub pause_is_current : (g now : ℕ) (s : ElementState) (used parked : Bool) (kept : ℕ) → ElementAgrees s used parked kept → parked ≡ false
    → used ≡ true → kept ≡ g → (element_step (element_op.Pause g) s).1 ≡ element_reply.Spent now → ⊥
pause_is_current g now s used parked kept h idle in_use same e = grind arith

pub close_is_current : (g now : ℕ) (s : ElementState) (used parked : Bool) (kept : ℕ) → ElementAgrees s used parked kept → parked ≡ false
    → used ≡ true → kept ≡ g → (element_step (element_op.Close g) s).1 ≡ element_reply.Spent now → ⊥
close_is_current g now s used parked kept h idle in_use same e = grind arith

-- so neither is an event with such an operation
pub current_is_not_spent : (c : Setup) (t u : CallerFace) (token : Token) (op : ElementOp) (reply : Reply) (now : ℕ)
    → ((s : ElementState) (used parked : Bool) (kept : ℕ) → ElementAgrees s used parked kept → parked ≡ false
    → used ≡ true → kept ≡ token.generation → (element_step op s).1 ≡ element_reply.Spent now → ⊥)
    → Happened t (Element token.element) (op_on.Element op) reply u
    → IsPossible c u.number u.log u.told → element_owner c token.element ≡ t.number → IsAtRest t.log
    → IsCurrent (kept_of t.number t.log) token
    → reply ≡ reply_of.Element (element_reply.Spent now) → ⊥
current_is_not_spent c t u token op reply now cell h p own rest current is =
    let a = element_answers c t u token.element op reply h p in
    let same : reply_of.Element (element_step op a.state).1 ≡ reply_of.Element (element_reply.Spent now) = sym a.reply_is ∙ is in
    let spent : (element_step op a.state).1 ≡ element_reply.Spent now = cc same in
    cell a.state _ _ _ (a.agrees own) (rest.parked token.element) current.used current.generation spent

-- ---- a gift begins the next generation

pub pause_gives : (g code next : ℕ) (s : ElementState) → (element_step (element_op.Pause g) s).1 ≡ element_reply.Given code next
    → next ≡ g + 1
pause_gives g code next s e = grind arith

pub resume_gives : (g code next : ℕ) (s : ElementState) → (element_step (element_op.Resume g) s).1 ≡ element_reply.Given code next
    → next ≡ g + 1
resume_gives g code next s e = grind arith

-- so does that of an event with such an operation
pub gives_next : (c : Setup) (t u : CallerFace) (n g : ℕ) (op : ElementOp) (code next : ℕ)
    → ((s : ElementState) → (element_step op s).1 ≡ element_reply.Given code next → next ≡ g + 1)
    → Happened t (Element n) (op_on.Element op) (reply_of.Element (element_reply.Given code next)) u
    → IsPossible c u.number u.log u.told → next ≡ g + 1
gives_next c t u n g op code next cell h p =
    let a = element_answers c t u n op (reply_of.Element (element_reply.Given code next)) h p in
    let r = a.reply_is in
    let given : (element_step op a.state).1 ≡ element_reply.Given code next = cc (sym r) in
    cell a.state given
