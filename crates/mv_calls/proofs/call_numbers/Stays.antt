-- What is left of a call's program against the numbering: each event that it may still say keeps the group.
use Rattle.std.proofs.Common.{◌≡◌, ℕ, suc, zero, true, if◌then◌else◌, List, [], ◌∷◌, ◌++◌, length, Option, Some, None, refl, ap, ◌∙◌}
use Rattle.std.proofs.lemmas.Bool.{eq-eqb}
use Rattle.mv_ecb.specs.declared.operation.EcbOp.TheVariants as ecb_op
use Rattle.mv_ecb.specs.declared.operation.EcbReply.TheVariants as ecb_reply
use Rattle.mv_latch.specs.declared.operation.Wake.{Wake}
use Rattle.mv_machine.specs.declared.entry.Object.{Object}
use Rattle.mv_machine.specs.declared.entry.Object.TheVariants.{Ecb}
use Rattle.mv_machine.specs.declared.entry.Op.{Op}
use Rattle.mv_machine.specs.declared.entry.Op.TheVariants as op_on
use Rattle.mv_machine.specs.declared.entry.Reply.{Reply}
use Rattle.mv_machine.specs.declared.entry.Reply.TheVariants as reply_of
use Rattle.mv_config.specs.Setup.{Setup, targets_of}
use Rattle.mv_calls.specs.Keeping.{Kept}
use Rattle.mv_calls.specs.Posts.{posting, posted_next, each_posted, post_within, wake_posted}
use Rattle.mv_calls.specs.Posts.{wakes_posted}
use Rattle.mv_calls.specs.declared.outcomes.PostAnswer.{PostAnswer}
use Rattle.mv_calls.specs.declared.outcomes.PostAnswer.TheVariants as answer
use Rattle.mv_calls.specs.Program.{Program, Do, Done, Early, Wrong, Heard, and_then, on_ecb}
use Rattle.mv_calls.specs.declared.counting.Last.{Last}
use Rattle.mv_calls.specs.Numbers.{Numbering, numbered, group_after, continues, kept_pending}
use Rattle.mv_machine.specs.Waking.{blocks_of}

-- an event as it is heard
abbrev pub event : ℕ → Object → ℕ → Op → Reply → List Wake → Heard
event k o place op reply ws = record { entry = record { caller = k; object = o; place = place; op = op; reply = reply }; wakes = ws }

-- the numbering after what is heard
abbrev pub then_numbered : Setup → Numbering → Heard → Numbering
then_numbered c t h = numbered c t h.entry h.wakes

-- Whatever is heard of the events that the program says, each keeps the group; and this holds of the numbering where it is
-- done.
abbrev pub StaysTo : {A : Type 0} → Setup → (Numbering → Type 0) → Numbering → Program A → Type 0
StaysTo c Q t (Do o op next) = (k place : ℕ) (reply : Reply) (ws : List Wake)
    → ((then_numbered c t (event k o place op reply ws)).group ≡ t.group) × StaysTo c Q (then_numbered c t (event k o place op reply ws))
    (next (event k o place op reply ws))
StaysTo c Q t (Done a) = Q t
StaysTo c Q t Early = Unit {0}
StaysTo c Q t Wrong = Unit {0}

-- where nothing is asked at the end
abbrev pub Anything : Numbering → Type 0
Anything t = Unit {0}

-- a program and what follows it
pub stays_then : {A B : Type 0} (c : Setup) (Q R : Numbering → Type 0) (t : Numbering) (p : Program A) (f : A → Program B)
    → StaysTo c Q t p → ((u : Numbering) (a : A) → Q u → StaysTo c R u (f a)) → StaysTo c R t (and_then p f)
stays_then c Q R t (Do o op next) f s g = λ k place reply ws. (
  (s k place reply ws).0,
  stays_then c Q R (then_numbered c t (event k o place op reply ws)) (next (event k o place op reply ws)) f (s k place reply ws).1 g,
)
stays_then c Q R t (Done a) f s g = g t a s
stays_then c Q R t Early f s g = tt
stays_then c Q R t Wrong f s g = tt

-- what holds at the end may be weakened
pub stays_weaker : {A : Type 0} (c : Setup) (Q R : Numbering → Type 0) (t : Numbering) (p : Program A)
    → StaysTo c Q t p → ((u : Numbering) → Q u → R u) → StaysTo c R t p
stays_weaker c Q R t (Do o op next) s g = λ k place reply ws. (
  (s k place reply ws).0,
  stays_weaker c Q R (then_numbered c t (event k o place op reply ws)) (next (event k o place op reply ws)) (s k place reply ws).1 g,
)
stays_weaker c Q R t (Done a) s g = g t s
stays_weaker c Q R t Early s g = tt
stays_weaker c Q R t Wrong s g = tt

-- what continues keeps the group
pub group_kept : (last : Option Last) (g : ℕ) → group_after last g true ≡ g
group_kept None g = refl
group_kept (Some e) g = refl

-- ---- posts: the pending blocks are those of the posts that are still to be made, before others

-- these blocks are pending
abbrev pub IsPending : List ℕ → Numbering → Type 0
IsPending below t = t.pending ≡ below

-- a post of the first pending block continues
first_continues : (c : Setup) (code e : ℕ) (below : List ℕ) (t : Numbering) → t.pending ≡ e ∷ below
    → continues t (Ecb e) (op_on.Ecb (ecb_op.Post code)) ≡ true
first_continues c code e below t p = rw p (eq-eqb e e refl)

-- and takes it off
first_is_taken : (code e : ℕ) (below : List ℕ) (t : Numbering) → t.pending ≡ e ∷ below
    → kept_pending t.pending (Ecb e) (op_on.Ecb (ecb_op.Post code)) ≡ below
first_is_taken code e below t p = ap (λ ps. kept_pending ps (Ecb e) (op_on.Ecb (ecb_op.Post code))) p ∙ ap (λ b. if b then below else [])
    (eq-eqb e e refl)

-- posts in order, where each post takes its block off
each_stays : (c : Setup) (post : ℕ → Program PostAnswer)
    (one : (e : ℕ) (below : List ℕ) (t : Numbering) → t.pending ≡ e ∷ below → StaysTo c (IsPending below) t (post e))
    (es below : List ℕ) (t : Numbering) (a : PostAnswer) → t.pending ≡ es ++ below → StaysTo c (IsPending below) t (each_posted post es a)
each_stays c post one [] below t a p = p
each_stays c post one (e ∷ es) below t a p =
    stays_then c (IsPending (es ++ below)) (IsPending below) t (post e) (λ q. each_posted post es a) (one e (es ++ below) t p)
    (λ u b q. each_stays c post one es below u a q)

-- a post, where the posts of its exit take their blocks off: behind it the others are pending
one_post : (c : Setup) (depth code e : ℕ) (one : (n : ℕ) (below : List ℕ) (t : Numbering) → t.pending ≡ n ∷ below → StaysTo c
    (IsPending below) t (post_within depth c code n))
    (below : List ℕ) (t : Numbering) → kept_pending t.pending (Ecb e) (op_on.Ecb (ecb_op.Post code)) ≡ below
    → (k place : ℕ) (reply : Reply) (ws : List Wake)
    → StaysTo c (IsPending below) (then_numbered c t (event k (Ecb e) place (op_on.Ecb (ecb_op.Post code)) reply ws))
    (on_ecb reply (λ r. posting (λ a. each_posted (post_within depth c code) (posted_next c r) a) r))
one_post c depth code e one below t taken k place (reply_of.Ecb ecb_reply.Posted) ws = taken
one_post c depth code e one below t taken k place (reply_of.Ecb (ecb_reply.Woke x)) ws =
    each_stays c (post_within depth c code) one (targets_of c x) below
    (then_numbered c t (event k (Ecb e) place (op_on.Ecb (ecb_op.Post code)) (reply_of.Ecb (ecb_reply.Woke x)) ws)) answer.Woke
    (ap (λ ps. targets_of c x ++ ps) taken)
one_post c depth code e one below t taken k place (reply_of.Ecb (ecb_reply.Already d)) ws = taken
one_post c depth code e one below t taken k place r ws = tt

-- a post of the first pending block continues
pub post_stays : (c : Setup) (depth code e : ℕ) (below : List ℕ) (t : Numbering) → t.pending ≡ e ∷ below
    → StaysTo c (IsPending below) t (post_within depth c code e)
post_stays c zero code e below t p = tt
post_stays c (suc depth) code e below t p = λ k place reply ws. (
  ap (λ b. group_after t.last t.group b) (first_continues c code e below t p) ∙ group_kept t.last t.group,
  one_post c depth code e (post_stays c depth code) below t (first_is_taken code e below t p) k place reply ws,
)

-- a block, if there is one, before others
abbrev and_block : Option ℕ → List ℕ → List ℕ
and_block None rest = rest
and_block (Some e) rest = e ∷ rest

-- the posts of a wake, if it has a block
wake_stays : {A : Type 0} (c : Setup) (Q : Numbering → Type 0) (block : Option ℕ) (code : ℕ) (kept : Kept) (rest : List ℕ)
    (last : Program A) (t : Numbering)
    → t.pending ≡ and_block block rest → ((u : Numbering) → u.pending ≡ rest → StaysTo c Q u last)
    → StaysTo c Q t (wake_posted c block code kept last)
wake_stays c Q None code kept rest last t p g = g t p
wake_stays c Q (Some e) code kept rest last t p g =
    stays_then c (IsPending rest) Q t (post_within (length c.owners) c code e) (λ a. last)
    (post_stays c (length c.owners) code e rest t p) (λ u a q. g u q)

-- and those of all wakes
pub wakes_stay : {A : Type 0} (c : Setup) (Q : Numbering → Type 0) (ws : List Wake) (kept : Kept) (below : List ℕ) (last : Program A)
    (t : Numbering)
    → t.pending ≡ blocks_of ws ++ below → ((u : Numbering) → u.pending ≡ below → StaysTo c Q u last)
    → StaysTo c Q t (wakes_posted c ws kept last)
wakes_stay c Q [] kept below last t p g = g t p
wakes_stay c Q (w ∷ ws) kept below last t p g =
    wake_stays c Q w.ecb w.code kept (blocks_of ws ++ below) (wakes_posted c ws kept last) t (p ∙ before w.ecb)
    (λ u q. wakes_stay c Q ws kept below last u q g) where
      before : (block : Option ℕ)
          → blocks_of (record w { ecb = block } ∷ ws) ++ below ≡ and_block block (blocks_of ws ++ below)
      before None = refl
      before (Some e) = refl

-- ---- a call from its first event on

-- whatever went before, behind the first event each keeps the group
abbrev pub Begins : {A : Type 0} → Setup → Program A → Type 0
Begins c (Do o op next) = (t : Numbering) (k place : ℕ) (reply : Reply) (ws : List Wake)
    → StaysTo c Anything (then_numbered c t (event k o place op reply ws)) (next (event k o place op reply ws))
Begins c (Done a) = Unit {0}
Begins c Early = Unit {0}
Begins c Wrong = Unit {0}

-- so a post with all that it leads to is one group
pub begins_post : (c : Setup) (depth code e : ℕ) → Begins c (post_within depth c code e)
begins_post c zero code e = tt
begins_post c (suc depth) code e = λ t k place reply ws.
    stays_weaker c (IsPending (kept_pending t.pending (Ecb e) (op_on.Ecb (ecb_op.Post code)))) Anything
    (then_numbered c t (event k (Ecb e) place (op_on.Ecb (ecb_op.Post code)) reply ws))
    (on_ecb reply (λ r. posting (λ a. each_posted (post_within depth c code) (posted_next c r) a) r))
    (one_post c depth code e (post_stays c depth code)
    (kept_pending t.pending (Ecb e) (op_on.Ecb (ecb_op.Post code))) t refl k place reply ws)
    (λ u q. tt)
