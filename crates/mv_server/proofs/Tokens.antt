-- A worker's token stays that of an own element in use, so that its pauses are not refused. Used by work.
use Rattle.std.proofs.Common.{◌≡◌, ℕ, zero, suc, ◌*◌, ◌≤◌, true, false, not, List, [], ◌∷◌, length, Some, Ok, Result, refl}
use Rattle.std.proofs.Common.{sym, ap, ◌∙◌, subst, arith}
use Rattle.std.proofs.lemmas.Bool.{eq-eqb}
use Rattle.mv_wait.specs.Prelude.ecb_op.{Post}
use Rattle.mv_wait.specs.Prelude.{Given, Token, ElementOp, Entry, Object, Ecb, Element, Op, Reply, reach, Setup, element_owner}
use Rattle.mv_wait.specs.Prelude.{CallerFace, Kept, kept_of, gift_of, allocate, lowest_free, pause, is_others_token, PostAnswer, post}
use Rattle.mv_wait.specs.Prelude.{Call, Done, Heard, Says, left, entries, Refusal, IsServed}
use Rattle.mv_wait.specs.Prelude.element_op
use Rattle.mv_wait.specs.Prelude.element_reply
use Rattle.mv_wait.specs.Prelude.op_on
use Rattle.mv_wait.specs.Prelude.reply_of
use Rattle.mv_wait.specs.Keeping.{kept_after, kept_from, nothing_kept, generation_after}
use Rattle.mv_wait.specs.Pauses.{token_of, open_lowest, opened, paused, resumed}
use Rattle.mv_wait.specs.Posts.{post_within}
use Rattle.mv_wait.specs.Program.{Program, Do, asks, heard, on_element, unless_refused}
use Rattle.mv_wait.specs.Refusal as refusal
use Rattle.mv_wait.specs.Waits.{refused_if}
use Rattle.mv_wait.proofs.Making.{kept_caller, kept_from-append}
use Rattle.mv_pause.specs.Pausing.{IsCurrent, pause_own}
use Rattle.mv_wait.proofs.OneBlock.{asked_is}
use Rattle.mv_server.specs.Pool.{pool_setup}
use Rattle.mv_server.proofs.Pool.{reach_one}

-- the task may pause with this token: it is that of an own element in use, with the element's generation
pub record MayPause (c : Setup) (t : CallerFace) (token : Token) : Type 0 where
  pub own : element_owner c token.element ≡ t.number
  pub current : IsCurrent (kept_of t.number t.log) token

-- no other's element is its own
pub own_token : (c : Setup) (t : CallerFace) (token : Token) → MayPause c t token → is_others_token c (kept_of t.number t.log) token ≡ false
own_token c t token may = ap not (eq-eqb (element_owner c token.element) (kept_of t.number t.log).caller
    (may.own ∙ sym (kept_caller (nothing_kept t.number) t.log)))

-- what a task keeps behind a call
kept_then : {A : Type 0} (most : ℕ) (call : Call A) (Is : A → Type 0) (t u : CallerFace) → (s : IsServed most call Is t u)
    → kept_of u.number u.log ≡ kept_from (kept_of t.number t.log) (entries s.made.events)
kept_then most call Is t u s = (λ i. kept_of (s.same.number i) (s.made.longer.logged i))
    ∙ kept_from-append (nothing_kept t.number) t.log (entries s.made.events)

-- ---- its element is free at first, and opened

pub first_free : (c : Setup) (n k : ℕ) (log : List Entry) → c ≡ pool_setup n → log ≡ [] → lowest_free c (kept_of k log) ≡ Some (k * 1)
first_free c n k log is none = (λ i. lowest_free (is i) (kept_of k (none i)))

opened_by : (n : ℕ) (r : Reply) (t : Token) → on_element r (opened n) ≡ Done (Ok t)
    → r ≡ reply_of.Element (element_reply.Opened t.generation)
opened_by n (reply_of.Element (element_reply.Opened g)) t e =
    let same : token_of n g ≡ t = cc e in ap (λ (x : Token). reply_of.Element (element_reply.Opened x.generation)) same
opened_by n r t e = absurd (cc e)

opened_current : (t : Token) (kept : Kept) (hs : List Heard) → Says (open_lowest (Some t.element)) hs
    → left (open_lowest (Some t.element)) hs ≡ Done (Ok t) → length hs ≤ 1 → IsCurrent (kept_from kept (entries hs)) t
opened_current t kept [] says done few = absurd (cc done)
opened_current t kept (h ∷ []) says done few =
    let on = asked_is (Element t.element) h.entry.object (op_on.Element element_op.Open) h.entry.op says.0 in
    let reply = opened_by t.element h.entry.reply t done in record {
      used = rw (on.0, reply, eq-eqb t.element t.element refl) refl;
      generation = rw (on.0, on.1, reply, eq-eqb t.element t.element refl) refl;
    }
opened_current t kept (h ∷ g ∷ hs) says done few = absurd (omega arith)

pub may_pause_first : (c : Setup) (token : Token) (t u : CallerFace) → IsServed 1 (allocate c) (λ a. a ≡ Ok token) t u
    → lowest_free c (kept_of t.number t.log) ≡ Some token.element → element_owner c token.element ≡ t.number → MayPause c u token
may_pause_first c token t u s free owner = record {
  own = owner ∙ sym s.same.number;
  current = subst (λ kept. IsCurrent kept token) (sym (kept_then 1 (allocate c) (λ a. a ≡ Ok token) t u s))
      (opened_current token (kept_of t.number t.log) s.made.events (subst (λ o. Says (open_lowest o) s.made.events) free s.made.done.says)
      (subst (λ o. left (open_lowest o) s.made.events ≡ Done (Ok token)) free (s.made.done.done ∙ ap Done s.is)) s.made.few);
}

-- ---- a post changes nothing of it

posted_current : (depth : ℕ) (c : Setup) (ecb code : ℕ) (t : Token) (kept : Kept) (hs : List Heard) → Says (post_within depth c code ecb) hs
    → length hs ≤ 1 → IsCurrent kept t → IsCurrent (kept_from kept (entries hs)) t
posted_current depth c ecb code t kept [] says few now = now
posted_current zero c ecb code t kept (h ∷ hs) says few now = absurd (cc says.0)
posted_current (suc depth) c ecb code t kept (h ∷ []) says few now =
    let on = asked_is (Ecb ecb) h.entry.object (op_on.Ecb (Post code)) h.entry.op says.0 in record {
      used = rw on.0 now.used;
      generation = rw on.0 now.generation;
    }
posted_current (suc depth) c ecb code t kept (h ∷ g ∷ hs) says few now = absurd (omega arith)

pub may_pause_still : (c : Setup) (n ecb code : ℕ) (Is : PostAnswer → Type 0) (token : Token) (t u : CallerFace) → c ≡ pool_setup n
    → IsServed (reach c ecb) (post c ecb code) Is t u → MayPause c t token → MayPause c u token
may_pause_still c n ecb code Is token t u is s may = record {
  own = may.own ∙ sym s.same.number;
  current = subst (λ kept. IsCurrent kept token) (sym (kept_then (reach c ecb) (post c ecb code) Is t u s))
      (posted_current (length c.owners) c ecb code token (kept_of t.number t.log) s.made.events s.made.done.says
      (subst (λ m. length s.made.events ≤ m) (reach_one c n ecb is) s.made.few) may.current);
}

-- ---- a pause gives the next one

-- what its end gives
gave : (n : ℕ) (r : Reply) (a : Given) → on_element r (resumed n) ≡ Done (Ok a)
    → (next : ℕ) × (r ≡ reply_of.Element (element_reply.Given a.code next)) × (a.next ≡ token_of n next)
gave n (reply_of.Element (element_reply.Given code next)) a e =
    let same : gift_of n code next ≡ a = cc e in
    (next, ap (λ (x : Given). reply_of.Element (element_reply.Given x.code next)) same, sym (ap (λ (x : Given). x.next) same))
gave n r a e = absurd (cc e)

-- its begin gives it, or parks
begun : (n g : ℕ) (r : Reply) (a : Given) → on_element r (paused n g) ≡ Done (Ok a)
    → (next : ℕ) × (r ≡ reply_of.Element (element_reply.Given a.code next)) × (a.next ≡ token_of n next)
begun n g (reply_of.Element (element_reply.Given code next)) a e =
    let same : gift_of n code next ≡ a = cc e in
    (next, ap (λ (x : Given). reply_of.Element (element_reply.Given x.code next)) same, sym (ap (λ (x : Given). x.next) same))
begun n g r a e = absurd (cc e)

abbrev resuming : ℕ → ℕ → Program (Result Given Refusal)
resuming n g = Do (Element n) (op_on.Element (element_op.Resume g)) (λ h. on_element h.entry.reply (resumed n))

parks : (n g : ℕ) (r : Reply) (x : Object × Op) → asks (on_element r (paused n g)) ≡ Some x
    → (r ≡ reply_of.Element element_reply.Parked) × (on_element r (paused n g) ≡ resuming n g)
parks n g (reply_of.Element element_reply.Parked) x e = (refl, refl)
parks n g (reply_of.Element (element_reply.Given code next)) x e = absurd (cc e)
parks n g r x e = absurd (cc e)

given_current : (t : Token) (a : Given) (kept : Kept) (e : Entry) (op : ElementOp)
    → (e.object ≡ Element t.element) × (e.op ≡ op_on.Element op)
    → ((next : ℕ) × (e.reply ≡ reply_of.Element (element_reply.Given a.code next)) × (a.next ≡ token_of t.element next))
    → ((old next : ℕ) → generation_after old op (element_reply.Given a.code next) ≡ next)
    → kept.in_use t.element ≡ true → IsCurrent (kept_after kept e.object e.op e.reply) a.next
given_current t a kept e op on given counts used =
    subst (λ x. IsCurrent (kept_after kept e.object e.op e.reply) x) (sym given.2) (record {
      used = rw (on.0, given.1) used;
      generation = rw (on.0, on.1, given.1, eq-eqb t.element t.element refl) (counts (kept.generation t.element) given.0);
    })

paused_current : (t : Token) (a : Given) (kept : Kept) (hs : List Heard) → Says (pause_own t) hs → left (pause_own t) hs ≡ Done (Ok a)
    → length hs ≤ 2 → kept.in_use t.element ≡ true → IsCurrent (kept_from kept (entries hs)) a.next
paused_current t a kept [] says done few used = absurd (cc done)
paused_current t a kept (h ∷ []) says done few used =
    given_current t a kept h.entry (element_op.Pause t.generation)
    (asked_is (Element t.element) h.entry.object (op_on.Element (element_op.Pause t.generation)) h.entry.op says.0)
    (begun t.element t.generation h.entry.reply a done) (λ old next. refl) used
paused_current t a kept (h ∷ g ∷ []) says done few used =
    let on = asked_is (Element t.element) h.entry.object (op_on.Element (element_op.Pause t.generation)) h.entry.op says.0 in
    let went = parks t.element t.generation h.entry.reply (g.entry.object, g.entry.op) says.1.0 in
    given_current t a (kept_after kept h.entry.object h.entry.op h.entry.reply) g.entry (element_op.Resume t.generation)
    (asked_is (Element t.element) g.entry.object (op_on.Element (element_op.Resume t.generation)) g.entry.op
    (ap asks (sym went.1) ∙ says.1.0))
    (gave t.element g.entry.reply a (ap (λ p. heard p g) (sym went.1) ∙ done)) (λ old next. refl) (rw (on.0, went.0) used)
paused_current t a kept (h ∷ g ∷ f ∷ hs) says done few used = absurd (omega arith)

pub may_pause_next : (c : Setup) (token : Token) (a : Given) (t u : CallerFace) → IsServed 2 (pause c token) (λ x. x ≡ Ok a) t u
    → a.next.element ≡ token.element → MayPause c t token → MayPause c u a.next
may_pause_next c token a t u s same may =
    let program = ap (λ x. unless_refused (refused_if x refusal.NotOwner) (pause_own token)) (own_token c t token may) in record {
      own = ap (element_owner c) same ∙ may.own ∙ sym s.same.number;
      current = subst (λ kept. IsCurrent kept a.next) (sym (kept_then 2 (pause c token) (λ x. x ≡ Ok a) t u s))
          (paused_current token a (kept_of t.number t.log) s.made.events (subst (λ p. Says p s.made.events) program s.made.done.says)
          (subst (λ p. left p s.made.events ≡ Done (Ok a)) program (s.made.done.done ∙ ap Done s.is)) s.made.few may.current.used);
    }
