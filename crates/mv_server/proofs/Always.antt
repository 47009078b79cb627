-- The calls of the pool's tasks make right entries, and leave their task ready.
use Rattle.std.proofs.Common.{◌≡◌, ℕ, ◌+◌, ◌≤◌, ◌<◌, List, length, Result, sym, ap, ◌∙◌, subst, arith}
use Rattle.mv_wait.specs.Prelude.{Given, ReleaseAnswer, Token, Entry, reach, Setup, BoardFace, CallerFace, kept_of, pause, release}
use Rattle.mv_wait.specs.Prelude.{PostAnswer, post, Call, Refusal, clear, IsServed}
use Rattle.mv_wait.proofs.Lists.{all_append}
use Rattle.mv_wait.proofs.Compose.{served_left}
use Rattle.mv_attach.proofs.Always.{Always, served_grown}
use Rattle.mv_attach.proofs.Says.{always_clear, always_post, always_pause, always_release}
use Rattle.mv_server.specs.Pool.{workers, answer_at}
use Rattle.mv_server.specs.Right.{IsRight, AreRight, CanServe, StaysReady}
use Rattle.mv_server.proofs.Pool.{reach_one}

-- ---- a call that says right events leaves its task ready

ready_after : {A : Type 0} (b : BoardFace) (requests : List ℕ) (most : ℕ) (call : Call A) (Is : A → Type 0) (t u : CallerFace)
    → IsServed most call Is t u → CanServe b requests t → Always (IsRight requests t.number) (call (kept_of t.number t.log))
    → CanServe b requests u
ready_after b requests most call Is t u s r a =
    let grown = served_grown (IsRight requests t.number) most call Is t u s a in record {
      asked = r.asked;
      task = (s.same.table ∙ r.task.0, s.same.about ∙ r.task.1);
      rest = s.made.rest;
      right = subst (λ k. AreRight requests k u.log) (sym s.same.number)
          (subst (AreRight requests t.number) (sym grown.logged)
          (all_append (λ (e : Entry). IsRight requests t.number e.object e.op) t.log grown.more r.right grown.each));
    }

-- the same task, with fewer events left
pub stays_after : {A : Type 0} (b : BoardFace) (requests : List ℕ) (most : ℕ) (call : Call A) (Is : A → Type 0) (t u : CallerFace)
    → IsServed most call Is t u → CanServe b requests t → Always (IsRight requests t.number) (call (kept_of t.number t.log))
    → StaysReady b requests most t u
stays_after b requests most call Is t u s r a = record {
  ready = ready_after b requests most call Is t u s r a;
  number = s.same.number;
  left = served_left most call Is t u s;
}

-- one call after another
pub stays_then : (b : BoardFace) (requests : List ℕ) (m n most : ℕ) (t u v : CallerFace)
    → StaysReady b requests m t u → StaysReady b requests n u v
    → m + n ≤ most → StaysReady b requests most t v
stays_then b requests m n most t u v first second le = record {
  ready = second.ready;
  number = second.number ∙ first.number;
  left = (let i = first.left in let j = second.left in omega arith);
}

pub stays_more : (b : BoardFace) (requests : List ℕ) (m most : ℕ) (t u : CallerFace) → StaysReady b requests m t u → m ≤ most
    → StaysReady b requests most t u
stays_more b requests m most t u k le = record { ready = k.ready; number = k.number; left = (let i = k.left in omega arith) }

-- ---- the calls

-- a worker's post of an answer's block with the answer, or a post of another block
pub told : (b : BoardFace) (requests : List ℕ) (e code : ℕ) (Is : PostAnswer → Type 0) (t u : CallerFace)
    → IsServed (reach b.config e) (post b.config e code) Is t u → CanServe b requests t
    → (workers ≤ e → (t.number < workers) × (code ≡ answer_at requests e)) → StaysReady b requests 1 t u
told b requests e code Is t u s r right =
    subst (λ k. StaysReady b requests k t u) (reach_one b.config (length requests) e r.asked.config)
    (stays_after b requests (reach b.config e) (post b.config e code) Is t u s r
    (always_post (IsRight requests t.number) b.config e code (kept_of t.number t.log) (ap (λ (c : Setup). c.exits) r.asked.config) right))

-- a round of a worker begins: it tells that it is idle, and pauses
pub begun_round : (b : BoardFace) (requests : List ℕ) (most idle code : ℕ) (token : Token) (IsPosted : PostAnswer → Type 0)
    (IsPaused : Result Given Refusal → Type 0) (t old mid new : CallerFace) → idle < workers
    → IsServed (reach b.config idle) (post b.config idle code) IsPosted old mid → IsServed 2 (pause b.config token) IsPaused mid new
    → StaysReady b requests most t old → StaysReady b requests (most + 3) t new
begun_round b requests most idle code token IsPosted IsPaused t old mid new low posted paused since =
    let told_idle = told b requests idle code IsPosted old mid posted since.ready (λ high. absurd (omega arith)) in
    let given = stays_after b requests 2 (pause b.config token) IsPaused mid new paused told_idle.ready
    (always_pause (IsRight requests mid.number) b.config token (kept_of mid.number mid.log) tt tt) in
    stays_then b requests most 3 (most + 3) t old new since (stays_then b requests 1 2 3 old mid new told_idle given (omega arith))
    (omega arith)

-- the server hands out: it clears a block, and releases
pub handed_out : (b : BoardFace) (requests : List ℕ) (most ecb code : ℕ) (token : Token) (IsCleared : Result ℕ Refusal → Type 0)
    (IsReleased : Result ReleaseAnswer Refusal → Type 0) (t old mid new : CallerFace) → IsServed 1 (clear b.config ecb) IsCleared old mid
    → IsServed 1 (release token code) IsReleased mid new → StaysReady b requests most t old → StaysReady b requests (most + 2) t new
handed_out b requests most ecb code token IsCleared IsReleased t old mid new cleared released since =
    let first = stays_after b requests 1 (clear b.config ecb) IsCleared old mid cleared since.ready
    (always_clear (IsRight requests old.number) b.config ecb (kept_of old.number old.log) tt) in
    let second = stays_after b requests 1 (release token code) IsReleased mid new released first.ready
    (always_release (IsRight requests mid.number) token code (kept_of mid.number mid.log) tt) in
    stays_then b requests most 2 (most + 2) t old new since (stays_then b requests 1 1 2 old mid new first second (omega arith))
    (omega arith)
