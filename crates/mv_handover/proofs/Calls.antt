-- What a take and a put add to a task's log, and that the task is ready behind them. Used by take and put.
use Rattle.std.proofs.Common.{◌≡◌, ℕ, ◌==◌, Bool, true, false, List, [], ◌∷◌, ◌++◌, Result, Ok, refl, ap}
use Rattle.std.proofs.Common.{sym, ◌∙◌, arith, append_assoc, if◌then◌else◌}
use Rattle.mv_wait.specs.Prelude.ecb_op.{Clear, Post}
use Rattle.mv_wait.specs.Prelude.{Entry, Ecb, Setup, owner_of, BoardFace, CallerFace, IsOf, Kept, kept_of, PostAnswer, post, Done, Heard}
use Rattle.mv_wait.specs.Prelude.{Refusal, IsAtRest, clear, IsServed, WaitedFor}
use Rattle.mv_wait.specs.Prelude.op_on
use Rattle.mv_wait.specs.Keeping.{kept_from, nothing_kept}
use Rattle.mv_wait.specs.Program.{Program, Do, on_ecb, unless_refused}
use Rattle.mv_wait.specs.Refusal as refusal
use Rattle.mv_wait.specs.Waits.{is_others_block, the_word, refused_if}
use Rattle.mv_wait.proofs.Making.{kept_from-append, kept_caller}
use Rattle.mv_wait.proofs.Unrefused.{own_block as not_others}
use Rattle.mv_attach.proofs.Once.{served_once}
use Rattle.mv_handover.specs.Ready.{CanHandOver, Added, Put, Took}
use Rattle.mv_handover.specs.Setup.{slots_setup}

-- ---- a task that is ready behind a call

-- behind entries that extend nothing no block is extended
still_plain : (t u : CallerFace) (es : List Entry) → Added es t u
    → ((held : Kept) (e : ℕ) → held.extended e ≡ false → (kept_from held es).extended e ≡ false)
    → ((e : ℕ) → (kept_of t.number t.log).extended e ≡ false) → (e : ℕ) → (kept_of u.number u.log).extended e ≡ false
still_plain t u es added keeps plain e =
    ap (λ (k : Kept). k.extended e)
    (ap (λ n. kept_of n u.log) added.number ∙ ap (λ log. kept_of t.number log) added.logged
    ∙ kept_from-append (nothing_kept t.number) t.log es)
    ∙ keeps (kept_of t.number t.log) e (plain e)

still_ready : (b : BoardFace) (k : ℕ) (t u : CallerFace) (es : List Entry) → CanHandOver b k t → IsOf b u → IsAtRest u.log → Added es t u
    → ((held : Kept) (e : ℕ) → held.extended e ≡ false → (kept_from held es).extended e ≡ false) → CanHandOver b k u
still_ready b k t u es r task rest added keeps = record {
  config = r.config;
  task = task;
  number = added.number ∙ r.number;
  rest = rest;
  plain = still_plain t u es added keeps r.plain;
}

-- ---- a post

pub put_made : (n ecb code : ℕ) (Is : PostAnswer → Type 0) (t u : CallerFace) → IsServed 1 (post (slots_setup n) ecb code) Is t u
    → Put ecb code t u
put_made n ecb code Is t u s =
    let one = served_once 1 (post (slots_setup n) ecb code) Is (Ecb ecb) (op_on.Ecb (Post code)) _ t u s (omega arith) refl in record {
      entry = one.heard.entry;
      added = record { number = s.same.number; logged = one.logged; left = one.left };
      post = record { object = one.object; makes = one.makes };
    }

pub put_ready : (b : BoardFace) (k n ecb code : ℕ) (Is : PostAnswer → Type 0) (t u : CallerFace)
    → IsServed 1 (post (slots_setup n) ecb code) Is t u → CanHandOver b k t → Put ecb code t u → CanHandOver b k u
put_ready b k n ecb code Is t u s r p =
    still_ready b k t u (p.entry ∷ []) r (s.same.table ∙ r.task.0, s.same.about ∙ r.task.1) s.made.rest p.added
    (λ held e plain. rw (p.post.object, p.post.makes) plain)

-- ---- a take is a wait and a clear

pub took_made : (c : Setup) (ecb code : ℕ) (Is : Result ℕ Refusal → Type 0) (t u v : CallerFace) → WaitedFor ecb code t u
    → IsServed 1 (clear c ecb) Is u v → is_others_block c (kept_of u.number u.log) ecb ≡ false → Took ecb code t v
took_made c ecb code Is t u v w s own =
    let next : Heard → Program (Result ℕ Refusal) = λ h. on_ecb h.entry.reply (the_word (λ x. Done (Ok x))) in
    let one = served_once 1 (clear c ecb) Is (Ecb ecb) (op_on.Ecb Clear) next u v s (omega arith)
    (ap (λ b. unless_refused (refused_if b refusal.NotOwner) (Do (Ecb ecb) (op_on.Ecb Clear) next)) own) in
    let third = one.heard.entry in record {
      first = w.first;
      second = w.second;
      third = third;
      added = record {
        number = s.same.number ∙ w.number;
        logged = one.logged ∙ ap (λ log. log ++ third ∷ []) w.logged ∙ append_assoc t.log (w.first ∷ w.second ∷ []) (third ∷ []);
        left = (let i = one.left in let j = w.left in omega arith);
      };
      arm = record { object = w.arm.0; makes = w.arm.1 };
      settle = record { object = w.settle.0; makes = w.settle.1 };
      found = w.found;
      clear = record { object = one.object; makes = one.makes };
    }

pub took_ready : (b : BoardFace) (k ecb code : ℕ) (t u : CallerFace) → CanHandOver b k t → IsOf b u → IsAtRest u.log → Took ecb code t u
    → CanHandOver b k u
took_ready b k ecb code t u r task rest w = still_ready b k t u (w.first ∷ w.second ∷ w.third ∷ []) r task rest w.added
    (λ held e plain. rw (w.arm.object, w.arm.makes, w.settle.object, w.settle.makes, w.clear.object, w.clear.makes)
    (unset (e == ecb) plain)) where
      unset : (b : Bool) {was : Bool} → was ≡ false → (if b then false else was) ≡ false
      unset true q = refl
      unset false q = q

-- whose the block is, as the calls ask it
pub own_block : (c : Setup) (ecb : ℕ) (t : CallerFace) → owner_of c ecb ≡ t.number → is_others_block c (kept_of t.number t.log) ecb ≡ false
own_block c ecb t own = not_others c (kept_of t.number t.log) ecb (own ∙ sym (kept_caller (nothing_kept t.number) t.log))
