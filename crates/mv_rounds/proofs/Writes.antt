-- One write more. Used by restore.
use Rattle.std.proofs.Common.{◌≡◌, ℕ, suc, ◌+◌, ◌<◌, List, [], ◌∷◌, ◌++◌, length, get_or, take, refl}
use Rattle.std.proofs.Common.{sym, ap, ◌∙◌, subst, arith, append_assoc}
use Rattle.std.proofs.lemmas.List.{length-append, length-take-le, take_more}
use Rattle.mv_wait.specs.Prelude.{Entry, Volume, BoardFace, CallerFace, write_volume, IsServed}
use Rattle.mv_wait.specs.Prelude.op_on
use Rattle.mv_wait.specs.Prelude.volume_op.{Write}
use Rattle.mv_wait.specs.Program.{on_volume}
use Rattle.mv_wait.specs.Waits.{stored}
use Rattle.mv_wait.proofs.Compose.{still_served, served_left}
use Rattle.mv_attach.proofs.Once.{served_once}
use Rattle.mv_rounds.specs.Restored.{AreWrites, HasRestored}

writes_push : (volume : ℕ) (xs : List ℕ) (es : List Entry) (x : ℕ) (e : Entry) → AreWrites volume xs es
    → e.object ≡ Volume (volume + length xs) → e.op ≡ op_on.Volume (Write x) → AreWrites volume (xs ++ x ∷ []) (es ++ e ∷ [])
writes_push volume [] [] x e all at is =
    (subst (λ n. e.object ≡ Volume n) (let same : volume + 0 ≡ volume = omega arith in same) at, is, tt)
writes_push volume (y ∷ xs) (f ∷ es) x e all at is = (
  all.0,
  all.1,
  writes_push (suc volume) xs es x e all.2
      (subst (λ n. e.object ≡ Volume n) (let same : volume + suc (length xs) ≡ suc volume + length xs = omega arith in same) at) is,
)
writes_push volume xs es x e all at is = absurd all

pub restores_next : (b : BoardFace) (numbers : List ℕ) (n x : ℕ) (Is : Unit {0} → Type 0) (t u v : CallerFace)
    → HasRestored b (take n numbers) t u → n < length numbers → x ≡ get_or numbers n 0 → IsServed 1 (write_volume n x) Is u v
    → HasRestored b (take (n + 1) numbers) t v
restores_next b numbers n x Is t u v r lt is s =
    let one = served_once 1 (write_volume n x) Is (Volume n) (op_on.Volume (Write x)) (λ h. on_volume h.entry.reply stored) u v s
    (omega arith) refl in
    let e = one.heard.entry in
    let size = length-take-le n numbers (omega arith) in
    let longer : take (n + 1) numbers ≡ take n numbers ++ x ∷ [] =
    take_more numbers n 0 lt ∙ ap (λ y. take n numbers ++ y ∷ []) (sym is) in
    subst (λ xs. HasRestored b xs t v) (sym longer) (record {
      task = still_served b 1 (write_volume n x) Is u v s r.task;
      rest = s.made.rest;
      number = s.same.number ∙ r.number;
      left = (let left = r.left in
          let spent = served_left 1 (write_volume n x) Is u v s in
          let more = length-append (take n numbers) (x ∷ []) in omega arith);
      more = r.more ++ e ∷ [];
      logged = one.logged ∙ ap (λ es. es ++ e ∷ []) r.logged ∙ append_assoc t.log r.more (e ∷ []);
      writes = writes_push 0 (take n numbers) r.more x e r.writes
          (subst (λ m. e.object ≡ Volume m) (let same : n ≡ 0 + length (take n numbers) = omega arith in same) one.object) one.makes;
    })
