-- The tasks that came back: each one's log is its part of the history of a station that was closed.
use Rattle.std.proofs.Common.{◌≡◌, ℕ, zero, suc, ◌+◌, ◌<◌, List, [], ◌∷◌, ◌++◌, length, get_or, sym, ap, ◌∙◌, subst, arith, length-append}
use Rattle.std.proofs.Math.Seq.{get_or-append_seam}
use Rattle.std.specs.List.{AllByRecursion}
use Rattle.mv_machine.specs.declared.entry.Entry.{Entry}
use Rattle.mv_machine.specs.Legal.{of}
use Rattle.mv_config.specs.Setup.{Setup}
use Rattle.mv_board.specs.Faces.{BoardFace, CallerFace, AreInOrder, IsIn}

log_from : (b : BoardFace) (c : Setup) (es : List Entry) (j k : ℕ) (tasks : List CallerFace) (d : CallerFace) → AreInOrder b j tasks
    → AllByRecursion (IsIn c es) tasks → k < length tasks → of (j + k) es ≡ (get_or tasks k d).log
log_from b c es j k [] d order within lt = absurd (omega arith)
log_from b c es j zero (t ∷ tasks) d order within lt =
    ap (λ n. of n es) (let e : j + 0 ≡ j = omega arith in e ∙ sym order.1) ∙ within.0.logged
log_from b c es j (suc k) (t ∷ tasks) d order within lt =
    ap (λ n. of n es) (let e : j + suc k ≡ suc j + k = omega arith in e)
    ∙ log_from b c es (suc j) k tasks d order.2 within.1 (omega arith)

pub log_in : (b : BoardFace) (c : Setup) (es : List Entry) (k : ℕ) (tasks : List CallerFace) (d : CallerFace) → AreInOrder b 0 tasks
    → AllByRecursion (IsIn c es) tasks → k < length tasks → of k es ≡ (get_or tasks k d).log
log_in b c es k tasks d order within lt =
    ap (λ n. of n es) (let e : k ≡ 0 + k = omega arith in e) ∙ log_from b c es 0 k tasks d order within lt

-- a task to name where a list of tasks is asked for one that it does not have
pub no_task : BoardFace → CallerFace
no_task b = record {
  table = b.table;
  about = [];
  number = 0;
  left = 0;
  room = 0;
  log = [];
  told = [];
  wakes = [];
  met = [];
  returned = [];
  ready = [];
}

-- what each of n tasks has done by its log, and its room with it, it has done by its part of the history
pub done_in : {S : Type 0} (P : ℕ → List Entry → S → Type 0) (b : BoardFace) (es : List Entry) (tasks : List CallerFace) (rooms : List S)
    (n : ℕ) → AreInOrder b 0 tasks → length tasks ≡ b.config.callers → AllByRecursion (IsIn b.config es) tasks → n ≡ b.config.callers
    → ((k : ℕ) (s : S) (t : CallerFace) → k < n → P k (get_or tasks k t).log (get_or rooms k s))
    → (k : ℕ) (s : S) → k < b.config.callers → P k (of k es) (get_or rooms k s)
done_in P b es tasks rooms n order all within each done k s lt =
    subst (λ log. P k log (get_or rooms k s)) (sym (log_in b b.config es k tasks (no_task b) order within (omega arith)))
    (done k s (no_task b) (omega arith))

-- the room of the last task, which is taken from the list of all
pub last_room : {S : Type 0} (rooms rest : List S) (room : S) (n : ℕ) → rooms ≡ rest ++ room ∷ [] → length rooms ≡ n + 1
    → get_or rooms n room ≡ room
last_room rooms rest room n is count =
    let size = ap length is in
    let more = length-append rest (room ∷ []) in
    let at : n ≡ length rest = omega arith in
    ap (λ xs. get_or xs n room) is ∙ ap (λ k. get_or (rest ++ room ∷ []) k room) at ∙ get_or-append_seam rest room [] room
