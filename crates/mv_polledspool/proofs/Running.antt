-- From tasks that are all finished to what they have made. Used by spool.
use Rattle.std.proofs.Common.{◌≡◌, ℕ, zero, suc, ◌+◌, ◌<◌, Bool, true, false, not, cond, List, [], ◌∷◌, length}
use Rattle.std.proofs.Common.{get_or, map, refl, sym, ap, ◌∙◌, subst, arith}
use Rattle.std.specs.List.{AllByRecursion}
use Rattle.std.proofs.lemmas.List.{get_or-map, length-map}
use Rattle.mv_board.specs.Faces.{BoardFace, CallerFace, IsOf, IsFresh, AreFresh, AreInOrder}
use Rattle.mv_polledspool.specs.declared.polled.Polled.{Polled}
use Rattle.mv_polledspool.specs.declared.polled.State.{State}
use Rattle.mv_polledspool.specs.declared.polled.State.TheVariants.{New, Waits, Finished}
use Rattle.mv_polledspool.specs.Polled.{ArePolled, IsUnpolled, Stands, is_finished, is_over, unfinished}
use Rattle.mv_wait.proofs.Parts.{fresh_at, one_of}
use Rattle.mv_work.specs.declared.work.SpoolWork.{SpoolWork}
use Rattle.mv_work.specs.Spool.{SpoolFace}
use Rattle.mv_work.specs.Works.{AreWorked, HasWorked, IsNew}
use Rattle.mv_work.proofs.Histories.{first_of}
use Rattle.mv_work.proofs.Runs.{still_of}

abbrev pub task_of : Polled → CallerFace
task_of p = p.task

pub task_count : (tasks : List CallerFace) (ps : List Polled) → map task_of ps ≡ tasks → length ps ≡ length tasks
task_count tasks ps is = sym (length-map ps task_of) ∙ ap (λ (ts : List CallerFace). length ts) is

abbrev pub work_of : Polled → SpoolWork
work_of p = p.work

-- tasks that were not polled are polled tasks
pub are_polled : (s : SpoolFace) (tasks : List CallerFace) (ps : List Polled) → AreFresh s.board 0 tasks
    → AllByRecursion (IsUnpolled s.jobs s.initiators) ps → map task_of ps ≡ tasks → ArePolled s ps
are_polled s tasks ps fresh new is k d lt =
    let count = task_count tasks ps is in
    let p = get_or ps k d in
    let t = get_or tasks k (task_of d) in
    let one = one_of (IsUnpolled s.jobs s.initiators) ps k d new lt in
    let at = subst (λ m. IsFresh s.board m t) (let e : 0 + k ≡ k = omega arith in e)
    (fresh_at s.board 0 k tasks (task_of d) fresh (omega arith)) in
    let same : p.task ≡ t =
    sym (ap (λ (ts : List CallerFace). get_or ts k (task_of d)) (sym is) ∙ get_or-map task_of ps k d (task_of d) lt) in
    let number = ap (λ (f : CallerFace). f.number) same ∙ at.number in record {
      new = t;
      fresh = at;
      room = one.room;
      stands = subst (Stands s k t p) (sym one.state) (same, subst (λ m. IsNew s.jobs s.initiators m p.work) number one.work);
    }

-- where none is unfinished, each is finished
finished_front : (p : Polled) (ps : List Polled) (f : Bool) → is_finished p ≡ f → cond (not f) (p ∷ unfinished ps) (unfinished ps) ≡ []
    → (is_finished p ≡ true) × (unfinished ps ≡ [])
finished_front p ps true is none = (is, none)
finished_front p ps false is none = absurd (cc none)

pub all_finished : (ps : List Polled) → unfinished ps ≡ [] → (k : ℕ) (d : Polled) → k < length ps
    → is_finished (get_or ps k d) ≡ true
all_finished [] none k d lt = absurd (omega arith)
all_finished (p ∷ ps) none zero d lt = (finished_front p ps (is_finished p) refl none).0
all_finished (p ∷ ps) none (suc k) d lt = all_finished ps (finished_front p ps (is_finished p) refl none).1 k d (omega arith)

-- a task that is finished has come to its end
over : (s : SpoolFace) (k : ℕ) (t : CallerFace) (p : Polled) (st : State) → is_over st ≡ true → Stands s k t p st
    → HasWorked s p.work.role t p.task
over s k t p Finished is x = x
over s k t p New is x = absurd (cc is)
over s k t p Waits is x = absurd (cc is)

-- ---- all tasks

in_order : (b : BoardFace) (j : ℕ) (ps : List Polled)
    → ((k : ℕ) (d : Polled) → k < length ps → IsOf b (task_of (get_or ps k d)) × ((task_of (get_or ps k d)).number ≡ j + k))
    → AreInOrder b j (map task_of ps)
in_order b j [] each = tt
in_order b j (p ∷ ps) each =
    let own = each 0 p (omega arith) in (
      own.0,
      own.1 ∙ (let e : j + 0 ≡ j = omega arith in e),
      in_order b (suc j) ps (λ k d lt.
          let at = each (suc k) d (omega arith) in (at.0, at.1 ∙ (let e : j + suc k ≡ suc j + k = omega arith in e))),
    )

module _ (s : SpoolFace) (ps : List Polled) (polled : ArePolled s ps) (none : unfinished ps ≡ []) where
  ended : (k : ℕ) (d : Polled) (lt : k < length ps)
      → HasWorked s (get_or ps k d).work.role (polled k d lt).new (task_of (get_or ps k d))
  ended k d lt =
      let p = get_or ps k d in
      over s k (polled k d lt).new p p.state (all_finished ps none k d lt) (polled k d lt).stands

  -- they are the board's tasks, in order
  pub polled_in_order : AreInOrder s.board 0 (map task_of ps)
  polled_in_order = in_order s.board 0 ps (λ k d lt.
      let was = (polled k d lt).fresh in
      let same = (ended k d lt).0 in (
        still_of s.board was.board same,
        same.number ∙ was.number ∙ (let e : k ≡ 0 + k = omega arith in e),
      ))

  -- and have worked
  pub are_worked : length ps ≡ s.initiators + 3 → AreWorked s (map work_of ps) (map task_of ps)
  are_worked size = record {
    works = length-map ps work_of ∙ size;
    tasks = length-map ps task_of ∙ size;
    each = λ k w t lt.
        let d = first_of ps (omega arith) in
        let within : k < length ps = omega arith in
        let new = (polled k d within).new in record {
          before = new;
          fresh = (polled k d within).fresh;
          worked = subst (λ (x : SpoolWork). HasWorked s x.role new (get_or (map task_of ps) k t)) (sym (get_or-map work_of ps k d w within))
              (subst (λ u. HasWorked s (work_of (get_or ps k d)).role new u) (sym (get_or-map task_of ps k d t within))
              (ended k d within));
        };
  }
