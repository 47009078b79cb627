-- Looks for what a task waits for, and the callers of a new board.
use Rattle.std.proofs.Common.{◌≡◌, ℕ, suc, Bool, true, List, [], ◌∷◌, ◌++◌, Contains, refl, sym, ◌∙◌, subst, arith}
use Rattle.std.proofs.lemmas.List.{append-nil}
use Rattle.std.proofs.lemmas.List.Elements.{Contains-append_right}
use Rattle.mv_machine.specs.declared.entry.Object.TheVariants.{Ecb, Element}
use Rattle.mv_config.specs.Setup.{Setup}
use Rattle.mv_board.specs.declared.watch.Watch.{Watch}
use Rattle.mv_board.specs.declared.watch.Watch.TheVariants as watch
use Rattle.mv_board.specs.Faces.{BoardFace, CallerFace, MayWatch, PeekedIn, Peeks, IsFresh, AreFresh}
use Rattle.mv_machine.specs.Kept.{HasMade}
use Rattle.mv_wait.specs.Run.{Went}
use Rattle.mv_wait.proofs.Runs.{went_look, went_log}

-- a look at the lists of the latch set is no event
went_lists : (t : CallerFace) (latch id : ℕ) (is : Bool) (u : CallerFace) → PeekedIn t latch id is u → Went [] t u
went_lists t latch id is u p = record {
  same = p.same;
  wakes = tt;
  logged = p.log ∙ sym (append-nil t.log);
  told = p.told ∙ sym (append-nil t.told);
  left = (let e = p.left in omega arith);
  met = ([], p.met ∙ sym (append-nil t.met));
}

pub went_peek : (t : CallerFace) (w : Watch) (is : Bool) (u : CallerFace) → Peeks t w is u → Went [] t u
went_peek t (watch.Ecb n) is u p = went_look t (Ecb n) p.word u p.found
went_peek t (watch.Element n) is u p = went_look t (Element n) p.word u p.found
went_peek t (watch.Latch latch id) is u p = went_lists t latch id is u p

-- the task may still wait for it
pub may_still : (c : Setup) (t u : CallerFace) (w : Watch) → Went [] t u → MayWatch c t w → MayWatch c u w
may_still c t u (watch.Ecb n) z m = (m.0, m.1 ∙ sym z.same.number)
may_still c t u (watch.Element n) z m = (m.0, m.1 ∙ sym z.same.number)
may_still c t u (watch.Latch latch id) z m = subst (HasMade latch id) (sym (went_log t u z)) m

ready_last : (ws all : List Watch) (w : Watch) → all ≡ ws ++ w ∷ [] → Contains all w
ready_last ws all w e = subst (λ xs. Contains xs w) (sym e) (Contains-append_right ws (w ∷ []) w (0, omega arith, refl))

pub ready_then : (t : CallerFace) (w : Watch) (u : CallerFace) → Peeks t w true u → Contains u.ready w
ready_then t (watch.Ecb n) u p = ready_last t.ready u.ready (watch.Ecb n) p.ready
ready_then t (watch.Element n) u p = ready_last t.ready u.ready (watch.Element n) p.ready
ready_then t (watch.Latch latch id) u p = ready_last t.ready u.ready (watch.Latch latch id) p.ready

-- one of the callers of a new board
pub fresh_at : (b : BoardFace) (k : ℕ) (xs : List CallerFace) (x : CallerFace) (ys : List CallerFace) → AreFresh b k (xs ++ x ∷ ys)
    → (n : ℕ) × IsFresh b n x
fresh_at b k [] x ys all = (k, all.0)
fresh_at b k (y ∷ xs) x ys all = fresh_at b (suc k) xs x ys all.1
