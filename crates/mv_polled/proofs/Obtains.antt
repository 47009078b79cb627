-- Obtains between two polls.
use Rattle.std.proofs.Common.{◌≡◌, ℕ, ◌∷◌, ◌++◌, [], false, true, Result, refl, sym, ap, ◌∙◌, subst}
use Rattle.std.proofs.lemmas.Bool.{false≢true}
use Rattle.std.specs.List.{Contains}
use Rattle.mv_latch.specs.Latch.{confirm_reply, is_settled}
use Rattle.mv_latch.specs.LatchSet.{list_of}
use Rattle.mv_latch.specs.declared.request.LatchForm.TheVariants.{Waiting}
use Rattle.mv_latch.specs.declared.request.Mode.{Mode}
use Rattle.mv_config.specs.Setup.{Setup}
use Rattle.mv_board.specs.declared.watch.Watch.TheVariants as watch
use Rattle.mv_board.specs.Faces.{CallerFace, PeekedIn}
use Rattle.mv_wait.proofs.Peeks.{went_peek}
use Rattle.mv_latchset.specs.Polling.{IsObtainMade, IsObtaining, MayObtain}
use Rattle.mv_latchset.specs.declared.obtaining.ObtainRefusal.{ObtainRefusal}
use Rattle.mv_latchset.specs.declared.obtaining.Obtained.{Obtained}
use Rattle.mv_latchset.proofs.Between.{obtaining_look}
use Rattle.mv_polled.specs.declared.turn.Stage.TheVariants.{Waits, Over}
use Rattle.mv_polled.specs.declared.turn.Turn.{Turn}
use Rattle.mv_polled.specs.declared.turn.Turn.TheVariants.{Ready, Pending}
use Rattle.mv_polled.specs.Obtaining.{ObtainFace, new_obtain, IsObtainAt, IsObtained, IsLeftObtaining}
use Rattle.mv_polled.specs.Turn.{MatchTurn}

pub obtained_by : (c : Setup) (q : ObtainFace) (t0 u : CallerFace) (r : Result Obtained ObtainRefusal)
    → IsObtainMade c q.latch q.requestor q.mode Waiting t0 r u → q.stage ≡ Over → IsObtained c q r t0 u
obtained_by c q t0 u r m over = record { served = m.served; causes = m.causes; latch = m.there; stage = over }

-- a look that finds the request waiting
pub left_obtaining : (c : Setup) (q : ObtainFace) (t0 t u : CallerFace) → IsObtaining c q.latch q.requestor q.mode q.id t0 t
    → q.stage ≡ Waits → PeekedIn t q.latch q.id false u → (Contains t.ready (watch.Latch q.latch q.id) → ◌≡◌ false true)
    → IsLeftObtaining c q t0 t u
left_obtaining c q t0 t u obtaining begun look stays = record {
  obtaining = obtaining_look c q.latch q.requestor q.mode q.id t0 t obtaining u (went_peek t (watch.Latch q.latch q.id) false u look);
  unready = λ is. false≢true (stays (subst (λ ws. Contains ws (watch.Latch q.latch q.id)) look.ready is));
  found = record {
    before = [];
    lists = look.lists;
    returned = look.returned;
    waits = ap (λ n. is_settled (confirm_reply n q.id (list_of look.lists q.latch))) look.same.number ∙ sym look.answer;
  };
  stage = begun;
}

-- what was so since the request was queued is so since the poll began
pub obtain_since : (c : Setup) (q : ObtainFace) (t0 t u v : CallerFace) (r : Turn (Result Obtained ObtainRefusal))
    → u.returned ≡ t.returned → MatchTurn r (λ a. IsObtained c q a t0 v) (IsLeftObtaining c q t0 u v)
    → MatchTurn r (λ a. IsObtained c q a t0 v) (IsLeftObtaining c q t0 t v)
obtain_since c q t0 t u v (Ready a) m is = is
obtain_since c q t0 t u v Pending m is = record {
  obtaining = is.obtaining;
  unready = is.unready;
  found = record {
    before = is.found.before;
    lists = is.found.lists;
    returned = is.found.returned ∙ ap (λ xs. xs ++ (is.found.before ++ is.found.lists ∷ [])) m;
    waits = is.found.waits;
  };
  stage = is.stage;
}

-- a new obtain may be polled by a task that meets what it asks
pub obtain_may_begin : (c : Setup) (q : ObtainFace) (latch requestor : ℕ) (mode : Mode) (t : CallerFace)
    → q ≡ new_obtain latch requestor mode → MayObtain t → (t0 : CallerFace) × IsObtainAt c q t0 t
obtain_may_begin c q latch requestor mode t is may = (t, subst (λ (f : ObtainFace). IsObtainAt c f t t) (sym is) (refl, may))
