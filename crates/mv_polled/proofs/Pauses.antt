-- Pauses between two polls.
use Rattle.std.proofs.Common.{◌≡◌, List, [], ◌++◌, false, true, Result, refl, sym, ◌∙◌, subst}
use Rattle.std.proofs.lemmas.Bool.{false≢true}
use Rattle.std.specs.List.{Contains}
use Rattle.mv_element.specs.declared.element.Token.{Token}
use Rattle.mv_element.specs.declared.operation.ElementOp.TheVariants.{Pause}
use Rattle.mv_element.specs.declared.operation.ElementReply.TheVariants.{Parked}
use Rattle.mv_machine.specs.declared.entry.Object.TheVariants.{Element}
use Rattle.mv_machine.specs.declared.entry.Op.TheVariants as op_on
use Rattle.mv_machine.specs.declared.entry.Reply.TheVariants as reply_of
use Rattle.mv_config.specs.Setup.{Setup}
use Rattle.mv_board.specs.declared.view.Sight.{Sight}
use Rattle.mv_board.specs.declared.watch.Watch.TheVariants as watch
use Rattle.mv_board.specs.Faces.{CallerFace, IsSame, PeekedAt}
use Rattle.mv_wait.proofs.Runs.{went_look, went_word, went_then}
use Rattle.mv_pause.specs.Pausing.{IsPauseMade, IsPausing, MayPause}
use Rattle.mv_calls.specs.declared.outcomes.Given.{Given}
use Rattle.mv_pause.specs.declared.pausing.PauseRefusal.{PauseRefusal}
use Rattle.mv_pause.proofs.Between.{pausing_look}
use Rattle.mv_polled.specs.declared.turn.Stage.TheVariants.{Waits, Over}
use Rattle.mv_polled.specs.declared.turn.Turn.{Turn}
use Rattle.mv_polled.specs.declared.turn.Turn.TheVariants.{Ready, Pending}
use Rattle.mv_polled.specs.Pausing.{PauseFace, new_pause, IsPauseAt, IsPaused, IsLeftPausing}
use Rattle.mv_polled.specs.Turn.{AtStage, MatchTurn}
use Rattle.mv_polled.proofs.Looks.{found_now, found_since, met_since}

pub paused_by : (c : Setup) (p : PauseFace) (t0 u : CallerFace) (r : Result Given PauseRefusal) → IsPauseMade c p.token t0 r u
    → p.stage ≡ Over → IsPaused c p r t0 u
paused_by c p t0 u r m over =
    record { served = m.served; causes = m.causes; next = m.next; current = m.current; low = m.low; stage = over }

-- a look that finds the element not released
pub left_pausing : (c : Setup) (p : PauseFace) (t0 t u : CallerFace) → IsPausing c p.token t0 t → p.stage ≡ Waits
    → PeekedAt t (Element p.token.element) (watch.Element p.token.element) false u
    → (Contains t.ready (watch.Element p.token.element) → ◌≡◌ false true) → IsLeftPausing c p t0 t u
left_pausing c p t0 t u pausing begun look stays = record {
  pausing = pausing_look c p.token t0 t u pausing (went_look t (Element p.token.element) look.word u look.found);
  unready = λ is. false≢true (stays (subst (λ ws. Contains ws (watch.Element p.token.element)) look.ready is));
  found = found_now (Element p.token.element) (watch.Element p.token.element) t u look;
  met = (_, look.found.met);
  stage = begun;
}

-- what was so since a later moment of the poll is so since its begin
pub pause_left_since : (c : Setup) (p : PauseFace) (more : List Sight) (t0 t u v : CallerFace) → u.met ≡ t.met ++ more
    → IsLeftPausing c p t0 u v → IsLeftPausing c p t0 t v
pause_left_since c p more t0 t u v m is = record {
  pausing = is.pausing;
  unready = is.unready;
  found = found_since (Element p.token.element) more t u v m is.found;
  met = met_since more t u v m is.met;
  stage = is.stage;
}

pub pause_since : (c : Setup) (p : PauseFace) (more : List Sight) (t0 t u v : CallerFace) (r : Turn (Result Given PauseRefusal))
    → u.met ≡ t.met ++ more → MatchTurn r (λ a. IsPaused c p a t0 v) (IsLeftPausing c p t0 u v)
    → MatchTurn r (λ a. IsPaused c p a t0 v) (IsLeftPausing c p t0 t v)
pause_since c p more t0 t u v (Ready a) m is = is
pause_since c p more t0 t u v Pending m is = pause_left_since c p more t0 t u v m is

-- ---- for those who poll

-- one that was left waiting may be polled again
pub pause_goes_on : (c : Setup) (p : PauseFace) (t0 t u : CallerFace) → IsLeftPausing c p t0 t u → IsPauseAt c p t0 u
pause_goes_on c p t0 t u l = subst (λ s. AtStage s ((u ≡ t0) × MayPause c p.token t0) (IsPausing c p.token t0 u)) (sym l.stage) l.pausing

-- two that are the same as a third
pub same_across : (t0 t u : CallerFace) → IsSame t0 t → IsSame t0 u → IsSame t u
same_across t0 t u p q =
    record { table = q.table ∙ sym p.table; about = q.about ∙ sym p.about; number = q.number ∙ sym p.number }

-- what was met stays
pub pausing_met : (c : Setup) (token : Token) (t0 t : CallerFace) → IsPausing c token t0 t → (more : List Sight) × (t.met ≡ t0.met ++ more)
pausing_met c token t0 t p =
    let h = p.event in
    let w = went_word t0 (Element token.element) h.0 (op_on.Element (Pause token.generation)) (reply_of.Element Parked) p.parked tt h.1 in
    (went_then _ [] t0 p.parked t w p.since).met

-- a new pause may be polled by a task that meets what it asks
pub pause_may_begin : (c : Setup) (p : PauseFace) (token : Token) (t : CallerFace) → p ≡ new_pause token → MayPause c token t
    → (t0 : CallerFace) × IsPauseAt c p t0 t
pause_may_begin c p token t is may = (t, subst (λ (f : PauseFace). IsPauseAt c f t t) (sym is) (refl, may))
