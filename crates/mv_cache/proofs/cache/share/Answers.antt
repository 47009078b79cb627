use Rattle.std.proofs.Common.{◌≡◌, ◌≤◌, ℕ, List, [], ◌∷◌, length, get_or, Vec, Global, refl, sym, ap, ◌∙◌, subst, arith}
use Rattle.mv_wait.specs.Prelude.{Entry, of, Setup}
use Rattle.mv_wait.proofs.Longer.{entries_fit}
use Rattle.mv_attach.proofs.Back.{done_in}
use Rattle.mv_wait.proofs.Parts.{one_of}
use Rattle.mv_ordered.specs.WaitChain.{HasNoLatchDeadlock}
use Rattle.mv_ordered.proofs.Calls.{each_keeps_discipline}
use Rattle.mv_ordered.proofs.Chains.{leads_to_one}
use Rattle.mv_guarded.specs.Guarded.{AllReleased}
use Rattle.mv_cache.specs.declared.cache.Pair.{Pair}
use Rattle.mv_cache.specs.Whole.{WasRead, HasDone}
use Rattle.mv_cache.proofs.Torn.{untorn}
use Rattle.mv_cache.proofs.cache.share.Goals as goal

-- with the list that the task has filled
abbrev HasDoneIn : List Pair → ℕ → List Entry → Vec Pair Global → Type 0
HasDoneIn pairs k log got = HasDone pairs k log got.items

pub returns-clause-whole : goal.returns-clause-whole
returns-clause-whole g c k d lt i e low =
    let b = c.in_ok-station.station in
    let pairs = c.args.pairs.now in
    let es = c.close-closed.result.history.coming in
    let read = c.in_ok-tasks.read.items in
    let back = c.in_ok-tasks.ensures in
    let closed = c.close-closed.ensures in
    let rooms = back.rooms in
    let size = c.in_ok-rooms.ensures.count in
    let four : b.config.callers ≡ 4 = ap (λ (s : Setup). s.callers) (c.in_ok-station.ensures.config ∙ c.in_ok-config.ensures) in
    let done = done_in (HasDoneIn pairs) b es c.in_ok-tasks.tasks.items read _ back.order
    back.all closed.callers (omega arith) back.done in
    untorn b.config pairs es closed.legal (λ j few. (done j d few).allowed) ((done 0 d (omega arith)).whole refl) k
    (get_or (get_or read k d).items i e)
    (one_of (WasRead k (of k es)) (get_or read k d).items i e (done k d (omega arith)).read low)

first_of : {A : Type 0} (xs : List A) → 1 ≤ length xs → A
first_of [] some = absurd (omega arith)
first_of (x ∷ xs) some = x

pub returns-clause-no_deadlock : goal.returns-clause-no_deadlock
returns-clause-no_deadlock g c =
    let b = c.in_ok-station.station in
    let pairs = c.args.pairs.now in
    let es = c.close-closed.result.history.coming in
    let read = c.in_ok-tasks.read.items in
    let back = c.in_ok-tasks.ensures in
    let closed = c.close-closed.ensures in
    let rooms = back.rooms in
    let size = c.in_ok-rooms.ensures.count in
    let four : b.config.callers ≡ 4 = ap (λ (s : Setup). s.callers) (c.in_ok-station.ensures.config ∙ c.in_ok-config.ensures) in
    let done = done_in (HasDoneIn pairs) b es c.in_ok-tasks.tasks.items read _ back.order
    back.all closed.callers (omega arith) back.done in
    let any = first_of read (omega arith) in
    subst (λ s. HasNoLatchDeadlock s es) (sym closed.config)
    (leads_to_one b.config es (each_keeps_discipline b.config es closed.legal (λ j few. (done j any few).discipline)))

pub returns-clause-released : goal.returns-clause-released
returns-clause-released g c =
    let b = c.in_ok-station.station in
    let pairs = c.args.pairs.now in
    let es = c.close-closed.result.history.coming in
    let read = c.in_ok-tasks.read.items in
    let back = c.in_ok-tasks.ensures in
    let closed = c.close-closed.ensures in
    let rooms = back.rooms in
    let size = c.in_ok-rooms.ensures.count in
    let four : b.config.callers ≡ 4 = ap (λ (s : Setup). s.callers) (c.in_ok-station.ensures.config ∙ c.in_ok-config.ensures) in
    let done = done_in (HasDoneIn pairs) b es c.in_ok-tasks.tasks.items read _ back.order
    back.all closed.callers (omega arith) back.done in
    let any = first_of read (omega arith) in subst (λ s. AllReleased s es) (sym closed.config) (λ k lt. (done k any lt).bare)

pub returns-clause-places : goal.returns-clause-places
returns-clause-places g c =
    entries_fit c.in_ok-station.station.config c.close-closed.result.history.coming c.close-closed.ensures.legal c.close-closed.ensures.few
