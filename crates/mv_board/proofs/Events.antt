-- What one event on a word makes of a history, of its words, and of what is ready.
use Rattle.std.proofs.Common.{◌≡◌, ◌≢◌, ◌⊎◌, ℕ, ◌+◌, ◌<◌, ◌≤◌, ltb, Bool, true, false, ◌&&◌, cond, List, [], ◌∷◌, ◌++◌, length, get_or}
use Rattle.std.proofs.Common.{Option, Some, None, option_map, option_and_then, IsSome, inl, inr, refl, sym, ap, ◌∙◌, subst, arith}
use Rattle.std.proofs.Common.{append-nil, eq-eqb, length-append}
use Rattle.std.proofs.lemmas.Bool.{false≢true, true≢false, lt-ltb}
use mathlib.Core.Logic.{dite}
use native.Mathlib.Decide.{ℕ_discrete}
use Rattle.mv_ecb.specs.Word.{EcbState, Complete, is_complete}
use Rattle.mv_element.specs.declared.element.Phase.{Phase}
use Rattle.mv_element.specs.declared.element.Phase.TheVariants.{Released}
use Rattle.mv_latch.specs.declared.operation.LatchOp.{LatchOp}
use Rattle.mv_latch.specs.LatchSet.{wakes}
use Rattle.mv_machine.specs.declared.entry.Entry.{Entry}
use Rattle.mv_machine.specs.declared.entry.Object.{Object}
use Rattle.mv_machine.specs.declared.entry.Object.TheVariants.{Ecb, Element, Volume, Latches}
use Rattle.mv_machine.specs.declared.entry.Op.{Op}
use Rattle.mv_machine.specs.declared.entry.Op.TheVariants as op_on
use Rattle.mv_machine.specs.declared.entry.Reply.{Reply}
use Rattle.mv_machine.specs.declared.entry.Reply.TheVariants as reply_of
use Rattle.mv_machine.specs.declared.entry.VolumeOp.TheVariants.{Read}
use Rattle.mv_machine.specs.declared.packing.WordState.{WordState}
use Rattle.mv_machine.specs.declared.packing.WordState.TheVariants as state
use Rattle.mv_config.specs.Check.{IsValid}
use Rattle.mv_config.specs.Limits.{events_limit}
use Rattle.mv_machine.specs.Legal.{IsNext, Legal, after, next, of, «at»}
use Rattle.mv_machine.specs.Owned.{owner_at, is_owners, is_clear, HasNo, IsGranted, IsGone}
use Rattle.mv_machine.specs.Packing.{pack, unpack, state_at, word_at, state_step, state_after, reply_in}
use Rattle.mv_machine.specs.Parts.{KeepsBudgets}
use Rattle.mv_config.specs.Setup.{Setup, owner_of, element_owner}
use Rattle.mv_machine.specs.System.{System, admitted, opening, place_of, volume_step}
use Rattle.mv_machine.specs.Told.{told, told_at}
use Rattle.mv_machine.proofs.Longer.{legal_longer, told_from-append, told_other, told_nothing_from}
use Rattle.mv_machine.proofs.Objects.{elsewhere, of-append, at-append}
use Rattle.mv_machine.proofs.OneHistory.{budgets_fit}
use Rattle.mv_machine.proofs.Owners.{complete_kept, released_kept}
use Rattle.mv_machine.proofs.Places.{same_miss, of_mine, of_other, of_longer_mine, of_longer_other, at_other}
use Rattle.mv_machine.proofs.SameParts.{same_told}
use Rattle.mv_machine.proofs.WordSteps.{reply_by_state, state_by_state, place_rises}
use Rattle.mv_board.specs.declared.watch.Watch.{Watch}
use Rattle.mv_board.specs.declared.watch.Watch.TheVariants as watch
use Rattle.mv_element.specs.Element.{is_released}
use Rattle.mv_machine.specs.Kept.{HasMade}
use Rattle.mv_board.specs.Rule.{IsReady}
use Rattle.mv_board.specs.Steps.{watch_of, is_ready}
use Rattle.mv_board.specs.View.{takes_off}
use Rattle.mv_board.specs.Words.{HasWord, fits, changed, test_of}
use Rattle.mv_board.proofs.Machine.{word_by_state, same_word, volumes_kept}
use Rattle.mv_board.proofs.Requests.{settled_next}

-- ---- an operation on a word

-- the state behind it, which the new word has
pub record Change (op : Op) (place : ℕ) (x : WordState) (new : ℕ) (reply : Reply) : Type 0 where
  pub state : WordState
  pub steps : state_step op x ≡ Some (state, reply)
  pub word : new ≡ pack (place + 1) state

parts : (op : Op) (q : ℕ) (x : WordState) (place new : ℕ) (reply : Reply) (b : Bool) (found : Option (WordState × Reply))
    → state_step op x ≡ found
    → cond b (option_map {U = ℕ × ℕ × Reply} (λ r. (q, pack (q + 1) r.0, r.1)) found) None ≡ Some (place, new, reply) → (place ≡ q)
    × Change op q x new reply
parts op q x place new reply false found is e = absurd (cc e)
parts op q x place new reply true None is e = absurd (cc e)
parts op q x place new reply true (Some r) is e =
    let t : ◌≡◌ {A = ℕ × ℕ × Reply} (q, pack (q + 1) r.0, r.1) (place, new, reply) = cc e in (
      sym (ap (λ z. z.0) t),
      record {
        state = r.0;
        steps = is ∙ ap {B = Option (WordState × Reply)} (λ (z : ℕ × ℕ × Reply). Some (r.0, z.2)) t;
        word = sym (ap (λ z. z.1) t);
      },
    )

pub changed_parts : (o : Object) (op : Op) (w q : ℕ) (x : WordState) (place new : ℕ) (reply : Reply) → unpack o w ≡ Some (q, x)
    → changed o op w ≡ Some (place, new, reply) → (place ≡ q) × Change op q x new reply
changed_parts o op w q x place new reply is e = parts op q x place new reply (ltb q events_limit && fits q x) (state_step op x) refl
    (rw is at e)

pub changed_is : (o : Object) (op : Op) (w q : ℕ) (x y : WordState) (reply : Reply) → unpack o w ≡ Some (q, x) → q < events_limit
    → fits q x ≡ true
    → state_step op x ≡ Some (y, reply) → changed o op w ≡ Some (q, pack (q + 1) y, reply)
changed_is o op w q x y reply is lt fit steps = rw (is, lt-ltb q events_limit lt, fit, steps) refl

-- a test gives the state that it finds
pub test_steps : (c : Setup) (m : System) (o : Object) (x : WordState) → HasWord c o → state_at m o ≡ Some x
    → (r : Reply) × (state_step (test_of o) x ≡ Some (x, r))
test_steps c m (Ecb n) x has e = let y : state.Ecb (m.ecb n).state ≡ x = cc in
    subst (λ z. (r : Reply) × (state_step (test_of (Ecb n)) z ≡ Some (z, r))) y (_, refl)
test_steps c m (Element n) x has e = let y : state.Element (m.element n).state ≡ x = cc in
    subst (λ z. (r : Reply) × (state_step (test_of (Element n)) z ≡ Some (z, r))) y (_, refl)
test_steps c m (Volume n) x has e = let y : state.Volume (m.volume n).state ≡ x = cc in
    subst (λ z. (r : Reply) × (state_step (test_of (Volume n)) z ≡ Some (z, r))) y (_, refl)
test_steps c m Latches x has e = absurd has

-- and is anyone's
pub test_admitted : (c : Setup) (m : System) (k : ℕ) (o : Object) → HasWord c o → k < c.callers → admitted c m k o (test_of o) ≡ true
test_admitted c m k (Ecb n) has lt = rw (lt-ltb k c.callers lt, lt-ltb n _ has) refl
test_admitted c m k (Element n) has lt = rw (lt-ltb k c.callers lt, lt-ltb n _ has) refl
test_admitted c m k (Volume n) has lt = rw (lt-ltb k c.callers lt, lt-ltb n _ has) refl
test_admitted c m k Latches has lt = absurd has

-- ---- the event

module _ (c : Setup) (m : System) (e : Entry) (x y : WordState) (admits : admitted c m e.caller e.object e.op ≡ true)
    (is : state_at m e.object ≡ Some x) (steps : state_step e.op x ≡ Some (y, e.reply)) where
  pub event_is_next : e.place ≡ place_of m e.object → IsNext c m e
  event_is_next place = record {
    admits = admits;
    place = place;
    reply =
        sym (ap (λ z. option_map (λ r. r.1) z) steps)
        ∙ (sym (ap (option_and_then (reply_in e.op)) is)
        ∙ sym (reply_by_state c m e.caller e.object e.op admits (subst (λ z. IsSome z) (sym is) refl)));
  }

  pub event_word : word_at (next m e) e.object ≡ pack (place_of m e.object + 1) y
  event_word =
      word_by_state (next m e) e.object y
      (state_by_state c m e.caller e.object e.op admits
      ∙ (ap (option_and_then (state_after e.op)) is ∙ ap (λ z. option_map (λ r. r.0) z) steps))
      ∙ ap (λ p. pack p y) (place_rises c m e.caller e.object e.op admits)

pub other_word : (m : System) (e : Entry) (q : Object) → q ≢ e.object → word_at (next m e) q ≡ word_at m q
other_word m e q n = same_word q (next m e) m (elsewhere m e.caller e.object e.op q (same_miss e.object q (λ z. n (sym z))))

pub latches_stay : (m : System) (e : Entry) → e.object ≢ Latches → (next m e).latches ≡ m.latches
latches_stay m e away = elsewhere m e.caller e.object e.op Latches (same_miss e.object Latches away)

-- ---- what is told

-- an event on a word tells nothing
pub told_away : (c : Setup) (k : ℕ) (h : List Entry) (e : Entry) → e.object ≢ Latches → told c k (h ++ e ∷ []) ≡ told c k h
told_away c k h e away = same_told c (h ++ e ∷ []) h k
    (at-append Latches h (e ∷ []) ∙ (ap (λ z. «at» Latches h ++ z) (at_other Latches e [] away) ∙ append-nil («at» Latches h)))

-- an event of another caller tells nothing
pub told_else : (c : Setup) (k : ℕ) (h : List Entry) (e : Entry) → e.caller ≢ k → told c k (h ++ e ∷ []) ≡ told c k h
told_else c k h e other =
    told_from-append (opening c) k h (e ∷ [])
    ∙ (ap (λ ws. told c k h ++ (ws ++ [])) (told_other (after c h) k e.caller e.object e.op other) ∙ append-nil (told c k h))

-- and an own one on the latch set its wakes
pub told_latch : (c : Setup) (k : ℕ) (h : List Entry) (e : Entry) (op : LatchOp) → e.caller ≡ k → e.object ≡ Latches → e.op ≡ op_on.Latch op
    → told c k (h ++ e ∷ []) ≡ told c k h ++ wakes k op (after c h).latches.state ∷ []
told_latch c k h e op who there is =
    told_from-append (opening c) k h (e ∷ [])
    ∙ ap (λ ws. told c k h ++ (ws ++ []))
    ((λ i. told_at (after c h) k (who i) (there i) (is i)) ∙ ap (λ b. cond b (wakes k op (after c h).latches.state ∷ []) [])
    (eq-eqb k k refl))

-- who made no entry was told nothing
pub told_nothing : (c : Setup) (k : ℕ) (h : List Entry) → of k h ≡ [] → told c k h ≡ []
told_nothing c k h z = told_nothing_from (opening c) k h z

-- where a caller has an event left, there is room for one more
pub room : (c : Setup) (h : List Entry) (k : ℕ) → IsValid c → Legal c h → KeepsBudgets c h → k < c.callers
    → length (of k h) < get_or c.budgets k 0
    → length h + 1 ≤ events_limit
room c h k v l keeps lt left =
    let m : System = after c h in
    let e : Entry = record {
      caller = k;
      object = Volume 0;
      place = place_of m (Volume 0);
      op = op_on.Volume Read;
      reply = reply_of.Volume (volume_step Read (m.volume 0).state).1;
    } in
    let some : 1 ≤ c.volumes = (volumes_kept c v).0 in
    let n : IsNext c m e = record { admits = rw (lt-ltb k c.callers lt, lt-ltb 0 c.volumes some) refl; place = refl; reply = refl } in
    let more : KeepsBudgets c (h ++ e ∷ []) = (λ j small. dite (ℕ_discrete k j)
    (λ same. let a = ap length (of_longer_mine j h e same) in let b = length-append (of j h) (e ∷ []) in
    let d : length (of j h) < get_or c.budgets j 0 = subst (λ i. length (of i h) < get_or c.budgets i 0) same left in omega arith)
    (λ other. let a = ap length (of_longer_other j h e other) in let b = keeps j small in omega arith)) in
    let fits = budgets_fit c (h ++ e ∷ []) v (legal_longer c h e l n) more in
    omega (arith, length-append h (e ∷ []))

-- ---- what is ready

code_of : (s : EcbState) → is_complete s ≡ true → (code : ℕ) × (s ≡ Complete code)
code_of (Complete code) e = (code, refl)
code_of s e = absurd (false≢true e)

released_is : (p : Phase) → is_released p ≡ true → p ≡ Released
released_is Released e = refl
released_is p e = absurd (false≢true e)

-- no entry of the caller's on the object
none_on : (test : Op → Bool) (o : Object) (k : ℕ) (e : Entry) → (e.caller ≡ k → e.object ≢ o) → HasNo test o (of k (e ∷ []))
none_on test o k e apart = dite (ℕ_discrete e.caller k)
    (λ mine. subst (λ z. HasNo test o z) (sym (of_mine k e [] mine)) (ap (λ b. b && test e.op) (same_miss e.object o (apart mine)), tt))
    (λ other. subst (λ z. HasNo test o z) (sym (of_other k e [] other)) tt)

made_longer : (latch id : ℕ) (xs ys : List Entry) → HasMade latch id xs → HasMade latch id (xs ++ ys)
made_longer latch id [] ys a = absurd a
made_longer latch id (x ∷ xs) ys (inl a) = inl a
made_longer latch id (x ∷ xs) ys (inr a) = inr (made_longer latch id xs ys a)

-- A watch stays ready over an event, unless the event is the caller's own and takes it off.
pub ready_next : (c : Setup) (h : List Entry) (e : Entry) (k : ℕ) (w : Watch) → Legal c (h ++ e ∷ [])
    → (e.caller ≡ k → takes_off e.object e.op w ≡ false) → IsReady c h k w → IsReady c (h ++ e ∷ []) k w
ready_next c h e k (watch.Ecb n) l stays r =
    let code = code_of ((after c h).ecb n).state r.2 in
    let apart : e.caller ≡ owner_of c n → e.object ≢ Ecb n = (λ own there.
    true≢false (sym (eq-eqb n n refl) ∙ (ap (λ o. takes_off o e.op (watch.Ecb n)) (sym there) ∙ stays (own ∙ r.1)))) in
    let kept = complete_kept c h (e ∷ []) n code.0 l (none_on is_clear (Ecb n) (owner_of c n) e apart) code.1 in
    (r.0, r.1, ap is_complete kept)
ready_next c h e k (watch.Element n) l stays r =
    let apart : e.caller ≡ element_owner c n → e.object ≢ Element n = (λ own there.
    true≢false (sym (eq-eqb n n refl) ∙ (ap (λ o. takes_off o e.op (watch.Element n)) (sym there) ∙ stays (own ∙ r.1)))) in
    let kept = released_kept c h (e ∷ []) n l (none_on is_owners (Element n) (element_owner c n) e apart) (released_is _ r.2) in
    (r.0, r.1, ap (λ z. is_released z.phase) kept ∙ r.2)
ready_next c h e k (watch.Latch latch id) l stays r = (
  subst (λ z. HasMade latch id z) (sym (of-append k h (e ∷ []))) (made_longer latch id (of k h) (of k (e ∷ [])) r.0),
  settled_next c h e k latch id l r.0 r.1,
)

-- what is ready goes by where the history leads, and by the caller's part of it
pub ready_same : (c : Setup) (h g : List Entry) (k : ℕ) (w : Watch) → after c g ≡ after c h → of k g ≡ of k h → IsReady c h k w
    → IsReady c g k w
ready_same c h g k (watch.Ecb n) leads part r = (r.0, r.1, subst (λ (m : System). is_complete (m.ecb n).state ≡ true) (sym leads) r.2)
ready_same c h g k (watch.Element n) leads part r = (
  r.0,
  r.1,
  subst (λ (m : System). is_released (m.element n).state.phase ≡ true)
      (sym leads) r.2,
)
ready_same c h g k (watch.Latch latch id) leads part r =
    (subst (λ z. HasMade latch id z) (sym part) r.0, subst (λ m. IsGranted k latch id m ⊎ IsGone k latch id m) (sym leads) r.1)

-- so the word of a listed watch's object shows it
pub ready_state : (c : Setup) (h : List Entry) (k : ℕ) (o : Object) (w : Watch) (x : WordState) → state_at (after c h) o ≡ Some x
    → watch_of o ≡ Some w → IsReady c h k w
    → is_ready x ≡ true
ready_state c h k (Ecb n) w x is watched r =
    let s : state.Ecb ((after c h).ecb n).state ≡ x = cc in
    let here : watch.Ecb n ≡ w = cc in
    ap is_ready (sym s) ∙ (subst (λ z. IsReady c h k z) (sym here) r).2
ready_state c h k (Element n) w x is watched r =
    let s : state.Element ((after c h).element n).state ≡ x = cc in
    let here : watch.Element n ≡ w = cc in
    ap is_ready (sym s) ∙ (subst (λ z. IsReady c h k z) (sym here) r).2
ready_state c h k (Volume n) w x is watched r = absurd (cc watched)
ready_state c h k Latches w x is watched r = absurd (cc watched)

-- and where it is shown, the owner's watch is ready
pub state_ready : (c : Setup) (h : List Entry) (k : ℕ) (o : Object) (w : Watch) (x : WordState) → HasWord c o → owner_at c o ≡ Some k
    → state_at (after c h) o ≡ Some x
    → watch_of o ≡ Some w → is_ready x ≡ true → IsReady c h k w
state_ready c h k (Ecb n) w x has own is watched ready =
    let s : state.Ecb ((after c h).ecb n).state ≡ x = cc in
    let here : watch.Ecb n ≡ w = cc in
    let owner : owner_of c n ≡ k = cc in
    subst (IsReady c h k) here (has, owner, ap is_ready s ∙ ready)
state_ready c h k (Element n) w x has own is watched ready =
    let s : state.Element ((after c h).element n).state ≡ x = cc in
    let here : watch.Element n ≡ w = cc in
    let owner : element_owner c n ≡ k = cc in
    subst (IsReady c h k) here (has, owner, ap is_ready s ∙ ready)
state_ready c h k (Volume n) w x has own is watched ready = absurd (cc watched)
state_ready c h k Latches w x has own is watched ready = absurd has
