-- The next event, by what its parts did.
use Rattle.std.proofs.Common.{◌≡◌, ℕ, ◌+◌, ◌<◌, ◌≤◌, ◌==◌, not, nat_lt, Bool, true, false, cond, List, [], ◌∷◌, Some, None, Result}
use Rattle.std.proofs.Common.{Ok, Err, refl, sym, ap, ◌∙◌, subst, arith}
use Rattle.std.proofs.lemmas.Bool.{eq-eqb, ne_eqb}
use Rattle.std.specs.Option.{option_or}
use Rattle.mv_config.specs.Setup.{Setup}
use Rattle.mv_board.specs.Faces.{CallerFace}
use Rattle.mv_calls.specs.declared.table.Table.{Table}
use Rattle.mv_calls.specs.Events.{Finding, next_event, next_event_refusal, slot_found, indexed, handed_out}
use Rattle.mv_calls.specs.Keeping.{nothing_kept}
use Rattle.mv_calls.specs.Program.{Program, Done, followed, finished, unless_refused}
use Rattle.mv_calls.specs.Refusal.{Refusal}
use Rattle.mv_calls.specs.Refusal as refusal
use Rattle.mv_calls.specs.Rest.{IsAtRest}
use Rattle.mv_calls.specs.Table.{event_block, slot_block}
use Rattle.mv_calls.specs.Waits.{wait, test_ecb, refused_if}
use Rattle.mv_calls.proofs.Making.{kept_caller}
use Rattle.mv_calls.specs.declared.outcomes.WaitSlot.{WaitSlot}
use Rattle.mv_calls.specs.declared.outcomes.WaitSlot.TheVariants as wait_slot
use Rattle.mv_wait.specs.Run.{Runs, IsServed, keeps}
use Rattle.mv_wait.proofs.Runs.{runs_none, runs_within, serves}
use Rattle.mv_events.proofs.Following.{served_first}
use Rattle.mv_events.proofs.Enterings.{below_is, not_below_is}

module _ (c : Setup) (t : Table) (position : ℕ) where
  caller_is : (f : CallerFace) → (keeps f).caller ≡ f.number
  caller_is f = kept_caller (nothing_kept f.number) f.log

  -- the two tests of a next event
  tested : (f : CallerFace) (own there : Bool) → (t.owner == f.number) ≡ own → nat_lt position t.size ≡ there
      → next_event_refusal t position (keeps f)
      ≡ option_or (refused_if (not own) refusal.NotOwner) (refused_if (not there) refusal.Drained)
  tested f own there is has =
      ap (λ b. option_or (refused_if (not b) refusal.NotOwner) (refused_if (not (nat_lt position t.size)) refusal.Drained))
      (ap (λ k. t.owner == k) (caller_is f) ∙ is)
      ∙ ap (λ b. option_or (refused_if (not own) refusal.NotOwner) (refused_if (not b) refusal.Drained)) has

  -- it was refused, and nothing was done
  refused : (f : CallerFace) (why : Refusal) → IsAtRest f.log → next_event_refusal t position (keeps f) ≡ Some why
      → IsServed 3 (next_event c t position) (λ a. a ≡ Err why) f f
  refused f why rest is =
      serves 3 (next_event c t position) (λ a. a ≡ Err why) f f (Err why) rest refl
      (runs_within 0 3 (next_event c t position (keeps f)) (Done (Err why)) f f (omega arith)
      (subst (λ (q : Program (Result Finding Refusal)). Runs 0 q (Done (Err why)) f f)
      (sym (ap (λ r. unless_refused r (followed (wait c 1 (slot_block t position ∷ [])) (slot_found t) (keeps f))) is))
      (runs_none (Done (Err why)) f)))
      rest

  pub not_own_why : (f : CallerFace) → (t.owner ≡ f.number → ⊥) → next_event_refusal t position (keeps f) ≡ Some refusal.NotOwner
  not_own_why f other = tested f false (nat_lt position t.size) (ne_eqb t.owner f.number other) refl

  pub drained_why : (f : CallerFace) → t.owner ≡ f.number → t.size ≤ position
      → next_event_refusal t position (keeps f) ≡ Some refusal.Drained
  drained_why f own past = tested f true false (eq-eqb t.owner f.number own) (not_below_is position t.size past)

  pub not_refused_why : (f : CallerFace) → t.owner ≡ f.number → position < t.size → next_event_refusal t position (keeps f) ≡ None
  not_refused_why f own lt = tested f true true (eq-eqb t.owner f.number own) (below_is position t.size lt)

  pub next_not_own : (f : CallerFace) → IsAtRest f.log → (t.owner ≡ f.number → ⊥)
      → IsServed 3 (next_event c t position) (λ a. a ≡ Err refusal.NotOwner) f f
  next_not_own f rest other =
      refused f refusal.NotOwner rest (tested f false (nat_lt position t.size) (ne_eqb t.owner f.number other) refl)

  pub next_drained : (f : CallerFace) → IsAtRest f.log → t.owner ≡ f.number → t.size ≤ position
      → IsServed 3 (next_event c t position) (λ a. a ≡ Err refusal.Drained) f f
  next_drained f rest own past =
      refused f refusal.Drained rest
      (tested f true false (eq-eqb t.owner f.number own) (not_below_is position t.size past))

  -- it was not, and the wait for its slot was made
  waited : (index j : ℕ) (q : Program (Result Finding Refusal)) (f g h : CallerFace) → t.owner ≡ f.number → position < t.size
      → IsServed 2 (wait c 1 (slot_block t position ∷ [])) (λ a. a ≡ Ok (wait_slot.Complete index ∷ [])) f g
      → Runs j (indexed t index (keeps g)) q g h → Runs (2 + j) (next_event c t position (keeps f)) q f h
  waited index j q f g h own lt s y =
      let call = wait c 1 (slot_block t position ∷ []) in
      let none : next_event_refusal t position (keeps f) ≡ None =
      tested f true true (eq-eqb t.owner f.number own) (below_is position t.size lt) in
      subst (λ (p : Program (Result Finding Refusal)). Runs (2 + j) p q f h)
      (sym (ap (λ r. unless_refused r (followed call (slot_found t) (keeps f))) none))
      (served_first 2 j call (slot_found t) (λ a. a ≡ Ok (wait_slot.Complete index ∷ [])) q f g h s
      (subst (λ (a : Result (List WaitSlot) Refusal). Runs j (slot_found t a (keeps g)) q g h) (sym s.is) y))

  pub next_strange : (index : ℕ) (f g : CallerFace) → t.owner ≡ f.number → position < t.size → t.size ≤ index
      → IsServed 2 (wait c 1 (slot_block t position ∷ [])) (λ a. a ≡ Ok (wait_slot.Complete index ∷ [])) f g
      → IsServed 3 (next_event c t position) (λ a. a ≡ Err (refusal.Strange index)) f g
  next_strange index f g own lt past s =
      let last = Done (Err (refusal.Strange index)) in
      let here : indexed t index (keeps g) ≡ last =
      ap (λ (b : Bool). cond b (handed_out t index) (finished (Err (refusal.Strange index))) (keeps g)) (not_below_is index t.size past) in
      serves 3 (next_event c t position) (λ a. a ≡ Err (refusal.Strange index)) f g (Err (refusal.Strange index)) s.made.began refl
      (runs_within (2 + 0) 3 (next_event c t position (keeps f)) last f g (omega arith)
      (waited index 0 last f g g own lt s
      (subst (λ (p : Program (Result Finding Refusal)). Runs 0 p last g g) (sym here) (runs_none last g))))
      s.made.rest

  pub next_served : (index word : ℕ) (f g h : CallerFace) → t.owner ≡ f.number → position < t.size → index < t.size
      → IsServed 2 (wait c 1 (slot_block t position ∷ [])) (λ a. a ≡ Ok (wait_slot.Complete index ∷ [])) f g
      → IsServed 1 (test_ecb (event_block t index)) (λ a. a ≡ word) g h
      → IsServed 3 (next_event c t position) (λ a. a ≡ Ok (record { index = index; word = word })) f h
  next_served index word f g h own lt low s tested_ =
      let answer : Result Finding Refusal = Ok (record { index = index; word = word }) in
      let here : indexed t index (keeps g) ≡ handed_out t index (keeps g) =
      ap (λ (b : Bool). cond b (handed_out t index) (finished (Err (refusal.Strange index))) (keeps g)) (below_is index t.size low) in
      let second : Runs (1 + 0) (handed_out t index (keeps g)) (Done answer) g h =
      served_first 1 0 (test_ecb (event_block t index)) _ (λ a. a ≡ word) (Done answer) g h h tested_
      (subst (λ (w : ℕ). Runs 0 (Done (Ok (record { index = index; word = w }))) (Done answer) h h) (sym tested_.is)
      (runs_none (Done answer) h)) in
      serves 3 (next_event c t position) (λ a. a ≡ answer) f h answer s.made.began refl
      (runs_within (2 + (1 + 0)) 3 (next_event c t position (keeps f)) (Done answer) f h (omega arith)
      (waited index (1 + 0) (Done answer) f g h own lt s
      (subst (λ (p : Program (Result Finding Refusal)). Runs (1 + 0) p (Done answer) g h) (sym here) second)))
      tested_.made.rest
