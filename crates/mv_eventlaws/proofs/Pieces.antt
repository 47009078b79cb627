-- Where an entry of a caller is among the pieces of its deeds, and its deeds read anew from there.
use Rattle.std.proofs.Common.{◌≡◌, ℕ, ◌<◌, ◌==◌, nat_lt, not, Bool, true, false, ◌&&◌, List, [], ◌∷◌, ◌++◌, ◌⊎◌, inl, inr}
use Rattle.std.proofs.Common.{refl, sym, ap, ◌∙◌, subst}
use Rattle.std.specs.Prelude.{Option, Some, None, Result}
use Rattle.std.specs.List.{AllByRecursion}
use Rattle.std.proofs.lemmas.Bool.{eq-eqb, ltb-true, true≢false}
use Rattle.std.proofs.lemmas.Option.{some_pair_parts}
use Rattle.mv_ecb.specs.declared.operation.EcbOp.TheVariants as ecb_op
use Rattle.mv_latch.specs.declared.operation.LatchOp.TheVariants as latch_op
use Rattle.mv_latch.specs.declared.request.LatchForm.TheVariants.{Waiting}
use Rattle.mv_latch.specs.declared.request.Mode.TheVariants.{Exclusive}
use Rattle.mv_machine.specs.declared.entry.Entry.{Entry}
use Rattle.mv_machine.specs.declared.entry.Object.{Object}
use Rattle.mv_machine.specs.declared.entry.Object.TheVariants.{Ecb, Latches}
use Rattle.mv_machine.specs.declared.entry.Op.{Op}
use Rattle.mv_machine.specs.declared.entry.Op.TheVariants as op_on
use Rattle.mv_config.specs.Setup.{Setup}
use Rattle.mv_calls.specs.declared.table.Table.{Table}
use Rattle.mv_calls.specs.Events.{Entering, Finding, event_requestor, post_event, next_event, next_event_refusal, slot_found}
use Rattle.mv_calls.specs.Keeping.{Kept, kept_after}
use Rattle.mv_calls.specs.Program.{Program, Do, Done, Early, Wrong, Heard, Says, IsDoneOn, entries, unless_refused, going_on}
use Rattle.mv_calls.specs.Refusal.{Refusal}
use Rattle.mv_calls.specs.Table.{slot_block}
use Rattle.mv_calls.specs.Waits.{wait, wait_refusal}
use Rattle.mv_eventlaws.specs.Completions.{Completion}
use Rattle.mv_eventlaws.specs.Discipline.{Deed, Posts, Takes, Waits, Other, BeginsWith, IsBegun, AreDeeds, is_reserved}
use Rattle.mv_eventlaws.specs.Order.{IsAnswered}
use Rattle.mv_eventlaws.proofs.Agreeing.{blind_next_event, done_same}
use Rattle.mv_eventlaws.proofs.Asking.{Asks}
use Rattle.mv_eventlaws.proofs.OwnCalls.{Anywhere, IsNoObtain, IsNoArm, IsFree, AnyWakes, fine_behind_obtain, fine_post_event}
use Rattle.mv_eventlaws.proofs.OwnCalls.{fine_behind_arm, fine_next_event, posts_obtain_none, posts_arm_none, takes_obtain_none, takes_free}
use Rattle.mv_eventlaws.proofs.Programs.{post_begins}
use Rattle.mv_eventlaws.proofs.Quiet.{slot_or}
use Rattle.mv_eventlaws.proofs.Stands.{first_heard, nothing_heard}
use Rattle.mv_eventlaws.proofs.Takings.{arming, arm_next, next_within}

-- ---- entries and pieces

pub entries_append : (xs ys : List Heard) → entries (xs ++ ys) ≡ entries xs ++ entries ys
entries_append [] ys = refl
entries_append (x ∷ xs) ys = ap (λ l. x.entry ∷ l) (entries_append xs ys)

pub cons_same : (a b : Entry) (xs ys : List Entry) → a ≡ b → xs ≡ ys → a ∷ xs ≡ b ∷ ys
cons_same a b xs ys p q = cc

no_entry : (front : List Entry) (e : Entry) (rest : List Entry) → [] ≡ front ++ e ∷ rest → ⊥
no_entry [] e rest q = absurd (cc q)
no_entry (x ∷ front) e rest q = absurd (cc q)

-- the entry is in the piece
record InPiece (piece later : List Heard) (e : Entry) (rest : List Entry) : Type 0 where
  before : List Heard
  here : Heard
  behind : List Heard
  split : piece ≡ before ++ here ∷ behind
  is : here.entry ≡ e
  follow : entries (behind ++ later) ≡ rest

-- or behind it
record BehindPiece (later : List Heard) (e : Entry) (rest : List Entry) : Type 0 where
  between : List Entry
  follow : entries later ≡ between ++ e ∷ rest

locate : (piece later : List Heard) (front : List Entry) (e : Entry) (rest : List Entry) → entries (piece ++ later) ≡ front ++ e ∷ rest
    → InPiece piece later e rest ⊎ BehindPiece later e rest
locate [] later front e rest q = inr (record { between = front; follow = q })
locate (h ∷ piece) later [] e rest q = inl (record {
  before = [];
  here = h;
  behind = piece;
  split = refl;
  is = (let s : h.entry ∷ entries (piece ++ later) ≡ e ∷ rest = q in cc s);
  follow = (let s : h.entry ∷ entries (piece ++ later) ≡ e ∷ rest = q in cc s);
})
locate (h ∷ piece) later (x ∷ front) e rest q =
    let s : entries (piece ++ later) ≡ front ++ e ∷ rest =
    (let r : h.entry ∷ entries (piece ++ later) ≡ x ∷ (front ++ e ∷ rest) = q in cc r) in
    further (locate piece later front e rest s) where
      further : InPiece piece later e rest ⊎ BehindPiece later e rest → InPiece (h ∷ piece) later e rest ⊎ BehindPiece later e rest
      further (inl w) = inl (record {
        before = h ∷ w.before;
        here = w.here;
        behind = w.behind;
        split = ap (λ l. h ∷ l) w.split;
        is = w.is;
        follow = w.follow;
      })
      further (inr w) = inr w

-- ---- events that a program says

asked_at : {A : Type 0} (Q : Object → Op → Type 0) (p : Program A) (before : List Heard) (h : Heard) (behind : List Heard)
    → Asks Q AnyWakes p → Says p (before ++ h ∷ behind) → Q h.entry.object h.entry.op
asked_at Q (Do o op next) [] h behind w says =
    let q : (o ≡ h.entry.object) × (op ≡ h.entry.op) = some_pair_parts o h.entry.object op h.entry.op says.0 in
    subst (λ z. Q z h.entry.op) q.0 (subst (λ z. Q o z) q.1 w.0)
asked_at Q (Do o op next) (g ∷ before) h behind w says = asked_at Q (next g) before h behind (w.1 g tt) says.1
asked_at Q (Done a) [] h behind w says = absurd (cc says.0)
asked_at Q (Done a) (g ∷ before) h behind w says = absurd (cc says.0)
asked_at Q Early [] h behind w says = absurd (cc says.0)
asked_at Q Early (g ∷ before) h behind w says = absurd (cc says.0)
asked_at Q Wrong [] h behind w says = absurd (cc says.0)
asked_at Q Wrong (g ∷ before) h behind w says = absurd (cc says.0)

abbrev AreFree : Table → List Heard → Type 0
AreFree t hs = AllByRecursion (λ h. IsFree t h.entry.object h.entry.op) hs

all_free : {A : Type 0} (t : Table) (p : Program A) (piece : List Heard) → Asks (IsFree t) AnyWakes p → Says p piece → AreFree t piece
all_free t p [] w says = tt
all_free t (Do o op next) (h ∷ piece) w says =
    let q : (o ≡ h.entry.object) × (op ≡ h.entry.op) = some_pair_parts o h.entry.object op h.entry.op says.0 in
    (subst (λ z. IsFree t z h.entry.op) q.0 (subst (λ z. IsFree t o z) q.1 w.0), all_free t (next h) piece (w.1 h tt) says.1)
all_free t (Done a) (h ∷ piece) w says = absurd (cc says.0)
all_free t Early (h ∷ piece) w says = absurd (cc says.0)
all_free t Wrong (h ∷ piece) w says = absurd (cc says.0)

-- what is reserved is not free
clash : (t : Table) (h : Heard) (o : Object) (op : Op) → h.entry.object ≡ o → h.entry.op ≡ op → is_reserved t o op ≡ true
    → IsFree t h.entry.object h.entry.op → ⊥
clash t h o op p q r w = true≢false (sym r ∙ subst (λ z. is_reserved t z op ≡ false) p
    (subst (λ z. is_reserved t h.entry.object z ≡ false) q w))

obtain_reserved : (t : Table) (requestor : ℕ)
    → is_reserved t Latches (op_on.Latch (latch_op.Obtain t.latch requestor Exclusive Waiting)) ≡ true
obtain_reserved t requestor = eq-eqb t.latch t.latch refl

arm_reserved : (t : Table) (k : ℕ) → k < t.size → is_reserved t (Ecb (slot_block t k)) (op_on.Ecb ecb_op.Arm) ≡ true
arm_reserved t k lt = ap (λ (b : Bool). b && true) (slot_or t k lt)

-- a next event that is not refused begins with an arm
module _ (c : Setup) (t : Table) where
  record NextBegins (position : ℕ) (kept : Kept) (h : Heard) (hs : List Heard) : Type 0 where
    within : position < t.size
    object : h.entry.object ≡ Ecb (slot_block t position)
    operation : h.entry.op ≡ op_on.Ecb ecb_op.Arm
    rest : Says (arm_next c t position kept h) hs

  next_begins : (position : ℕ) (kept : Kept) (h : Heard) (hs : List Heard) → Says (next_event c t position kept) (h ∷ hs)
      → NextBegins position kept h hs
  next_begins position kept h hs w = go (next_event_refusal t position kept) refl w where
    inner : (o : Option Refusal) → position < t.size → Says (going_on kept (unless_refused o (arming c t position)) (slot_found t)) (h ∷ hs)
        → NextBegins position kept h hs
    inner (Some why) lt says = absurd (cc says.0)
    inner None lt says =
        let q : (Ecb (slot_block t position) ≡ h.entry.object) × (op_on.Ecb ecb_op.Arm ≡ h.entry.op) =
        some_pair_parts (Ecb (slot_block t position)) h.entry.object (op_on.Ecb ecb_op.Arm) h.entry.op says.0 in
        record { within = lt; object = sym q.0; operation = sym q.1; rest = says.1 }

    go : (o : Option Refusal) → next_event_refusal t position kept ≡ o
        → Says (unless_refused o (going_on kept (wait c 1 (slot_block t position ∷ []) kept) (slot_found t))) (h ∷ hs)
        → NextBegins position kept h hs
    go (Some why) e says = absurd (cc says.0)
    go None e says = inner (wait_refusal c 1 (slot_block t position ∷ []) kept)
        (ltb-true position t.size (next_within c t (not (t.owner == kept.caller)) (nat_lt position t.size) e)) says

  -- and all that follow are free
  free_behind : (position : ℕ) (kept : Kept) (h : Heard) (hs : List Heard) → NextBegins position kept h hs → AreFree t hs
  free_behind position kept h hs w = all_free t (arm_next c t position kept h) hs
      (fine_behind_arm (IsFree t) AnyWakes c t (takes_free c t) position h.entry.reply
      (kept_after kept (Ecb (slot_block t position)) (op_on.Ecb ecb_op.Arm) h.entry.reply) w.within) w.rest

  -- ---- the post of an event that begins with an obtain

  module _ (k : ℕ) (done : List Completion) (e : Entry) (requestor : ℕ) (rest : List Entry) (object : e.object ≡ Latches)
      (operation : e.op ≡ op_on.Latch (latch_op.Obtain t.latch requestor Exclusive Waiting)) where
    pub record PostFound : Type 0 where
      pub index : ℕ
      pub code : ℕ
      pub answer : Result Entering Refusal
      pub kept : Kept
      pub here : Heard
      pub piece : List Heard
      pub later : List Heard
      pub is_done : IsDoneOn (post_event c t index code kept) (here ∷ piece) answer
      pub is : here.entry ≡ e
      pub follow : entries (piece ++ later) ≡ rest
      pub answered : IsAnswered done (Posts index code answer)

    no_obtain : (h : Heard) → h.entry ≡ e → IsNoObtain h.entry.object h.entry.op → ⊥
    no_obtain h is w = subst (λ (z : Op). IsNoObtain Latches z) operation (subst (λ (z : Object). IsNoObtain z e.op) object
        (subst (λ (z : Entry). IsNoObtain z.object z.op) is w))

    in_post : (index code : ℕ) (answer : Result Entering Refusal) (kept : Kept) (piece later : List Heard)
        → IsDoneOn (post_event c t index code kept) piece answer → IsAnswered done (Posts index code answer)
        → InPiece piece later e rest → PostFound
    in_post index code answer kept piece later d a w =
        go w.before (subst (λ l. IsDoneOn (post_event c t index code kept) l answer) w.split d) where
          go : (before : List Heard) → IsDoneOn (post_event c t index code kept) (before ++ w.here ∷ w.behind) answer → PostFound
          go [] d = record {
            index = index;
            code = code;
            answer = answer;
            kept = kept;
            here = w.here;
            piece = w.behind;
            later = later;
            is_done = d;
            is = w.is;
            follow = w.follow;
            answered = a;
          }
          go (g ∷ before) d =
              let b = post_begins c t index code kept g (before ++ w.here ∷ w.behind) answer d in
              absurd (no_obtain w.here w.is (asked_at IsNoObtain _ before w.here w.behind
              (fine_behind_obtain IsNoObtain AnyWakes c t Anywhere (posts_obtain_none c t) index code g.entry.reply
              (kept_after kept Latches (op_on.Latch (latch_op.Obtain t.latch (event_requestor kept.caller) Exclusive Waiting)) g.entry.reply)
              tt) b.rest.says))

    -- a next event says none
    not_in_next : (position : ℕ) (kept : Kept) (piece later : List Heard) → Says (next_event c t position kept) piece
        → InPiece piece later e rest → ⊥
    not_in_next position kept piece later says w = no_obtain w.here w.is (asked_at IsNoObtain (next_event c t position kept) w.before w.here
        w.behind (fine_next_event IsNoObtain AnyWakes c t (takes_obtain_none c t) (λ j lt. tt) position kept)
        (subst (Says (next_event c t position kept)) w.split says))

    pub find_post : (deeds : List Deed) (gs : List Heard) (front : List Entry) → AreDeeds c t k deeds gs → entries gs ≡ front ++ e ∷ rest
        → AllByRecursion (IsAnswered done) deeds → PostFound
    find_post [] gs front a q w = absurd (no_entry front e rest (sym (ap entries a) ∙ q))
    find_post (Posts index code answer ∷ deeds) gs front a q w =
        let b : BeginsWith (post_event c t index code) k gs answer a.1.0 = a.1.1 in
        go (locate b.piece a.1.0 front e rest (sym (ap entries b.split) ∙ q)) (λ between f. find_post deeds a.1.0 between a.1.2 f w.1) where
          go : InPiece (a.1.1).piece a.1.0 e rest ⊎ BehindPiece a.1.0 e rest
              → ((between : List Entry) → entries a.1.0 ≡ between ++ e ∷ rest → PostFound) → PostFound
          go (inl x) ih = in_post index code answer (a.1.1).kept (a.1.1).piece a.1.0 (a.1.1).done w.0 x
          go (inr x) ih = ih x.between x.follow
    find_post (Takes position answer ∷ deeds) gs front a q w =
        let b : BeginsWith (next_event c t position) k gs answer a.0 = a.1 in
        go (locate b.piece a.0 front e rest (sym (ap entries b.split) ∙ q)) (λ between f. find_post deeds a.0 between a.2 f w.1) where
          go : InPiece (a.1).piece a.0 e rest ⊎ BehindPiece a.0 e rest
              → ((between : List Entry) → entries a.0 ≡ between ++ e ∷ rest → PostFound) → PostFound
          go (inl x) ih = absurd (not_in_next position (a.1).kept (a.1).piece a.0 (a.1).done.says x)
          go (inr x) ih = ih x.between x.follow
    find_post (Waits position ∷ deeds) gs front a q w =
        let b : IsBegun (next_event c t position) k gs a.0 = a.1 in
        go (locate b.piece a.0 front e rest (sym (ap entries b.split) ∙ q)) (λ between f. find_post deeds a.0 between a.2 f w.1) where
          go : InPiece (a.1).piece a.0 e rest ⊎ BehindPiece a.0 e rest
              → ((between : List Entry) → entries a.0 ≡ between ++ e ∷ rest → PostFound) → PostFound
          go (inl x) ih = absurd (not_in_next position (a.1).kept (a.1).piece a.0 (a.1).says x)
          go (inr x) ih = ih x.between x.follow
    find_post (Other ∷ deeds) gs front a q w =
        go front (sym (ap entries a.2) ∙ q) (λ between f. find_post deeds a.1 between a.4 f w.1) where
          go : (front : List Entry) → (a.0).entry ∷ entries a.1 ≡ front ++ e ∷ rest
              → ((between : List Entry) → entries a.1 ≡ between ++ e ∷ rest → PostFound) → PostFound
          go [] s ih =
              let is : (a.0).entry ≡ e = (let r : (a.0).entry ∷ entries a.1 ≡ e ∷ rest = s in cc r) in
              absurd (clash t a.0 Latches _ (ap (λ (z : Entry). z.object) is ∙ object) (ap (λ (z : Entry). z.op) is ∙ operation)
              (obtain_reserved t requestor) a.3)
          go (x ∷ front) s ih = ih front (let r : (a.0).entry ∷ entries a.1 ≡ x ∷ (front ++ e ∷ rest) = s in cc r)

  -- ---- deeds without an event in front that is free

  module _ (k : ℕ) where
    pub record Left (hs : List Heard) : Type 0 where
      pub deeds : List Deed
      pub made : AreDeeds c t k deeds hs

    others_before : (piece later : List Heard) (deeds : List Deed) → AreFree t piece → AreDeeds c t k deeds later → Left (piece ++ later)
    others_before [] later deeds w d = record { deeds = deeds; made = d }
    others_before (h ∷ piece) later deeds w d =
        let r : Left (piece ++ later) = others_before piece later deeds w.1 d in
        record { deeds = Other ∷ r.deeds; made = (h, piece ++ later, refl, w.0, r.made) }

    module _ (h : Heard) (hs : List Heard) (free : IsFree t h.entry.object h.entry.op) where
      -- a call of which it is the first event is none
      after_post : (index code : ℕ) (answer : Result Entering Refusal) (kept : Kept) (piece later : List Heard) → h ∷ hs ≡ piece ++ later
          → IsDoneOn (post_event c t index code kept) piece answer → (h ∷ hs ≡ later → Left hs) → Left hs
      after_post index code answer kept [] later q d ih = ih q
      after_post index code answer kept (g ∷ piece) later q d ih =
          let f : (h ≡ g) × (hs ≡ piece ++ later) = first_heard h g hs (piece ++ later) q in
          let b = post_begins c t index code kept g piece answer d in
          absurd (clash t g Latches _ b.object b.operation (obtain_reserved t (event_requestor kept.caller))
          (subst (λ (z : Heard). IsFree t z.entry.object z.entry.op) f.0 free))

      after_next : (position : ℕ) (kept : Kept) (piece later : List Heard) → h ∷ hs ≡ piece ++ later
          → Says (next_event c t position kept) piece → (h ∷ hs ≡ later → Left hs) → Left hs
      after_next position kept [] later q says ih = ih q
      after_next position kept (g ∷ piece) later q says ih =
          let f : (h ≡ g) × (hs ≡ piece ++ later) = first_heard h g hs (piece ++ later) q in
          let b = next_begins position kept g piece says in
          absurd (clash t g _ _ b.object b.operation (arm_reserved t position b.within)
          (subst (λ (z : Heard). IsFree t z.entry.object z.entry.op) f.0 free))

      without_first : (deeds : List Deed) (gs : List Heard) → h ∷ hs ≡ gs → AreDeeds c t k deeds gs → Left hs
      without_first [] gs q a = absurd (nothing_heard h hs (q ∙ a))
      without_first (Posts index code answer ∷ deeds) gs q a =
          let b : BeginsWith (post_event c t index code) k gs answer a.1.0 = a.1.1 in
          after_post index code answer b.kept b.piece a.1.0 (q ∙ b.split) b.done (λ r. without_first deeds a.1.0 r a.1.2)
      without_first (Takes position answer ∷ deeds) gs q a =
          let b : BeginsWith (next_event c t position) k gs answer a.0 = a.1 in
          after_next position b.kept b.piece a.0 (q ∙ b.split) b.done.says (λ r. without_first deeds a.0 r a.2)
      without_first (Waits position ∷ deeds) gs q a =
          let b : IsBegun (next_event c t position) k gs a.0 = a.1 in
          after_next position b.kept b.piece a.0 (q ∙ b.split) b.says (λ r. without_first deeds a.0 r a.2)
      without_first (Other ∷ deeds) gs q a =
          let f : (h ≡ a.0) × (hs ≡ a.1) = first_heard h a.0 hs a.1 (q ∙ a.2) in
          record { deeds = deeds; made = subst (AreDeeds c t k deeds) (sym f.1) a.4 }

    -- and without all of these
    record LeftBehind (events : List Heard) (us : List Heard) : Type 0 where
      piece : List Heard
      later : List Heard
      split : us ≡ piece ++ later
      same : entries events ≡ entries piece
      left : Left later

    without_all : (events us : List Heard) (more : List Entry) (deeds : List Deed) → AreFree t events
        → entries us ≡ entries events ++ more → AreDeeds c t k deeds us → LeftBehind events us
    without_all [] us more deeds w q d =
        record { piece = []; later = us; split = refl; same = refl; left = record { deeds = deeds; made = d } }
    without_all (x ∷ events) [] more deeds w q d =
        absurd (let s : [] ≡ x.entry ∷ (entries events ++ more) = q in cc s)
    without_all (x ∷ events) (u ∷ us) more deeds w q d =
        let s : u.entry ∷ entries us ≡ x.entry ∷ (entries events ++ more) = q in
        let here : u.entry ≡ x.entry = cc s in
        let rest : entries us ≡ entries events ++ more = cc s in
        let l : Left us = without_first u us (subst (λ (z : Entry). IsFree t z.object z.op) (sym here) w.0) deeds (u ∷ us) refl d in
        let r : LeftBehind events us = without_all events us more l.deeds w.1 rest l.made in
        record {
          piece = u ∷ r.piece;
          later = r.later;
          split = ap (λ z. u ∷ z) r.split;
          same = cons_same x.entry u.entry (entries events) (entries r.piece) (sym here) r.same;
          left = r.left;
        }

    -- ---- the deeds with a next event that was done

    module _ (position : ℕ) (answer : Result Finding Refusal) (kept : Kept) (its : kept.caller ≡ k) (g : Heard) (events : List Heard)
        (more : List Entry) (d : IsDoneOn (next_event c t position kept) (g ∷ events) answer) where
      pub record Anew (gs : List Heard) : Type 0 where
        pub deeds : List Deed
        pub made : AreDeeds c t k deeds gs
        pub has : (done : List Completion) → AllByRecursion (IsAnswered done) deeds → IsAnswered done (Takes position answer)

      begins : NextBegins position kept g events
      begins = next_begins position kept g events d.says

      abbrev rest : List Entry
      rest = entries events ++ more

      is_arm : (h : Heard) → h.entry ≡ g.entry → IsFree t h.entry.object h.entry.op → ⊥
      is_arm h is w = clash t h _ _ (ap (λ (z : Entry). z.object) is ∙ begins.object) (ap (λ (z : Entry). z.op) is ∙ begins.operation)
          (arm_reserved t position begins.within) w

      from_here : (here : Heard) (behind later : List Heard) (deeds : List Deed) → here.entry ≡ g.entry
          → entries (behind ++ later) ≡ rest → AreFree t behind → AreDeeds c t k deeds later → Anew (here ∷ (behind ++ later))
      from_here here behind later deeds is q w a =
          let o : Left (behind ++ later) = others_before behind later deeds w a in
          let x : LeftBehind events (behind ++ later) =
          without_all events (behind ++ later) more o.deeds (free_behind position kept g events begins) q o.made in
          record {
            deeds = Takes position answer ∷ x.left.deeds;
            made = (
              x.later,
              record {
                kept = kept;
                its = its;
                piece = here ∷ x.piece;
                split = ap (λ z. here ∷ z) x.split;
                done = done_same (next_event c t position kept) (g ∷ events) (here ∷ x.piece) answer (blind_next_event c t position kept)
                    (cons_same g.entry here.entry (entries events) (entries x.piece) (sym is) x.same) d;
              },
              x.left.made,
            );
            has = λ done all. all.0;
          }

      in_next : (at : ℕ) (now : Kept) (piece later : List Heard) (deeds : List Deed) → Says (next_event c t at now) piece
          → InPiece piece later g.entry rest → AreDeeds c t k deeds later → Anew (piece ++ later)
      in_next at now piece later deeds says w a =
          subst (λ z. Anew (z ++ later)) (sym w.split) (go w.before (subst (Says (next_event c t at now)) w.split says)) where
            go : (before : List Heard) → Says (next_event c t at now) (before ++ w.here ∷ w.behind)
                → Anew ((before ++ w.here ∷ w.behind) ++ later)
            go [] s = from_here w.here w.behind later deeds w.is w.follow
                (free_behind at now w.here w.behind (next_begins at now w.here w.behind s)) a
            go (f ∷ before) s =
                let b : NextBegins at now f (before ++ w.here ∷ w.behind) = next_begins at now f (before ++ w.here ∷ w.behind) s in
                absurd (is_arm w.here w.is (asked_at (IsFree t) (arm_next c t at now f) before w.here w.behind
                (fine_behind_arm (IsFree t) AnyWakes c t (takes_free c t) at f.entry.reply
                (kept_after now (Ecb (slot_block t at)) (op_on.Ecb ecb_op.Arm) f.entry.reply) b.within) b.rest))

      not_in_post : (index code : ℕ) (now : Kept) (piece later : List Heard) → Says (post_event c t index code now) piece
          → InPiece piece later g.entry rest → ⊥
      not_in_post index code now piece later says w =
          subst (λ (z : Op). IsNoArm g.entry.object z) begins.operation (subst (λ (z : Entry). IsNoArm z.object z.op) w.is
          (asked_at IsNoArm (post_event c t index code now) w.before w.here w.behind
          (fine_post_event IsNoArm AnyWakes c t Anywhere (posts_arm_none c t) index code now tt (λ requestor. tt))
          (subst (Says (post_event c t index code now)) w.split says)))

      pub anew : (deeds : List Deed) (gs : List Heard) (front : List Entry) → AreDeeds c t k deeds gs
          → entries gs ≡ front ++ g.entry ∷ rest → Anew gs
      anew [] gs front a q = absurd (no_entry front g.entry rest (sym (ap entries a) ∙ q))
      anew (Posts index code done_so ∷ deeds) gs front a q =
          let b : BeginsWith (post_event c t index code) k gs done_so a.1.0 = a.1.1 in
          go (locate b.piece a.1.0 front g.entry rest (sym (ap entries b.split) ∙ q)) (λ between f. anew deeds a.1.0 between a.1.2 f) where
            go : InPiece (a.1.1).piece a.1.0 g.entry rest ⊎ BehindPiece a.1.0 g.entry rest
                → ((between : List Entry) → entries a.1.0 ≡ between ++ g.entry ∷ rest → Anew a.1.0) → Anew gs
            go (inl x) ih = absurd (not_in_post index code (a.1.1).kept (a.1.1).piece a.1.0 (a.1.1).done.says x)
            go (inr x) ih =
                let r : Anew a.1.0 = ih x.between x.follow in
                record {
                  deeds = Posts index code done_so ∷ r.deeds;
                  made = (a.0, (a.1.0, a.1.1, r.made));
                  has = λ done all. r.has done all.1;
                }
      anew (Takes at so ∷ deeds) gs front a q =
          let b : BeginsWith (next_event c t at) k gs so a.0 = a.1 in
          go (locate b.piece a.0 front g.entry rest (sym (ap entries b.split) ∙ q)) (λ between f. anew deeds a.0 between a.2 f) where
            go : InPiece (a.1).piece a.0 g.entry rest ⊎ BehindPiece a.0 g.entry rest
                → ((between : List Entry) → entries a.0 ≡ between ++ g.entry ∷ rest → Anew a.0) → Anew gs
            go (inl x) ih = subst Anew (sym (a.1).split) (in_next at (a.1).kept (a.1).piece a.0 deeds (a.1).done.says x a.2)
            go (inr x) ih =
                let r : Anew a.0 = ih x.between x.follow in
                record { deeds = Takes at so ∷ r.deeds; made = (a.0, a.1, r.made); has = λ done all. r.has done all.1 }
      anew (Waits at ∷ deeds) gs front a q =
          let b : IsBegun (next_event c t at) k gs a.0 = a.1 in
          go (locate b.piece a.0 front g.entry rest (sym (ap entries b.split) ∙ q)) (λ between f. anew deeds a.0 between a.2 f) where
            go : InPiece (a.1).piece a.0 g.entry rest ⊎ BehindPiece a.0 g.entry rest
                → ((between : List Entry) → entries a.0 ≡ between ++ g.entry ∷ rest → Anew a.0) → Anew gs
            go (inl x) ih = subst Anew (sym (a.1).split) (in_next at (a.1).kept (a.1).piece a.0 deeds (a.1).says x a.2)
            go (inr x) ih =
                let r : Anew a.0 = ih x.between x.follow in
                record { deeds = Waits at ∷ r.deeds; made = (a.0, a.1, r.made); has = λ done all. r.has done all.1 }
      anew (Other ∷ deeds) gs front a q =
          go front (sym (ap entries a.2) ∙ q) (λ between f. anew deeds a.1 between a.4 f) where
            go : (front : List Entry) → (a.0).entry ∷ entries a.1 ≡ front ++ g.entry ∷ rest
                → ((between : List Entry) → entries a.1 ≡ between ++ g.entry ∷ rest → Anew a.1) → Anew gs
            go [] s ih = absurd (is_arm a.0 (let r : (a.0).entry ∷ entries a.1 ≡ g.entry ∷ rest = s in cc r) a.3)
            go (x ∷ front) s ih =
                let r : Anew a.1 = ih front (let r : (a.0).entry ∷ entries a.1 ≡ x ∷ (front ++ g.entry ∷ rest) = s in cc r) in
                record { deeds = Other ∷ r.deeds; made = (a.0, a.1, a.2, a.3, r.made); has = λ done all. r.has done all.1 }
