-- What a task keeps follows its events.
use Rattle.std.proofs.Common.{◌≡◌, ℕ, ◌+◌, ◌*◌, ◌^◌, ◌<◌, ◌≤◌, ◌==◌, Bool, true, false, List, [], ◌∷◌, ◌++◌, length}
use Rattle.std.proofs.Common.{cond, Some, refl, sym, ap, ◌∙◌, subst, arith, length-append}
use Rattle.std.proofs.lemmas.Bool.{false≢true, eqb-true, ltb-true, and_parts}
use Rattle.std.specs.List.{AllByRecursion}
use Rattle.slab.specs.Slab.{slab_len}
use Rattle.mv_element.specs.declared.element.ElementState.{ElementState}
use Rattle.mv_element.specs.declared.element.Phase.{Phase}
use Rattle.mv_element.specs.declared.element.Phase.TheVariants.{Free, Reset, Prereleased, Paused, Released}
use Rattle.mv_element.specs.declared.operation.ElementOp.TheVariants as element_op
use Rattle.mv_element.specs.declared.operation.ElementReply.TheVariants as element_reply
use Rattle.mv_element.specs.Table.{element_step, is_current, close_step}
use Rattle.mv_machine.specs.declared.entry.Entry.{Entry}
use Rattle.mv_machine.specs.declared.entry.Object.{Object}
use Rattle.mv_machine.specs.declared.entry.Object.TheVariants.{Ecb, Element, Volume, Latches}
use Rattle.mv_machine.specs.declared.entry.Op.{Op}
use Rattle.mv_machine.specs.declared.entry.Op.TheVariants as op_on
use Rattle.mv_machine.specs.declared.entry.Reply.{Reply}
use Rattle.mv_machine.specs.declared.entry.Reply.TheVariants as reply_of
use Rattle.mv_config.specs.Check.{IsValid}
use Rattle.mv_machine.specs.Kept.{allowed, standing, stands_with}
use Rattle.mv_machine.specs.Legal.{after}
use Rattle.mv_config.specs.Limits.{highest_generation}
use Rattle.mv_machine.specs.Parts.{IsPossible}
use Rattle.mv_config.specs.Setup.{Setup}
use Rattle.mv_machine.specs.System.{System, admitted, reply_to, volume_step}
use Rattle.mv_ecb.specs.declared.operation.EcbOp.{EcbOp}
use Rattle.mv_ecb.specs.Table.{ecb_step}
use Rattle.mv_latch.specs.LatchSet.{latch_step}
use Rattle.mv_latch.specs.declared.operation.LatchOp.TheVariants as latch_op
use Rattle.mv_machine.proofs.Budgets.{no_high_generation}
use Rattle.mv_machine.proofs.Longer.{legal_longer}
use Rattle.mv_machine.proofs.OneHistory.{budgets_fit}
use Rattle.mv_board.specs.Faces.{BoardFace, CallerFace, IsOf, IsSame, Happened}
use Rattle.mv_board.specs.Words.{HasWord, test_of}
use Rattle.mv_board.proofs.Acting.{standing_more}
use Rattle.mv_calls.specs.Keeping.{Kept, kept_of, kept_after, nothing_kept}
use Rattle.mv_calls.proofs.ExtendedBlocks.{extended_starts_exit}
use Rattle.mv_calls.proofs.Making.{kept_caller}
use Rattle.mv_wait.specs.declared.keep.Keep.{Keep}
use Rattle.mv_wait.specs.Keep.{Keeps, Reaches, HasRoomToStand, IsOfKind, ClosesBelow}
use Rattle.mv_wait.specs.Run.{Went}
use Rattle.mv_wait.specs.Task.{Fits, IsRecorded, IsTask, blocks_in}
use Rattle.mv_wait.specs.declared.task.Task.TheInside.{Inside}
use Rattle.mv_wait.proofs.Answering.{made_behind}
use Rattle.mv_wait.proofs.Entries.{how_many}
use Rattle.mv_wait.proofs.Low.{fits_of, kept_low}
use Rattle.mv_wait.proofs.Runs.{entry_of, went_log}
use Rattle.mv_wait.proofs.Waits.{kept_one}

of_kind : (c : Setup) (s : System) (k : ℕ) (o : Object) (op : Op) (reply : Reply) → admitted c s k o op ≡ true
    → Some reply ≡ reply_to s k o op → IsOfKind o op reply
of_kind c s k (Ecb n) (op_on.Ecb op) reply a r = let e : reply ≡ reply_of.Ecb (ecb_step op (s.ecb n).state).1 = cc r in
    subst (IsOfKind (Ecb n) (op_on.Ecb op)) (sym e) tt
of_kind c s k (Element n) (op_on.Element op) reply a r = let e : reply ≡ reply_of.Element (element_step op (s.element n).state).1 =
    cc r in subst (IsOfKind (Element n) (op_on.Element op)) (sym e) tt
of_kind c s k (Volume n) (op_on.Volume op) reply a r = let e : reply ≡ reply_of.Volume (volume_step op (s.volume n).state).1 = cc r in
    subst (IsOfKind (Volume n) (op_on.Volume op)) (sym e) tt
of_kind c s k Latches (op_on.Latch op) reply a r = let e : reply ≡ reply_of.Latch (latch_step k s.latches.place op s.latches.state).1 =
    cc r in subst (IsOfKind Latches (op_on.Latch op)) (sym e) tt
of_kind c s k (Ecb n) (op_on.Element op) reply a r = absurd (false≢true a)
of_kind c s k (Ecb n) (op_on.Volume op) reply a r = absurd (false≢true a)
of_kind c s k (Ecb n) (op_on.Latch op) reply a r = absurd (false≢true a)
of_kind c s k (Element n) (op_on.Ecb op) reply a r = absurd (false≢true a)
of_kind c s k (Element n) (op_on.Volume op) reply a r = absurd (false≢true a)
of_kind c s k (Element n) (op_on.Latch op) reply a r = absurd (false≢true a)
of_kind c s k (Volume n) (op_on.Ecb op) reply a r = absurd (false≢true a)
of_kind c s k (Volume n) (op_on.Element op) reply a r = absurd (false≢true a)
of_kind c s k (Volume n) (op_on.Latch op) reply a r = absurd (false≢true a)
of_kind c s k Latches (op_on.Ecb op) reply a r = absurd (false≢true a)
of_kind c s k Latches (op_on.Element op) reply a r = absurd (false≢true a)
of_kind c s k Latches (op_on.Volume op) reply a r = absurd (false≢true a)

-- an event is answered by a reply of its object's kind
pub reply_kind : (c : Setup) (t u : CallerFace) (o : Object) (op : Op) (reply : Reply) → Happened t o op reply u
    → IsPossible c u.number u.log u.told → IsOfKind o op reply
reply_kind c t u o op reply h p =
    let b = made_behind c t u o h.0 op reply h.1 p in of_kind c (after c b.before) t.number o op reply b.follows.admits b.follows.reply

-- ---- a close carries the element's generation

current_is : (p : Phase) (now g : ℕ) → is_current p now g ≡ true → g ≡ now
current_is Free now g e = absurd (false≢true e)
current_is Reset now g e = eqb-true g now e
current_is Prereleased now g e = eqb-true g now e
current_is Paused now g e = eqb-true g now e
current_is Released now g e = eqb-true g now e

closed_at : (g : ℕ) (s : ElementState) → (element_step (element_op.Close g) s).1 ≡ element_reply.Closed → g ≡ s.generation
closed_at g s e = go (is_current s.phase s.generation g) refl e where
  go : (b : Bool) → is_current s.phase s.generation g ≡ b
      → (cond b (close_step s.phase s) (s, element_reply.Spent s.generation)).1 ≡ element_reply.Closed → g ≡ s.generation
  go true is q = current_is s.phase s.generation g is
  go false is q = absurd (cc q)

closes_element : (c : Setup) (t u : CallerFace) (n g : ℕ) (reply : Reply)
    → Happened t (Element n) (op_on.Element (element_op.Close g)) reply u → IsPossible c u.number u.log u.told → IsValid c
    → reply ≡ reply_of.Element element_reply.Closed → g + 1 < 2 ^ 32
closes_element c t u n g reply h p v is =
    let b = made_behind c t u (Element n) h.0 (op_on.Element (element_op.Close g)) reply h.1 p in
    let r = b.follows.reply in
    let few = budgets_fit c (b.before ++ entry_of t (Element n) h.0 (op_on.Element (element_op.Close g)) reply ∷ []) v
    (legal_longer c b.before _ b.legal b.follows) b.budgets in
    let size = length-append b.before (entry_of t (Element n) h.0 (op_on.Element (element_op.Close g)) reply ∷ []) in
    let low = no_high_generation c b.before n b.legal (omega arith) in
    let answer : reply_of.Element (element_step (element_op.Close g) ((after c b.before).element n).state).1
    ≡ reply_of.Element element_reply.Closed = cc in
    let same = closed_at g ((after c b.before).element n).state (cc answer) in omega arith

below_close : (op : Op) (reply : Reply)
    → ((g : ℕ) → op ≡ op_on.Element (element_op.Close g) → reply ≡ reply_of.Element element_reply.Closed → g + 1 < 2 ^ 32)
    → ClosesBelow op reply
below_close (op_on.Ecb x) reply f = tt
below_close (op_on.Volume x) reply f = tt
below_close (op_on.Latch x) reply f = tt
below_close (op_on.Element element_op.Open) reply f = tt
below_close (op_on.Element (element_op.Pause g)) reply f = tt
below_close (op_on.Element (element_op.Resume g)) reply f = tt
below_close (op_on.Element (element_op.Release g d)) reply f = tt
below_close (op_on.Element element_op.Test) reply f = tt
below_close (op_on.Element (element_op.Close g)) (reply_of.Ecb x) f = tt
below_close (op_on.Element (element_op.Close g)) (reply_of.Volume x) f = tt
below_close (op_on.Element (element_op.Close g)) (reply_of.Latch x) f = tt
below_close (op_on.Element (element_op.Close g)) (reply_of.Element element_reply.Closed) f = f g refl refl
below_close (op_on.Element (element_op.Close g)) (reply_of.Element (element_reply.Opened n)) f = tt
below_close (op_on.Element (element_op.Close g)) (reply_of.Element element_reply.InUse) f = tt
below_close (op_on.Element (element_op.Close g)) (reply_of.Element element_reply.Parked) f = tt
below_close (op_on.Element (element_op.Close g)) (reply_of.Element (element_reply.Given code next)) f = tt
below_close (op_on.Element (element_op.Close g)) (reply_of.Element (element_reply.Spent n)) f = tt
below_close (op_on.Element (element_op.Close g)) (reply_of.Element element_reply.Busy) f = tt
below_close (op_on.Element (element_op.Close g)) (reply_of.Element element_reply.NotYet) f = tt
below_close (op_on.Element (element_op.Close g)) (reply_of.Element element_reply.Early) f = tt
below_close (op_on.Element (element_op.Close g)) (reply_of.Element element_reply.Woke) f = tt
below_close (op_on.Element (element_op.Close g)) (reply_of.Element element_reply.Already) f = tt
below_close (op_on.Element (element_op.Close g)) (reply_of.Element (element_reply.State x)) f = tt

to_element : (c : Setup) (t u : CallerFace) (o : Object) (g : ℕ) (reply : Reply)
    → Happened t o (op_on.Element (element_op.Close g)) reply u → IsPossible c u.number u.log u.told → IsValid c
    → reply ≡ reply_of.Element element_reply.Closed → g + 1 < 2 ^ 32
to_element c t u (Element n) g reply h p v is = closes_element c t u n g reply h p v is
to_element c t u (Ecb n) g reply h p v is = absurd (reply_kind c t u (Ecb n) (op_on.Element (element_op.Close g)) reply h p)
to_element c t u (Volume n) g reply h p v is = absurd (reply_kind c t u (Volume n) (op_on.Element (element_op.Close g)) reply h p)
to_element c t u Latches g reply h p v is = absurd (reply_kind c t u Latches (op_on.Element (element_op.Close g)) reply h p)

pub closes_below : (c : Setup) (t u : CallerFace) (o : Object) (op : Op) (reply : Reply) → Happened t o op reply u
    → IsPossible c u.number u.log u.told → IsValid c → ClosesBelow op reply
closes_below c t u o op reply h p v =
    below_close op reply (λ g is closed. to_element c t u o g reply (subst (λ x. Happened t o x reply u) is h) p v closed)

-- ---- the tables stay

fits_on : (t u : CallerFace) (o : Object) (op : Op) (reply : Reply) (k new : Keep) (s : Setup) → Happened t o op reply u
    → new.first ≡ k.first
    → length new.extended.items ≡ length k.extended.items → length new.elements.items ≡ length k.elements.items
    → new.requests.capacity ≡ k.requests.capacity
    → IsPossible s u.number u.log u.told → Fits t k s → Fits u new s
fits_on t u o op reply k new s h first blocks elements capacity p f =
    let n = h.1.same.number in record {
      valid = f.valid;
      caller = subst (λ m. m < s.callers) (sym n) f.caller;
      blocks = blocks ∙ f.blocks;
      elements = elements ∙ f.elements;
      requests = subst (λ room. s.quota ≤ room) (sym capacity) f.requests;
      first = first ∙ (f.first ∙ ap (λ m. m * s.elements_per_caller) (sym n));
      low = λ element own. kept_low s u.number element u.log u.told f.valid p own;
      exits = extended_starts_exit s u.number u.log u.told p;
    }

keeps_on : (t u : CallerFace) (o : Object) (op : Op) (reply : Reply) (new : Keep) → Happened t o op reply u
    → Keeps (kept_after (kept_of t.number t.log) o op reply) new → Keeps (kept_of u.number u.log) new
keeps_on t u o op reply new h k =
    subst (λ (z : Kept). Keeps z new)
    (sym ((λ i. kept_of (h.1.same.number i) (h.1.logged i)) ∙ kept_one t.number t.log (entry_of t o h.0 op reply))) k

-- the requests that are kept go on to be those that stand by the log: each entry is the caller's own
stands_on : (t u : CallerFace) (o : Object) (op : Op) (reply : Reply) → Happened t o op reply u
    → (kept_of t.number t.log).requests ≡ standing t.log → (kept_of u.number u.log).requests ≡ standing u.log
stands_on t u o op reply h same =
    let e = entry_of t o h.0 op reply in
    (λ i. (kept_of (h.1.same.number i) (h.1.logged i)).requests)
    ∙ ap (λ (q : Kept). q.requests) (kept_one t.number t.log e)
    ∙ ap (λ k. stands_with k (kept_of t.number t.log).requests o op reply) (kept_caller (nothing_kept t.number) t.log)
    ∙ ap (λ ts. stands_with t.number ts o op reply) same
    ∙ sym (standing_more [] t.log e)
    ∙ ap standing (sym h.1.logged)

all_fit : (t u : CallerFace) (o : Object) (op : Op) (reply : Reply) (k new : Keep) (s : Setup) → Happened t o op reply u
    → new.first ≡ k.first
    → length new.extended.items ≡ length k.extended.items → length new.elements.items ≡ length k.elements.items
    → new.requests.capacity ≡ k.requests.capacity
    → t.about ≡ s ∷ [] → IsPossible s u.number u.log u.told → AllByRecursion (Fits t k) t.about → AllByRecursion (Fits u new) u.about
all_fit t u o op reply k new s h a b e r about p all =
    subst (AllByRecursion (Fits u new)) (sym (h.1.same.about ∙ about))
    (fits_on t u o op reply k new s h a b e r p (subst (AllByRecursion (Fits t k)) about all).0, tt)

-- what is kept of the log follows an event, where the tables do
pub recorded_on : (c : Setup) (t u : CallerFace) (o : Object) (op : Op) (reply : Reply) (k new : Keep) → Happened t o op reply u
    → IsPossible c u.number u.log u.told → t.about ≡ c ∷ []
    → ((kept : Kept) → kept.caller ≡ k.caller → Keeps kept k → Keeps (kept_after kept o op reply) new)
    → (new.caller ≡ k.caller) × (new.first ≡ k.first)
    → (length new.extended.items ≡ length k.extended.items) × (length new.elements.items ≡ length k.elements.items)
    → slab_len new.requests ≤ slab_len k.requests + 1 → new.requests.capacity ≡ k.requests.capacity → IsRecorded t k → IsRecorded u new
recorded_on c t u o op reply k new h p about follows same sizes more room r =
    let less = h.1.left in
    let few = r.few in record {
      kept = keeps_on t u o op reply new h
          (follows (kept_of t.number t.log) (kept_caller (nothing_kept t.number) t.log ∙ sym r.caller) r.kept);
      stands = stands_on t u o op reply h r.stands;
      caller = same.0 ∙ (r.caller ∙ sym h.1.same.number);
      fits = all_fit t u o op reply k new c h same.1 sizes.0 sizes.1 room about p r.fits;
      few = omega arith;
    }

-- looks change nothing of it
pub recorded_looked : (c : Setup) (t u : CallerFace) (k : Keep) → t.about ≡ c ∷ [] → Went [] t u → IsRecorded t k → IsRecorded u k
recorded_looked c t u k about w r =
    let number = w.same.number in
    let log = went_log t u w in
    let same : kept_of u.number u.log ≡ kept_of t.number t.log = (λ i. kept_of (number i) (log i)) in
    let left = w.left in
    let few = r.few in
    let f = fits_of c t k about r in
    let one : Fits u k c = record {
      valid = f.valid;
      caller = subst (λ m. m < c.callers) (sym number) f.caller;
      blocks = f.blocks;
      elements = f.elements;
      requests = f.requests;
      first = f.first ∙ ap (λ m. m * c.elements_per_caller) (sym number);
      low = λ n own. subst (λ (q : Kept). q.generation n ≤ highest_generation) (sym same) (f.low n (own ∙ number));
      exits = λ n held. f.exits n (subst (λ (q : Kept). q.extended n ≡ true) same held);
    } in record {
      kept = subst (λ (q : Kept). Keeps q k) (sym same) r.kept;
      stands = ap (λ (q : Kept). q.requests) same ∙ (r.stands ∙ ap standing (sym log));
      caller = r.caller ∙ sym number;
      fits = subst (AllByRecursion (Fits u k)) (sym (w.same.about ∙ about)) (one, tt);
      few = omega arith;
    }

-- a task of the same caller, which has no more events left, is one where it keeps what its log says
pub still_task : (x : Inside) (u : CallerFace) (new : Keep) → IsTask x → IsSame x.caller u → u.left ≤ x.caller.left → IsRecorded u new
    → IsTask (record x { caller = u; keep = new })
still_task x u new is same left r =
    let room = is.room in record {
      recorded = r;
      idle = is.idle;
      room = omega arith;
      places = is.places ∙ sym (ap blocks_in same.about);
    }

-- the configuration, as a task and a station are seen from inside
pub about_inside : (b d : BoardFace) (t r : CallerFace) → r ≡ t → d ≡ b → IsOf b t → r.about ≡ d.config ∷ []
about_inside b d t r same is of = (λ i. (same i).about) ∙ (of.1 ∙ sym (λ i. (is i).config ∷ []))

-- that the task is of the station, seen so
pub of_inside : (b d : BoardFace) (t r : CallerFace) → r ≡ t → d ≡ b → IsOf b t → IsOf d r
of_inside b d t r same is of = ((λ i. (same i).table) ∙ (of.0 ∙ sym (λ i. (is i).table)), about_inside b d t r same is of)

-- and what it may do
pub allowed_inside : (b d : BoardFace) (t r : CallerFace) (k : Keep) (o : Object) (op : Op) → r ≡ t → d ≡ b → IsOf b t → IsRecorded r k
    → (t.number < b.config.callers → allowed b.config t.number t.log o op ≡ true) → allowed d.config r.number r.log o op ≡ true
allowed_inside b d t r k o op same is of recorded may =
    let fits = fits_of d.config r k (about_inside b d t r same is of) recorded in
    (λ i. allowed (is i).config (same i).number (same i).log o op)
    ∙ may (subst (λ (z : BoardFace × CallerFace). z.1.number < z.0.config.callers) (λ i. (is i, same i)) fits.caller)

-- a block that it may use has its place in the table
is_block : (c : Setup) (k n : ℕ) (op : EcbOp) (log : List Entry) → allowed c k log (Ecb n) (op_on.Ecb op) ≡ true → n < length c.owners
is_block c k n op log may = ltb-true n (length c.owners) (and_parts _ _ (and_parts _ _ may).0).1

pub reached : (c : Setup) (r : CallerFace) (k : Keep) (o : Object) (op : Op) → Fits r k c → allowed c r.number r.log o op ≡ true
    → Reaches o k
reached c r k (Ecb n) (op_on.Ecb op) fits may =
    let size = fits.blocks in
    let there = is_block c r.number n op r.log may in omega arith
reached c r k (Ecb n) (op_on.Element op) fits may = absurd (false≢true may)
reached c r k (Ecb n) (op_on.Volume op) fits may = absurd (false≢true may)
reached c r k (Ecb n) (op_on.Latch op) fits may = absurd (false≢true may)
reached c r k (Element n) op fits may = tt
reached c r k (Volume n) op fits may = tt
reached c r k Latches op fits may = tt

-- a request that it may make fits: fewer stand than the quota allows
pub stands_within : (c : Setup) (r : CallerFace) (k : Keep) (o : Object) (op : Op) → IsRecorded r k → Fits r k c
    → allowed c r.number r.log o op ≡ true → HasRoomToStand op k.requests
stands_within c r k o (op_on.Ecb op) recorded fits may = tt
stands_within c r k o (op_on.Element op) recorded fits may = tt
stands_within c r k o (op_on.Volume op) recorded fits may = tt
stands_within c r k o (op_on.Latch (latch_op.Confirm latch id)) recorded fits may = tt
stands_within c r k o (op_on.Latch (latch_op.Release latch id conditional)) recorded fits may = tt
stands_within c r k o (op_on.Latch (latch_op.Purge requestor)) recorded fits may = tt
stands_within c r k (Ecb n) (op_on.Latch (latch_op.Obtain latch requestor mode form)) recorded fits may = absurd (false≢true may)
stands_within c r k (Element n) (op_on.Latch (latch_op.Obtain latch requestor mode form)) recorded fits may = absurd (false≢true may)
stands_within c r k (Volume n) (op_on.Latch (latch_op.Obtain latch requestor mode form)) recorded fits may = absurd (false≢true may)
stands_within c r k Latches (op_on.Latch (latch_op.Obtain latch requestor mode form)) recorded fits may =
    let below : length (standing r.log) < c.quota =
    ltb-true (length (standing r.log)) c.quota (and_parts _ _ (and_parts _ _ (and_parts _ _ may).1).1).0 in
    let count = how_many (kept_of r.number r.log).requests k.requests.slots recorded.kept.requests in
    let stand = ap length recorded.stands in
    let room = fits.requests in omega arith

-- ---- a read keeps all that is kept

read_reply : (c : Setup) (t u : CallerFace) (n : ℕ) (reply : Reply) → Happened t (Element n) (op_on.Element element_op.Test) reply u
    → IsPossible c u.number u.log u.told
    → (s : ElementState) × (reply ≡ reply_of.Element (element_reply.State s))
read_reply c t u n reply h p =
    let b = made_behind c t u (Element n) h.0 (op_on.Element element_op.Test) reply h.1 p in
    let r = b.follows.reply in (((after c b.before).element n).state, cc r)

-- the generation of an element that is read
same_generation : (f : ℕ → ℕ) (n m : ℕ) → cond (m == n) (f n) (f m) ≡ f m
same_generation f n m = go (m == n) refl where
  go : (b : Bool) → (m == n) ≡ b → cond b (f n) (f m) ≡ f m
  go true is = ap f (sym (eqb-true m n is))
  go false is = refl

pub test_keeps : (c : Setup) (t u : CallerFace) (o : Object) (reply : Reply) (k : Keep) → HasWord c o → Happened t o (test_of o) reply u
    → IsPossible c u.number u.log u.told
    → (kept : Kept) → Keeps kept k → Keeps (kept_after kept o (test_of o) reply) k
test_keeps c t u (Ecb n) reply k w h p kept all = all
test_keeps c t u (Volume n) reply k w h p kept all = all
test_keeps c t u Latches reply k w h p kept all = absurd w
test_keeps c t u (Element n) reply k w h p kept all =
    let r = read_reply c t u n reply h p in
    subst (λ z. Keeps (kept_after kept (Element n) (op_on.Element element_op.Test) z) k) (sym r.1) (record {
      extended = all.extended;
      elements = λ i e at. let x = all.elements i e at in (x.0, x.1 ∙ sym (same_generation kept.generation n (k.first + i)));
      requests = all.requests;
    })
