-- Programs that go by the entries alone that they hear, and the answers of two that hear the same entries.
use Rattle.std.proofs.Common.{◌≡◌, ℕ, zero, suc, ◌+◌, ◌≤◌, nat_le, nat_lt, Bool, true, false, if◌then◌else◌, List, [], ◌∷◌, ◌++◌, length}
use Rattle.std.proofs.Common.{refl, sym, ap, ◌∙◌, subst, arith}
use Rattle.std.specs.Prelude.{Option, Some, None, Result, Ok, Err}
use Rattle.mv_ecb.specs.declared.operation.EcbOp.TheVariants as ecb_op
use Rattle.mv_ecb.specs.declared.operation.EcbReply.{EcbReply}
use Rattle.mv_ecb.specs.declared.operation.EcbReply.TheVariants as ecb_reply
use Rattle.mv_latch.specs.declared.operation.LatchOp.TheVariants as latch_op
use Rattle.mv_latch.specs.declared.operation.LatchReply.{LatchReply}
use Rattle.mv_latch.specs.declared.operation.LatchReply.TheVariants as latch_reply
use Rattle.mv_latch.specs.declared.request.LatchForm.TheVariants.{Waiting}
use Rattle.mv_latch.specs.declared.request.Mode.TheVariants.{Exclusive}
use Rattle.mv_machine.specs.declared.entry.Entry.{Entry}
use Rattle.mv_machine.specs.declared.entry.Object.{Object}
use Rattle.mv_machine.specs.declared.entry.Object.TheVariants.{Ecb, Volume, Latches}
use Rattle.mv_machine.specs.declared.entry.Op.{Op}
use Rattle.mv_machine.specs.declared.entry.Op.TheVariants as op_on
use Rattle.mv_machine.specs.declared.entry.Reply.{Reply}
use Rattle.mv_machine.specs.declared.entry.Reply.TheVariants as reply_of
use Rattle.mv_machine.specs.declared.entry.VolumeOp.TheVariants as volume_op
use Rattle.mv_machine.specs.declared.entry.VolumeReply.{VolumeReply}
use Rattle.mv_machine.specs.declared.entry.VolumeReply.TheVariants as volume_reply
use Rattle.mv_config.specs.Setup.{Setup}
use Rattle.mv_calls.specs.declared.table.Table.{Table}
use Rattle.mv_calls.specs.Events.{Entering, EnteredAt, WasComplete, freed, entered, count_read, event_posted, with_latch, post_event}
use Rattle.mv_calls.specs.Events.{next_event, next_event_refusal, slot_found, indexed, handed_out, event_requestor}
use Rattle.mv_calls.specs.Keeping.{Kept, kept_after}
use Rattle.mv_calls.specs.LatchCalls as latches
use Rattle.mv_calls.specs.LatchCalls.{Requested, GrantedAs, PendingAs}
use Rattle.mv_calls.specs.Posts as posts
use Rattle.mv_calls.specs.declared.outcomes.PostAnswer.{PostAnswer}
use Rattle.mv_calls.specs.declared.outcomes.PostAnswer.TheVariants as post_answer
use Rattle.mv_calls.specs.Program.{Program, Do, Done, Early, Wrong, Call, Heard, IsDoneOn, entries, on_ecb, on_latch, on_volume, and_then}
use Rattle.mv_calls.specs.Program.{unless_refused, going_on, followed, finished}
use Rattle.mv_calls.specs.Refusal.{Refusal}
use Rattle.mv_calls.specs.Refusal as refusal
use Rattle.mv_calls.specs.Table.{event_block, slot_block}
use Rattle.mv_calls.specs.Waits as waits
use Rattle.mv_calls.specs.declared.outcomes.WaitSlot.{WaitSlot}
use Rattle.mv_calls.specs.declared.outcomes.WaitSlot.TheVariants as wait_slot
use Rattle.mv_eventlaws.specs.Completions.{Completion}
use Rattle.mv_eventlaws.specs.Discipline.{Posts}
use Rattle.mv_eventlaws.specs.Order.{IsAnswered}
use Rattle.mv_eventlaws.proofs.Programs.{goes_on, not_over, wrong_never, early_never, done_is, post_begins, post_goes, post_not_over}

-- ---- programs that go by entries alone, whatever wakes they hear

abbrev pub Blind : {A : Type 0} → Program A → Type 0
Blind (Do o op next) = ((x y : Heard) → x.entry ≡ y.entry → next x ≡ next y) × ((x : Heard) → Blind (next x))
Blind (Done a) = Unit {0}
Blind Early = Unit {0}
Blind Wrong = Unit {0}

-- one that goes by the reply
by_reply : {A : Type 0} (o : Object) (op : Op) (f : Reply → Program A) → ((r : Reply) → Blind (f r))
    → Blind (Do o op (λ h. f h.entry.reply))
by_reply o op f w = (λ x y q. ap (λ (e : Entry). f e.reply) q, λ x. w x.entry.reply)

blind_on : {A B : Type 0} (kept : Kept) (p : Program A) (f : A → Call B) → Blind p → ((a : A) (kept : Kept) → Blind (f a kept))
    → Blind (going_on kept p f)
blind_on kept (Do o op next) f w g = (
  λ x y q. ap (λ (e : Entry). going_on (kept_after kept o op e.reply) (next x) f) q
      ∙ ap (λ n. going_on (kept_after kept o op y.entry.reply) n f) (w.0 x y q),
  λ x. blind_on (kept_after kept o op x.entry.reply) (next x) f (w.1 x) g,
)
blind_on kept (Done a) f w g = g a kept
blind_on kept Early f w g = tt
blind_on kept Wrong f w g = tt

blind_and : {A B : Type 0} (p : Program A) (f : A → Program B) → Blind p → ((a : A) → Blind (f a)) → Blind (and_then p f)
blind_and (Do o op next) f w g = (λ x y q. ap (λ n. and_then n f) (w.0 x y q), λ x. blind_and (next x) f (w.1 x) g)
blind_and (Done a) f w g = g a
blind_and Early f w g = tt
blind_and Wrong f w g = tt

blind_ecb : {A : Type 0} (r : Reply) (f : EcbReply → Program A) → ((x : EcbReply) → Blind (f x)) → Blind (on_ecb r f)
blind_ecb (reply_of.Ecb x) f w = w x
blind_ecb r f w = tt

blind_volume : {A : Type 0} (r : Reply) (f : VolumeReply → Program A) → ((x : VolumeReply) → Blind (f x)) → Blind (on_volume r f)
blind_volume (reply_of.Volume x) f w = w x
blind_volume r f w = tt

blind_latch : {A : Type 0} (r : Reply) (f : LatchReply → Program A) → ((x : LatchReply) → Blind (f x)) → Blind (on_latch r f)
blind_latch (reply_of.Latch x) f w = w x
blind_latch r f w = tt

blind_unless : {A : Type 0} (o : Option Refusal) (p : Program (Result A Refusal)) → Blind p → Blind (unless_refused o p)
blind_unless None p w = w
blind_unless (Some why) p w = tt

-- ---- posts

module _ (c : Setup) (code : ℕ) where
  blind_posting : (f : PostAnswer → Program PostAnswer) (x : EcbReply) → ((a : PostAnswer) → Blind (f a)) → Blind (posts.posting f x)
  blind_posting f ecb_reply.Posted g = g post_answer.Posted
  blind_posting f (ecb_reply.Woke x) g = g post_answer.Woke
  blind_posting f (ecb_reply.Already d) g = g (post_answer.Already d)
  blind_posting f x g = tt

  blind_each : (post : ℕ → Program PostAnswer) (es : List ℕ) (answer : PostAnswer) → ((e : ℕ) → Blind (post e))
      → Blind (posts.each_posted post es answer)
  blind_each post [] answer g = tt
  blind_each post (e ∷ es) answer g =
      blind_and (post e) (λ p. posts.each_posted post es answer) (g e) (λ p. blind_each post es answer g)

  blind_within : (depth e : ℕ) → Blind (posts.post_within depth c code e)
  blind_within zero e = tt
  blind_within (suc depth) e = by_reply (Ecb e) (op_on.Ecb (ecb_op.Post code))
      (λ r. on_ecb r (λ x. posts.posting (λ a. posts.each_posted (posts.post_within depth c code) (posts.posted_next c x) a) x))
      (λ r. blind_ecb r _ (λ x. blind_posting (λ a. posts.each_posted (posts.post_within depth c code) (posts.posted_next c x) a) x
      (λ a. blind_each (posts.post_within depth c code) (posts.posted_next c x) a (λ b. blind_within depth b))))

-- ---- a next event

blind_word : {A : Type 0} (f : ℕ → Program A) (x : EcbReply) → ((w : ℕ) → Blind (f w)) → Blind (waits.the_word f x)
blind_word f (ecb_reply.Word w) g = g w
blind_word f x g = tt

blind_armed : {A : Type 0} (p : Program A) (x : EcbReply) → Blind p → Blind (waits.armed p x)
blind_armed p ecb_reply.Armed w = w
blind_armed p (ecb_reply.Complete code) w = w
blind_armed p x w = tt

blind_settled : {A : Type 0} (f : WaitSlot → Program A) (x : EcbReply) → ((o : WaitSlot) → Blind (f o)) → Blind (waits.settled f x)
blind_settled f (ecb_reply.Complete code) w = w (wait_slot.Complete code)
blind_settled f ecb_reply.Open w = w wait_slot.Open
blind_settled f x w = tt

blind_enough : (slots : List WaitSlot) → Blind (waits.enough 1 slots)
blind_enough slots = go (nat_le 1 (waits.complete_count slots)) where
  go : (b : Bool) → Blind {A = Result (List WaitSlot) Refusal} (if b then Done (Ok slots) else Early)
  go true = tt
  go false = tt

module _ (c : Setup) (t : Table) where
  blind_handed : (i : ℕ) (kept : Kept) → Blind (handed_out t i kept)
  blind_handed i kept = blind_on kept (waits.test_ecb (event_block t i) kept) (λ word. finished (Ok (record { index = i; word = word })))
      (by_reply (Ecb (event_block t i)) (op_on.Ecb ecb_op.Test) (λ r. on_ecb r (waits.the_word (λ w. Done w)))
      (λ r. blind_ecb r _ (λ x. blind_word (λ w. Done w) x (λ w. tt)))) (λ a kept. tt)

  blind_indexed : (i : ℕ) (kept : Kept) → Blind (indexed t i kept)
  blind_indexed i kept = go (nat_lt i t.size) where
    go : (b : Bool) → Blind ((if b then handed_out t i else finished (Err (refusal.Strange i))) kept)
    go true = blind_handed i kept
    go false = tt

  blind_found : (a : Result (List WaitSlot) Refusal) (kept : Kept) → Blind (slot_found t a kept)
  blind_found (Err why) kept = tt
  blind_found (Ok []) kept = tt
  blind_found (Ok (wait_slot.Open ∷ slots)) kept = tt
  blind_found (Ok (wait_slot.Complete i ∷ [])) kept = blind_indexed i kept
  blind_found (Ok (wait_slot.Complete i ∷ slot ∷ slots)) kept = tt

  blind_settle : (position : ℕ) → Blind (waits.settle_all (slot_block t position ∷ []) [] (waits.enough 1))
  blind_settle position = by_reply (Ecb (slot_block t position)) (op_on.Ecb ecb_op.Settle)
      (λ r. on_ecb r (waits.settled (λ slot. waits.enough 1 (slot ∷ []))))
      (λ r. blind_ecb r _ (λ x. blind_settled (λ slot. waits.enough 1 (slot ∷ [])) x (λ o. blind_enough (o ∷ []))))

  blind_wait : (position : ℕ) (kept : Kept) → Blind (waits.wait c 1 (slot_block t position ∷ []) kept)
  blind_wait position kept = blind_unless (waits.wait_refusal c 1 (slot_block t position ∷ []) kept) _
      (by_reply (Ecb (slot_block t position)) (op_on.Ecb ecb_op.Arm)
      (λ r. on_ecb r (waits.armed (waits.settle_all (slot_block t position ∷ []) [] (waits.enough 1))))
      (λ r. blind_ecb r _ (λ x. blind_armed _ x (blind_settle position))))

  pub blind_next_event : (position : ℕ) (kept : Kept) → Blind (next_event c t position kept)
  blind_next_event position kept = blind_unless (next_event_refusal t position kept) _
      (blind_on kept (waits.wait c 1 (slot_block t position ∷ []) kept) (slot_found t) (blind_wait position kept) blind_found)

-- what is done on some entries is done on the same entries, whatever the wakes
pub done_same : {A : Type 0} (p : Program A) (xs ys : List Heard) (a : A) → Blind p → entries xs ≡ entries ys → IsDoneOn p xs a
    → IsDoneOn p ys a
done_same p [] [] a w e d = d
done_same p [] (y ∷ ys) a w e d = absurd (cc e)
done_same p (x ∷ xs) [] a w e d = absurd (cc e)
done_same (Do o op next) (x ∷ xs) (y ∷ ys) a w e d =
    let same : x.entry ≡ y.entry = cc e in
    let rest : entries xs ≡ entries ys = cc e in
    let r : IsDoneOn (next y) ys a =
    done_same (next y) xs ys a (w.1 y) rest
    (subst (λ n. IsDoneOn n xs a) (w.0 x y same) (record { says = d.says.1; done = d.done })) in
    record {
      says = (subst (λ (z : Entry). ◌≡◌ {A = Option (Object × Op)} (Some (o, op)) (Some (z.object, z.op))) same d.says.0, r.says);
      done = r.done;
    }
done_same (Done b) (x ∷ xs) (y ∷ ys) a w e d = absurd (cc d.says.0)
done_same Early (x ∷ xs) (y ∷ ys) a w e d = absurd (cc d.says.0)
done_same Wrong (x ∷ xs) (y ∷ ys) a w e d = absurd (cc d.says.0)

-- ---- two programs on the same entries

-- as long as both lists go on, their entries are the same
pub record Along (xs ys : List Heard) : Type 0 where
  pub more : List Entry
  pub others : List Entry
  pub same : entries xs ++ more ≡ entries ys ++ others

along_next : (x y : Heard) (xs ys : List Heard) → Along (x ∷ xs) (y ∷ ys) → (x.entry ≡ y.entry) × Along xs ys
along_next x y xs ys w = (
  (let s : x.entry ∷ (entries xs ++ w.more) ≡ y.entry ∷ (entries ys ++ w.others) = w.same in cc s),
  record {
    more = w.more;
    others = w.others;
    same = (let s : x.entry ∷ (entries xs ++ w.more) ≡ y.entry ∷ (entries ys ++ w.others) = w.same in cc s);
  },
)

-- where both are done, their answers are so
abbrev Agree : {A B : Type 0} → (A → B → Type 0) → Program A → Program B → Type 0
Agree {A = A} {B = B} R p q = (xs ys : List Heard) (a : A) (b : B) → Along xs ys → IsDoneOn p xs a → IsDoneOn q ys b → R a b

agree_do : {A B : Type 0} (R : A → B → Type 0) (o u : Object) (op v : Op) (f : Heard → Program A) (g : Heard → Program B)
    → ((x y : Heard) → x.entry ≡ y.entry → Agree R (f x) (g y)) → Agree R (Do o op f) (Do u v g)
agree_do R o u op v f g h [] ys a b w d e = absurd (not_over o op f a d)
agree_do R o u op v f g h (x ∷ xs) [] a b w d e = absurd (not_over u v g b e)
agree_do R o u op v f g h (x ∷ xs) (y ∷ ys) a b w d e =
    let n = along_next x y xs ys w in
    h x y n.0 xs ys a b n.1 (goes_on o op f x xs a d).rest (goes_on u v g y ys b e).rest

-- what follows a program that goes by entries alone
agree_on : {A B C : Type 0} (R : B → C → Type 0) (p : Program A) (f : A → Call B) (g : A → Call C) → Blind p
    → ((a : A) (i j : Kept) → Agree R (f a i) (g a j)) → (i j : Kept) → Agree R (going_on i p f) (going_on j p g)
agree_on R (Do o op next) f g w h i j = agree_do R o o op op (λ x. going_on (kept_after i o op x.entry.reply) (next x) f)
    (λ y. going_on (kept_after j o op y.entry.reply) (next y) g)
    (λ x y q. subst (λ n. Agree R (going_on (kept_after i o op x.entry.reply) (next x) f)
    (going_on (kept_after j o op y.entry.reply) n g)) (w.0 x y q)
    (agree_on R (next x) f g (w.1 x) h (kept_after i o op x.entry.reply) (kept_after j o op y.entry.reply)))
agree_on R (Done a) f g w h i j = h a i j
agree_on R Early f g w h i j = λ xs ys a b al d e. absurd (early_never xs a d)
agree_on R Wrong f g w h i j = λ xs ys a b al d e. absurd (wrong_never xs a d)

-- ---- a program that answers so, if it is done

abbrev Answers : {A : Type 0} → A → Program A → Type 0
Answers a (Do o op next) = (h : Heard) → Answers a (next h)
Answers a (Done b) = a ≡ b
Answers a Early = Unit {0}
Answers a Wrong = Unit {0}

answers_on : {A B : Type 0} (b : B) (kept : Kept) (p : Program A) (f : A → Call B) → ((a : A) (kept : Kept) → Answers b (f a kept))
    → Answers b (going_on kept p f)
answers_on b kept (Do o op next) f g = λ h. answers_on b (kept_after kept o op h.entry.reply) (next h) f g
answers_on b kept (Done a) f g = g a kept
answers_on b kept Early f g = tt
answers_on b kept Wrong f g = tt

answered : {A : Type 0} (a b : A) (p : Program A) (xs : List Heard) → Answers a p → IsDoneOn p xs b → a ≡ b
answered a b (Do o op next) [] w d = absurd (not_over o op next b d)
answered a b (Do o op next) (x ∷ xs) w d = answered a b (next x) xs (w x) (goes_on o op next x xs b d).rest
answered a b (Done z) xs w d = w ∙ (done_is z xs b d).1
answered a b Early xs w d = absurd (early_never xs b d)
answered a b Wrong xs w d = absurd (wrong_never xs b d)

-- ---- posts of events

module _ (c : Setup) (t : Table) where
  abbrev Same : Result Entering Refusal → Result Entering Refusal → Type 0
  Same a b = a ≡ b

  agree_answers : (a : Result Entering Refusal) (p q : Program (Result Entering Refusal)) → Answers a p → Answers a q → Agree Same p q
  agree_answers a p q v w xs ys x y al d e = sym (answered a x p xs v d) ∙ answered a y q ys w e

  freed_answers : (id : ℕ) (a : Result Entering Refusal) (kept : Kept) → Answers a (freed c t id a kept)
  freed_answers id a kept = answers_on a kept (latches.release_latch c t.latch id false kept) (λ released. finished a) (λ r k. refl)

  entered_answers : (index id k : ℕ) (kept : Kept) → Answers (Ok (EnteredAt k)) (entered c t index id k kept)
  entered_answers index id k kept = answers_on (Ok (EnteredAt k)) kept (waits.write_volume t.volume (k + 1) kept)
      (λ stored. followed (posts.post c (slot_block t k) index) (λ posting. freed c t id (Ok (EnteredAt k))))
      (λ stored i. answers_on (Ok (EnteredAt k)) i (posts.post c (slot_block t k) index i) (λ posting. freed c t id (Ok (EnteredAt k)))
      (λ posting j. freed_answers id (Ok (EnteredAt k)) j))

  agree_counted : (index id k : ℕ) (i j : Kept) → Agree Same (count_read c t index id k i) (count_read c t index id k j)
  agree_counted index id k i j = go (nat_lt k t.size) where
    go : (b : Bool) → Agree Same ((if b then entered c t index id k else freed c t id (Err (refusal.Broken k))) i)
        ((if b then entered c t index id k else freed c t id (Err (refusal.Broken k))) j)
    go true = agree_answers (Ok (EnteredAt k)) (entered c t index id k i) (entered c t index id k j) (entered_answers index id k i)
        (entered_answers index id k j)
    go false = agree_answers (Err (refusal.Broken k)) (freed c t id (Err (refusal.Broken k)) i) (freed c t id (Err (refusal.Broken k)) j)
        (freed_answers id (Err (refusal.Broken k)) i) (freed_answers id (Err (refusal.Broken k)) j)

  blind_value : (x : VolumeReply) → Blind (waits.the_value x)
  blind_value (volume_reply.Value n) = tt
  blind_value x = tt

  agree_reading : (index id : ℕ) (i j : Kept)
      → Agree Same (going_on i (waits.read_volume t.volume i) (count_read c t index id))
      (going_on j (waits.read_volume t.volume j) (count_read c t index id))
  agree_reading index id i j = agree_on Same (waits.read_volume t.volume i) (count_read c t index id) (count_read c t index id)
      (by_reply (Volume t.volume) (op_on.Volume volume_op.Read) (λ r. on_volume r waits.the_value)
      (λ r. blind_volume r waits.the_value blind_value))
      (agree_counted index id) i j

  agree_posted : (index id : ℕ) (p : PostAnswer) (i j : Kept) → Agree Same (event_posted c t index id p i) (event_posted c t index id p j)
  agree_posted index id (post_answer.Already code) i j =
      agree_answers (Ok (WasComplete code)) (freed c t id (Ok (WasComplete code)) i) (freed c t id (Ok (WasComplete code)) j)
      (freed_answers id (Ok (WasComplete code)) i) (freed_answers id (Ok (WasComplete code)) j)
  agree_posted index id post_answer.Posted i j = agree_reading index id i j
  agree_posted index id post_answer.Woke i j = agree_reading index id i j

  -- what the law says of the answer of one, it says of that of the other
  module _ (some : 1 ≤ length c.owners) (done : List Completion) (index code as_index as_code : ℕ) where
    abbrev AsWell : Result Entering Refusal → Result Entering Refusal → Type 0
    AsWell a b = IsAnswered done (Posts index code a) → IsAnswered done (Posts as_index as_code b)

    same_index : t.events + index ≡ t.events + as_index → index ≡ as_index
    same_index e = omega (arith, e)

    agree_granted : (id : ℕ) (i j : Kept) → Agree AsWell (with_latch c t index code (Ok (GrantedAs id)) i)
        (with_latch c t as_index as_code (Ok (GrantedAs id)) j)
    agree_granted id i j [] ys a b w d e h =
        absurd (post_not_over c t (event_block t index) code i (event_posted c t index id) a d some)
    agree_granted id i j (x ∷ xs) [] a b w d e h =
        absurd (post_not_over c t (event_block t as_index) as_code j (event_posted c t as_index id) b e some)
    agree_granted id i j (x ∷ xs) (y ∷ ys) a b w d e h = subst (λ z. IsAnswered done (Posts z as_code b)) at
        (subst (λ z. IsAnswered done (Posts index z b)) with_code (subst (λ z. IsAnswered done (Posts index code z)) same h)) where
          n : (x.entry ≡ y.entry) × Along xs ys
          n = along_next x y xs ys w

          objects : Ecb (t.events + index) ≡ Ecb (t.events + as_index)
          objects = sym (post_goes c t (event_block t index) code i (event_posted c t index id) x xs a some d).object
              ∙ ap (λ (z : Entry). z.object) n.0
              ∙ (post_goes c t (event_block t as_index) as_code j (event_posted c t as_index id) y ys b some e).object

          operations : op_on.Ecb (ecb_op.Post code) ≡ op_on.Ecb (ecb_op.Post as_code)
          operations = sym (post_goes c t (event_block t index) code i (event_posted c t index id) x xs a some d).operation
              ∙ ap (λ (z : Entry). z.op) n.0
              ∙ (post_goes c t (event_block t as_index) as_code j (event_posted c t as_index id) y ys b some e).operation

          at : index ≡ as_index
          at = same_index (cc objects)

          with_code : code ≡ as_code
          with_code = cc operations

          same : a ≡ b
          same = agree_on Same (posts.post c (event_block t index) code i) (event_posted c t index id) (event_posted c t index id)
              (blind_within c code (length c.owners) (event_block t index)) (agree_posted index id) i j (x ∷ xs) (y ∷ ys) a b w d
              (subst (λ z. IsDoneOn (going_on j (posts.post c (event_block t z) code j) (event_posted c t z id)) (y ∷ ys) b) (sym at)
              (subst (λ z. IsDoneOn (going_on j (posts.post c (event_block t as_index) z j) (event_posted c t as_index id)) (y ∷ ys) b)
              (sym with_code) e))

    agree_latch : (got : Result Requested Refusal) (i j : Kept)
        → Agree AsWell (with_latch c t index code got i) (with_latch c t as_index as_code got j)
    agree_latch (Ok (GrantedAs id)) i j = agree_granted id i j
    agree_latch (Ok (PendingAs id)) i j = λ xs ys a b w d e. absurd (wrong_never xs a d)
    agree_latch (Err why) i j = λ xs ys a b w d e h.
        subst (λ z. IsAnswered done (Posts as_index as_code z)) (done_is (Err why) ys b e).1
        (subst (λ z. IsAnswered done (Posts index code z)) (sym (done_is (Err why) xs a d).1) h)

    blind_confirmed : (id : ℕ) (x : LatchReply) → Blind (latches.confirmed id x)
    blind_confirmed id (latch_reply.Granted same) = tt
    blind_confirmed id latch_reply.Waiting = tt
    blind_confirmed id latch_reply.Gone = tt
    blind_confirmed id x = tt

    blind_obtained : (x : LatchReply) → Blind (latches.obtained t.latch Waiting x)
    blind_obtained (latch_reply.Granted id) = tt
    blind_obtained (latch_reply.Queued id) =
        by_reply Latches (op_on.Latch (latch_op.Confirm t.latch id)) (λ r. on_latch r (latches.confirmed id))
        (λ r. blind_latch r (latches.confirmed id) (blind_confirmed id))
    blind_obtained x = tt

    abbrev obtaining : Kept → Op
    obtaining kept = op_on.Latch (latch_op.Obtain t.latch (event_requestor kept.caller) Exclusive Waiting)

    pub posts_agree : (i j : Kept) (x y : Heard) (xs ys : List Heard) (a b : Result Entering Refusal) → Along (x ∷ xs) (y ∷ ys)
        → IsDoneOn (post_event c t index code i) (x ∷ xs) a → IsDoneOn (post_event c t as_index as_code j) (y ∷ ys) b
        → IsAnswered done (Posts index code a) → IsAnswered done (Posts as_index as_code b)
    posts_agree i j x y xs ys a b w d e =
        let n = along_next x y xs ys w in
        let gx = post_begins c t index code i x xs a d in
        let gy = post_begins c t as_index as_code j y ys b e in
        agree_on AsWell (on_latch x.entry.reply (latches.obtained t.latch Waiting)) (with_latch c t index code)
        (with_latch c t as_index as_code) (blind_latch x.entry.reply (latches.obtained t.latch Waiting) blind_obtained) agree_latch
        (kept_after i Latches (obtaining i) x.entry.reply) (kept_after j Latches (obtaining j) y.entry.reply) xs ys a b n.1 gx.rest
        (subst (λ (z : Entry). IsDoneOn (going_on (kept_after j Latches (obtaining j) y.entry.reply)
        (on_latch z.reply (latches.obtained t.latch Waiting)) (with_latch c t as_index as_code)) ys b) (sym n.0) gy.rest)
