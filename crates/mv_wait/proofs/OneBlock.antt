-- A wait for one block that is not refused arms it, settles it and finds it complete, and answers the code with which it was posted.
-- For the programs above that take what a block was posted with.
use Rattle.std.proofs.Common.{◌≡◌, ℕ, ◌+◌, ◌≤◌, ◌==◌, not, Bool, true, false, List, [], ◌∷◌, ◌++◌, length, Some, None, Result, Ok}
use Rattle.std.proofs.Common.{get_or, slice_index, refl, sym, ap, ◌∙◌, subst, arith}
use Rattle.std.proofs.lemmas.Bool.{eq-eqb, false≢true}
use Rattle.std.proofs.lemmas.Option.{some_pair_parts}
use Rattle.mv_ecb.specs.declared.operation.EcbOp.TheVariants.{Arm, Settle}
use Rattle.mv_ecb.specs.declared.operation.EcbReply.TheVariants as ecb_reply
use Rattle.mv_machine.specs.declared.entry.Object.{Object}
use Rattle.mv_machine.specs.declared.entry.Object.TheVariants.{Ecb}
use Rattle.mv_machine.specs.declared.entry.Op.{Op}
use Rattle.mv_machine.specs.declared.entry.Op.TheVariants as op_on
use Rattle.mv_machine.specs.declared.entry.Reply.{Reply}
use Rattle.mv_machine.specs.declared.entry.Reply.TheVariants as reply_of
use Rattle.mv_config.specs.Setup.{Setup, owner_of}
use Rattle.mv_board.specs.Faces.{CallerFace}
use Rattle.mv_calls.specs.Keeping.{Kept, kept_of, nothing_kept}
use Rattle.mv_calls.specs.Program.{Program, Done, Heard, Says, left, asks, heard, entries, on_ecb, unless_refused}
use Rattle.mv_calls.specs.Refusal.{Refusal}
use Rattle.mv_calls.specs.Refusal as refusal
use Rattle.mv_calls.specs.Exits.{StartsExit}
use Rattle.mv_calls.specs.Waits.{wait, wait_refusal, is_others_block, armed, settled, enough, arm_all, settle_all}
use Rattle.mv_calls.proofs.Making.{kept_caller}
use Rattle.mv_wait.specs.Answers.{wait_refused}
use Rattle.mv_wait.specs.OneBlock.{WaitedFor}
use Rattle.mv_wait.specs.Run.{IsServed}
use Rattle.mv_wait.specs.Waiting.{NamesSource}
use Rattle.mv_wait.specs.declared.waiting.WaitRefusal.{WaitRefusal}
use Rattle.mv_wait.specs.declared.waiting.WaitRefusal.TheVariants as wait_why
use Rattle.mv_calls.specs.declared.outcomes.WaitSlot.{WaitSlot}
use Rattle.mv_calls.specs.declared.outcomes.WaitSlot.TheVariants as slot

-- ---- an event that is asked for

abbrev pub event : Object → Op → Object × Op
event o op = (o, op)

pub asked_is : (o p : Object) (op oq : Op) → Some (event o op) ≡ Some (event p oq) → (p ≡ o) × (oq ≡ op)
asked_is o p op oq q = let is : (o ≡ p) × (op ≡ oq) = some_pair_parts o p op oq q in (sym is.0, sym is.1)

-- ---- the wait

-- what it has done, and the answer that says it
abbrev pub FoundIt : ℕ → Result (List WaitSlot) Refusal → CallerFace → CallerFace → Type 0
FoundIt ecb a t u = (code : ℕ) × (a ≡ Ok (slot.Complete code ∷ [])) × WaitedFor ecb code t u

-- a block of the task's own that is not extended is not refused
unrefused : (c : Setup) (ecb : ℕ) (kept : Kept) → is_others_block c kept ecb ≡ false → kept.extended ecb ≡ false
    → wait_refusal c 1 (ecb ∷ []) kept ≡ None
unrefused c ecb kept own plain = rw (own, plain) refl

-- nor is one that may be extended only where no exit starts from it
pub not_refused : (c : Setup) (ecb : ℕ) (t : CallerFace) (why : WaitRefusal) → owner_of c ecb ≡ t.number
    → (StartsExit c ecb → (kept_of t.number t.log).extended ecb ≡ false)
    → wait_refusal c 1 (ecb ∷ []) (kept_of t.number t.log) ≡ Some (wait_refused why) → NamesSource c (ecb ∷ []) why → ⊥
not_refused c ecb t why own plain is names = go ((kept_of t.number t.log).extended ecb) refl where
  mine : is_others_block c (kept_of t.number t.log) ecb ≡ false
  mine = ap not (ap (λ k. owner_of c ecb == k) (kept_caller (nothing_kept t.number) t.log) ∙ eq-eqb (owner_of c ecb) t.number own)

  named : (why : WaitRefusal) → Some (refusal.ExtendedAt 0) ≡ Some (wait_refused why) → NamesSource c (ecb ∷ []) why
      → StartsExit c ecb
  named wait_why.TooMany q names = absurd (cc q)
  named (wait_why.Doubled p) q names = absurd (cc q)
  named (wait_why.NotOwner p) q names = absurd (cc q)
  named (wait_why.Extended p) q names =
      let first : p ≡ 0 = cc q in subst (λ (n : ℕ). StartsExit c (slice_index (ecb ∷ []) n)) first names

  go : (held : Bool) → (kept_of t.number t.log).extended ecb ≡ held → ⊥
  go false free = let none = unrefused c ecb (kept_of t.number t.log) mine free in cc (sym none ∙ is)
  go true held =
      let some : wait_refusal c 1 (ecb ∷ []) (kept_of t.number t.log) ≡ Some (refusal.ExtendedAt 0) = rw (mine, held) refl in
      false≢true (sym (plain (named why (sym some ∙ is) names)) ∙ held)

-- the program behind the arm
abbrev settling : ℕ → Program (Result (List WaitSlot) Refusal)
settling ecb = settle_all (ecb ∷ []) [] (enough 1)

-- behind the reply to the arm another event is asked for
asks_settle : (ecb : ℕ) (r : Reply) (x : Object × Op) → asks (on_ecb r (armed (settling ecb))) ≡ Some x
    → on_ecb r (armed (settling ecb)) ≡ settling ecb
asks_settle ecb (reply_of.Ecb ecb_reply.Armed) x e = refl
asks_settle ecb (reply_of.Ecb (ecb_reply.Complete c)) x e = refl
asks_settle ecb (reply_of.Ecb r) x e = absurd (cc e)
asks_settle ecb r x e = absurd (cc e)

not_done_yet : (ecb : ℕ) (r : Reply) (a : Result (List WaitSlot) Refusal) → on_ecb r (armed (settling ecb)) ≡ Done a → ⊥
not_done_yet ecb (reply_of.Ecb ecb_reply.Armed) a e = cc e
not_done_yet ecb (reply_of.Ecb (ecb_reply.Complete c)) a e = cc e
not_done_yet ecb (reply_of.Ecb r) a e = cc e
not_done_yet ecb r a e = cc e

-- and its end has a code
found_by : (r : Reply) (a : Result (List WaitSlot) Refusal) → on_ecb r (settled (λ slot. enough 1 (slot ∷ []))) ≡ Done a
    → (code : ℕ) × (r ≡ reply_of.Ecb (ecb_reply.Complete code)) × (a ≡ Ok (slot.Complete code ∷ []))
found_by (reply_of.Ecb (ecb_reply.Complete code)) a e = (code, refl, cc e)
found_by (reply_of.Ecb ecb_reply.Open) a e = absurd (cc e)
found_by (reply_of.Ecb r) a e = absurd (cc e)
found_by r a e = absurd (cc e)

waited_by : (ecb : ℕ) (p : Program (Result (List WaitSlot) Refusal)) (a : Result (List WaitSlot) Refusal) (t u : CallerFace)
    (hs : List Heard) → p ≡ arm_all (ecb ∷ []) (settling ecb) → Says p hs → left p hs ≡ Done a → length hs ≤ 2 → u.number ≡ t.number
    → u.log ≡ t.log ++ entries hs → u.left + length hs ≡ t.left → FoundIt ecb a t u
waited_by ecb p a t u [] is says done few number logged spent = absurd (cc (sym is ∙ done))
waited_by ecb p a t u (h ∷ []) is says done few number logged spent =
    absurd (not_done_yet ecb h.entry.reply a (ap (λ q. heard q h) (sym is) ∙ done))
waited_by ecb p a t u (h ∷ g ∷ []) is says done few number logged spent =
    let asked : Some (event (Ecb ecb) (op_on.Ecb Arm)) ≡ Some (event h.entry.object h.entry.op) = ap asks (sym is) ∙ says.0 in
    let next : asks (on_ecb h.entry.reply (armed (settling ecb))) ≡ Some (g.entry.object, g.entry.op) =
    ap (λ q. asks (heard q h)) (sym is) ∙ says.1.0 in
    let goes = asks_settle ecb h.entry.reply (g.entry.object, g.entry.op) next in
    let settles : Some (event (Ecb ecb) (op_on.Ecb Settle)) ≡ Some (event g.entry.object g.entry.op) = ap asks (sym goes) ∙ next in
    let found = found_by g.entry.reply a (ap (λ q. heard q g) (sym goes) ∙ ap (λ q. heard (heard q h) g) (sym is) ∙ done) in (
      found.0,
      found.2,
      record {
        first = h.entry;
        second = g.entry;
        number = number;
        logged = logged;
        left = spent;
        arm = asked_is (Ecb ecb) h.entry.object (op_on.Ecb Arm) h.entry.op asked;
        settle = asked_is (Ecb ecb) g.entry.object (op_on.Ecb Settle) g.entry.op settles;
        found = found.1;
      },
    )
waited_by ecb p a t u (h ∷ g ∷ f ∷ hs) is says done few number logged spent = absurd (omega arith)

pub waited_made : (c : Setup) (ecb : ℕ) (Is : Result (List WaitSlot) Refusal → Type 0) (t u : CallerFace)
    → (s : IsServed 2 (wait c 1 (ecb ∷ [])) Is t u)
    → wait_refusal c 1 (ecb ∷ []) (kept_of t.number t.log) ≡ None → FoundIt ecb s.answer t u
waited_made c ecb Is t u s accepted = waited_by ecb (wait c 1 (ecb ∷ []) (kept_of t.number t.log)) s.answer t u s.made.events
    (ap (λ why. unless_refused why (arm_all (ecb ∷ []) (settling ecb))) accepted)
    s.made.done.says s.made.done.done s.made.few s.same.number s.made.longer.logged s.left

-- ---- the one slot of a wait that answers so

pub slot_is : (out : List WaitSlot) (a : Result (List WaitSlot) Refusal) (code : ℕ) → a ≡ Ok out → a ≡ Ok (slot.Complete code ∷ [])
    → out ≡ slot.Complete code ∷ []
slot_is out a code is found = cc (sym is ∙ found)

-- so it is not open
pub found_open : (out : List WaitSlot) (code : ℕ) (d : WaitSlot) → out ≡ slot.Complete code ∷ [] → get_or out 0 d ≡ slot.Open → ⊥
found_open out code d is at = let e : slot.Complete code ≡ slot.Open = sym (ap (λ xs. get_or xs 0 d) is) ∙ at in cc e

-- and its code is that code
pub found_code : (out : List WaitSlot) (code other : ℕ) (d : WaitSlot) → out ≡ slot.Complete code ∷ []
    → get_or out 0 d ≡ slot.Complete other → code ≡ other
found_code out code other d is at =
    let e : slot.Complete code ≡ slot.Complete other = sym (ap (λ xs. get_or xs 0 d) is) ∙ at in cc e
