-- Worked rows of the definitions, by computing them.
use Rattle.std.proofs.Common.{◌≡◌, ℕ, ◌≤◌, false, List, [], ◌∷◌, ◌++◌, map, take, drop, Option, Some, None, refl, sym, ap, subst, arith}
use Rattle.mv_ecb.specs.Word.{Zero, Complete}
use Rattle.mv_element.specs.Element.{prereleased}
use Rattle.mv_machine.specs.declared.packing.WordState.{WordState}
use Rattle.mv_machine.specs.declared.packing.WordState.TheVariants as word_state
use Rattle.mv_machine.specs.Merge.{merged}
use Rattle.mv_machine.specs.Packing.{pack, unpack, state_at}
use Rattle.mv_machine.specs.Parts.{parts, Had}
use Rattle.mv_config.specs.Reach.{reach, release_cost}
use Rattle.mv_ecb.specs.declared.operation.EcbOp.{EcbOp}
use Rattle.mv_ecb.specs.declared.operation.EcbOp.TheVariants as ecb_op
use Rattle.mv_ecb.specs.declared.operation.EcbReply.{EcbReply}
use Rattle.mv_ecb.specs.declared.operation.EcbReply.TheVariants as ecb_reply
use Rattle.mv_element.specs.declared.operation.ElementOp.{ElementOp}
use Rattle.mv_element.specs.declared.operation.ElementOp.TheVariants as element_op
use Rattle.mv_element.specs.declared.operation.ElementReply.{ElementReply}
use Rattle.mv_element.specs.declared.operation.ElementReply.TheVariants as element_reply
use Rattle.mv_latch.specs.declared.operation.LatchOp.TheVariants.{Obtain, Release}
use Rattle.mv_latch.specs.declared.operation.LatchReply.TheVariants.{Granted, Queued, Released}
use Rattle.mv_latch.specs.declared.request.LatchForm.TheVariants.{Waiting}
use Rattle.mv_latch.specs.declared.request.Mode.TheVariants.{Exclusive}
use Rattle.mv_config.specs.declared.config.CheckRefusal.TheVariants.{BadExit, Budget, BadOwner}
use Rattle.mv_machine.specs.declared.entry.Entry.{Entry}
use Rattle.mv_machine.specs.declared.entry.Object.TheVariants.{Ecb, Element, Volume, Latches}
use Rattle.mv_machine.specs.declared.entry.Op.TheVariants as op_on
use Rattle.mv_machine.specs.declared.entry.Reply.TheVariants as reply_of
use Rattle.mv_machine.specs.declared.entry.VolumeOp.TheVariants.{Read, Write}
use Rattle.mv_machine.specs.declared.entry.VolumeReply.TheVariants.{Value, Stored}
use Rattle.mv_config.specs.Check.{refusal_of}
use Rattle.mv_machine.specs.Elements.{ElementEvent, element_events, givens, releases}
use Rattle.mv_machine.specs.Legal.{Legal, after}
use Rattle.mv_machine.specs.OnePost.{ecb_events, taken}
use Rattle.mv_machine.specs.Orderly.{IsOrderly, IsExact}
use Rattle.mv_config.specs.Setup.{Setup}
use Rattle.mv_machine.specs.System.{opening, answer, after_step}
use Rattle.mv_machine.specs.Told.{told}

-- two callers, one block of caller 0
abbrev two : Setup
two = record {
  callers = 2;
  elements_per_caller = 1;
  volumes = 1;
  latches = 1;
  quota = 1;
  posted_quota = 0;
  budgets = 4 ∷ 4 ∷ [];
  owners =
      0 ∷ [];
  exits = [];
}

-- nobody but its owner arms a block
arm_by_another : answer two (opening two) 1 (Ecb 0) (op_on.Ecb ecb_op.Arm) ≡ None
arm_by_another = refl

post_first : answer two (opening two) 1 (Ecb 0) (op_on.Ecb (ecb_op.Post 5)) ≡ Some (0, reply_of.Ecb ecb_reply.Posted)
post_first = refl

-- and the owner then finds it complete
arm_late : answer two (after_step two (opening two) 1 (Ecb 0) (op_on.Ecb (ecb_op.Post 5))) 0 (Ecb 0) (op_on.Ecb ecb_op.Arm) ≡ Some
    (1, reply_of.Ecb (ecb_reply.Complete 5))
arm_late = refl

-- of two posts the first is taken, and behind a clear the next one is
abbrev on_block : ℕ → ℕ → EcbOp → EcbReply → Entry
on_block k p op r = record { caller = k; object = Ecb 0; place = p; op = op_on.Ecb op; reply = reply_of.Ecb r }

abbrev posted_twice : List Entry
posted_twice = on_block 1 0 (ecb_op.Post 7) ecb_reply.Posted ∷ on_block 1 1 (ecb_op.Post 9) (ecb_reply.Already 7)
    ∷ on_block 0 2 ecb_op.Clear (ecb_reply.Word 1073741831) ∷ on_block 1 3 (ecb_op.Post 9) ecb_reply.Posted ∷ []

taken_once : taken (ecb_events 0 (take 2 posted_twice)) ≡ 7 ∷ []
taken_once = refl

taken_again : taken (ecb_events 0 posted_twice) ≡ 7 ∷ 9 ∷ []
taken_again = refl

valid : refusal_of two ≡ None
valid = refl

bad_owner : refusal_of (record two { owners = 0 ∷ 2 ∷ 3 ∷ [] }) ≡ Some (BadOwner 1)
bad_owner = refl

owner_of_no_caller : refusal_of (record two { callers = 1; budgets = 4 ∷ []; owners = 1 ∷ [] }) ≡ Some (BadOwner 0)
owner_of_no_caller = refl

exit_to_its_source : refusal_of (record two { owners = 0 ∷ 0 ∷ []; exits = record { source = 1; targets = 1 ∷ [] } ∷ [] })
    ≡ Some (BadExit 1)
exit_to_its_source = refl

bad_exit : refusal_of (record two {
  owners = 0 ∷ 0 ∷ [];
  exits =
      record { source = 0; targets = 1 ∷ [] } ∷ record { source = 1; targets = 1 ∷ [] } ∷ [];
}) ≡ Some (BadExit 2)
bad_exit = refl

high_budget : refusal_of (record two { budgets = 524287 ∷ 1 ∷ [] }) ≡ Some (Budget 524288)
high_budget = refl

-- a chain of two exits, and two exits of block 3, one of which names its target twice
abbrev chained : Setup
chained = record {
  callers = 2;
  elements_per_caller = 1;
  volumes = 1;
  latches = 1;
  quota = 2;
  posted_quota = 1;
  budgets = 3 ∷ 3 ∷ [];
  owners = 0 ∷ 0 ∷ 0 ∷ 0 ∷ 0 ∷ 0 ∷ [];
  exits =
      record { source = 0; targets = 1 ∷ [] } ∷ record { source = 3; targets = 4 ∷ 4 ∷ [] } ∷ record { source = 1; targets = 2 ∷ [] }
      ∷ record { source = 3; targets = 5 ∷ [] } ∷ [];
}

reach_by_exits : map (reach chained) (0 ∷ 1 ∷ 2 ∷ 3 ∷ 4 ∷ 5 ∷ []) ≡ 3 ∷ 2 ∷ 1 ∷ 3 ∷ 1 ∷ 1 ∷ []
reach_by_exits = refl

cost_by_the_greatest_reach : release_cost chained ≡ 7
cost_by_the_greatest_reach = refl

-- an entry of each kind of object, and a wait for a latch that is told of
journal : List Entry
journal =
    record { caller = 1; object = Volume 0; place = 0; op = op_on.Volume (Write 7); reply = reply_of.Volume Stored }
    ∷ record { caller = 0; object = Volume 0; place = 1; op = op_on.Volume Read; reply = reply_of.Volume (Value 7) }
    ∷ record {
      caller = 1;
      object = Element 1;
      place = 0;
      op = op_on.Element element_op.Open;
      reply =
          reply_of.Element (element_reply.Opened 0);
    }
    ∷ record {
      caller = 0;
      object = Element 1;
      place = 1;
      op = op_on.Element (element_op.Release 0 9);
      reply =
          reply_of.Element element_reply.Early;
    }
    ∷ record {
      caller = 1;
      object = Element 1;
      place = 2;
      op = op_on.Element (element_op.Pause 0);
      reply =
          reply_of.Element (element_reply.Given 9 1);
    }
    ∷ record {
      caller = 0;
      object = Latches;
      place = 0;
      op = op_on.Latch (Obtain 0 4 Exclusive Waiting);
      reply =
          reply_of.Latch (Granted 0);
    }
    ∷ record { caller = 1; object = Latches; place = 1; op = op_on.Latch (Obtain 0 5 Exclusive Waiting); reply = reply_of.Latch (Queued 1) }
    ∷ record { caller = 0; object = Latches; place = 2; op = op_on.Latch (Release 0 0 false); reply = reply_of.Latch (Released 1) }
    ∷ []

journal_is_legal : Legal two journal
unfolding journal
journal_is_legal = (
  record { admits = refl; place = refl; reply = refl },
  (
    record { admits = refl; place = refl; reply = refl },
    (
      record { admits = refl; place = refl; reply = refl },
      (
        record { admits = refl; place = refl; reply = refl },
        (
          record { admits = refl; place = refl; reply = refl },
          (
            record { admits = refl; place = refl; reply = refl },
            (record { admits = refl; place = refl; reply = refl }, (record { admits = refl; place = refl; reply = refl }, tt)),
          ),
        ),
      ),
    ),
  ),
)

-- caller 0 had no wakes with its obtain, and one with its release
told_of : told two 0 journal ≡ [] ∷ (record { caller = 1; id = 1; ecb = None; code = 0 } ∷ []) ∷ []
unfolding journal
told_of = refl

-- ---- what the words on histories refuse

abbrev on_element : ℕ → ElementOp → ElementReply → Entry
on_element p op r = record { caller = 1; object = Element 1; place = p; op = op_on.Element op; reply = reply_of.Element r }

abbrev event : ℕ → ElementOp → ElementReply → ElementEvent
event p op r = record { caller = 1; place = p; op = op; reply = r }

-- a release whose element is closed before a pause: its code reaches none
abbrev lost_code : List Entry
lost_code = on_element 0 element_op.Open (element_reply.Opened 0) ∷ on_element 1 (element_op.Release 0 5) element_reply.Early
    ∷ on_element 2 (element_op.Close 0) element_reply.Closed ∷ []

lost_code_is_legal : Legal two lost_code
lost_code_is_legal = (
  record { admits = refl; place = refl; reply = refl },
  (record { admits = refl; place = refl; reply = refl }, (record { admits = refl; place = refl; reply = refl }, tt)),
)

lost_code_is_not_exact : ¬ IsExact lost_code
lost_code_is_not_exact h =
    let events = element_events 1 lost_code in
    let released = event 1 (element_op.Release 0 5) element_reply.Early in
    let given : givens 0 events ≡ 5 ∷ [] = h 1 0 5 (take 1 events) (drop 2 events) released refl refl in
    absurd cc

-- a pause that was given a code which nobody released
abbrev unreleased : List Entry
unreleased = on_element 0 element_op.Open (element_reply.Opened 0) ∷ on_element 1 (element_op.Pause 0) element_reply.Parked
    ∷ on_element 2 (element_op.Resume 0) (element_reply.Given 5 1) ∷ []

unreleased_is_not_orderly : ¬ IsOrderly two unreleased
unreleased_is_not_orderly h =
    let before = take 2 (element_events 1 unreleased) in
    let resumed = event 2 (element_op.Resume 0) (element_reply.Given 5 1) in
    let released : releases 0 before ≡ 5 ∷ [] = ((h.elements 1).reached 0 5 before [] resumed refl refl).0 in
    absurd cc

-- one release whose code two pauses were given
abbrev given_twice : List Entry
given_twice = on_element 0 element_op.Open (element_reply.Opened 0) ∷ on_element 1 (element_op.Release 0 5) element_reply.Early
    ∷ on_element 2 (element_op.Pause 0) (element_reply.Given 5 1) ∷ on_element 3 (element_op.Pause 0) (element_reply.Given 5 1) ∷ []

given_twice_is_not_orderly : ¬ IsOrderly two given_twice
given_twice_is_not_orderly h = let few : 2 ≤ 1 = (h.elements 1).once 0 in omega arith

-- what a word stands for is one place and one state
read_as : (p q : ℕ) (s t : WordState) → ◌≡◌ {A = Option (ℕ × WordState)} (Some (p, s)) (Some (q, t)) → (p ≡ q) × (s ≡ t)
read_as p q s t e =
    let both : ◌≡◌ {A = ℕ × WordState} (p, s) (q, t) = cc in
    (ap (λ (x : ℕ × WordState). x.0) both, ap (λ (x : ℕ × WordState). x.1) both)

same_code : (a b : ℕ) → ◌≡◌ {A = Option WordState} (Some (word_state.Ecb (Complete a))) (Some (word_state.Ecb (Complete b))) → a ≡ b
same_code a b e = cc

-- one post, with code 7
abbrev posted_once : List Entry
posted_once = on_block 1 0 (ecb_op.Post 7) ecb_reply.Posted ∷ []

-- the block was never complete with another code
never_had : ¬ Had two posted_once 0 0 (Ecb 0) (pack 1 (word_state.Ecb (Complete 9)))
never_had h =
    let other = word_state.Ecb (Complete 9) in
    let read = read_as 1 h.place other h.state h.unpacks in
    let was : state_at (after two posted_once) (Ecb 0) ≡ Some other =
    subst (λ p. state_at (after two (take p posted_once)) (Ecb 0) ≡ Some other) (sym read.0)
    (subst (λ s. state_at (after two (take h.place posted_once)) (Ecb 0) ≡ Some s) (sym read.1) h.was) in
    let codes = same_code 7 9 was in
    omega (arith, codes)

-- and behind its own post a caller does not find it zero any more
only_before : ¬ Had two posted_once 1 1 (Ecb 0) (pack 0 (word_state.Ecb Zero))
only_before h =
    let read = read_as 0 h.place (word_state.Ecb Zero) h.state h.unpacks in
    omega (arith, read.0, h.behind.0 refl)

-- ---- words

word_of_zero : pack 1 (word_state.Ecb Zero) ≡ 35184372088832
word_of_zero = refl

word_of_complete : pack 1 (word_state.Ecb (Complete 5)) ≡ 35185445830661
word_of_complete = refl

word_one_later : pack 2 (word_state.Ecb (Complete 5)) ≡ 70369817919493
word_one_later = refl

word_of_early : pack 2 (word_state.Element (prereleased 0 5)) ≡ 70368777732101
word_of_early = refl

read_early : unpack (Element 3) 70368777732101 ≡ Some (2, word_state.Element (prereleased 0 5))
read_early = refl

-- ---- a merge: caller 0's obtain comes before caller 1's pause, since both are ready and 0 is lower
merge_of_two : merged (parts 2 journal) ≡ take 4 journal ++ take 1 (drop 5 journal) ++ take 1 (drop 4 journal) ++ drop 6 journal
unfolding journal
merge_of_two = refl
