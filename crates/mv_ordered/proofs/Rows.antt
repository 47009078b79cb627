-- Computed histories: one that keeps to the order, with its chain of waiting callers; and for each premise one that breaks it, in which no
-- caller can continue.
use Rattle.std.proofs.Common.{◌≡◌, ℕ, zero, suc, ◌<◌, ◌==◌, false, List, [], ◌∷◌, inl, inr, refl, ap, arith}
use Rattle.std.specs.List.{Contains}
use Rattle.std.proofs.lemmas.Bool.{false≢true, true≢false}
use Rattle.mv_ecb.specs.declared.operation.EcbOp.TheVariants as ecb_op
use Rattle.mv_ecb.specs.declared.operation.EcbReply.TheVariants as ecb_reply
use Rattle.mv_latch.specs.declared.operation.LatchOp.TheVariants as latch_op
use Rattle.mv_latch.specs.declared.operation.LatchReply.{LatchReply}
use Rattle.mv_latch.specs.declared.operation.LatchReply.TheVariants as latch_reply
use Rattle.mv_latch.specs.declared.request.LatchForm.TheVariants.{Waiting}
use Rattle.mv_latch.specs.declared.request.Mode.{Mode}
use Rattle.mv_latch.specs.declared.request.Mode.TheVariants.{Shared, Exclusive}
use Rattle.mv_latch.specs.declared.request.Request.{Request}
use Rattle.mv_latch.proofs.Members.{not_in_empty, first_or_rest}
use Rattle.mv_machine.specs.declared.entry.Entry.{Entry}
use Rattle.mv_machine.specs.Kept.{standing}
use Rattle.mv_machine.specs.Legal.{Legal, of}
use Rattle.mv_config.specs.Setup.{Setup}
use Rattle.mv_calls.specs.Rest.{IsAtRest}
use Rattle.mv_calls.proofs.Computed.{legal_by, two_tasks, three_tasks, at_block, at_latches}
use Rattle.mv_ordered.specs.LatchOrder.{AreBelow, ObtainsInRisingOrder, WaitsWithoutLatches}
use Rattle.mv_ordered.specs.WaitChain.{IsOrdered, KeepsLockDiscipline, WaitsFor, LeadsTo, CanContinue, SomeoneContinues}
use Rattle.mv_ordered.proofs.Logs.{order_empty, order_push, apart_empty, apart_push}

-- a request of the Waiting form
abbrev asked : ℕ → ℕ → ℕ → Mode → Request
asked id k requestor mode = record { id = id; caller = k; requestor = requestor; mode = mode; form = Waiting }

-- no wait of a caller without entries is open
at_rest : IsAtRest []
at_rest = record { armed = λ n. refl; parked = λ n. refl; queued = λ latch id. refl }

-- an entry that obtains a latch by a request of the Waiting form
abbrev obtains : ℕ → ℕ → ℕ → ℕ → Mode → LatchReply → Entry
obtains k place latch requestor mode reply = at_latches k place (latch_op.Obtain latch requestor mode Waiting) reply

-- a request with a higher number is not the only one of a list
second_waits : (q r : Request) → q.id < r.id → Contains (q ∷ []) r → ⊥
second_waits q r lt i = elim (first_or_rest q [] r i) [
  | inl e ↦ let same = ap (λ (x : Request). x.id) e in omega arith
  | inr none ↦ not_in_empty r none
]

-- no caller can continue
abbrev IsStuck : Setup → List Entry → Type 0
IsStuck c es = (k : ℕ) → k < c.callers → CanContinue c es k → ⊥

-- ---- a chain: task 0 waits at latch 0 for task 1, which waits at latch 1 for task 2

abbrev three : Setup
three = three_tasks [] []

abbrev climbing : List Entry
climbing =
    obtains 1 0 0 6 Exclusive (latch_reply.Granted 0)
    ∷ obtains 2 1 1 7 Shared (latch_reply.Granted 1)
    ∷ obtains 1 2 1 6 Exclusive (latch_reply.Queued 2)
    ∷ obtains 0 3 0 5 Exclusive (latch_reply.Queued 3)
    ∷ []

climbing_order : (k : ℕ) → k < 3 → ObtainsInRisingOrder (of k climbing)
climbing_order zero lt = order_push [] (obtains 0 3 0 5 Exclusive (latch_reply.Queued 3)) order_empty
    (record { rest = at_rest; above = λ form. tt })
climbing_order (suc zero) lt =
    order_push (obtains 1 0 0 6 Exclusive (latch_reply.Granted 0) ∷ []) (obtains 1 2 1 6 Exclusive (latch_reply.Queued 2))
    (order_push [] (obtains 1 0 0 6 Exclusive (latch_reply.Granted 0)) order_empty (record { rest = at_rest; above = λ form. tt }))
    (record { rest = record { armed = λ n. refl; parked = λ n. refl; queued = λ latch id. refl }; above = λ form. (omega arith, tt) })
climbing_order (suc (suc zero)) lt =
    order_push [] (obtains 2 1 1 7 Shared (latch_reply.Granted 1)) order_empty (record { rest = at_rest; above = λ form. tt })
climbing_order (suc (suc (suc k))) lt = absurd (omega arith)

climbing_apart : (k : ℕ) → k < 3 → WaitsWithoutLatches (of k climbing)
climbing_apart zero lt = apart_push [] (obtains 0 3 0 5 Exclusive (latch_reply.Queued 3)) apart_empty (λ is. absurd (false≢true is))
climbing_apart (suc zero) lt =
    apart_push (obtains 1 0 0 6 Exclusive (latch_reply.Granted 0) ∷ []) (obtains 1 2 1 6 Exclusive (latch_reply.Queued 2))
    (apart_push [] (obtains 1 0 0 6 Exclusive (latch_reply.Granted 0)) apart_empty (λ is. absurd (false≢true is)))
    (λ is. absurd (false≢true is))
climbing_apart (suc (suc zero)) lt =
    apart_push [] (obtains 2 1 1 7 Shared (latch_reply.Granted 1)) apart_empty (λ is. absurd (false≢true is))
climbing_apart (suc (suc (suc k))) lt = absurd (omega arith)

climbing_is_ordered : KeepsLockDiscipline three climbing
climbing_is_ordered = record {
  ordered = record { legal = legal_by three climbing refl; order = climbing_order };
  apart = climbing_apart;
}

climbing_leads : LeadsTo three climbing 0 (1 ∷ []) 2
climbing_leads = (
  record {
    latch = 0;
    waits = record {
      request = asked 3 0 5 Exclusive;
      mine = refl;
      waits = refl;
      listed = (1, omega arith, refl);
      ungranted = second_waits (asked 0 1 6 Exclusive) (asked 3 0 5 Exclusive) (omega arith);
    };
    holds = record { request = asked 0 1 6 Exclusive; mine = refl; holds = (0, omega arith, refl) };
  },
  record {
    latch = 1;
    waits = record {
      request = asked 2 1 6 Exclusive;
      mine = refl;
      waits = refl;
      listed = (1, omega arith, refl);
      ungranted = second_waits (asked 1 2 7 Shared) (asked 2 1 6 Exclusive) (omega arith);
    };
    holds = record { request = asked 1 2 7 Shared; mine = refl; holds = (0, omega arith, refl) };
  },
)

climbing_continues : CanContinue three climbing 2
climbing_continues = record { armed = λ n. refl; parked = λ n. refl; latches = λ latch id is. absurd (false≢true is) }

-- ---- task 1 obtains latch 1 before latch 0: each waits for the other

abbrev two : Setup
two = two_tasks [] []

abbrev crossed : List Entry
crossed =
    obtains 0 0 0 5 Exclusive (latch_reply.Granted 0)
    ∷ obtains 1 1 1 6 Exclusive (latch_reply.Granted 1)
    ∷ obtains 0 2 1 5 Exclusive (latch_reply.Queued 2)
    ∷ obtains 1 3 0 6 Exclusive (latch_reply.Queued 3)
    ∷ []

crossed_is_legal : Legal two crossed
crossed_is_legal = legal_by two crossed refl

crossed_waits : WaitsFor two crossed 0 1 × WaitsFor two crossed 1 0
crossed_waits = (
  record {
    latch = 1;
    waits = record {
      request = asked 2 0 5 Exclusive;
      mine = refl;
      waits = refl;
      listed = (1, omega arith, refl);
      ungranted = second_waits (asked 1 1 6 Exclusive) (asked 2 0 5 Exclusive) (omega arith);
    };
    holds = record { request = asked 1 1 6 Exclusive; mine = refl; holds = (0, omega arith, refl) };
  },
  record {
    latch = 0;
    waits = record {
      request = asked 3 1 6 Exclusive;
      mine = refl;
      waits = refl;
      listed = (1, omega arith, refl);
      ungranted = second_waits (asked 0 0 5 Exclusive) (asked 3 1 6 Exclusive) (omega arith);
    };
    holds = record { request = asked 0 0 5 Exclusive; mine = refl; holds = (0, omega arith, refl) };
  },
)

crossed_is_stuck : IsStuck two crossed
crossed_is_stuck zero lt can = elim (can.latches 1 2 refl) [ inl held ↦ false≢true held | inr gone ↦ true≢false gone ]
crossed_is_stuck (suc zero) lt can = elim (can.latches 0 3 refl) [ inl held ↦ false≢true held | inr gone ↦ true≢false gone ]
crossed_is_stuck (suc (suc k)) lt can = absurd (omega arith)

crossed_is_not_ordered : ObtainsInRisingOrder (of 1 crossed) → ⊥
crossed_is_not_ordered o =
    let may = o (obtains 1 1 1 6 Exclusive (latch_reply.Granted 1) ∷ []) [] (obtains 1 3 0 6 Exclusive (latch_reply.Queued 3)) refl in
    let less : 1 < 0 = (may.above refl).0 in
    omega arith

-- ---- task 0 obtains another latch while it waits for one: each obtain is of a latch above all others, and each waits for the other

abbrev unconfirmed : List Entry
unconfirmed =
    obtains 1 0 1 6 Exclusive (latch_reply.Granted 0)
    ∷ obtains 0 1 1 5 Exclusive (latch_reply.Queued 1)
    ∷ obtains 0 2 2 5 Exclusive (latch_reply.Granted 2)
    ∷ obtains 1 3 2 6 Exclusive (latch_reply.Queued 3)
    ∷ []

unconfirmed_is_legal : Legal two unconfirmed
unconfirmed_is_legal = legal_by two unconfirmed refl

unconfirmed_rises : AreBelow 2 (standing (obtains 0 1 1 5 Exclusive (latch_reply.Queued 1) ∷ []))
    × AreBelow 2 (standing (obtains 1 0 1 6 Exclusive (latch_reply.Granted 0) ∷ []))
unconfirmed_rises = ((omega arith, tt), (omega arith, tt))

unconfirmed_is_stuck : IsStuck two unconfirmed
unconfirmed_is_stuck zero lt can = elim (can.latches 1 1 refl) [ inl held ↦ false≢true held | inr gone ↦ true≢false gone ]
unconfirmed_is_stuck (suc zero) lt can = elim (can.latches 2 3 refl) [ inl held ↦ false≢true held | inr gone ↦ true≢false gone ]
unconfirmed_is_stuck (suc (suc k)) lt can = absurd (omega arith)

unconfirmed_is_not_ordered : ObtainsInRisingOrder (of 0 unconfirmed) → ⊥
unconfirmed_is_not_ordered o =
    let may = o (obtains 0 1 1 5 Exclusive (latch_reply.Queued 1) ∷ []) [] (obtains 0 2 2 5 Exclusive (latch_reply.Granted 2)) refl in
    true≢false (may.rest.queued 1 1)

-- ---- task 0 waits for its block while it holds latch 0, at which task 1 waits

abbrev with_block : Setup
with_block = two_tasks (0 ∷ []) []

abbrev armed_inside : List Entry
armed_inside =
    obtains 0 0 0 5 Exclusive (latch_reply.Granted 0)
    ∷ at_block 0 0 0 ecb_op.Arm ecb_reply.Armed
    ∷ obtains 1 1 0 6 Exclusive (latch_reply.Queued 1)
    ∷ []

armed_order : (k : ℕ) → k < 2 → ObtainsInRisingOrder (of k armed_inside)
armed_order zero lt =
    order_push (obtains 0 0 0 5 Exclusive (latch_reply.Granted 0) ∷ []) (at_block 0 0 0 ecb_op.Arm ecb_reply.Armed)
    (order_push [] (obtains 0 0 0 5 Exclusive (latch_reply.Granted 0)) order_empty (record { rest = at_rest; above = λ form. tt })) tt
armed_order (suc zero) lt =
    order_push [] (obtains 1 1 0 6 Exclusive (latch_reply.Queued 1)) order_empty (record { rest = at_rest; above = λ form. tt })
armed_order (suc (suc k)) lt = absurd (omega arith)

armed_is_ordered : IsOrdered with_block armed_inside
armed_is_ordered = record { legal = legal_by with_block armed_inside refl; order = armed_order }

armed_is_stuck : IsStuck with_block armed_inside
armed_is_stuck zero lt can = true≢false (can.armed 0)
armed_is_stuck (suc zero) lt can = elim (can.latches 0 1 refl) [ inl held ↦ false≢true held | inr gone ↦ true≢false gone ]
armed_is_stuck (suc (suc k)) lt can = absurd (omega arith)

armed_is_not_apart : WaitsWithoutLatches (of 0 armed_inside) → ⊥
armed_is_not_apart a =
    let none = a (obtains 0 0 0 5 Exclusive (latch_reply.Granted 0) ∷ []) [] (at_block 0 0 0 ecb_op.Arm ecb_reply.Armed) refl refl in
    cc none

-- ---- task 0 has finished while it holds latch 0, at which task 1 waits

abbrev left_behind : List Entry
left_behind =
    obtains 0 0 0 5 Exclusive (latch_reply.Granted 0)
    ∷ obtains 1 1 0 6 Exclusive (latch_reply.Queued 1)
    ∷ []

left_is_legal : Legal two left_behind
left_is_legal = legal_by two left_behind refl

left_is_stuck : SomeoneContinues two left_behind (λ k. k == 0) → ⊥
left_is_stuck s = go s.caller s.exists s.unfinished s.continues where
  go : (k : ℕ) → k < 2 → (k == 0) ≡ false → CanContinue two left_behind k → ⊥
  go zero lt unfinished can = true≢false unfinished
  go (suc zero) lt unfinished can = elim (can.latches 0 1 refl) [ inl held ↦ false≢true held | inr gone ↦ true≢false gone ]
  go (suc (suc k)) lt unfinished can = absurd (omega arith)
