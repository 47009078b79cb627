-- Once a job's requestor is purged, its end comes: an initiator is at the posts of the end, or they are made.
use Rattle.mv_plan.proofs.Words.{◌≡◌, ℕ, suc, ◌+◌, ◌<◌, ◌≤◌, List, [], ◌∷◌, ◌++◌, length, ◌⊎◌, inl, inr, refl, sym, ap, ◌∙◌, subst, arith}
use Rattle.mv_plan.proofs.Words.{common_steps, cases_eq, cases_lt, Entry, IsNext, next, Setup, System, Ecb, Op, Reply, EcbOp, EcbReply}
use Rattle.mv_plan.proofs.Words.{ecb_step, JobData, end_for_writer, done, initiator, purges, purged_by}
use Rattle.mv_plan.proofs.deck.Planned.{IsPlanned}
use Rattle.mv_plan.proofs.points.Points.{Point, At, InitiatorAt, Ending, OfJob, ForScheduler, ForWriter, InJob, initiator_asks}
use Rattle.mv_plan.proofs.points.Points.{initiator_goes, on_ended, IsNotLost}
use Rattle.mv_plan.proofs.points.Programs.{on_posted_keeps}
use Rattle.mv_plan.proofs.walks.Walks.{Points, Move, entry_of, entry_next, block_reply}
use Rattle.mv_plan.proofs.walks.Along.{who_moved, Mover, mover_goes, mover_else, NoneLost}
use Rattle.mv_plan.proofs.ends.Blocks.{IsComplete}
use Rattle.mv_plan.proofs.ends.Posted.{posted_is}
use Rattle.mv_plan.proofs.ends.EndMoments.{EndMoment, initiator_extended}
use Rattle.mv_plan.proofs.serving.{purges-push, one_if}
use Rattle.mv_progress.proofs.reached.Entered.{stays_complete}

-- ---- after a job's purge

-- an initiator is at the posts of the job's end
abbrev pub IsEndingJob : ℕ → Point InitiatorAt → Type 0
IsEndingJob j (At (InJob run (Ending post code counts))) = run.job ≡ j
IsEndingJob j p = ⊥

abbrev pub EndingBy : ℕ → Points → ℕ → Type 0
EndingBy initiators t j = (i : ℕ) × (i < initiators) × IsEndingJob j (t.initiators i)

-- a job that was purged has its end, or an initiator posts it
abbrev pub HaveEnds : List JobData → ℕ → System → Points → List Entry → Type 0
HaveEnds deck initiators s t past = (j : ℕ) → j < length deck → 1 ≤ length (purges (j + 1) past)
    → EndingBy initiators t j ⊎ IsComplete s (end_for_writer (length deck) j)

own_purge : (deck : List JobData) (i : ℕ) (x : InitiatorAt) (r : Reply) (j : ℕ)
    → 1 ≤ one_if (purged_by (j + 1) (initiator_asks (length deck) i x).1)
    → IsNotLost (initiator_goes deck x r) → IsEndingJob j (initiator_goes deck x r)
own_purge deck i x r j some f = grind (arith, common_steps)

module _ (c : Setup) (deck : List JobData) (initiators : ℕ) (sound : IsPlanned deck initiators) (s : System) (t u : Points)
    (past : List Entry) (e : Entry) (nx : IsNext c s e) (m : Move deck initiators t e u) (now : EndMoment deck initiators s t)
    (unlost : NoneLost initiators u) (w : HaveEnds deck initiators s t past) where
  abbrev many : ℕ
  many = length deck

  still : (j : ℕ) → j < many → IsComplete s (end_for_writer many j) → IsComplete (next s e) (end_for_writer many j)
  still j lt v = stays_complete deck initiators s t u e m (end_for_writer many j) (omega arith) v

  count : (j : ℕ) → length (purges (j + 1) (past ++ e ∷ [])) ≡ length (purges (j + 1) past) + one_if (purged_by (j + 1) e.op)
  count j = purges-push (j + 1) past e

  module _ (v : Mover deck initiators t u e) where
    abbrev q : Point InitiatorAt
    q = initiator_goes deck v.point e.reply

    is_q : u.initiators v.number ≡ q
    is_q = mover_goes deck initiators t u e v

    not_lost : IsNotLost q
    not_lost = subst (λ z. IsNotLost z) is_q (unlost.at_initiator v.number v.below)

    made : IsNext c s (entry_of (initiator v.number) e.place (initiator_asks many v.number v.point) e.reply)
    made = entry_next c s e (initiator v.number) (initiator_asks many v.number v.point) nx v.caller v.object v.op

    by_it : (j : ℕ) → IsEndingJob j q → EndingBy initiators u j
    by_it j f = (v.number, v.below, subst (λ z. IsEndingJob j z) (sym is_q) f)

    woken : (j code : ℕ) → j < many → (initiator_asks many v.number v.point).0 ≡ Ecb (done many j)
        → (initiator_asks many v.number v.point).1 ≡ Op.Ecb (EcbOp.Post code) → e.reply ≡ Reply.Ecb (EcbReply.Woke (suc j))
    woken j code lt o op =
        block_reply c s (initiator v.number) (done many j) (EcbOp.Post code) e.place e.reply
        (subst (λ z. IsNext c s (entry_of (initiator v.number) e.place z e.reply)) (λ k. (o k, op k)) made)
        ∙ ap (λ y. Reply.Ecb (ecb_step (EcbOp.Post code) y).1)
        (initiator_extended deck initiators sound s t v.number v.point now v.below v.stands j code lt o op)
        ∙ ap (λ k. Reply.Ecb (EcbReply.Woke k)) (let z : j + 1 ≡ suc j = omega arith in z)

    goes_ending : (x : InitiatorAt) (j : ℕ) → v.point ≡ x → j < many → IsEndingJob j (At x)
        → IsEndingJob j (initiator_goes deck x e.reply) ⊎ IsComplete (next s e) (end_for_writer many j)
    goes_ending (InJob run (Ending OfJob code counts)) j is lt f =
        inl (subst (λ r. IsEndingJob j (on_ended run code counts r))
        (sym (woken j code lt (ap (λ x. (initiator_asks many v.number x).0) is ∙ ap (λ z. Ecb (done many z)) f)
        (ap (λ x. (initiator_asks many v.number x).1) is))) f)
    goes_ending (InJob run (Ending ForScheduler code counts)) j is lt f =
        inl (on_posted_keeps (λ p. IsNotLost p → IsEndingJob j p) (At (InJob run (Ending ForWriter code counts))) e.reply (λ g. f)
        (λ g. absurd g)
        (subst (λ x. IsNotLost (initiator_goes deck x e.reply)) is not_lost))
    goes_ending (InJob run (Ending ForWriter code counts)) j is lt f =
        inr (posted_is s e.caller e.object e.op (end_for_writer many j) code
        (v.object ∙ ap (λ x. (initiator_asks many v.number x).0) is ∙ ap (λ z. Ecb (end_for_writer many z)) f)
        (v.op ∙ ap (λ x. (initiator_asks many v.number x).1) is))
    goes_ending x j is lt f = absurd f

    by_old : (j : ℕ) → j < many → EndingBy initiators t j ⊎ IsComplete s (end_for_writer many j)
        → EndingBy initiators u j ⊎ IsComplete (next s e) (end_for_writer many j)
    by_old j lt (inl b) = elim (cases_eq v.number b.0) [
      | inl same ↦ elim (goes_ending v.point j refl lt
          (subst (λ z. IsEndingJob j z) (ap t.initiators (sym same) ∙ v.stands) b.2)) [ inl f ↦ inl (by_it j f) | inr f ↦ inr f ]
      | inr other ↦ inl (b.0, b.1, subst (λ z. IsEndingJob j z) (sym (mover_else deck initiators t u e v b.0 other)) b.2)
    ]
    by_old j lt (inr d) = inr (still j lt d)

    by_mover : (j : ℕ) → j < many → 1 ≤ length (purges (j + 1) (past ++ e ∷ []))
        → EndingBy initiators u j ⊎ IsComplete (next s e) (end_for_writer many j)
    by_mover j lt some = elim (cases_lt 0 (one_if (purged_by (j + 1) e.op))) [
      | inl more ↦ inl (by_it j (own_purge deck v.number v.point e.reply j
          (let a = ap (λ z. one_if (purged_by (j + 1) z)) v.op in omega arith) not_lost))
      | inr none ↦ by_old j lt (w j lt (let a = count j in omega arith))
    ]

  pub ends_come : HaveEnds deck initiators (next s e) u (past ++ e ∷ [])
  ends_come j lt some = elim (who_moved deck initiators t u e m) [
    | inl a ↦
        let z = ap one_if (a.no_request (j + 1)).0 in let d = count j in
        elim (w j lt (omega arith)) [
          | inl b ↦ inl (b.0, b.1, subst (λ f. IsEndingJob j (f b.0)) (sym a.same) b.2)
          | inr d ↦ inr (still j lt d)
        ]
    | inr v ↦ by_mover v j lt some
  ]
