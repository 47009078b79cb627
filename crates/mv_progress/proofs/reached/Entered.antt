-- A complete block stays complete, unless it is an initiator's: so each job that the reader is past stays entered.
use Rattle.mv_plan.proofs.Words.{◌≡◌, ℕ, zero, suc, ◌+◌, ◌*◌, ◌<◌, ◌≤◌, List, length, inl, inr, sym, ap, ◌∙◌, subst, arith, cases_eq, Entry}
use Rattle.mv_plan.proofs.Words.{next, System, moved, Ecb, Op, EcbOp, JobData, entered, idle}
use Rattle.mv_plan.proofs.points.Points.{Point, At, ReaderAt, Entering, entering_from, reader_goes, IsNotLost}
use Rattle.mv_plan.proofs.points.Programs.{on_posted_keeps, IsReaderAt}
use Rattle.mv_plan.proofs.walks.Walks.{Points, Move, reads, schedules, initiates, writes}
use Rattle.mv_plan.proofs.ends.Blocks.{IsComplete, is_moved, reader_ecb, initiator_ecb}
use Rattle.mv_plan.proofs.ends.Posted.{clear_is_no_post, scheduler_clears, writer_clears_none, entered_from, posted_is}

-- ---- complete blocks

no_clear_below : (deck : List JobData) (initiators : ℕ) (t u : Points) (e : Entry) (b : ℕ) → Move deck initiators t e u
    → b < 4 * length deck → e.object ≡ Ecb b → e.op ≡ Op.Ecb EcbOp.Clear → ⊥
no_clear_below deck initiators t u e b (reads x k at o op moved) lt f g = clear_is_no_post (reader_ecb x EcbOp.Clear (sym op ∙ g)).1
no_clear_below deck initiators t u e b (schedules x k at o op moved) lt f g =
    let w : (i : ℕ) × (b ≡ idle (length deck) i) = scheduler_clears (length deck) x b (sym o ∙ f) (sym op ∙ g) in
    let is : b ≡ idle (length deck) w.0 = w.1 in absurd (omega arith)
no_clear_below deck initiators t u e b (initiates i x less k at o op moved) lt f g =
    clear_is_no_post (initiator_ecb (length deck) i x EcbOp.Clear (sym op ∙ g)).1
no_clear_below deck initiators t u e b (writes x k at o op moved) lt f g = writer_clears_none x (sym op ∙ g)

pub stays_complete : (deck : List JobData) (initiators : ℕ) (s : System) (t u : Points) (e : Entry) → Move deck initiators t e u → (b : ℕ)
    → b < 4 * length deck → IsComplete s b → IsComplete (next s e) b
stays_complete deck initiators s t u e m b lt w =
    is_moved s e.caller e.object e.op b w (λ o op. no_clear_below deck initiators t u e b m lt o op)

-- ---- the reader

-- each job that the reader is past was entered
abbrev pub WereEntered : ℕ → System → Point ReaderAt → Type 0
WereEntered n s p = (j : ℕ) → j < entered_from n p → IsComplete s (entered j)

entered_bound : (n : ℕ) (p : Point ReaderAt) → IsReaderAt n p → entered_from n p ≤ n
entered_bound n (At (Entering j more)) at = omega arith
entered_bound n p at = omega arith

entered_then : (n j more : ℕ) (s : System) → j + suc more ≡ n → ((i : ℕ) → i < j + 1 → IsComplete s (entered i))
    → WereEntered n s (entering_from (j + 1) more)
entered_then n j zero s e h = λ i lt. h i (omega arith)
entered_then n j (suc more) s e h = λ i lt. h i lt

module _ (deck : List JobData) (initiators : ℕ) (s : System) (t u : Points) (e : Entry) where
  abbrev n : ℕ
  n = length deck

  entered_still : Move deck initiators t e u → IsReaderAt n t.reader → WereEntered n s t.reader → WereEntered n (next s e) t.reader
  entered_still m at w = λ j lt.
      let le = entered_bound n t.reader at in stays_complete deck initiators s t u e m (entered j) (omega arith) (w j lt)

  pub entered_next : Move deck initiators t e u → IsReaderAt n t.reader → IsNotLost u.reader → WereEntered n s t.reader
      → WereEntered n (next s e) u.reader
  entered_next (reads (Entering j more) k at o op moved) stands f w =
      subst (λ p. WereEntered n (next s e) p) (sym there)
      (on_posted_keeps (λ p. IsNotLost p → WereEntered n (next s e) p) (entering_from (j + 1) more) e.reply
      (λ g. entered_then n j more (next s e) here all) (λ g. absurd g) (subst (λ p. IsNotLost p) there f)) where
        there : u.reader ≡ reader_goes (Entering j more) e.reply
        there = ap (λ v. v.reader) moved

        here : j + suc more ≡ n
        here = subst (λ p. IsReaderAt n p) at stands

        was : WereEntered n s (At (Entering j more))
        was = subst (λ p. WereEntered n s p) at w

        all : (i : ℕ) → i < j + 1 → IsComplete (next s e) (entered i)
        all i lt = elim (cases_eq i j) [
          | inl same ↦ subst (λ z. IsComplete (next s e) (entered z)) (sym same) (posted_is s e.caller e.object e.op (entered j) 0 o op)
          | inr other ↦ stays_complete deck initiators s t u e (reads (Entering j more) k at o op moved) (entered i)
              (let h = here in omega arith) (was i (omega arith))
        ]
  entered_next (schedules x k at o op moved) stands f w = subst (λ p. WereEntered n (next s e) p) (sym (ap (λ v. v.reader) moved))
      (entered_still (schedules x k at o op moved) stands w)
  entered_next (initiates i x lt k at o op moved) stands f w = subst (λ p. WereEntered n (next s e) p) (sym (ap (λ v. v.reader) moved))
      (entered_still (initiates i x lt k at o op moved) stands w)
  entered_next (writes x k at o op moved) stands f w = subst (λ p. WereEntered n (next s e) p) (sym (ap (λ v. v.reader) moved))
      (entered_still (writes x k at o op moved) stands w)
