-- What is made of a closed run is the deck's.
use Rattle.std.proofs.Common.{◌≡◌, ℕ, ◌+◌, ◌<◌, ◌≤◌, List, [], ◌∷◌, ◌++◌, map, get_or, sym, ap, ◌∙◌, arith}
use Rattle.std.specs.List.{range_with_len}
use Rattle.std.proofs.lemmas.List.FromFn.{map-range_with_len_more}
use Rattle.mv_board.specs.Faces.{AreHeld}
use Rattle.mv_machine.specs.declared.entry.Entry.{Entry}
use Rattle.mv_machine.specs.Legal.{after}
use Rattle.mv_calls.specs.Program.{Done}
use Rattle.mv_calls.specs.Runs.{left_in}
use Rattle.mv_deck.specs.Deck.{JobData}
use Rattle.mv_deck.specs.Operand.{volume_count}
use Rattle.mv_deck.specs.Sound.{IsSound}
use Rattle.mv_report.specs.Outcome.{ends, lines, total, totals}
use Rattle.mv_plan.specs.SpoolRun.{IsRun}
use Rattle.mv_plan.specs.SpoolSetup.{spool_setup, writer}
use Rattle.mv_plan.specs.SpoolTasks.{task_program}
use Rattle.mv_plan.proofs.deck.Planned.{planned}
use Rattle.mv_plan.proofs.results.EndsPosted.{writer_keeps}
use Rattle.mv_plan.proofs.results.CountsAlone.{are_counted_alone}
use Rattle.mv_work.specs.Records.{JobRecord}
use Rattle.mv_work.specs.Recording.{AreBrought, all_records, lines_recorded}
use Rattle.mv_work.proofs.brought.Lines.{run_lines}

-- one more volume
pub numbers_more : (of : ℕ → ℕ) (k x : ℕ) (old new : List ℕ) → new ≡ old ++ x ∷ [] → x ≡ of k
    → old ≡ map of (range_with_len 0 k) → new ≡ map of (range_with_len 0 (k + 1))
numbers_more of k x old new e number f =
    e ∙ ap (λ n. old ++ n ∷ []) number ∙ ap (λ xs. xs ++ of k ∷ []) f
    ∙ sym (map-range_with_len_more of 0 k k (let q : 0 + k ≡ k = omega arith in q))

-- two functions that agree on the volumes
same_numbers : (f g : ℕ → ℕ) → ((v : ℕ) → v < volume_count → f v ≡ g v)
    → map f (range_with_len 0 volume_count) ≡ map g (range_with_len 0 volume_count)
same_numbers f g same = λ i.
    same 0 (omega arith) i ∷ same 1 (omega arith) i ∷ same 2 (omega arith) i ∷ same 3 (omega arith) i ∷ same 4 (omega arith) i
    ∷ same 5 (omega arith) i ∷ same 6 (omega arith) i ∷ same 7 (omega arith) i ∷ []

module _ (deck : List JobData) (initiators : ℕ) (some : 1 ≤ initiators) (sound : IsSound deck initiators) (es : List Entry)
    (run : IsRun deck initiators es) where
  -- the numbers that are left are the deck's totals
  pub volumes_made : (held made : List ℕ) → made ≡ map (λ v. get_or held v 0) (range_with_len 0 volume_count)
      → AreHeld (spool_setup deck initiators) (after (spool_setup deck initiators) es) held → made ≡ totals deck
  volumes_made held made e there =
      e ∙ same_numbers (λ v. get_or held v 0) (total deck)
      (λ v lt. there v lt ∙ (are_counted_alone deck initiators some (planned deck initiators sound) es run).totals v)

  -- the ends that the writer kept are the deck's
  pub ends_kept : (kept : List ℕ)
      → left_in (spool_setup deck initiators) (task_program deck initiators) (writer initiators) es ≡ Done kept → kept ≡ ends deck
  ends_kept kept e = cc (sym e ∙ writer_keeps deck initiators some (planned deck initiators sound) es run)

  -- the lines that are made of what was brought are the deck's
  pub lines_made : (records : List (List JobRecord)) (made : List (List (List ℕ))) → AreBrought deck initiators es records
      → made ≡ lines_recorded deck (all_records records) → made ≡ lines deck
  lines_made records made brought e = e ∙ run_lines deck initiators some (planned deck initiators sound) es run records brought
