-- A board that ends, with all its callers back.
use Rattle.std.proofs.Common.{◌≡◌, ℕ, ◌<◌, ◌≤◌, get_or, List, length, map, Some, sym, ap, ◌∙◌, subst}
use Rattle.atomic_table.specs.declared.shared.Seat.{Seat}
use Rattle.atomic_table.specs.Table.{Final, Seen}
use Rattle.mv_machine.specs.declared.entry.Entry.{Entry}
use Rattle.mv_config.specs.Check.{IsValid}
use Rattle.mv_machine.specs.Legal.{after}
use Rattle.mv_config.specs.Limits.{events_limit}
use Rattle.mv_machine.specs.Merge.{merged, AreOneHistory}
use Rattle.mv_config.specs.Setup.{Setup}
use Rattle.mv_machine.proofs.OneHistory.{budgets_fit}
use Rattle.mv_board.specs.declared.closing.Closing.TheInside.{Inside}
use Rattle.mv_board.specs.declared.item.Item.{Item}
use Rattle.mv_board.specs.declared.view.Part.{Part}
use Rattle.mv_board.specs.declared.view.View.{View}
use Rattle.mv_board.specs.Closing.{closing_of, held, IsClosing}
use Rattle.mv_board.specs.Faces.{ClosingFace, AreNumbered, AreHeld, log_of}
use Rattle.mv_board.specs.Rule.{Ruled}
use Rattle.mv_board.specs.Words.{number_in}
use Rattle.mv_board.proofs.Ends.{Ends, closes, words_held}
use Rattle.mv_board.proofs.Machine.{volumes_kept}

module _ (x : Inside) (i : IsClosing x) (b : ClosingFace) (view : closing_of x ≡ b) (all : length b.back ≡ b.board.config.callers)
    (seat : Seat Item View) (some : x.seat ≡ Some seat)
    (ws : List ℕ) (items : List Item) (last : Final (Seen (Ruled x.table.shared.key) seat.id seat.me.0) ws items) where
  -- what the seat holds is what came back
  parts_are : held x.seat ≡ seat.me.0.parts
  parts_are = ap held some

  back_is : seat.me.0.parts ≡ b.back
  back_is = sym parts_are ∙ ap (λ z. z.back) view

  -- and the logs are those of its parts
  logs_are : x.logs.items ≡ map log_of seat.me.0.parts
  logs_are = i.logs ∙ ap (map log_of) parts_are

  -- all have come back
  all_back : length seat.me.0.parts ≡ x.config.callers
  all_back = ap length back_is ∙ (all ∙ sym (ap (λ (z : ClosingFace). z.board.config.callers) view))

  seen : Final (Seen (Ruled x.config) seat.id seat.me.0) ws items
  seen = let F : Setup → Type 0 = λ c. Final (Seen (Ruled c) seat.id seat.me.0) ws items in subst F i.key last

  -- they are one history, and its merge ends the board
  both : AreOneHistory x.config (map log_of seat.me.0.parts) × Ends x.config seat.me.0.parts (merged (map log_of seat.me.0.parts))
  both = closes x.config ws items seat.id seat.me.0 all_back (subst (AreNumbered 0) parts_are i.numbered) seen

  pub one_history : AreOneHistory x.config x.logs.items
  one_history = subst (AreOneHistory x.config) (sym logs_are) both.0

  pub merged_are : merged x.logs.items ≡ merged (map log_of b.back)
  merged_are = ap merged (logs_are ∙ ap (map log_of) back_is)

  -- the merge of the logs ends the board
  pub ended : Ends b.board.config b.back (merged x.logs.items)
  ended = subst (λ (z : Setup × (List Part × List (List Entry))). Ends z.0 z.1.0 (merged z.1.1))
      (λ j. (ap (λ (z : ClosingFace). z.board.config) view j, (back_is j, sym logs_are j))) both.1

  -- it is no longer than a run may be
  pub few : length (merged x.logs.items) ≤ events_limit
  few = budgets_fit b.board.config _ (subst IsValid (ap (λ (z : ClosingFace). z.board.config) view) i.valid) ended.legal ended.budgets

  -- the words of the volumes have the numbers that it leads them to, and there are no more volumes than may be
  pub held_there : (n : ℕ) → n < x.config.volumes → number_in (get_or ws n 0) ≡ ((after x.config (merged x.logs.items)).volume n).state
  held_there = subst (λ ls. (n : ℕ) → n < x.config.volumes
      → number_in (get_or ws n 0) ≡ ((after x.config (merged ls)).volume n).state) (sym logs_are)
      (words_held x.config ws items seat.id seat.me.0 all_back (subst (AreNumbered 0) parts_are i.numbered) seen)

  pub few_volumes : x.config.volumes ≤ 8
  few_volumes = (volumes_kept x.config i.valid).1

  -- numbers that the volumes hold are those of the board
  pub held_on_board : (h : List Entry) (numbers : List ℕ) → h ≡ merged x.logs.items
      → AreHeld x.config (after x.config (merged x.logs.items)) numbers → AreHeld b.board.config (after b.board.config h) numbers
  held_on_board h numbers same held = subst (λ (z : Setup × List Entry). AreHeld z.0 (after z.0 z.1) numbers)
      (λ j. (ap (λ (z : ClosingFace). z.board.config) view j, sym same j)) held
