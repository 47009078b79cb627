-- What is said of a deck: its first fault for one initiator, or how many jobs it has, its weight for each number of initiators, and which
-- of these can run it.
use Rattle.std.specs.Prelude.{ℕ, zero, suc, ◌+◌, nat_lt, List, [], ◌++◌, length, codes, decimal, Option, Some, None, if◌then◌else◌}
use Rattle.mv_line.specs.declared.fault.TextFault.{TextFault}
use Rattle.mv_deck.specs.Deck.{deck_of}
use Rattle.mv_deck.specs.Fault.{first_fault}
use Rattle.mv_deck.specs.Weight.{weight}
use Rattle.mv_diagnostics.specs.declared.sentences.TheConstants.{CAN_RUN, GOOD_DECK, INITIATORS, LONG_DECK, RUN_DECK, TOO_HEAVY_FROM, WEIGHT}
use Rattle.mv_diagnostics.specs.Held.{held_of_fault}
use Rattle.mv_diagnostics.specs.Limits.{card_limit}
use Rattle.mv_diagnostics.specs.Quote.{fault_text}
use Rattle.mv_diagnostics.specs.Sentence.{deck_sentence}

-- a fault, and the latches that the job holds there if it is about them
abbrev pub fault_of_deck_text : List ℕ → TextFault → List ℕ
fault_of_deck_text bytes fault =
    fault_text (codes "deck") bytes fault (deck_sentence fault.kind) ++ held_of_fault bytes fault

-- whether a deck can be run, by its first fault
abbrev pub can_text : Option TextFault → List ℕ
can_text None = CAN_RUN.now
can_text (Some fault) = (TOO_HEAVY_FROM.now ++ decimal fault.line) ++ codes "\n"

-- the weight of a deck for this many initiators, and whether they can run it, by its first fault for them
unfoldable pub run_text : (initiators weight : ℕ) → Option TextFault → List ℕ
run_text initiators weight fault = (INITIATORS.now ++ decimal initiators) ++ (WEIGHT.now ++ decimal weight) ++ can_text fault

-- the same of `count` numbers of initiators, from one on
abbrev pub runs_text : List ℕ → (from count : ℕ) → List ℕ
runs_text bytes from zero = []
runs_text bytes from (suc count) =
    run_text from (weight (deck_of bytes) from) (first_fault bytes from) ++ runs_text bytes (from + 1) count

-- of a deck without fault
unfoldable pub good_text : List ℕ → List ℕ
good_text bytes = (GOOD_DECK.now ++ decimal (length (deck_of bytes))) ++ codes "\n" ++ runs_text bytes 1 8 ++ RUN_DECK.now

-- by its first fault for one initiator
unfoldable pub found_text : List ℕ → Option TextFault → List ℕ
found_text bytes None = good_text bytes
found_text bytes (Some fault) = fault_of_deck_text bytes fault

-- what is said of a deck
unfoldable pub deck_text : List ℕ → List ℕ
deck_text bytes = if nat_lt card_limit (length bytes) then LONG_DECK.now else found_text bytes (first_fault bytes 1)
