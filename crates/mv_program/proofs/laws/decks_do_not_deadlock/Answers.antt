-- At each moment of a run nothing deadlocks, by mv_progress; decks without fault and decks of loads are sound, by mv_deck.
use Rattle.std.proofs.Common.{List, subst}
use Rattle.mv_deck.specs.Deck.{JobData, deck_of}
use Rattle.mv_deck.specs.Load.{load_jobs, load_text}
use Rattle.mv_deck.specs.Sound.{IsSound}
use Rattle.mv_deck.proofs.Loads.{no_fault, stated_jobs}
use Rattle.mv_deck.proofs.Sounds.{sound}
use Rattle.mv_plan.proofs.deck.Planned.{planned}
use Rattle.mv_progress.proofs.Undoomed.{run_cannot_deadlock}
use Rattle.mv_program.proofs.laws.decks_do_not_deadlock.Goals as goal

pub returns-clause-deck : goal.returns-clause-deck
returns-clause-deck c = λ n input report journal before later some none told split.
    run_cannot_deadlock (deck_of input) n some (planned (deck_of input) n (sound input n none)) told.run.events before later
    told.run.run split

pub returns-clause-load : goal.returns-clause-load
returns-clause-load c = λ jobs n report journal before later one few some most told split.
    let is_sound : IsSound (load_jobs jobs) n =
    subst (λ (d : List JobData). IsSound d n) (stated_jobs jobs one few) (sound (load_text jobs) n (no_fault jobs n one few most)) in
    run_cannot_deadlock (load_jobs jobs) n some (planned (load_jobs jobs) n is_sound) told.run.events before later told.run.run split
