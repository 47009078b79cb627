-- Completions that a table shows are at most as many as its events, and in order.
use Rattle.std.proofs.Common.{◌≡◌, ℕ, ◌<◌, ◌≤◌, List, length, map, subst, arith}
use Rattle.std.specs.Prelude.{slice_get, Some}
use Rattle.std.specs.List.{AllByRecursion, Contains}
use Rattle.std.proofs.lemmas.List.{length-map}
use Rattle.mv_machine.specs.declared.entry.Entry.{Entry}
use Rattle.mv_config.specs.Setup.{Setup}
use Rattle.mv_calls.specs.declared.table.Table.{Table}
use Rattle.mv_calls.specs.Waits.{AreDistinct}
use Rattle.mv_calls.proofs.Distinct.{few}
use Rattle.mv_eventlaws.specs.Completions.{Completion, completions}
use Rattle.mv_eventlaws.specs.Order.{StandsOnce, EventAgrees, ShowsCompletions, CompletionsAreInOrder}
use Rattle.mv_eventlaws.proofs.InOrder.{stand_in_order}
use Rattle.mv_eventlaws.proofs.Lists.{all_images, one_place, place_in}
use Rattle.mv_eventlaws.proofs.Tally.{completion_of, index_of}

-- different indices below the size are at most as many as the size
few_shown : (size : ℕ) (done : List Completion) → AllByRecursion (λ x. x.index < size) done → AreDistinct (map index_of done)
    → length done ≤ size
few_shown size done below differ =
    let le : length (map index_of done) ≤ size = few size (map index_of done) (all_images index_of (λ j. j < size) done below) differ in
    let same : length (map index_of done) ≡ length done = length-map done index_of in omega arith

-- a completion has one position, and its event has no other
stands_once : (done : List Completion) (i code : ℕ) → AreDistinct (map index_of done) → Contains done (completion_of i code)
    → StandsOnce done i code
stands_once done i code differ in_it =
    let at : (k : ℕ) × (slice_get done k ≡ Some (completion_of i code)) = place_in done (completion_of i code) in_it in
    record {
      position = at.0;
      is = at.1;
      only = λ k x q same. one_place index_of done k at.0 (completion_of i code) x differ at.1 q same;
    }

pub shown_in_order : (c : Setup) (t : Table) (es : List Entry) → ShowsCompletions c t es → CompletionsAreInOrder c t es
shown_in_order c t es w = record {
  few = few_shown t.size (completions t es) w.indices w.differ;
  once = λ i code lt e. stands_once (completions t es) i code w.differ (subst (EventAgrees (completions t es) i) e (w.events i lt));
  in_order = λ j k x y lt a b. stand_in_order t es j k x y lt a b;
}
