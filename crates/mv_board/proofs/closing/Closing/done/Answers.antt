use Rattle.std.proofs.Common.{◌≡◌, ◌<◌, ◌≤◌, List, length, get_or-set_same, get_or-set_other, length-set, sym, ap, ◌∙◌, subst, arith}
use Rattle.std.specs.List.{AllByRecursion}
use Rattle.std.specs.Slots.{slots_len, slots_items}
use mathlib.Core.Logic.{dite}
use mathlib.Core.Option.{some}
use lib.ListN.{get_elem?}
use native.Mathlib.Decide.{ℕ_discrete}
use Rattle.mv_machine.specs.declared.entry.Entry.{Entry}
use Rattle.mv_machine.specs.Legal.{after}
use Rattle.mv_config.specs.Limits.{events_limit}
use Rattle.mv_machine.specs.Merge.{merged}
use Rattle.mv_machine.specs.Parts.{KeepsBudgets}
use Rattle.mv_board.specs.Faces.{IsPartIn}
use Rattle.mv_board.specs.Words.{number_in}
use Rattle.mv_board.proofs.Closings.{one_history, merged_are, ended, few, held_there, few_volumes, held_on_board}
use Rattle.mv_board.proofs.Ends.{word_read}
use Rattle.mv_board.proofs.closing.Closing.done.Goals as goal

pub new-requires-clause-history : goal.new-requires-clause-history
new-requires-clause-history c =
    one_history c.self.inside c.self.invariant c.args.self c.self.view_is c.requires.all c.in-Some.seat c.in-Some.is _ _
    c.close_with-closed.ensures.values.2

pub returns-clause-few : goal.returns-clause-few
returns-clause-few c =
    subst (λ (h : List Entry). length h ≤ events_limit) (sym c.new.ensures.coming)
    (few c.self.inside c.self.invariant c.args.self c.self.view_is c.requires.all c.in-Some.seat c.in-Some.is _ _
    c.close_with-closed.ensures.values.2)

pub returns-clause-budgets : goal.returns-clause-budgets
returns-clause-budgets c =
    let end = ended c.self.inside c.self.invariant c.args.self c.self.view_is c.requires.all c.in-Some.seat c.in-Some.is _ _
    c.close_with-closed.ensures.values.2 in
    subst (KeepsBudgets c.args.self.board.config) (sym c.new.ensures.coming) end.budgets

pub returns-clause-callers : goal.returns-clause-callers
returns-clause-callers c =
    let end = ended c.self.inside c.self.invariant c.args.self c.self.view_is c.requires.all c.in-Some.seat c.in-Some.is _ _
    c.close_with-closed.ensures.values.2 in
    subst (λ (h : List Entry). AllByRecursion (IsPartIn c.args.self.board.config h) c.args.self.back)
    (sym c.new.ensures.coming) end.parts

pub returns-clause-merged : goal.returns-clause-merged
returns-clause-merged c =
    c.new.ensures.coming
    ∙ merged_are c.self.inside c.self.invariant c.args.self c.self.view_is c.requires.all c.in-Some.seat c.in-Some.is _ _
    c.close_with-closed.ensures.values.2

pub word-requires : goal.word-requires
word-requires c =
    let inside : c.loop-volume.volume < slots_len c.close_with-closed.result.words =
    omega (arith, c.close_with-closed.ensures.counts.0, c.self.invariant.words) in
    rw c.take-lists.ensures.others.3 (inside, c.close_with-closed.ensures.values.0)

pub loop-volume-preserved : goal.loop-volume-preserved
loop-volume-preserved c =
    let words = slots_items c.close_with-closed.result.words in
    let v = c.loop-volume.volume in
    let read : get_elem? words v ≡ some c.word.result = rw c.take-lists.ensures.others.3 at c.word.ensures in
    let here : v < c.self.inside.config.volumes
    → c.number_in.result ≡ ((after c.self.inside.config (merged c.self.inside.logs.items)).volume v).state =
    (λ there. c.number_in.ensures ∙ ap number_in (sym (word_read words v c.word.result read))
    ∙ held_there c.self.inside c.self.invariant c.args.self c.self.view_is c.requires.all c.in-Some.seat c.in-Some.is words _
    c.close_with-closed.ensures.values.2 v there) in
    record {
      wide = length-set c.loop-volume.volumes v c.number_in.result ∙ c.loop-volume.invariant.wide;
      held = λ n lt there. dite (ℕ_discrete n v)
          (λ same. rw same (get_or-set_same c.loop-volume.volumes v c.number_in.result 0 (omega (arith, c.loop-volume.invariant.wide))
          ∙ here (subst (λ k. k < c.self.inside.config.volumes) same there)))
          (λ other. get_or-set_other c.loop-volume.volumes v n c.number_in.result 0 other
          ∙ c.loop-volume.invariant.held n (omega (arith, other)) there);
    }

pub returns-clause-volumes : goal.returns-clause-volumes
returns-clause-volumes c =
    let few = few_volumes c.self.inside c.self.invariant c.args.self c.self.view_is c.requires.all c.in-Some.seat c.in-Some.is _ _
    c.close_with-closed.ensures.values.2 in
    held_on_board c.self.inside c.self.invariant c.args.self c.self.view_is c.requires.all c.in-Some.seat c.in-Some.is _ _
    c.close_with-closed.ensures.values.2 c.new.result.coming c.loop-volume.volumes c.new.ensures.coming
    (λ n there. c.loop-volume.invariant.held n (omega (arith, few)) there)
