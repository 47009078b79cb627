-- One entry more was given.
use Rattle.std.proofs.Common.{◌++◌, ◌∷◌, [], List, sym, ap, ◌∙◌, append_assoc}
use Rattle.mv_machine.specs.declared.entry.Entry.{Entry}
use Rattle.mv_machine.proofs.merging.History.listed.Goals as goal

pub loop-entry-preserved : goal.loop-entry-preserved
loop-entry-preserved c =
    let journal = c.loop-entry.journal.items in
    let e = c.in-Some.entry in
    let known = c.loop-entry.invariant in
    let given = c.in-Some.ensures in
    rw c.in_ok-push.ensures.items record {
      config = given.config ∙ known.config;
      past = given.past ∙ ap (λ (es : List Entry). es ++ e ∷ []) known.past ∙ append_assoc c.args.self.past journal (e ∷ []);
      whole = append_assoc journal (e ∷ []) c.next.new.self.coming
          ∙ ap (λ (es : List Entry). journal ++ es) (sym given.coming)
          ∙ known.whole;
    }
