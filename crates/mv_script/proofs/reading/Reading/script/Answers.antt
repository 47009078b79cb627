-- The script of statements behind which END stands.
use Rattle.std.proofs.Common.{◌≡◌, [], map, ap, sym, ◌∙◌}
use Rattle.std.proofs.lemmas.List.{length-map}
use Rattle.mv_config.specs.Config.{exit_of}
use Rattle.mv_script.specs.Costs.{costs_of}
use Rattle.mv_script.specs.Reading.{notes_of, progress_of, setup_in, budgets_in}
use Rattle.mv_script.proofs.Behind.{budgets_are, ended_well}
use Rattle.mv_script.proofs.Valid.{valid}
use Rattle.mv_script.proofs.reading.Reading.script.Goals as goal

pub with_budgets-requires : goal.with_budgets-requires
with_budgets-requires c =
    let statements = c.requires.0 in
    let b = c.requires.1.0 in
    let n = notes_of c.args.self in
    let p = progress_of statements in
    let well = ended_well statements n b c.requires.1.1 in
    let e = c.in_ok-finish.ensures in
    let stated : c.finish.new.self.stated ≡ p.stated = e.others.0 ∙ b.far.stated in
    let owners : c.finish.new.self.owners.items ≡ p.owners = ap (λ v. v.items) e.others.1.0 ∙ b.far.owners in
    let exits : map exit_of c.finish.new.self.exits.items ≡ p.exits = ap (λ v. map exit_of v.items) e.others.1.1.0 ∙ b.far.exits in
    let budgets : c.finish.new.self.budgets.items ≡ budgets_in p = e.budgets ∙ sym (budgets_are statements n b well.0) in
    record {
      valid = rw (stated, owners, exits, budgets) (valid p (budgets_in p) b.far.sound well.1.0
          (length-map p.tasks (costs_of (setup_in p [])) ∙ well.1.1) b.far.sound.light);
    }
