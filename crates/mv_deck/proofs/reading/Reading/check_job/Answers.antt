-- What a JOB is asked, in the order of the kinds: behind each test that it passed it has no fault of that kind.
use Rattle.std.proofs.Common.{◌≡◌, ℕ, List, false, is_none, is_some, map, sym, ap, ◌∙◌, arith}
use Rattle.std.specs.List.{list_any}
use Rattle.mv_deck.specs.declared.form.Part.{Part}
use Rattle.mv_deck.specs.declared.form.Version.{Version}
use Rattle.mv_deck.specs.declared.reading.Reading.{Reading}
use Rattle.mv_deck.specs.Statement.{Statement}
use Rattle.mv_deck.specs.Deck.{jobs_of}
use Rattle.mv_deck.specs.Fault.{is_misplaced, repeats_name, awaits_no_job}
use Rattle.mv_deck.specs.Form.{part_data}
use Rattle.mv_deck.specs.Names.{place_in}
use Rattle.mv_deck.specs.Reading.{IsBehind}
use Rattle.mv_deck.proofs.Checked.{job, named_badly, awaits_badly, named_well, codes_are, unknown_are, too_many, doubled, few}
use Rattle.mv_deck.proofs.Told.{job_bad_name, job_misplaced, job_misnumbered, job_placed, job_repeats, job_unknown, job_crowded}
use Rattle.mv_deck.proofs.Told.{job_numbered}
use Rattle.mv_deck.proofs.reading.Reading.check_job.Goals.{then-not-is_name-via-then-not-is_name}
use Rattle.mv_deck.proofs.reading.Reading.check_job.Goals.{then-not-is_name-via-else-not-is_name+then-has_bad_name}
use Rattle.mv_deck.proofs.reading.Reading.check_job.Goals.{then-parts-gt-MOST_AFTER-via-then-parts-gt-MOST_AFTER}
use Rattle.mv_deck.proofs.reading.Reading.check_job.Goals.{then-parts-gt-MOST_AFTER-via-else-parts-gt-MOST_AFTER+then-has_double}
use Rattle.mv_deck.proofs.reading.Reading.check_job.Goals as goal

-- a JOB of this name with these parts, where the reader is behind these statements
module _ (name : List ℕ) (parts : List Part) (n : ℕ) (v : Version) (earlier : List Statement) (r : Reading)
    (b : IsBehind n v earlier r) where
  -- it stands where one may
  placed : r.ended ≡ false → is_misplaced earlier (job name parts) ≡ false
  placed none = job_placed n earlier (jobs_of earlier) name (map part_data parts) (sym b.ended ∙ none)

  -- its name is new
  new : is_some (place_in r.names name) ≡ false → repeats_name (jobs_of earlier) (job name parts) ≡ false
  new e = ap is_some (sym (b.kept.named name)) ∙ e

  -- it waits for earlier jobs alone
  known : list_any (λ (p : Part). is_none (place_in r.names p.name.now)) parts ≡ false
      → awaits_no_job (jobs_of earlier) (job name parts) ≡ false
  known e = unknown_are name parts (jobs_of earlier) r.names b.kept.named ∙ e

pub returns-then-not-is_name-clause-kinds : goal.returns-then-not-is_name-clause-kinds
returns-then-not-is_name-clause-kinds c = λ n v earlier b.
    let name = c.args.name.now in
    let parts = c.args.parts.now in
    job_bad_name n earlier (jobs_of earlier) name (map part_data parts)
    (elim c.then-not-is_name.branch [
      | then-not-is_name-via-then-not-is_name w ↦ named_badly name parts (sym w.if-not-is_name.ensures)
      | then-not-is_name-via-else-not-is_name+then-has_bad_name w ↦ awaits_badly name parts (sym w.if-has_bad_name.ensures)
    ])

pub returns-then-has_bad_code-clause-kinds : goal.returns-then-has_bad_code-clause-kinds
returns-then-has_bad_code-clause-kinds c = λ n v earlier b.
    let name = c.args.name.now in
    let parts = c.args.parts.now in
    let well = named_well name parts (sym c.if-not-is_name.ensures) (sym c.if-has_bad_name.ensures) in
    job_misnumbered n earlier (jobs_of earlier) name (map part_data parts) well
    (codes_are name parts ∙ sym c.if-has_bad_code.ensures) (sym b.ended ∙ c.if-self.true)

pub returns-else-has_bad_code-clause-kinds : goal.returns-else-has_bad_code-clause-kinds
returns-else-has_bad_code-clause-kinds c = λ n v earlier b.
    let name = c.args.name.now in
    let parts = c.args.parts.now in
    let well = named_well name parts (sym c.if-not-is_name.ensures) (sym c.if-has_bad_name.ensures) in
    job_misplaced n earlier (jobs_of earlier) name (map part_data parts) well
    (codes_are name parts ∙ sym c.if-has_bad_code.ensures) (sym b.ended ∙ c.if-self.true)

pub returns-then-is_some-clause-kinds : goal.returns-then-is_some-clause-kinds
returns-then-is_some-clause-kinds c = λ n v earlier b.
    let name = c.args.name.now in
    let parts = c.args.parts.now in
    let well = named_well name parts (sym c.if-not-is_name.ensures) (sym c.if-has_bad_name.ensures) in
    let taken = ap is_some (sym c.place.ensures) ∙ sym c.if-is_some.ensures in
    job_repeats n earlier (jobs_of earlier) name (map part_data parts) well
    (placed name parts n v earlier c.args.self.now b c.if-self.false) (ap is_some (sym (b.kept.named name)) ∙ taken)

pub returns-then-lacks_one-clause-kinds : goal.returns-then-lacks_one-clause-kinds
returns-then-lacks_one-clause-kinds c = λ n v earlier b.
    let name = c.args.name.now in
    let parts = c.args.parts.now in
    let r = c.args.self.now in
    let well = named_well name parts (sym c.if-not-is_name.ensures) (sym c.if-has_bad_name.ensures) in
    let unplaced = ap is_some (sym c.place.ensures) ∙ sym c.if-is_some.ensures in
    job_unknown n earlier (jobs_of earlier) name (map part_data parts) well
    (placed name parts n v earlier r b c.if-self.false) (new name parts n v earlier r b unplaced)
    (unknown_are name parts (jobs_of earlier) r.names b.kept.named ∙ sym c.if-lacks_one.ensures)

pub returns-then-parts-gt-MOST_AFTER-clause-kinds : goal.returns-then-parts-gt-MOST_AFTER-clause-kinds
returns-then-parts-gt-MOST_AFTER-clause-kinds c = λ n v earlier b.
    let name = c.args.name.now in
    let parts = c.args.parts.now in
    let r = c.args.self.now in
    let well = named_well name parts (sym c.if-not-is_name.ensures) (sym c.if-has_bad_name.ensures) in
    let unplaced = ap is_some (sym c.place.ensures) ∙ sym c.if-is_some.ensures in
    job_crowded n earlier (jobs_of earlier) name (map part_data parts) well
    (placed name parts n v earlier r b c.if-self.false) (new name parts n v earlier r b unplaced)
    (known name parts n v earlier r b (sym c.if-lacks_one.ensures))
    (elim c.then-parts-gt-MOST_AFTER.branch [
      | then-parts-gt-MOST_AFTER-via-then-parts-gt-MOST_AFTER w ↦ too_many name parts (omega arith)
      | then-parts-gt-MOST_AFTER-via-else-parts-gt-MOST_AFTER+then-has_double w ↦ doubled name parts (sym w.if-has_double.ensures)
    ])

pub returns-then-has_bad_code-2-clause-kinds : goal.returns-then-has_bad_code-2-clause-kinds
returns-then-has_bad_code-2-clause-kinds c = λ n v earlier b.
    let name = c.args.name.now in
    let parts = c.args.parts.now in
    let r = c.args.self.now in
    let well = named_well name parts (sym c.if-not-is_name.ensures) (sym c.if-has_bad_name.ensures) in
    let unplaced = ap is_some (sym c.place.ensures) ∙ sym c.if-is_some.ensures in
    job_numbered n earlier (jobs_of earlier) name (map part_data parts) well
    (placed name parts n v earlier r b c.if-self.false) (new name parts n v earlier r b unplaced)
    (known name parts n v earlier r b (sym c.if-lacks_one.ensures))
    (few name parts (omega arith) (sym c.if-has_double.ensures)) (codes_are name parts ∙ sym c.if-has_bad_code-2.ensures)

pub returns-clause-kinds : goal.returns-clause-kinds
returns-clause-kinds c = λ n v earlier b.
    let name = c.args.name.now in
    let parts = c.args.parts.now in
    let r = c.args.self.now in
    let well = named_well name parts (sym c.if-not-is_name.ensures) (sym c.if-has_bad_name.ensures) in
    let unplaced = ap is_some (sym c.place.ensures) ∙ sym c.if-is_some.ensures in
    record {
      name = well;
      place = placed name parts n v earlier r b c.if-self.false;
      new = new name parts n v earlier r b unplaced;
      known = known name parts n v earlier r b (sym c.if-lacks_one.ensures);
      few = few name parts (omega arith) (sym c.if-has_double.ensures);
      codes = codes_are name parts ∙ sym c.if-has_bad_code-2.ensures;
    }
