-- What is said is so.
use Rattle.std.proofs.Common.{ℕ, ap, ◌∙◌, inr}
use Rattle.mv_explain.specs.Journal.{verdict_text}
use Rattle.mv_explain.proofs.journals.judged_text.Goals as goal

pub judge_journal-requires-clause-read : goal.judge_journal-requires-clause-read
judge_journal-requires-clause-read c = (c.args.bytes.now, c.requires.read)

pub returns : goal.returns
returns c =
    let j = c.args.journal.now in
    let bytes = c.args.bytes.now in
    let verdict = c.in_ok-verdict.verdict in
    inr record {
      version = j.version;
      setup = j.config;
      entries = j.entries.items;
      calls = j.calls.items;
      verdict = verdict;
      journal = c.requires.journal;
      read = c.requires.read;
      judged = c.in_ok-verdict.ensures;
      written = c.in_ok-text.ensures ∙ ap (λ (first : ℕ). verdict_text bytes j.config first j.entries.items verdict) c.requires.first;
    }
