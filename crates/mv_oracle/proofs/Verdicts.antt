-- The verdict by what the judge of texts returned is true of the text.
use Rattle.std.proofs.Common.{◌≡◌, ℕ, ◌≤◌, List, length, refl, ap, inl, inr, arith}
use Rattle.std.specs.Prelude.{Ok, Err}
use Rattle.mv_replay.specs.declared.status.ReplayStatus.{ReplayStatus}
use Rattle.mv_replay.specs.declared.status.ReplayStatus.TheVariants.{Done, TooLong, ReadFailed, ReportFailed, NoMemory, Illegal, Text}
use Rattle.mv_replay.specs.Judgement.{journal_limit, IsLegalJournal}
use Rattle.mv_replay.specs.Outcome.{IsAsked}
use Rattle.mv_replay.proofs.Endings.{one_ending}
use Rattle.mv_oracle.specs.Verdict.{IsVerdictOn, verdict_of, status_of}

pub legal_verdict : (journal : List ℕ) (n : ℕ) → length journal ≤ journal_limit → IsLegalJournal journal n
    → IsVerdictOn journal (verdict_of (Ok n))
legal_verdict journal n short is_legal = record {
  known = omega arith;
  legal = λ e. is_legal;
  illegal = λ (e : 0 ≡ 1). absurd (omega arith);
  malformed = λ (e : 0 ≡ 2). absurd (omega arith);
  too_long = λ (e : 0 ≡ 3). absurd (omega arith);
  owed = λ wanted asks. inl (ap status_of (one_ending journal Done wanted (short, (n, is_legal)) asks));
  form = (Ok n, refl);
}

-- the verdict that memory ran out
memory_verdict : (journal : List ℕ) → IsVerdictOn journal (verdict_of (Err NoMemory))
memory_verdict journal = record {
  known = omega arith;
  legal = λ (e : 4 ≡ 0). absurd (omega arith);
  illegal = λ (e : 4 ≡ 1). absurd (omega arith);
  malformed = λ (e : 4 ≡ 2). absurd (omega arith);
  too_long = λ (e : 4 ≡ 3). absurd (omega arith);
  owed = λ wanted asks. inr refl;
  form = (Err NoMemory, refl);
}

pub refused_verdict : (journal : List ℕ) (s : ReplayStatus) → IsAsked journal s → IsVerdictOn journal (verdict_of (Err s))
refused_verdict journal (Illegal line) asked = record {
  known = omega arith;
  legal = λ (e : 1 ≡ 0). absurd (omega arith);
  illegal = λ e. asked.1;
  malformed = λ (e : 1 ≡ 2). absurd (omega arith);
  too_long = λ (e : 1 ≡ 3). absurd (omega arith);
  owed = λ wanted asks. inl (ap status_of (one_ending journal (Illegal line) wanted asked asks));
  form = (Err (Illegal line), refl);
}
refused_verdict journal (Text fault) asked = record {
  known = omega arith;
  legal = λ (e : 2 ≡ 0). absurd (omega arith);
  illegal = λ (e : 2 ≡ 1). absurd (omega arith);
  malformed = λ e. asked.1;
  too_long = λ (e : 2 ≡ 3). absurd (omega arith);
  owed = λ wanted asks. inl (ap status_of (one_ending journal (Text fault) wanted asked asks));
  form = (Err (Text fault), refl);
}
refused_verdict journal TooLong asked = record {
  known = omega arith;
  legal = λ (e : 3 ≡ 0). absurd (omega arith);
  illegal = λ (e : 3 ≡ 1). absurd (omega arith);
  malformed = λ (e : 3 ≡ 2). absurd (omega arith);
  too_long = λ e. asked;
  owed = λ wanted asks. inl (ap status_of (one_ending journal TooLong wanted asked asks));
  form = (Err TooLong, refl);
}
refused_verdict journal NoMemory asked = memory_verdict journal
-- the judge of a text in memory returns none of these
refused_verdict journal Done asked = absurd asked
refused_verdict journal ReadFailed asked = absurd asked.1
refused_verdict journal ReportFailed asked = absurd asked.1
