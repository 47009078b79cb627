-- The entries that were given are numbered, and their lines were written to the sink or stand in the piece.
use Rattle.std.proofs.Common.{◌≡◌, ◌≤◌, ◌++◌, length, vec_capacity}
use Rattle.mv_calls.specs.Counters.{HasCounted}
use Rattle.mv_entrytext.specs.HistoryText.{piece_size, text_up_to, IsWrittenSoFar}
use Rattle.mv_entrytext.proofs.history_text.HistoryText.write.Given as goal

abbrev pub invariant-loop-entry : goal.invariant-loop-entry
invariant-loop-entry g l = record {
  config : l.history.config ≡ l.initial.history.config;
  whole : l.history.past ++ l.history.coming ≡ l.initial.history.coming;
  counted : HasCounted l.initial.history.config l.history.past l.counters;
  written : IsWrittenSoFar (g.K.Sink.taken l.initial.journal) (g.K.Sink.taken l.journal) l.piece.items
      (text_up_to l.initial.history.config l.history.past);
  room : piece_size ≤ vec_capacity l.piece;
  count : l.count ≡ length l.history.past;
  faults : g.K.Sink.faults l.initial.journal ≤ g.K.Sink.faults l.journal;
}

abbrev pub decreases-loop-entry : goal.decreases-loop-entry
decreases-loop-entry g l = length l.history.coming
