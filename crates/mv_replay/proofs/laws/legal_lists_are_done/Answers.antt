-- A list that is legal has a legal text in each version, which reads back, and is within the limit where the list is.
use Rattle.std.proofs.Common.{[]}
use Rattle.mv_calls.specs.Numbers.{calls}
use Rattle.mv_operationtext.specs.declared.version.Version.TheVariants.{One, Two}
use Rattle.mv_replay.proofs.Converted.{right_calls, text_is_legal, is_converted}
use Rattle.mv_replay.proofs.Lengths.{text_fits}
use Rattle.mv_replay.proofs.laws.legal_lists_are_done.Goals as goal

pub returns-clause-first : goal.returns-clause-first
returns-clause-first c = λ setup es h l. text_is_legal One setup es h l

pub returns-clause-second : goal.returns-clause-second
returns-clause-second c = λ setup es h l. text_is_legal Two setup es h l

pub returns-clause-converted : goal.returns-clause-converted
returns-clause-converted c = λ setup es h l. (
  is_converted One setup es h l,
  is_converted Two setup es h l,
)

pub returns-clause-within : goal.returns-clause-within
returns-clause-within c = λ setup es h few. (
  text_fits One setup es [] h (right_calls One setup es h.count) few,
  text_fits Two setup es (calls setup es) h (right_calls Two setup es h.count) few,
)
