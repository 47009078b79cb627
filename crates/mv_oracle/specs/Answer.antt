-- What the numbers of an answer mean.
use Rattle.std.specs.Prelude.{ℕ}
use Rattle.mv_ecb.specs.declared.operation.EcbReply.{EcbReply}
use Rattle.mv_ecb.specs.declared.operation.EcbReply.TheVariants as ecb
use Rattle.mv_element.specs.declared.element.Phase.{Phase}
use Rattle.mv_element.specs.declared.element.Phase.TheVariants as phase
use Rattle.mv_element.specs.declared.operation.ElementReply.{ElementReply}
use Rattle.mv_element.specs.declared.operation.ElementReply.TheVariants as element
use Rattle.mv_latch.specs.declared.operation.LatchReply.{LatchReply}
use Rattle.mv_latch.specs.declared.operation.LatchReply.TheVariants as latch
use Rattle.mv_machine.specs.declared.entry.Reply.{Reply}
use Rattle.mv_machine.specs.declared.entry.Reply.TheVariants.{Ecb, Element, Volume, Latch}
use Rattle.mv_machine.specs.declared.entry.VolumeReply.{VolumeReply}
use Rattle.mv_machine.specs.declared.entry.VolumeReply.TheVariants.{Value, Stored}
use Rattle.mv_oracle.specs.declared.answer.Answer.{Answer}

-- the fields in their order
abbrev pub answer_with : (place reply a b c : ℕ) → Answer
answer_with place reply a b c = record { place = place; reply = reply; a = a; b = b; c = c }

abbrev pub ecb_answer : ℕ → EcbReply → Answer
ecb_answer place ecb.Armed = answer_with place 0 0 0 0
ecb_answer place (ecb.Linked x) = answer_with place 1 x 0 0
ecb_answer place (ecb.Complete d) = answer_with place 2 d 0 0
ecb_answer place ecb.Waiting = answer_with place 3 0 0 0
ecb_answer place ecb.Open = answer_with place 4 0 0 0
ecb_answer place ecb.Posted = answer_with place 5 0 0 0
ecb_answer place (ecb.Woke x) = answer_with place 6 x 0 0
ecb_answer place (ecb.Already d) = answer_with place 7 d 0 0
ecb_answer place (ecb.Word w) = answer_with place 8 w 0 0

abbrev pub phase_number : Phase → ℕ
phase_number phase.Free = 0
phase_number phase.Reset = 1
phase_number phase.Prereleased = 2
phase_number phase.Paused = 3
phase_number phase.Released = 4

abbrev pub element_answer : ℕ → ElementReply → Answer
element_answer place (element.Opened g) = answer_with place 0 g 0 0
element_answer place element.InUse = answer_with place 1 0 0 0
element_answer place element.Parked = answer_with place 2 0 0 0
element_answer place (element.Given code next) = answer_with place 3 code next 0
element_answer place (element.Spent g) = answer_with place 4 g 0 0
element_answer place element.Busy = answer_with place 5 0 0 0
element_answer place element.NotYet = answer_with place 6 0 0 0
element_answer place element.Early = answer_with place 7 0 0 0
element_answer place element.Woke = answer_with place 8 0 0 0
element_answer place element.Already = answer_with place 9 0 0 0
element_answer place element.Closed = answer_with place 10 0 0 0
element_answer place (element.State s) = answer_with place 11 s.generation (phase_number s.phase) s.code

abbrev pub volume_answer : ℕ → VolumeReply → Answer
volume_answer place (Value n) = answer_with place 0 n 0 0
volume_answer place Stored = answer_with place 1 0 0 0

abbrev pub latch_answer : ℕ → LatchReply → Answer
latch_answer place (latch.Granted id) = answer_with place 0 id 0 0
latch_answer place (latch.Queued id) = answer_with place 1 id 0 0
latch_answer place (latch.NotNow id) = answer_with place 2 id 0 0
latch_answer place latch.Waiting = answer_with place 3 0 0 0
latch_answer place latch.Gone = answer_with place 4 0 0 0
latch_answer place (latch.Released granted) = answer_with place 5 granted 0 0
latch_answer place (latch.Purged removed granted) = answer_with place 6 removed granted 0

-- the answer with this place and reply
abbrev pub answer_of : ℕ → Reply → Answer
answer_of place (Ecb reply) = ecb_answer place reply
answer_of place (Element reply) = element_answer place reply
answer_of place (Volume reply) = volume_answer place reply
answer_of place (Latch reply) = latch_answer place reply
