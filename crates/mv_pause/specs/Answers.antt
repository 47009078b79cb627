-- How the values that the calls return correspond to the answers of their programs.
use Rattle.std.specs.Prelude.{◌≤◌, Option, Some, None, Result, Ok, Err}
use Rattle.mv_element.specs.declared.element.Token.{Token}
use Rattle.mv_config.specs.Limits.{highest_generation}
use Rattle.mv_calls.specs.declared.outcomes.Given.{Given}
use Rattle.mv_calls.specs.declared.outcomes.ReleaseAnswer.{ReleaseAnswer}
use Rattle.mv_calls.specs.Refusal.{Refusal}
use Rattle.mv_calls.specs.Refusal as refusal
use Rattle.mv_pause.specs.declared.allocating.NoElement.{NoElement}
use Rattle.mv_pause.specs.declared.deallocating.DeallocateRefusal.{DeallocateRefusal}
use Rattle.mv_pause.specs.declared.deallocating.DeallocateRefusal.TheVariants as deallocate_refusal
use Rattle.mv_pause.specs.declared.pausing.PauseRefusal.{PauseRefusal}
use Rattle.mv_pause.specs.declared.pausing.PauseRefusal.TheVariants as pause_refusal
use Rattle.mv_pause.specs.declared.releasing.ReleaseRefusal.{ReleaseRefusal}
use Rattle.mv_pause.specs.declared.releasing.ReleaseRefusal.TheVariants as release_refusal
use Rattle.mv_pause.specs.declared.releasing.TryReleaseRefusal.{TryReleaseRefusal}
use Rattle.mv_pause.specs.declared.releasing.TryReleaseRefusal.TheVariants as try_refusal
use Rattle.mv_pause.specs.declared.transferring.TransferRefusal.{TransferRefusal}
use Rattle.mv_pause.specs.declared.transferring.TransferRefusal.TheVariants as transfer_refusal

-- the answer of an allocate: a token, or that no element is free
abbrev pub allocate_answer : Result Token NoElement → Result Token Refusal
allocate_answer (Ok t) = Ok t
allocate_answer (Err why) = Err refusal.NoElement

-- the reason for which a pause is refused
abbrev pub pause_refused : PauseRefusal → Refusal
pause_refused pause_refusal.NotOwner = refusal.NotOwner
pause_refused (pause_refusal.Spent now) = refusal.Spent now

-- the answer of a pause: what it was given, or the reason for which it did not pause
abbrev pub pause_answer : Result Given PauseRefusal → Result Given Refusal
pause_answer (Ok given) = Ok given
pause_answer (Err why) = Err (pause_refused why)

-- the reason for which a release is refused
abbrev pub release_refused : ReleaseRefusal → Refusal
release_refused (release_refusal.Spent now) = refusal.Spent now
release_refused release_refusal.Already = refusal.Already

-- the answer of a release
abbrev pub release_answer : Result ReleaseAnswer ReleaseRefusal → Result ReleaseAnswer Refusal
release_answer (Ok answer) = Ok answer
release_answer (Err why) = Err (release_refused why)

-- the answer of a release by an exchange; none if the exchange found another word, since then nothing was done
abbrev pub try_release_answer : Result ReleaseAnswer TryReleaseRefusal → Option (Result ReleaseAnswer Refusal)
try_release_answer (Ok answer) = Some (Ok answer)
try_release_answer (Err (try_refusal.Moved word)) = None
try_release_answer (Err (try_refusal.Spent now)) = Some (Err (refusal.Spent now))
try_release_answer (Err try_refusal.Already) = Some (Err refusal.Already)

-- the reason for which a transfer is refused
abbrev pub transfer_refused : TransferRefusal → Refusal
transfer_refused transfer_refusal.NotOwner = refusal.NotOwner
transfer_refused (transfer_refusal.Spent now) = refusal.Spent now
transfer_refused (transfer_refusal.TargetSpent now) = refusal.TargetSpent now
transfer_refused transfer_refusal.TargetAlready = refusal.TargetAlready

-- the answer of a transfer: what its pause was given if it has a current token, otherwise nothing
abbrev pub transfer_answer : Result (Option Given) TransferRefusal → Result (Option Given) Refusal
transfer_answer (Ok given) = Ok given
transfer_answer (Err why) = Err (transfer_refused why)

-- the reason for which a deallocate is refused
abbrev pub deallocate_refused : DeallocateRefusal → Refusal
deallocate_refused deallocate_refusal.NotOwner = refusal.NotOwner
deallocate_refused (deallocate_refusal.Spent now) = refusal.Spent now

-- the answer of a deallocate, which has no value if it succeeds
abbrev pub deallocate_answer : Result (Unit {0}) DeallocateRefusal → Result (Unit {0}) Refusal
deallocate_answer (Ok done) = Ok tt
deallocate_answer (Err why) = Err (deallocate_refused why)

-- the generation in a refusal, if it has one, has 18 bits
abbrev pub IsLowRefusal : Refusal → Type 0
IsLowRefusal (refusal.Spent now) = now ≤ highest_generation
IsLowRefusal (refusal.TargetSpent now) = now ≤ highest_generation
IsLowRefusal why = Unit {0}

-- the generation in an answer, if it is a refusal that has one, has 18 bits
abbrev pub IsLow : {A : Type 0} → Result A Refusal → Type 0
IsLow (Ok a) = Unit {0}
IsLow (Err why) = IsLowRefusal why
