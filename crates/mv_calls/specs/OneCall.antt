-- All entries of one call have one number.
use Rattle.std.specs.Prelude.{◌≡◌, ℕ, List, ◌++◌, length}
use Rattle.std.specs.List.{AllByRecursion}
use Rattle.mv_machine.specs.declared.entry.Entry.{Entry}
use Rattle.mv_machine.specs.Legal.{Legal}
use Rattle.mv_config.specs.Setup.{Setup}
use Rattle.mv_calls.specs.Keeping.{kept_of}
use Rattle.mv_calls.specs.Program.{Heard, IsDoneOn, entries}
use Rattle.mv_calls.specs.Rest.{IsAtRest}
use Rattle.mv_calls.specs.Runs.{heard_in}
use Rattle.mv_calls.specs.Numbers.{numbers_of}
use Rattle.mv_calls.specs.Services.{Service, Answer, program, Wait, Post, TryPost, Clear, Extend, TestEcb, ReadVolume, WriteVolume}
use Rattle.mv_calls.specs.Services.{Allocate, Pause, Release, TryRelease, Transfer, Deallocate, TestElement, Obtain, CheckLatch}
use Rattle.mv_calls.specs.Services.{ReleaseLatch, Purge, EndOfJob, EndOfTask, PostEvent, NextEvent}

-- the calls that are not made of other calls: all but the ends of jobs and tasks and the calls on tables of events
abbrev pub IsSingle : Service → Type 0
IsSingle (Wait count blocks) = Unit {0}
IsSingle (Post block code) = Unit {0}
IsSingle (TryPost block expected code) = Unit {0}
IsSingle (Clear block) = Unit {0}
IsSingle (Extend block exit) = Unit {0}
IsSingle (TestEcb block) = Unit {0}
IsSingle (ReadVolume volume) = Unit {0}
IsSingle (WriteVolume volume number) = Unit {0}
IsSingle Allocate = Unit {0}
IsSingle (Pause token) = Unit {0}
IsSingle (Release token code) = Unit {0}
IsSingle (TryRelease token expected code) = Unit {0}
IsSingle (Transfer current target code) = Unit {0}
IsSingle (Deallocate token) = Unit {0}
IsSingle (TestElement element) = Unit {0}
IsSingle (Obtain latch requestor mode form) = Unit {0}
IsSingle (CheckLatch latch id) = Unit {0}
IsSingle (ReleaseLatch latch id conditional) = Unit {0}
IsSingle (Purge requestor) = Unit {0}
IsSingle (EndOfJob requestor block code) = ⊥
IsSingle (EndOfTask requestor mother code) = ⊥
IsSingle (PostEvent table index code) = ⊥
IsSingle (NextEvent table position) = ⊥

-- In a legal history a caller is at rest after these of its entries, and one call is done on those that follow.
pub record IsOneCall (c : Setup) (k : ℕ) (es : List Entry) (old piece : List Heard) : Type 0 where
  pub legal : Legal c es
  pub later : List Heard
  pub split : heard_in c k es ≡ old ++ (piece ++ later)
  pub rest : IsAtRest (entries old)
  pub service : Service
  pub single : IsSingle service
  pub answer : Answer service
  pub done : IsDoneOn (program c service (kept_of k (entries old))) piece answer

-- In a history with these numbers, the piece of a caller's entries has one number: the numbers of the caller's entries are as
-- many as `old` has, then as many as the piece has, all the same, and then the rest.
pub record HasOneNumber (k : ℕ) (es : List Entry) (numbers : List ℕ) (old piece : List Heard) : Type 0 where
  pub before : List ℕ
  pub mine : List ℕ
  pub after : List ℕ
  pub split : numbers_of k es numbers ≡ before ++ (mine ++ after)
  pub skipped : length before ≡ length old
  pub all : length mine ≡ length piece
  pub number : ℕ
  pub same : AllByRecursion (λ n. n ≡ number) mine
