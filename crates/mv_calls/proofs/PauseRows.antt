-- Pause elements: histories in which each call is done on its entries with its answer, by computing them.
use Rattle.std.proofs.Common.{◌≡◌, List, [], ◌∷◌, take, drop, Some, None, Ok, Err, refl}
use Rattle.mv_element.specs.Element.{reset}
use Rattle.mv_element.specs.declared.operation.ElementOp.TheVariants as element_op
use Rattle.mv_element.specs.declared.operation.ElementReply.TheVariants as element_reply
use Rattle.mv_machine.specs.declared.entry.Entry.{Entry}
use Rattle.mv_machine.specs.Legal.{Legal}
use Rattle.mv_calls.specs.Keeping.{kept_of}
use Rattle.mv_calls.specs.declared.outcomes.ReleaseAnswer.TheVariants as release_answer
use Rattle.mv_calls.specs.Pauses.{token_of}
use Rattle.mv_calls.specs.Program.{Early, left, noted}
use Rattle.mv_calls.specs.Refusal as refusal
use Rattle.mv_calls.specs.Services.{program, Allocate, Pause, Release, TryRelease, Transfer, Deallocate, TestElement}
use Rattle.mv_calls.proofs.Computed.{does, IsRow, row, legal_by, one_task, two_tasks, at_element}

-- A code of three bytes reaches its pause; the token is spent then. The code of an element that is closed reaches nobody.
lost_code : IsRow (one_task [] []) 0
    (
    at_element 0 0 0 element_op.Open (element_reply.Opened 0)
    ∷ at_element 0 0 1 (element_op.Release 0 16777215) element_reply.Early
    ∷ at_element 0 0 2 (element_op.Pause 0) (element_reply.Given 16777215 1)
    ∷ at_element 0 0 3 (element_op.Pause 0) (element_reply.Spent 1)
    ∷ at_element 0 1 0 element_op.Open (element_reply.Opened 0)
    ∷ at_element 0 1 1 (element_op.Release 0 4) element_reply.Early
    ∷ at_element 0 1 2 (element_op.Close 0) element_reply.Closed
    ∷ at_element 0 1 3 (element_op.Release 0 4) (element_reply.Spent 1)
    ∷ []
    )
    (
    does Allocate 1 (Ok (token_of 0 0))
    ∷ does (Release (token_of 0 0) 16777215) 1 (Ok release_answer.Early)
    ∷ does (Pause (token_of 0 0)) 1 (Ok (record { code = 16777215; next = token_of 0 1 }))
    ∷ does (Pause (token_of 0 0)) 1 (Err (refusal.Spent 1))
    ∷ does Allocate 1 (Ok (token_of 1 0))
    ∷ does (Release (token_of 1 0) 4) 1 (Ok release_answer.Early)
    ∷ does (Deallocate (token_of 1 0)) 1 (Ok tt)
    ∷ does (Release (token_of 1 0) 4) 1 (Err (refusal.Spent 1))
    ∷ []
    )
lost_code = row refl refl

-- An element is released twice, and then its owner pauses with it.
abbrev released_twice : List Entry
released_twice =
    at_element 0 0 0 element_op.Open (element_reply.Opened 0)
    ∷ at_element 0 0 1 (element_op.Release 0 5) element_reply.Early
    ∷ at_element 0 0 2 (element_op.Release 0 6) element_reply.Already
    ∷ at_element 0 0 3 (element_op.Pause 0) (element_reply.Given 5 1)
    ∷ []

-- A token is released once.
releases : IsRow (one_task [] []) 0 released_twice
    (
    does Allocate 1 (Ok (token_of 0 0))
    ∷ does (Release (token_of 0 0) 5) 1 (Ok release_answer.Early)
    ∷ does (Release (token_of 0 0) 6) 1 (Err refusal.Already)
    ∷ does (Pause (token_of 0 0)) 1 (Ok (record { code = 5; next = token_of 0 1 }))
    ∷ []
    )
releases = row refl refl

-- Releases by one exchange of the word that was expected: the second finds the code of the first.
tried_releases : IsRow (one_task [] []) 0 released_twice
    (
    does Allocate 1 (Ok (token_of 0 0))
    ∷ does (TryRelease (token_of 0 0) 35184388866048 5) 1 (Ok release_answer.Early)
    ∷ does (TryRelease (token_of 0 0) 70368777732101 6) 1 (Err refusal.Already)
    ∷ does (Pause (token_of 0 0)) 1 (Ok (record { code = 5; next = token_of 0 1 }))
    ∷ []
    )
tried_releases = row refl refl

-- Transfers without a current token release, and nothing more.
plain_transfers : IsRow (one_task [] []) 0 released_twice
    (
    does Allocate 1 (Ok (token_of 0 0))
    ∷ does (Transfer None (token_of 0 0) 5) 1 (Ok None)
    ∷ does (Transfer None (token_of 0 0) 6) 1 (Err refusal.TargetAlready)
    ∷ does (Pause (token_of 0 0)) 1 (Ok (record { code = 5; next = token_of 0 1 }))
    ∷ []
    )
plain_transfers = row refl refl

-- A task has four elements.
four_elements : IsRow (one_task [] []) 0
    (
    at_element 0 0 0 element_op.Open (element_reply.Opened 0)
    ∷ at_element 0 1 0 element_op.Open (element_reply.Opened 0)
    ∷ at_element 0 2 0 element_op.Open (element_reply.Opened 0)
    ∷ at_element 0 3 0 element_op.Open (element_reply.Opened 0)
    ∷ []
    )
    (
    does Allocate 1 (Ok (token_of 0 0))
    ∷ does Allocate 1 (Ok (token_of 1 0))
    ∷ does Allocate 1 (Ok (token_of 2 0))
    ∷ does Allocate 1 (Ok (token_of 3 0))
    ∷ does Allocate 0 (Err refusal.NoElement)
    ∷ []
    )
four_elements = row refl refl

-- A transfer to a token that is over pauses nobody; one to the current element is given its code at once.
transfers : IsRow (one_task [] []) 0
    (
    at_element 0 0 0 element_op.Open (element_reply.Opened 0)
    ∷ at_element 0 1 0 element_op.Open (element_reply.Opened 0)
    ∷ at_element 0 1 1 (element_op.Close 0) element_reply.Closed
    ∷ at_element 0 1 2 (element_op.Release 0 5) (element_reply.Spent 1)
    ∷ at_element 0 0 1 element_op.Test (element_reply.State (reset 0))
    ∷ at_element 0 0 2 (element_op.Release 0 6) element_reply.Early
    ∷ at_element 0 0 3 (element_op.Pause 0) (element_reply.Given 6 1)
    ∷ []
    )
    (
    does Allocate 1 (Ok (token_of 0 0))
    ∷ does Allocate 1 (Ok (token_of 1 0))
    ∷ does (Deallocate (token_of 1 0)) 1 (Ok tt)
    ∷ does (Transfer (Some (token_of 0 0)) (token_of 1 0) 5) 1 (Err (refusal.TargetSpent 1))
    ∷ does (TestElement 0) 1 (reset 0)
    ∷ does (Transfer (Some (token_of 0 0)) (token_of 0 0) 6) 2 (Ok (Some (record { code = 6; next = token_of 0 1 })))
    ∷ []
    )
transfers = row refl refl

-- A transfer with a token that is not in use makes no event.
transfer_refused : IsRow (one_task [] []) 0
    (
    at_element 0 0 0 element_op.Open (element_reply.Opened 0)
    ∷ at_element 0 0 1 (element_op.Close 0) element_reply.Closed
    ∷ []
    )
    (
    does Allocate 1 (Ok (token_of 0 0))
    ∷ does (Deallocate (token_of 0 0)) 1 (Ok tt)
    ∷ does (Transfer (Some (token_of 0 0)) (token_of 1 0) 1) 0 (Err (refusal.Spent 1))
    ∷ []
    )
transfer_refused = row refl refl

-- One task pauses, and another releases it. Nobody but its owner pauses with an element, transfers from it or closes it.
abbrev paused_log : List Entry
paused_log =
    at_element 0 0 0 element_op.Open (element_reply.Opened 0)
    ∷ at_element 0 0 1 (element_op.Pause 0) element_reply.Parked
    ∷ at_element 1 0 2 (element_op.Release 0 9) element_reply.Woke
    ∷ at_element 0 0 3 (element_op.Resume 0) (element_reply.Given 9 1)
    ∷ []

paused_of_0 : IsRow (two_tasks [] []) 0 paused_log
    (
    does Allocate 1 (Ok (token_of 0 0))
    ∷ does (Pause (token_of 0 0)) 2 (Ok (record { code = 9; next = token_of 0 1 }))
    ∷ []
    )
paused_of_0 = row refl refl

paused_of_1 : IsRow (two_tasks [] []) 1 paused_log
    (
    does (Release (token_of 0 0) 9) 1 (Ok release_answer.Woke)
    ∷ does (Pause (token_of 0 0)) 0 (Err refusal.NotOwner)
    ∷ does (Transfer (Some (token_of 0 0)) (token_of 0 0) 1) 0 (Err refusal.NotOwner)
    ∷ does (Deallocate (token_of 0 0)) 0 (Err refusal.NotOwner)
    ∷ []
    )
paused_of_1 = row refl refl

-- A transfer releases another task, which was parked, and parks its own.
abbrev transferred_log : List Entry
transferred_log =
    at_element 0 0 0 element_op.Open (element_reply.Opened 0)
    ∷ at_element 1 4 0 element_op.Open (element_reply.Opened 0)
    ∷ at_element 0 0 1 (element_op.Pause 0) element_reply.Parked
    ∷ at_element 1 0 2 (element_op.Release 0 7) element_reply.Woke
    ∷ at_element 1 4 1 (element_op.Pause 0) element_reply.Parked
    ∷ at_element 0 0 3 (element_op.Resume 0) (element_reply.Given 7 1)
    ∷ at_element 0 4 2 (element_op.Release 0 8) element_reply.Woke
    ∷ at_element 1 4 3 (element_op.Resume 0) (element_reply.Given 8 1)
    ∷ []

transferred_of_0 : IsRow (two_tasks [] []) 0 transferred_log
    (
    does Allocate 1 (Ok (token_of 0 0))
    ∷ does (Pause (token_of 0 0)) 2 (Ok (record { code = 7; next = token_of 0 1 }))
    ∷ does (Release (token_of 4 0) 8) 1 (Ok release_answer.Woke)
    ∷ []
    )
transferred_of_0 = row refl refl

transferred_of_1 : IsRow (two_tasks [] []) 1 transferred_log
    (
    does Allocate 1 (Ok (token_of 4 0))
    ∷ does (Transfer (Some (token_of 4 0)) (token_of 0 0) 7) 3 (Ok (Some (record { code = 8; next = token_of 4 1 })))
    ∷ []
    )
transferred_of_1 = row refl refl

-- ---- what does not follow

abbrev unreleased_log : List Entry
unreleased_log =
    at_element 0 0 0 element_op.Open (element_reply.Opened 0)
    ∷ at_element 0 0 1 (element_op.Pause 0) element_reply.Parked
    ∷ at_element 0 0 2 (element_op.Resume 0) element_reply.NotYet
    ∷ []

-- a pause that goes on without a code has ended too soon, though its history is legal
ended_too_soon : Legal (one_task [] []) unreleased_log
    × (left (program (one_task [] []) (Pause (token_of 0 0)) (kept_of 0 (take 1 unreleased_log))) (noted (drop 1 unreleased_log) [])
    ≡ Early)
ended_too_soon = (legal_by (one_task [] []) unreleased_log refl, refl)
