-- A latch set: one list of requests for each latch, and the quotas of its callers.
use Rattle.std.specs.Prelude.{◌≡◌, ℕ, ◌+◌, nat_lt, nat_le, ◌*◌, ◌^◌, ◌<◌, ◌≤◌, Bool, true, not, ◌&&◌, ◌||◌}
use Rattle.std.specs.Prelude.{List, [], ◌∷◌, ◌++◌, length, map, filter, replicate, slice_index_or, slice_set}
use Rattle.std.specs.List.{flat_map}
use Rattle.mv_latch.specs.declared.request.LatchForm.{LatchForm}
use Rattle.mv_latch.specs.declared.request.Request.{Request}
use Rattle.mv_latch.specs.declared.operation.LatchOp.{LatchOp}
use Rattle.mv_latch.specs.declared.operation.LatchOp.TheVariants.{Obtain, Confirm, Release, Purge}
use Rattle.mv_latch.specs.declared.operation.LatchReply.{LatchReply}
use Rattle.mv_latch.specs.declared.operation.LatchReply.TheVariants.{Purged}
use Rattle.mv_latch.specs.declared.operation.Wake.{Wake}
use Rattle.mv_latch.specs.Request.{is_posted, has_id, of_caller, posted_of, of_requestor, wake_of}
use Rattle.mv_latch.specs.Latch.{obtain_step, confirm_reply, release_step, purged, waiting_of, granted_by_purge, granted_wakes}

-- what contracts see of a latch set: the lists, the number of callers, and the quotas of a caller: of all its requests, and of
-- those in the Posted form
pub record LatchLists : Type 0 where
  pub lists : List (List Request)
  pub callers : ℕ
  pub quota : ℕ
  pub posted : ℕ

-- a new latch set, without a request
abbrev pub opened : ℕ → ℕ → ℕ → ℕ → LatchLists
opened latches callers quota posted = record { lists = replicate latches []; callers = callers; quota = quota; posted = posted }

-- the list of a latch, empty if there is no such latch
abbrev pub list_of : List (List Request) → ℕ → List Request
list_of lists latch = slice_index_or lists latch []

-- how many requests in the lists pass a test
abbrev pub count_in : (Request → Bool) → List (List Request) → ℕ
count_in test [] = 0
count_in test (qs ∷ rest) = length (filter test qs) + count_in test rest

-- how many requests are in the lists
abbrev pub request_count : List (List Request) → ℕ
request_count [] = 0
request_count (qs ∷ rest) = length qs + request_count rest

-- no request in the lists has this number
abbrev pub IsNewId : ℕ → List (List Request) → Type 0
IsNewId id lists = count_in (has_id id) lists ≡ 0

-- the invariant of a latch set
pub record IsSound (s : LatchLists) : Type 0 where
  -- no caller has more requests than its quota
  pub quotas : (caller : ℕ) → count_in (of_caller caller) s.lists ≤ s.quota
  -- each request was made by a caller of the set
  pub known : count_in (λ q. nat_le s.callers q.caller) s.lists ≡ 0
  -- each request number occurs at most once
  pub distinct : (id : ℕ) → count_in (has_id id) s.lists ≤ 1
  -- the requests that the quotas allow can be counted
  pub fits : s.callers * s.quota < 2 ^ 32

-- whether the quotas allow a caller one more request of this form
abbrev pub is_within_quotas : ℕ → LatchForm → LatchLists → Bool
is_within_quotas caller form s =
    nat_lt (count_in (of_caller caller) s.lists) s.quota && (not (is_posted form) || nat_lt (count_in (posted_of caller) s.lists) s.posted)

-- whether an operation is admitted: its latch exists, and an obtain is within the caller's quotas
abbrev pub latch_admitted : ℕ → LatchOp → LatchLists → Bool
latch_admitted caller (Obtain latch requestor mode form) s = nat_lt latch (length s.lists) && is_within_quotas caller form s
latch_admitted caller (Confirm latch id) s = nat_lt latch (length s.lists)
latch_admitted caller (Release latch id conditional) s = nat_lt latch (length s.lists)
latch_admitted caller (Purge requestor) s = true

-- the outcome r at one latch as that of the set: the lists with the latch's list replaced, and the reply
abbrev pub at_latch : List (List Request) → ℕ → List Request × LatchReply → List (List Request) × LatchReply
at_latch lists latch r = (slice_set lists latch r.0, r.1)

-- the lists after an operation of a caller, and the reply; a new request gets the number `id`
abbrev pub latch_step : ℕ → ℕ → LatchOp → List (List Request) → List (List Request) × LatchReply
latch_step caller id (Obtain latch requestor mode form) lists =
    at_latch lists latch (obtain_step (record { id = id; caller = caller; requestor = requestor; mode = mode; form = form })
    (list_of lists latch))
latch_step caller id (Confirm latch old) lists = (lists, confirm_reply caller old (list_of lists latch))
latch_step caller id (Release latch old conditional) lists =
    at_latch lists latch (release_step caller old conditional (list_of lists latch))
latch_step caller id (Purge requestor) lists =
    (map (purged requestor) lists, Purged (count_in (of_requestor requestor) lists) (length (flat_map (granted_by_purge requestor) lists)))

-- the wakes of an operation: those of a release are the requests that it granted, with code 0; those of a purge are first the
-- requests that it took out while they waited, with code 1, and then those that it granted, with code 0, both in the order of
-- latches and of each list
abbrev pub wakes : ℕ → LatchOp → List (List Request) → List Wake
wakes caller (Release latch id conditional) lists =
    granted_wakes (list_of lists latch) (release_step caller id conditional (list_of lists latch)).0
wakes caller (Purge requestor) lists =
    map (wake_of 1) (flat_map (waiting_of requestor) lists) ++ map (wake_of 0) (flat_map (granted_by_purge requestor) lists)
wakes caller (Obtain latch requestor mode form) lists = []
wakes caller (Confirm latch id) lists = []
