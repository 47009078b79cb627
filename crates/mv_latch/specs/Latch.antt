-- One latch: a list of requests in the order of their arrival, and what each operation does to it.
use Rattle.std.specs.Prelude.{ℕ, Bool, true, false, not, ◌&&◌, List, [], ◌∷◌, ◌++◌, length, filter, map, drop, ◌≤◌, if◌then◌else◌}
use Rattle.std.specs.List.{list_any, list_all}
use Rattle.mv_latch.specs.declared.request.Request.{Request}
use Rattle.mv_latch.specs.declared.operation.LatchReply.{LatchReply}
use Rattle.mv_latch.specs.declared.operation.Wake.{Wake}
use Rattle.mv_latch.specs.declared.operation.LatchReply.TheVariants.{Granted, Queued, NotNow, Waiting, Gone, Released}
use Rattle.mv_latch.specs.Request.{shared_request, queues, has_id, is_own, of_requestor, wake_of}

-- the longest prefix of shared requests
abbrev pub shared_front : List Request → List Request
shared_front [] = []
shared_front (q ∷ qs) = if shared_request q then q ∷ shared_front qs else []

-- the requests that hold the latch: only the first if it is exclusive, otherwise the longest prefix of shared ones
abbrev pub granted : List Request → List Request
granted [] = []
granted (q ∷ qs) = if shared_request q then shared_front (q ∷ qs) else q ∷ []

-- the requests after those that hold the latch
abbrev pub waiting : List Request → List Request
waiting qs = drop (length (granted qs)) qs

-- whether a new request r is granted at once when it is appended
abbrev pub grants : List Request → Request → Bool
grants [] r = true
grants (q ∷ qs) r = shared_request r && list_all shared_request (q ∷ qs)

-- the number of the first request, or 0 if there is none
abbrev pub first_id : List Request → ℕ
first_id [] = 0
first_id (q ∷ qs) = q.id

-- the number of the request that blocks the new request r: the first, or if r is shared the first exclusive one
abbrev pub blocker : Request → List Request → ℕ
blocker r qs = if shared_request r then first_id (filter (λ q. not (shared_request q)) qs) else first_id qs

-- the list after an obtain with the request r, and the reply
abbrev pub obtain_step : Request → List Request → List Request × LatchReply
obtain_step r qs =
    if grants qs r then (qs ++ r ∷ [], Granted r.id)
    else if queues r.form then (qs ++ r ∷ [], Queued r.id)
    else (qs, NotNow (blocker r qs))

-- the reply to Confirm: whether the caller's request of this number is granted, waits, or is not in the list
abbrev pub confirm_reply : ℕ → ℕ → List Request → LatchReply
confirm_reply caller id qs =
    if list_any (is_own caller id) (granted qs) then Granted id
    else if list_any (is_own caller id) qs then Waiting
    else Gone

-- the list without the requests that pass a test
abbrev pub left_without : (Request → Bool) → List Request → List Request
left_without test qs = filter (λ q. not (test q)) qs

-- the requests that hold the latch in the new list and did not hold it in the old one
abbrev pub newly_granted : List Request → List Request → List Request
newly_granted old new = filter (λ q. not (list_any (has_id q.id) (granted old))) (granted new)

-- the list without the caller's request of this number
abbrev pub without : ℕ → ℕ → List Request → List Request
without caller id qs = left_without (is_own caller id) qs

-- the list after a release of the caller's request of this number, and the reply
abbrev pub release_step : ℕ → ℕ → Bool → List Request → List Request × LatchReply
release_step caller id conditional qs =
    if not (list_any (is_own caller id) qs) then (qs, Gone)
    else if conditional && not (list_any (is_own caller id) (granted qs)) then (qs, Waiting)
    else (without caller id qs, Released (length (newly_granted qs (without caller id qs))))

-- the list without the requests of a requestor
abbrev pub purged : ℕ → List Request → List Request
purged requestor qs = left_without (of_requestor requestor) qs

-- the waiting requests of a requestor
abbrev pub waiting_of : ℕ → List Request → List Request
waiting_of requestor qs = filter (of_requestor requestor) (waiting qs)

-- the requests that hold the latch after a purge of a requestor and did not hold it before
abbrev pub granted_by_purge : ℕ → List Request → List Request
granted_by_purge requestor qs = newly_granted qs (purged requestor qs)

-- each request number occurs at most once in the list
abbrev pub HasDistinctIds : List Request → Type 0
HasDistinctIds qs = (id : ℕ) → length (filter (has_id id) qs) ≤ 1

-- the wakes for a list that changed: one with code 0 for each newly granted request
abbrev pub granted_wakes : List Request → List Request → List Wake
granted_wakes old new = map (wake_of 0) (newly_granted old new)

-- whether a reply to Confirm says that the request no longer waits: it is granted, or gone
abbrev pub is_settled : LatchReply → Bool
is_settled (Granted id) = true
is_settled Gone = true
is_settled _ = false
