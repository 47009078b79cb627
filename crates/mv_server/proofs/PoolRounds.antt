-- One round of a service in rounds: it begins with the first requests that are left, and ends with their answers.
use Rattle.std.proofs.Common.{◌≡◌, ℕ, zero, suc, ◌+◌, ◌<◌, ◌≤◌, List, [], ◌∷◌, ◌++◌, Vec, Global, length, map, get_or, drop}
use Rattle.std.proofs.Common.{sym, ap, ◌∙◌, subst, arith, append_assoc}
use Rattle.std.proofs.lemmas.List.{length-append, length-map, map-append}
use Rattle.std.proofs.Math.Seq.{drop-append_seam}
use Rattle.std.specs.List.{AllByRecursion}
use Rattle.mv_wait.proofs.Lists.{all_back, all_front}
use Rattle.mv_wait.specs.Prelude.{Setup, Entry, BoardFace, CallerFace, IsIn, Legal}
use Rattle.mv_rounds.specs.Round.{IsRound}
use Rattle.mv_attach.specs.Rooms.{HasRoom}
use Rattle.mv_server.specs.Pool.{workers, requests_limit, weeks_limit, pool_setup, days_in}
use Rattle.mv_server.specs.Right.{HasDone, IsAsked}
use Rattle.mv_server.specs.Rounds.{HasServed, IsServing}
use Rattle.mv_server.proofs.Closing.{closed_answers}

-- the server's room, which is the last one, has the answers of the round
pub served_round : {W : Type 0} (can_start : W → BoardFace → ℕ → Vec ℕ Global → Type 0)
    (has_done : W → BoardFace → ℕ → Vec ℕ Global → CallerFace → Vec ℕ Global → Type 0) (c : Setup) (work : W)
    (rooms rest : List (Vec ℕ Global)) (answers : Vec ℕ Global) (volumes : List ℕ) (es : List Entry) (requests : List ℕ)
    → IsRound can_start has_done c work rooms volumes es
    → ((b : BoardFace) (k : ℕ) (old : Vec ℕ Global) (t : CallerFace) (new : Vec ℕ Global) → has_done work b k old t new
    → HasDone b requests k t new.items)
    → c ≡ pool_setup (length requests) → rooms ≡ rest ++ answers ∷ [] → answers.items ≡ map days_in requests
served_round can_start has_done c work rooms rest answers volumes es requests r is at last =
    let callers : c.callers ≡ workers + 1 = ap (λ (s : Setup). s.callers) at in
    (closed_answers r.station requests es r.tasks rooms rest answers (r.config ∙ at)
    (subst (λ s. Legal s es) (sym r.config) r.legal) r.order (r.all ∙ callers)
    (subst (λ s. AllByRecursion (IsIn s es) r.tasks) (sym r.config) r.callers) last (r.count ∙ callers)
    (λ k s t lt.
    let done = r.done k s t (omega arith) in is r.station k done.0 (get_or r.tasks k t) (get_or rooms k s) done.2)).0

-- ---- a round ends

-- the requests that follow the first n, one for each answer, are left
pub still_left : (c : Setup) (requests rest later answers : List ℕ) (n : ℕ) → IsServing c requests rest → answers ≡ map days_in requests
    → n ≡ length answers → later ≡ drop n rest → rest ≡ requests ++ later
still_left c requests rest later answers n s is count back =
    let size : n ≡ length requests = count ∙ ap length is ∙ length-map requests days_in in
    s.part ∙ ap (λ xs. requests ++ xs)
    (sym (back ∙ ap (λ k. drop k rest) size ∙ ap (λ xs. drop (length requests) xs) s.part ∙ drop-append_seam requests s.later))

-- there are no more answers than requests that were left
pub fits_in : (c : Setup) (requests rest answers : List ℕ) (n : ℕ) → IsServing c requests rest → answers ≡ map days_in requests
    → n ≡ length answers → n ≤ length rest
fits_in c requests rest answers n s is count =
    let same : n ≡ length requests = count ∙ ap length is ∙ length-map requests days_in in
    let size : length rest ≡ length requests + length s.later = ap length s.part ∙ length-append requests s.later in omega arith

-- fewer requests are left than before
pub fewer_left : (c : Setup) (requests rest later : List ℕ) → IsServing c requests rest → rest ≡ requests ++ later
    → length later < length rest
fewer_left c requests rest later s part =
    let size : length rest ≡ length requests + length later = ap length part ∙ length-append requests later in
    let some = s.some in omega arith

-- its answers are appended
pub served_more : (first all rest requests later : List ℕ) (round : ℕ) (answers more new : List ℕ)
    → HasServed first all rest round answers → rest ≡ requests ++ later → more ≡ map days_in requests → new ≡ answers ++ more
    → HasServed first all later round new
served_more first all rest requests later round answers more new h part is gives = record {
  same = h.same;
  some = h.some;
  few = h.few;
  small = all_back (λ weeks. weeks < weeks_limit) requests later (subst (AllByRecursion (λ weeks. weeks < weeks_limit)) part h.small);
  served = ap (λ xs. xs ++ map days_in later) (gives ∙ ap (λ xs. answers ++ xs) is)
      ∙ append_assoc answers (map days_in requests) (map days_in later)
      ∙ ap (λ xs. answers ++ xs) (sym (map-append days_in requests later)) ∙ ap (λ xs. answers ++ map days_in xs) (sym part) ∙ h.served;
}

-- ---- a round begins

-- the first of small requests are small
pub first_small : (requests later rest : List ℕ) → rest ≡ requests ++ later → AllByRecursion (λ weeks. weeks < weeks_limit) rest
    → AllByRecursion (λ weeks. weeks < weeks_limit) requests
first_small requests later rest whole small =
    all_front (λ weeks. weeks < weeks_limit) requests later (subst (AllByRecursion (λ weeks. weeks < weeks_limit)) whole small)

at_index : {X : Type 0} (P : X → Type 0) (xs : List X) (k : ℕ) (d : X) → k < length xs → AllByRecursion P xs → P (get_or xs k d)
at_index P [] k d lt all = absurd (omega arith)
at_index P (x ∷ xs) zero d lt all = all.0
at_index P (x ∷ xs) (suc k) d lt all = at_index P xs k d (omega arith) all.1

-- each task of the pool can start in its room
pub can_start : (c : Setup) (requests : List ℕ) (rooms : List (Vec ℕ Global)) → c ≡ pool_setup (length requests)
    → length requests ≤ requests_limit → AllByRecursion (λ weeks. weeks < weeks_limit) requests
    → AllByRecursion (HasRoom (length requests)) rooms
    → (b : BoardFace) (k : ℕ) (room : Vec ℕ Global) → b.config ≡ c → k < length rooms
    → IsAsked b requests × (k ≡ workers → HasRoom (length requests) (get_or rooms k room))
can_start c requests rooms is few small rooms_are b k room at lt =
    (record { config = at ∙ is; few = few; small = small }, λ last. at_index (HasRoom (length requests)) rooms k room lt rooms_are)
