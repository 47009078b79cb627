-- What comes out is what went in, in order. Used by hand_over.
use Rattle.std.proofs.Common.{◌≡◌, ℕ, ◌<◌, ◌≤◌, List, [], ◌∷◌, ◌++◌, Vec, Global, length, get_or, ◌⊎◌, inl, inr, refl, sym, ap, ◌∙◌, subst}
use Rattle.std.proofs.Common.{arith}
use Rattle.std.proofs.lemmas.Bool.{cases_eq}
use Rattle.std.specs.List.{AllByRecursion}
use Rattle.mv_wait.proofs.Joined.{both_empty}
use Rattle.mv_wait.specs.Prelude.{Entry, Legal, of, Setup, owner_of, BoardFace, CallerFace, AreInOrder, IsIn}
use Rattle.mv_wait.specs.System.{opening}
use Rattle.mv_attach.proofs.Back.{log_in, last_room, no_task}
use Rattle.mv_wait.proofs.Places.{of_mine, of_other}
use Rattle.mv_wait.proofs.Interleaved.{callers_exist}
use Rattle.mv_handover.specs.Ready.{HasPut, HasTaken, HasDone}
use Rattle.mv_handover.specs.Setup.{slots, HasSlots}
use Rattle.mv_handover.specs.Slots.{posts, takes, part}
use Rattle.mv_handover.proofs.Blocks.{taken_were_posted}
use Rattle.mv_handover.proofs.Lists.{within_same, same_parts, parts_length}
use Rattle.mv_handover.proofs.Logs.{posts-append}
use Rattle.mv_handover.proofs.Through.{full_owner}

-- where the second of two callers posts nothing, the first one makes all posts
posts_of_first : (n : ℕ) (es : List Entry) → AllByRecursion (λ e. e.caller < 2) es → posts n (of 1 es) ≡ []
    → posts n es ≡ posts n (of 0 es)
posts_of_first n [] two none = refl
posts_of_first n (e ∷ es) two none = by_caller (λ rest. posts_of_first n es two.1 rest) (cases_eq e.caller 0) where
  by_caller : (posts n (of 1 es) ≡ [] → posts n es ≡ posts n (of 0 es)) → (e.caller ≡ 0) ⊎ (e.caller ≡ 0 → ⊥)
      → posts n (e ∷ es) ≡ posts n (of 0 (e ∷ es))
  by_caller on (inl first) =
      let rest = on (ap (posts n) (sym (of_other 1 e es (λ q. absurd (omega arith)))) ∙ none) in
      posts-append n (e ∷ []) es ∙ ap (λ xs. posts n (e ∷ []) ++ xs) rest ∙ sym (posts-append n (e ∷ []) (of 0 es))
      ∙ ap (posts n) (sym (of_mine 0 e es first))
  by_caller on (inr other) =
      let lt = two.0 in
      let second : e.caller ≡ 1 = omega arith in
      let both = both_empty (posts n (e ∷ [])) (posts n (of 1 es))
      (sym (posts-append n (e ∷ []) (of 1 es)) ∙ ap (posts n) (sym (of_mine 1 e es second)) ∙ none) in
      posts-append n (e ∷ []) es ∙ ap (λ xs. xs ++ posts n es) both.0 ∙ on both.1 ∙ ap (posts n) (sym (of_other 0 e es other))

-- every entry is one of the two callers'
two_callers : (c : Setup) (es : List Entry) → HasSlots c → Legal c es → AllByRecursion (λ e. e.caller < 2) es
two_callers c es has legal =
    subst (λ (k : Setup). AllByRecursion (λ e. e.caller < k.callers) es) has.1 (callers_exist c (opening c) es legal)

-- a history in which one task put these items in and another took those out
pub in_order : (c : Setup) (es : List Entry) (items taken : List ℕ) → HasSlots c → Legal c es → length taken ≡ length items
    → ((s : ℕ) → s < slots → posts s (of 0 es) ≡ part s items)
    → ((s : ℕ) → s < slots → posts s (of 1 es) ≡ [])
    → ((s : ℕ) → s < slots → takes s (of 1 es) ≡ part s taken) → taken ≡ items
in_order c es items taken has legal size put none took = same_parts 0 taken items size (λ s lt. one s lt) where
  one : (s : ℕ) → s < slots → part s taken ≡ part s items
  one s lt =
      let all = posts_of_first s es (two_callers c es has legal) (none s lt) ∙ put s lt in
      let within = taken_were_posted c s es legal in
      let own : takes s (of (owner_of c s) es) ≡ part s taken = ap (λ k. takes s (of k es)) (full_owner c has s lt) ∙ took s lt in
      let few : length (posts s es) ≤ length (takes s (of (owner_of c s) es)) =
      (let a = parts_length s 0 taken items size in let b = ap length all in let d = ap length own in omega arith) in
      sym own ∙ within_same (takes s (of (owner_of c s) es)) (posts s es) within few ∙ all

-- what the two tasks say that came back, and where their logs stand in the history
pub record Back (b : BoardFace) (es : List Entry) (items taken : List ℕ) : Type 0 where
  pub producer : CallerFace
  pub consumer : CallerFace
  pub first : of 0 es ≡ producer.log
  pub second : of 1 es ≡ consumer.log
  pub count : length taken ≡ length items
  pub put : HasPut b items producer
  pub took : HasTaken b taken consumer

-- so it is with what they say
pub closed_in_order : {b : BoardFace} {es : List Entry} {items taken : List ℕ} → Back b es items taken → Legal b.config es → taken ≡ items
closed_in_order {b} {es} {items} {taken} w legal =
    in_order b.config es items taken w.put.ready.config legal w.count
    (λ s lt. ap (posts s) w.first ∙ w.put.posts s lt) (λ s lt. ap (posts s) w.second ∙ w.took.posts s lt)
    (λ s lt. ap (takes s) w.second ∙ w.took.takes s lt)

-- the history posts each item to its slot, and nothing else to a slot
pub closed_posted : {b : BoardFace} {es : List Entry} {items taken : List ℕ} → Back b es items taken → Legal b.config es
    → (s : ℕ) → s < slots → posts s es ≡ part s items
closed_posted {b} {es} w legal s lt =
    posts_of_first s es (two_callers b.config es w.put.ready.config legal) (ap (posts s) w.second ∙ w.took.posts s lt)
    ∙ ap (posts s) w.first ∙ w.put.posts s lt

-- and the consumer takes each of them out of its slot
pub closed_taken : {b : BoardFace} {es : List Entry} {items taken : List ℕ} → Back b es items taken → Legal b.config es
    → (s : ℕ) → s < slots → takes s (of 1 es) ≡ part s items
closed_taken w legal s lt = ap (takes s) w.second ∙ w.took.takes s lt ∙ ap (part s) (closed_in_order w legal)

pub both_back : (b : BoardFace) (es : List Entry) (items : List ℕ) (tasks : List CallerFace) (rooms rest : List (Vec ℕ Global))
    (taken : Vec ℕ Global) → AreInOrder b 0 tasks → length tasks ≡ 2 → AllByRecursion (IsIn b.config es) tasks
    → rooms ≡ rest ++ taken ∷ [] → length rooms ≡ 2
    → ((k : ℕ) (s : Vec ℕ Global) (t : CallerFace) → k < 2 → HasDone b items k (get_or tasks k t) (get_or rooms k s).items)
    → Back b es items taken.items
both_back b es items tasks rooms rest taken order two within is count done =
    let no = no_task b in
    let last : get_or rooms 1 taken ≡ taken = last_room rooms rest taken 1 is count in
    let one : HasDone b items 1 (get_or tasks 1 no) taken.items =
    subst (λ (r : Vec ℕ Global). HasDone b items 1 (get_or tasks 1 no) r.items) last (done 1 taken no (omega arith)) in record {
      producer = get_or tasks 0 no;
      consumer = get_or tasks 1 no;
      first = log_in b b.config es 0 tasks no order within (omega arith);
      second = log_in b b.config es 1 tasks no order within (omega arith);
      count = one.count refl;
      put = (done 0 taken no (omega arith)).put refl;
      took = one.took refl;
    }
