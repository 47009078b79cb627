-- Posts of events, by what their parts did.
use Rattle.std.proofs.Common.{◌≡◌, ℕ, ◌+◌, ◌<◌, ◌≤◌, nat_lt, Bool, true, false, cond, Result, Ok, Err, ◌⊎◌, inl, inr, refl, sym, ap, ◌∙◌}
use Rattle.std.proofs.Common.{subst, arith}
use Rattle.std.proofs.lemmas.Bool.{lt-ltb}
use Rattle.mv_latch.specs.declared.request.LatchForm.TheVariants.{Waiting}
use Rattle.mv_latch.specs.declared.request.Mode.TheVariants.{Exclusive}
use Rattle.mv_config.specs.Reach.{reach, release_cost}
use Rattle.mv_config.specs.Setup.{Setup}
use Rattle.mv_board.specs.Faces.{BoardFace, CallerFace}
use Rattle.mv_board.specs.Faces as faces
use Rattle.mv_calls.specs.declared.table.Table.{Table}
use Rattle.mv_calls.specs.Events.{Entering, EnteredAt, WasComplete, event_requestor, freed, entered, count_read, event_posted, with_latch}
use Rattle.mv_calls.specs.Events.{post_event}
use Rattle.mv_calls.specs.Keeping.{nothing_kept}
use Rattle.mv_calls.specs.LatchCalls.{Requested, GrantedAs, obtain, release_latch}
use Rattle.mv_calls.specs.Posts.{post}
use Rattle.mv_calls.specs.Program.{Program, Done, Call, followed}
use Rattle.mv_calls.specs.Refusal.{Refusal, Broken}
use Rattle.mv_calls.specs.Table.{IsSoundTable, event_block, slot_block}
use Rattle.mv_calls.specs.Waits.{read_volume, write_volume}
use Rattle.mv_calls.proofs.Making.{kept_caller}
use Rattle.mv_calls.proofs.TableFacts.{reaches_itself}
use Rattle.mv_calls.specs.declared.outcomes.PostAnswer.{PostAnswer}
use Rattle.mv_calls.specs.declared.outcomes.PostAnswer.TheVariants as answer
use Rattle.mv_wait.specs.Run.{Runs, IsServed, keeps}
use Rattle.mv_wait.proofs.Runs.{runs_none, runs_then, runs_within, serves}
use Rattle.mv_events.specs.Entering.{LeadsTo, Enters, CountsEvent}
use Rattle.mv_events.proofs.Following.{served_first, served_last}

-- ---- the blocks of a table reach themselves alone

pub event_reach : (c : Setup) (t : Table) (index : ℕ) → IsSoundTable c t → index < t.size → reach c (event_block t index) ≤ 1
event_reach c t index checked lt = reaches_itself c (event_block t index) (checked.alone index lt).0

pub slot_reach : (c : Setup) (t : Table) (k : ℕ) → IsSoundTable c t → k < t.size → reach c (slot_block t k) ≤ 1
slot_reach c t k checked lt = reaches_itself c (slot_block t k) (checked.alone k lt).1

-- ---- numbers that are tested

pub below_is : (a b : ℕ) → a < b → nat_lt a b ≡ true
below_is a b lt = lt-ltb a b lt

pub not_below_is : (a b : ℕ) → b ≤ a → nat_lt a b ≡ false
not_below_is a b le = grind arith

-- a post's code was taken
abbrev pub IsCodeTaken : PostAnswer → Type 0
IsCodeTaken answer.Posted = Unit {0}
IsCodeTaken answer.Woke = Unit {0}
IsCodeTaken (answer.Already first) = ⊥

-- ---- an event that is counted

module _ (c : Setup) (t : Table) (index : ℕ) where
  -- with the position that was read
  pub counts_entered : (k : ℕ) (IsWritten : Unit {0} → Type 0) (IsPosted : PostAnswer → Type 0) (f g h j : CallerFace) → IsSoundTable c t
      → k < t.size → IsServed 1 (read_volume t.volume) (λ a. a ≡ k) f g → IsServed 1 (write_volume t.volume (k + 1)) IsWritten g h
      → IsServed (reach c (slot_block t k)) (post c (slot_block t k) index) IsPosted h j
      → CountsEvent c t index f (Ok (EnteredAt k)) j
  counts_entered k IsWritten IsPosted f g h j checked lt read written posted = λ id.
      let one = slot_reach c t k checked lt in
      let last = freed c t id (Ok (EnteredAt k)) (keeps j) in
      let third : Runs (reach c (slot_block t k) + 0)
      (followed (post c (slot_block t k) index) (λ p. freed c t id (Ok (EnteredAt k))) (keeps h)) last h j =
      served_first (reach c (slot_block t k)) 0 (post c (slot_block t k) index) (λ p. freed c t id (Ok (EnteredAt k))) IsPosted last h j j
      posted (runs_none last j) in
      let second : Runs (1 + (reach c (slot_block t k) + 0)) (entered c t index id k (keeps g)) last g j =
      served_first 1 (reach c (slot_block t k) + 0) (write_volume t.volume (k + 1)) _ IsWritten last g h j written third in
      let here : count_read c t index id k (keeps g) ≡ entered c t index id k (keeps g) =
      ap (λ (b : Bool). cond b (entered c t index id k) (freed c t id (Err (Broken k))) (keeps g)) (below_is k t.size lt) in
      let was : count_read c t index id read.answer (keeps g) ≡ entered c t index id k (keeps g) =
      ap (λ n. count_read c t index id n (keeps g)) read.is ∙ here in
      runs_within (1 + (1 + (reach c (slot_block t k) + 0))) 3 (followed (read_volume t.volume) (count_read c t index id) (keeps f)) last f j
      (omega arith)
      (served_first 1 (1 + (reach c (slot_block t k) + 0)) (read_volume t.volume) (count_read c t index id) (λ a. a ≡ k) last f g j read
      (subst (λ q. Runs (1 + (reach c (slot_block t k) + 0)) q last g j) (sym was) second))

  -- there is no such position
  pub counts_broken : (k : ℕ) (f g : CallerFace) → t.size ≤ k → IsServed 1 (read_volume t.volume) (λ a. a ≡ k) f g
      → CountsEvent c t index f (Err (Broken k)) g
  counts_broken k f g le read = λ id.
      let last = freed c t id (Err (Broken k)) (keeps g) in
      let here : count_read c t index id k (keeps g) ≡ last =
      ap (λ (b : Bool). cond b (entered c t index id k) (freed c t id (Err (Broken k))) (keeps g)) (not_below_is k t.size le) in
      let was : count_read c t index id read.answer (keeps g) ≡ last = ap (λ n. count_read c t index id n (keeps g)) read.is ∙ here in
      runs_within (1 + 0) 3 (followed (read_volume t.volume) (count_read c t index id) (keeps f)) last f g (omega arith)
      (served_first 1 0 (read_volume t.volume) (count_read c t index id) (λ a. a ≡ k) last f g g read
      (subst (λ q. Runs 0 q last g g) (sym was) (runs_none last g)))

  -- ---- with the latch

  -- an event that was complete
  pub enters_already : (code first : ℕ) (f g : CallerFace) → IsSoundTable c t → index < t.size
      → IsServed (reach c (event_block t index)) (post c (event_block t index) code) (λ a. a ≡ answer.Already first) f g
      → Enters c t index code f (Ok (WasComplete first)) g
  enters_already code first f g checked lt posted = λ id.
      let one = event_reach c t index checked lt in
      let last = freed c t id (Ok (WasComplete first)) (keeps g) in
      let was : event_posted c t index id posted.answer (keeps g) ≡ last =
      ap (λ p. event_posted c t index id p (keeps g)) posted.is in
      runs_within (reach c (event_block t index) + 0) 4 (with_latch c t index code (Ok (GrantedAs id)) (keeps f)) last f g (omega arith)
      (served_first (reach c (event_block t index)) 0 (post c (event_block t index) code) (event_posted c t index id)
      (λ a. a ≡ answer.Already first) last f g g posted
      (subst (λ q. Runs 0 q last g g) (sym was) (runs_none last g)))

  goes_on : (p : PostAnswer) (id most : ℕ) (g h : CallerFace) (a : Result Entering Refusal) → IsCodeTaken p
      → LeadsTo most c t id (followed (read_volume t.volume) (count_read c t index id)) g a h
      → LeadsTo most c t id (event_posted c t index id p) g a h
  goes_on answer.Posted id most g h a taken leads = leads
  goes_on answer.Woke id most g h a taken leads = leads
  goes_on (answer.Already d) id most g h a taken leads = absurd taken

  -- an event that was not
  pub enters_counted : (code : ℕ) (came : PostAnswer) (a : Result Entering Refusal) (f g h : CallerFace) → IsSoundTable c t → index < t.size
      → IsCodeTaken came
      → IsServed (reach c (event_block t index)) (post c (event_block t index) code) (λ p. p ≡ came) f g
      → CountsEvent c t index g a h → Enters c t index code f a h
  enters_counted code came a f g h checked lt taken posted counts = λ id.
      let one = event_reach c t index checked lt in
      let last = freed c t id a (keeps h) in
      runs_within (reach c (event_block t index) + 3) 4 (with_latch c t index code (Ok (GrantedAs id)) (keeps f)) last f h (omega arith)
      (served_first (reach c (event_block t index)) 3 (post c (event_block t index) code) (event_posted c t index id)
      (λ p. p ≡ came) last f g h posted
      (goes_on posted.answer id 3 g h a (subst IsCodeTaken (sym posted.is) taken) (counts id)))

  -- ---- the whole post

  -- the obtain is that of the task's own requestor
  own_obtain : (f : CallerFace)
      → obtain c t.latch (event_requestor f.number) Exclusive Waiting
      ≡ obtain c t.latch (event_requestor (keeps f).caller) Exclusive Waiting
  own_obtain f =
      ap (λ k. obtain c t.latch (event_requestor k) Exclusive Waiting) (sym (kept_caller (nothing_kept f.number) f.log))

  abbrev IsOf : CallerFace → ℕ → (Result Requested Refusal → Type 0) → CallerFace → Type 0
  IsOf f most Is g = IsServed most (obtain c t.latch (event_requestor f.number) Exclusive Waiting) Is f g

  -- a program whose obtain was made
  first_part : (code most j : ℕ) (Is : Result Requested Refusal → Type 0) (q : Program (Result Entering Refusal)) (f g h : CallerFace)
      → (s : IsOf f most Is g) → Runs j (with_latch c t index code s.answer (keeps g)) q g h
      → Runs (most + j) (post_event c t index code (keeps f)) q f h
  first_part code most j Is q f g h s y =
      subst (λ (o : Call (Result Requested Refusal)). Runs (most + j) (followed o (with_latch c t index code) (keeps f)) q f h)
      (own_obtain f)
      (served_first most j (obtain c t.latch (event_requestor f.number) Exclusive Waiting) (with_latch c t index code) Is q f g h s y)

  -- one that has no latch
  pub post_refused : (code : ℕ) (why : Refusal) (f g : CallerFace) → IsOf f 2 (λ a. a ≡ Err why) g
      → IsServed (6 + release_cost c) (post_event c t index code) (λ a. a ≡ Err why) f g
  post_refused code why f g s =
      serves (6 + release_cost c) (post_event c t index code) (λ a. a ≡ Err why) f g (Err why) s.made.began refl
      (runs_within (2 + 0) (6 + release_cost c) (post_event c t index code (keeps f)) (Done (Err why)) f g (omega arith)
      (first_part code 2 0 (λ a. a ≡ Err why) (Done (Err why)) f g g s
      (subst (λ (a : Result Requested Refusal). Runs 0 (with_latch c t index code a (keeps g)) (Done (Err why)) g g) (sym s.is)
      (runs_none (Done (Err why)) g))))
      s.made.rest

  -- one that has it, and frees it
  pub post_served : (code id : ℕ) (a : Result Entering Refusal) (IsFreed : Result ℕ Refusal → Type 0) (f g h j : CallerFace)
      → IsOf f 2 (λ b. b ≡ Ok (GrantedAs id)) g → Enters c t index code g a h
      → IsServed (release_cost c) (release_latch c t.latch id false) IsFreed h j
      → IsServed (6 + release_cost c) (post_event c t index code) (λ b. b ≡ a) f j
  post_served code id a IsFreed f g h j s enters released =
      let p = post_event c t index code (keeps f) in
      let last = freed c t id a (keeps h) in
      let front : Runs (2 + 4) p last f h =
      first_part code 2 4 (λ b. b ≡ Ok (GrantedAs id)) last f g h s
      (subst (λ (b : Result Requested Refusal). Runs 4 (with_latch c t index code b (keeps g)) last g h) (sym s.is) (enters id)) in
      serves (6 + release_cost c) (post_event c t index code) (λ b. b ≡ a) f j a s.made.began refl
      (runs_then 6 (release_cost c) p last (Done a) f h j front
      (served_last (release_cost c) (release_latch c t.latch id false) a IsFreed h j released))
      released.made.rest

-- ---- the requestor of an obtain is the task's own

pub own_served : (c : Setup) (t u : Table) (k : ℕ) (a b : Result Requested Refusal) (f g : CallerFace) → u ≡ t → k ≡ f.number → a ≡ b
    → IsServed 2 (obtain c u.latch (event_requestor k) Exclusive Waiting) (λ x. x ≡ a) f g
    → IsServed 2 (obtain c t.latch (event_requestor f.number) Exclusive Waiting) (λ x. x ≡ b) f g
own_served c t u k a b f g table same is s =
    subst (λ n. IsServed 2 (obtain c t.latch (event_requestor n) Exclusive Waiting) (λ x. x ≡ b) f g) same
    (subst (λ (v : Table). IsServed 2 (obtain c v.latch (event_requestor k) Exclusive Waiting) (λ x. x ≡ b) f g) table
    (subst (λ (r : Result Requested Refusal). IsServed 2 (obtain c u.latch (event_requestor k) Exclusive Waiting) (λ x. x ≡ r) f g) is s))

-- what is so of the latch and the requestor that were computed is so of the table's latch and the task's own requestor
pub own_cause : (P : ℕ → ℕ → Type 0) (t u : Table) (k number : ℕ) → u ≡ t → k ≡ number → P u.latch (event_requestor k)
    → P t.latch (event_requestor number)
own_cause P t u k number table same p =
    subst (λ n. P t.latch (event_requestor n)) same (subst (λ (x : Table). P x.latch (event_requestor k)) table p)

-- ---- a post that was taken

pub taken_by : (came : PostAnswer) → (came ≡ answer.Posted) ⊎ (came ≡ answer.Woke) → IsCodeTaken came
taken_by came (inl is) = subst IsCodeTaken (sym is) tt
taken_by came (inr is) = subst IsCodeTaken (sym is) tt

-- ---- behind the events that were made with the latch

-- the task is still of its station
pub entered_still : (b : BoardFace) (c : Setup) (t : Table) (index code : ℕ) (a : Result Entering Refusal) (f g : CallerFace)
    → Enters c t index code f a g → faces.IsOf b f → faces.IsOf b g
entered_still b c t index code a f g enters of =
    let same = (enters 0).went.same in (same.table ∙ of.0, same.about ∙ of.1)

-- and has lost no more than four
pub entered_left : (c : Setup) (t : Table) (index code : ℕ) (a : Result Entering Refusal) (f g : CallerFace)
    → Enters c t index code f a g → f.left ≤ g.left + 4
entered_left c t index code a f g enters =
    let few = (enters 0).few in let left = (enters 0).went.left in omega arith
