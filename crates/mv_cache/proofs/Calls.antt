-- What the calls of the writer and of a reader leave of their task. Used by write_pair and read_pair.
use Rattle.std.proofs.Common.{◌≡◌, ℕ, ◌≤◌, false, List, [], ◌∷◌, ◌++◌, Result, inl, refl, sym, ap, ◌∙◌, subst, append_assoc, le_refl}
use Rattle.std.specs.List.{AllByRecursion, Contains}
use Rattle.mv_wait.specs.Prelude.latch_op.{Obtain}
use Rattle.mv_wait.specs.Prelude.latch_form.{Waiting}
use Rattle.mv_wait.specs.Prelude.{Mode, release_cost, Setup, BoardFace, CallerFace, kept_of, obtain, release_latch, Call, Refusal}
use Rattle.mv_wait.specs.Prelude.{read_volume, write_volume, IsServed}
use Rattle.mv_wait.specs.Prelude.mode.{Exclusive, Shared}
use Rattle.mv_wait.proofs.Members.{rest_is_in}
use Rattle.mv_wait.specs.LatchCalls.{Requested}
use Rattle.mv_wait.proofs.Compose.{still_served}
use Rattle.mv_latchset.specs.declared.obtaining.Obtained.TheVariants as got
use Rattle.mv_latchset.specs.declared.token.LatchToken.{LatchToken}
use Rattle.mv_latchset.specs.Obtaining.{IsObtainedBy}
use Rattle.mv_attach.proofs.Says.{always_write}
use Rattle.mv_ordered.proofs.Calls.{IsPlain}
use Rattle.mv_guarded.specs.Guarded.{HoldsLatch, Keeps, value_from}
use Rattle.mv_guarded.proofs.Holding.{holds_granted, still_holds, wrote_one, plain_keeps_discipline}
use Rattle.mv_guarded.proofs.Quiet.{IsQuiet, obtain_is_quiet, release_is_quiet, read_is_quiet, quiet_keeps}
use Rattle.mv_guarded.proofs.Rules.{keeps_push}
use Rattle.mv_guarded.proofs.Volumes.{value-append}
use Rattle.mv_cache.specs.declared.cache.Pair.{Pair}
use Rattle.mv_cache.specs.Whole.{pair_of, IsAllowed, IsCareful, StaysWhole, IsWriting, IsReading, IsLonger, WasRead, first_pair}
use Rattle.mv_cache.proofs.Logs.{calm_allowed, whole_more, calm_pair, calm_stays_whole}

-- ---- calls that write nothing and purge no requestor, and keep the lock discipline

-- each task may have one request, so its obtain is at the only latch that it has
pub obtain_quiet : (b : BoardFace) (requestor most : ℕ) (mode : Mode) (Is : Result Requested Refusal → Type 0) (t u : CallerFace)
    → IsServed most (obtain b.config 0 requestor mode Waiting) Is t u → IsCareful b t → IsQuiet t u
obtain_quiet b requestor most mode Is t u s r =
    obtain_is_quiet b.config 0 requestor most mode Is t u s (subst (λ (c : Setup). c.quota ≤ 1) (sym r.config.2) (le_refl 1))

-- a release is one event
pub cheap : (b : BoardFace) (t : CallerFace) → IsCareful b t → release_cost b.config ≤ 1
cheap b t r = subst (λ (c : Setup). release_cost c ≤ 1) (sym r.config.2) (le_refl 1)

pub release_quiet : (b : BoardFace) (latch id : ℕ) (Is : Result ℕ Refusal → Type 0) (t u : CallerFace)
    → IsServed (release_cost b.config) (release_latch b.config latch id false) Is t u → IsCareful b t → IsQuiet t u
release_quiet b latch id Is t u s r = release_is_quiet b.config latch id Is t u s (cheap b t r)

-- ---- the tasks after them

pub still_careful : {A : Type 0} (b : BoardFace) (most : ℕ) (call : Call A) (Is : A → Type 0) (t u : CallerFace)
    → IsServed most call Is t u → IsQuiet t u → IsCareful b t → IsCareful b u
still_careful b most call Is t u s q r = record {
  config = r.config;
  task = still_served b most call Is t u s r.task;
  rest = s.made.rest;
  allowed = quiet_keeps IsAllowed calm_allowed t u s.same.number q r.allowed;
  discipline = q.keeps r.discipline;
}

pub still_writing : {A : Type 0} (b : BoardFace) (pairs : List Pair) (most : ℕ) (call : Call A) (Is : A → Type 0) (t u : CallerFace)
    → IsServed most call Is t u → IsQuiet t u → IsWriting b pairs t → IsWriting b pairs u
still_writing b pairs most call Is t u s q r =
    let g = q.grown in record {
      careful = still_careful b most call Is t u s q r.careful;
      number = s.same.number ∙ r.number;
      whole = subst (StaysWhole pairs []) (sym g.logged) (calm_stays_whole pairs t.log g.more r.whole r.written g.each);
      written = subst (Contains (first_pair ∷ pairs)) (sym (ap pair_of g.logged ∙ calm_pair t.log g.more g.each)) r.written;
    }

pub still_reading : {A : Type 0} (b : BoardFace) (most : ℕ) (call : Call A) (Is : A → Type 0) (t u : CallerFace)
    → IsServed most call Is t u → IsQuiet t u → IsReading b t → IsReading b u
still_reading b most call Is t u s q r = record {
  careful = still_careful b most call Is t u s q r.careful;
  other = λ zero_is. r.other (sym s.same.number ∙ zero_is);
}

-- ---- the writer inside its section

pub record IsInside (b : BoardFace) (pairs : List Pair) (t : CallerFace) : Type 0 where
  pub careful : IsCareful b t
  pub number : t.number ≡ 0
  pub whole : StaysWhole pairs [] t.log
  pub holds : HoldsLatch 0 Exclusive 0 t.log

pub enters : (b : BoardFace) (pairs : List Pair) (requestor : ℕ) (t u : CallerFace) (token : LatchToken) → IsWriting b pairs t
    → IsWriting b pairs u
    → IsObtainedBy (Obtain 0 requestor Exclusive Waiting) 0 Waiting t (got.Granted token) u → IsInside b pairs u
enters b pairs requestor t u token before now by = record {
  careful = now.careful;
  number = now.number;
  whole = now.whole;
  holds = subst (λ k. HoldsLatch 0 Exclusive k u.log) before.number (holds_granted 0 Exclusive requestor t u token by);
}

pub writes : (b : BoardFace) (pairs : List Pair) (n x : ℕ) (Is : Unit {0} → Type 0) (t u : CallerFace)
    → IsServed 1 (write_volume n x) Is t u → IsInside b pairs t → IsInside b pairs u
writes b pairs n x Is t u s r =
    let one = wrote_one n x Is t u s in
    let e = one.heard.entry in
    let holds : HoldsLatch 0 Exclusive 0 (t.log ++ e ∷ []) = still_holds 0 Exclusive 0 n t.log e one.object r.holds in record {
      careful = record {
        config = r.careful.config;
        task = still_served b 1 (write_volume n x) Is t u s r.careful.task;
        rest = s.made.rest;
        allowed = subst (λ k. Keeps IsAllowed k [] u.log) (sym s.same.number)
            (subst (Keeps IsAllowed t.number []) (sym one.logged)
            (keeps_push IsAllowed t.number [] t.log e r.careful.allowed
            (subst (IsAllowed t.number t.log e.object) (sym one.makes)
            (r.number, subst (λ k. HoldsLatch 0 Exclusive k t.log) (sym r.number) r.holds))));
        discipline = plain_keeps_discipline 1 (write_volume n x) Is t u s
            (always_write (λ o op. IsPlain op) n x (kept_of t.number t.log) tt) r.careful.discipline;
      };
      number = s.same.number ∙ r.number;
      whole = subst (StaysWhole pairs []) (sym one.logged) (whole_more pairs [] t.log e r.whole (inl holds));
      holds = subst (HoldsLatch 0 Exclusive 0) (sym one.logged) holds;
    }

-- what both writes leave is the pair
pub both_written : (left right : ℕ) (Is Are : Unit {0} → Type 0) (t u v : CallerFace) → IsServed 1 (write_volume 0 left) Is t u
    → IsServed 1 (write_volume 1 right) Are u v → pair_of v.log ≡ record { left = left; right = right }
both_written left right Is Are t u v s w =
    let first = wrote_one 0 left Is t u s in
    let second = wrote_one 1 right Are u v w in
    let e = first.heard.entry in
    let f = second.heard.entry in
    let log : v.log ≡ (t.log ++ e ∷ []) ++ f ∷ [] = second.logged ∙ ap (λ es. es ++ f ∷ []) first.logged in
    let first_is : value_from 0 0 ((t.log ++ e ∷ []) ++ f ∷ []) ≡ left =
    value-append 0 0 (t.log ++ e ∷ []) (f ∷ []) ∙ rw (second.object, second.makes) (value-append 0 0 t.log (e ∷ [])
    ∙ rw (first.object, first.makes) refl) in
    let second_is : value_from 1 0 ((t.log ++ e ∷ []) ++ f ∷ []) ≡ right =
    value-append 1 0 (t.log ++ e ∷ []) (f ∷ []) ∙ rw (second.object, second.makes) refl in
    ap pair_of log ∙ (λ i. record { left = first_is i; right = second_is i })

-- its release
pub leaves : {A : Type 0} (b : BoardFace) (pairs : List Pair) (pair : Pair) (most : ℕ) (call : Call A) (Is : A → Type 0)
    (t u : CallerFace)
    → IsServed most call Is t u → IsQuiet t u → IsInside b pairs t → pair_of t.log ≡ pair → Contains pairs pair → IsWriting b pairs u
leaves b pairs pair most call Is t u s q r is member =
    still_writing b pairs most call Is t u s q (record {
      careful = r.careful;
      number = r.number;
      whole = r.whole;
      written = subst (Contains (first_pair ∷ pairs)) (sym is) (rest_is_in first_pair pairs pair member);
    })

-- ---- a reader inside its section

-- a reader that has obtained the latch and read both numbers
pub before_release : (b : BoardFace) (t u v w : CallerFace) (requestor most left right : ℕ) (Is : Result Requested Refusal → Type 0)
    → IsServed most (obtain b.config 0 requestor Shared Waiting) Is t u → IsServed 1 (read_volume 0) (λ a. a ≡ left) u v
    → IsServed 1 (read_volume 1) (λ a. a ≡ right) v w → IsReading b t → IsReading b w
before_release b t u v w requestor most left right Is asked first second r =
    still_reading b 1 (read_volume 1) (λ a. a ≡ right) v w second (read_is_quiet 1 right v w second)
    (still_reading b 1 (read_volume 0) (λ a. a ≡ left) u v first (read_is_quiet 0 left u v first)
    (still_reading b most (obtain b.config 0 requestor Shared Waiting) Is t u asked
    (obtain_quiet b requestor most Shared Is t u asked r.careful) r))

-- what was read is still read after more entries
read_later : (t u : CallerFace) (pair : Pair) → IsLonger t u → WasRead t.number t.log pair → WasRead u.number u.log pair
read_later t u pair l r = record {
  before = r.before;
  first = r.first;
  second = r.second;
  later = r.later ++ l.more;
  split = l.logged ∙ ap (λ log. log ++ l.more) r.split ∙ append_assoc r.before (r.first ∷ r.second ∷ r.later) l.more;
  holds = subst (λ k. HoldsLatch 0 Shared k r.before) (sym l.number) r.holds;
  left = r.left;
  right = r.right;
}

pub all_read_later : (t u : CallerFace) (pairs : List Pair) → IsLonger t u → AllByRecursion (WasRead t.number t.log) pairs
    → AllByRecursion (WasRead u.number u.log) pairs
all_read_later t u [] l all = tt
all_read_later t u (pair ∷ pairs) l all = (read_later t u pair l all.0, all_read_later t u pairs l all.1)
