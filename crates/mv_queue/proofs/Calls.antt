-- What a call leaves of its task. Used by the functions that make calls.
use Rattle.mv_attach.proofs.Always.{Grown}
use Rattle.mv_attach.proofs.Says.{always_write}
use Rattle.mv_wait.specs.Prelude.{BoardFace, CallerFace, kept_of, Call, write_volume, release_cost, Setup, Volume, IsServed}
use Rattle.mv_guarded.proofs.Careful.{careful_event, careful_while}
use Rattle.mv_guarded.proofs.Holding.{write_held, wrote_one}
use Rattle.mv_guarded.specs.Guarded.{HasRead, HoldsLatch, IsCareful}
use Rattle.mv_wait.specs.Prelude.mode.{Exclusive}
use Rattle.mv_ordered.proofs.Calls.{IsPlain}
use Rattle.mv_ordered.specs.Held.{held}
use Rattle.mv_ordered.specs.LatchOrder.{HasLockDiscipline}
use Rattle.mv_queue.proofs.Logs.{IsStill, count_moves, even_counted, still_in, still_next, still_out}
use Rattle.mv_queue.specs.Queue.{Did, IsAllowed, IsEven, IsReady, OwesPut, OwesTake, came_out, went_in}
use Rattle.mv_queue.specs.Setup.{put_count, queue_setup, room, taken_count}
use Rattle.mv_wait.proofs.Compose.{served_left}
use Rattle.std.proofs.Common.{List, [], ap, append_assoc, arith, inr, le_refl, refl, subst, sym, ℕ, ◌++◌, ◌+◌, ◌∙◌, ◌≡◌, ◌≤◌, ◌⊎◌}

-- ---- the configuration

-- a release is one event, and so is a post
pub cheap : (c : Setup) → (tries : ℕ) × (c ≡ queue_setup tries) → release_cost c ≤ 1
cheap c has = subst (λ (s : Setup). release_cost s ≤ 1) (sym has.1) (le_refl 1)

pub no_exits : (c : Setup) → (tries : ℕ) × (c ≡ queue_setup tries) → c.exits ≡ []
no_exits c has = ap (λ (s : Setup). s.exits) has.1

-- ---- one step after another

pub did_then : (b : BoardFace) (m n most : ℕ) (put more taken others : List ℕ) (had has : List (ℕ × ℕ)) (t u v : CallerFace)
    → Did b m put taken had t u → Did b n more others has u v → m + n ≤ most → Did b most (put ++ more) (taken ++ others) has t v
did_then b m n most put more taken others had has t u v first second le = record {
  ready = second.ready;
  number = second.number ∙ first.number;
  left = (let i = first.left in let j = second.left in omega arith);
  put_in = second.put_in ∙ ap (λ xs. xs ++ more) first.put_in ∙ append_assoc (went_in t.log) put more;
  taken_out = second.taken_out ∙ ap (λ xs. xs ++ others) first.taken_out ∙ append_assoc (came_out t.log) taken others;
  latches = second.latches;
}

pub did_more : (b : BoardFace) (m most : ℕ) (put taken : List ℕ) (has : List (ℕ × ℕ)) (t u : CallerFace) → Did b m put taken has t u
    → m ≤ most → Did b most put taken has t u
did_more b m most put taken has t u did le = record {
  ready = did.ready;
  number = did.number;
  left = (let i = did.left in omega arith);
  put_in = did.put_in;
  taken_out = did.taken_out;
  latches = did.latches;
}

-- a section of the latch: it is obtained, the counts are read, an item is moved, and the latch is released
pub section_did : (b : BoardFace) (put taken : List ℕ) (had : List (ℕ × ℕ)) (t u v w x : CallerFace) → Did b 2 [] [] had t u
    → Did b 2 [] [] (held u.log) u v → Did b 2 put taken (held v.log) v w → Did b 1 [] [] [] w x
    → Did b 7 (put ++ []) (taken ++ []) [] t x
section_did b put taken had t u v w x entered looked moved left =
    did_then b 6 1 7 put [] taken [] (held v.log) [] t w x
    (did_then b 4 2 6 [] put [] taken (held u.log) (held v.log) t v w
    (did_then b 2 2 4 [] [] [] [] had (held u.log) t u v entered looked (omega arith)) moved (omega arith)) left (omega arith)

-- or no item is moved
pub look_did : (b : BoardFace) (had : List (ℕ × ℕ)) (t u v w : CallerFace) → Did b 2 [] [] had t u → Did b 2 [] [] (held u.log) u v
    → Did b 1 [] [] [] v w → Did b 7 [] [] [] t w
look_did b had t u v w entered looked left =
    did_then b 4 1 7 [] [] [] [] (held u.log) [] t v w
    (did_then b 2 2 4 [] [] [] [] had (held u.log) t u v entered looked (omega arith)) left (omega arith)

-- ---- calls that move no item and count none

pub still_did : {A : Type 0} (b : BoardFace) (most : ℕ) (call : Call A) (Is : A → Type 0) (has : List (ℕ × ℕ)) (t u : CallerFace)
    → IsServed most call Is t u → Grown IsStill t u → (HasLockDiscipline t.log → HasLockDiscipline u.log) → held u.log ≡ has
    → IsReady b t → Did b most [] [] has t u
still_did b most call Is has t u s grown keeps latches r =
    let kept = careful_while IsAllowed b IsStill IsEven still_next most call Is t u s grown keeps r.even r.careful in record {
      ready = record { config = r.config; careful = kept.0; even = kept.1 };
      number = s.same.number;
      left = served_left most call Is t u s;
      put_in = ap went_in grown.logged ∙ still_in t.log grown.more grown.each;
      taken_out = ap came_out grown.logged ∙ still_out t.log grown.more grown.each;
      latches = latches;
    }

-- ---- an item is moved, and counted

-- a task that has moved an item, and has read the count that it is to raise
pub record IsMoving (b : BoardFace) (n x : ℕ) (put taken : List ℕ) (t u : CallerFace) : Type 0 where
  pub config : (tries : ℕ) × (b.config ≡ queue_setup tries)
  pub careful : IsCareful IsAllowed b u
  pub number : u.number ≡ t.number
  pub left : t.left ≤ u.left + 1
  pub put_in : went_in u.log ≡ went_in t.log ++ put
  pub taken_out : came_out u.log ≡ came_out t.log ++ taken
  pub latches : held u.log ≡ held t.log
  pub holds : HoldsLatch 0 Exclusive u.number u.log
  pub read : HasRead 0 n u.number x u.log
  pub owes : ((n ≡ put_count) × OwesPut u.log) ⊎ ((n ≡ taken_count) × OwesTake u.log)

pub counts_item : (b : BoardFace) (n x : ℕ) (put taken : List ℕ) (Is : Unit {0} → Type 0) (t u v : CallerFace) → room ≤ n
    → IsMoving b n x put taken t u → IsServed 1 (write_volume n (x + 1)) Is u v → Did b 2 put taken (held t.log) t v
counts_item b n x put taken Is t u v high m s =
    let one = wrote_one n (x + 1) Is u v s in
    let e = one.heard.entry in
    let may : IsAllowed u.number u.log e.object e.op = subst (λ o. IsAllowed u.number u.log o e.op) (sym one.object)
    (subst (λ op. IsAllowed u.number u.log (Volume n) op) (sym one.makes)
    (inr (record { holds = m.holds; old = x; read = m.read; more = refl; owes = m.owes }))) in
    let moved = count_moves u.log n (x + 1) e one.object one.makes high in record {
      ready = record {
        config = m.config;
        careful = careful_event IsAllowed b (write_volume n (x + 1)) Is e u v s
            (always_write (λ o op. IsPlain op) n (x + 1) (kept_of u.number u.log) tt) one.logged may m.careful;
        even = subst IsEven (sym one.logged) (even_counted u.log n (x + 1) e one.object one.makes m.owes);
      };
      number = s.same.number ∙ m.number;
      left = (let i = m.left in let j = served_left 1 (write_volume n (x + 1)) Is u v s in omega arith);
      put_in = ap went_in one.logged ∙ moved.0 ∙ m.put_in;
      taken_out = ap came_out one.logged ∙ moved.1 ∙ m.taken_out;
      latches = write_held n (x + 1) Is u v s ∙ m.latches;
    }
