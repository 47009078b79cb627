-- The wakers of blocks, one place after the other.
use Rattle.std.proofs.Common.{◌≡◌, ℕ, ◌+◌, ◌<◌, ◌≤◌, Bool, false, List, length, get_or, set, Option, None, ◌⊎◌, inl, inr, refl, sym}
use Rattle.std.proofs.Common.{ap, ◌∙◌, subst, arith}
use Rattle.std.proofs.Math.ListN.{length-set}
use Rattle.std.proofs.lemmas.Bool.{cases_eq}
use Rattle.std.proofs.lemmas.List.{get_or-set_same, get_or-set_other}
use Rattle.std.specs.Prelude.{IsSome}
use Rattle.futures.specs.Task.{Lasting, Keeps}
use Rattle.futures.specs.declared.task.context.Context.{Context}
use Rattle.futures.specs.declared.task.waker.Waker.{Waker}
use Rattle.futures.specs.declared.task.source.Source.{Source}
use Rattle.mv_board.specs.declared.watch.Watch.{Watch}
use Rattle.mv_board.specs.declared.watch.Watch.TheVariants as watch
use Rattle.mv_board.specs.Faces.{BoardFace, CallerFace}
use Rattle.mv_wait.specs.Ready.{has_ready}
use Rattle.mv_polled.specs.Futures.{MayPollWait}
use Rattle.mv_polled.specs.Keys.{key_of}
use Rattle.mv_polled.specs.Waiting.{WaitFace}
use Rattle.mv_polled.specs.Wakers.{HearsAll, HaveWakers, waker_left, AreRung}
use Rattle.mv_polled.proofs.Listening.{Stays, still_not, either}

-- ---- registering

-- the wakers of the blocks before place i, and then one for the block there
pub wakers_more : (i : ℕ) (ready later : List Watch) (es : List ℕ) (ws : List (Option Waker)) (slot : Option Waker) (old new : Context)
    (is : Bool) → Stays ready later → Keeps old new → i < length ws → is ≡ has_ready later (get_or es i 0)
    → (is ≡ false → IsSome slot ⊎ HearsAll new) → HaveWakers i ready es ws old → HaveWakers (i + 1) later es (set ws i slot) new
wakers_more i ready later es ws slot old new is stays keep lt own here before k below none =
    either (cases_eq k i)
    (λ e. let there : is ≡ false = own ∙ (ap (λ n. has_ready later (get_or es n 0)) (sym e) ∙ none) in
    subst (λ w. IsSome w ⊎ HearsAll new) (sym (ap (λ n. get_or (set ws i slot) n None) e ∙ get_or-set_same ws i slot None lt)) (here there))
    (λ ne. subst (λ w. IsSome w ⊎ HearsAll new) (sym (get_or-set_other ws i k slot None ne))
    (either (before k (omega arith) (still_not ready later (get_or es k 0) (has_ready ready (get_or es k 0)) stays refl none))
    (λ some. inl some) (λ all. inr (λ s. keep (Lasting.hears s) (all s)))))

-- blocks that are ready later need none
pub wakers_still : (n : ℕ) (ready later : List Watch) (es : List ℕ) (ws : List (Option Waker)) (cx : Context) → Stays ready later
    → HaveWakers n ready es ws cx → HaveWakers n later es ws cx
wakers_still n ready later es ws cx stays have k below none =
    have k below (still_not ready later (get_or es k 0) (has_ready ready (get_or es k 0)) stays refl none)

-- ---- ringing

-- the blocks before place i were rung, and those from there on were not yet
pub record AreRungTo (i rung : ℕ) (es : List ℕ) (old new : List (Option Waker)) : Type 0 where
  pub each : (k : ℕ) → k < i → get_or new k None ≡ waker_left rung (key_of (watch.Ecb (get_or es k 0))) (get_or old k None)
  pub rest : (k : ℕ) → i ≤ k → get_or new k None ≡ get_or old k None
  pub size : length new ≡ length old

pub rung_none : (rung : ℕ) (es : List ℕ) (ws : List (Option Waker)) → AreRungTo 0 rung es ws ws
rung_none rung es ws = record { each = λ k lt. absurd (omega arith); rest = λ k le. refl; size = refl }

pub rung_more : (i rung : ℕ) (es : List ℕ) (old ws : List (Option Waker)) (slot : Option Waker) → i < length ws
    → slot ≡ waker_left rung (key_of (watch.Ecb (get_or es i 0))) (get_or ws i None) → AreRungTo i rung es old ws
    → AreRungTo (i + 1) rung es old (set ws i slot)
rung_more i rung es old ws slot lt is r =
    let left = λ (n : ℕ) (w : Option Waker). waker_left rung (key_of (watch.Ecb (get_or es n 0))) w in record {
      each = λ k below. either (cases_eq k i)
          (λ e. ap (λ n. get_or (set ws i slot) n None) e ∙ (get_or-set_same ws i slot None lt
          ∙ (is ∙ (ap (left i) (r.rest i (omega arith)) ∙ ap (λ n. left n (get_or old n None)) (sym e)))))
          (λ ne. get_or-set_other ws i k slot None ne ∙ r.each k (omega arith));
      rest = λ k le. get_or-set_other ws i k slot None (λ e. absurd (omega arith)) ∙ r.rest k (omega arith);
      size = length-set ws i slot ∙ r.size;
    }

pub rung_all : (i rung : ℕ) (es : List ℕ) (old new : List (Option Waker)) → length es ≤ i → AreRungTo i rung es old new
    → AreRung rung es old new
rung_all i rung es old new le r = record { each = λ k lt. r.each k (omega arith); size = r.size }

-- a wait whose wakers are others may be polled as before
pub rung_may_poll : (b : BoardFace) (t : CallerFace) (old new : WaitFace) (sources : List Source)
    → new ≡ record old { wakers = new.wakers } → MayPollWait b t old sources → MayPollWait b t new sources
rung_may_poll b t old new sources same may =
    subst (λ (w : WaitFace). MayPollWait b t w sources) (sym same) (record { task = may.task; stage = may.stage; each = may.each })
