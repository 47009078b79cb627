-- The entries of a wait whose blocks were armed.
use Rattle.std.proofs.Common.{◌≡◌, ℕ, List, [], ◌∷◌, map, ◌⊎◌, inl, inr, refl, sym, subst}
use Rattle.std.proofs.lemmas.Option.{some_pair_parts}
use Rattle.mv_ecb.specs.declared.operation.EcbOp.TheVariants.{Arm}
use Rattle.mv_ecb.specs.declared.operation.EcbReply.TheVariants as ecb_reply
use Rattle.mv_machine.specs.declared.entry.Object.TheVariants.{Ecb}
use Rattle.mv_machine.specs.declared.entry.Op.TheVariants as op_on
use Rattle.mv_machine.specs.declared.entry.Reply.{Reply}
use Rattle.mv_machine.specs.declared.entry.Reply.TheVariants as reply_of
use Rattle.mv_board.specs.Faces.{CallerFace}
use Rattle.mv_calls.specs.Program.{Program, Done, Wrong, Heard, Says, left, entries, on_ecb}
use Rattle.mv_calls.specs.Refusal as refusal
use Rattle.mv_calls.specs.Waits.{arm_all, armed}
use Rattle.std.proofs.Common.{Err}
use Rattle.mv_wait.specs.Waiting.{ArmsAll, Waited}
use Rattle.mv_polled.specs.Waiting.{AreArmed, deed, arm_of}

wrong_stays : (hs : List Heard) (x : Waited) → left {A = Waited} Wrong hs ≡ Done x → ⊥
wrong_stays [] x e = cc e
wrong_stays (h ∷ hs) x e = wrong_stays hs x e

-- behind a reply to an arm the program goes on, or is wrong
behind : (r : Reply) (q : Program Waited) → (on_ecb r (armed q) ≡ q) ⊎ (on_ecb r (armed q) ≡ Wrong)
behind (reply_of.Ecb ecb_reply.Armed) q = inl refl
behind (reply_of.Ecb (ecb_reply.Complete c)) q = inl refl
behind (reply_of.Ecb r) q = inr refl
behind r q = inr refl

-- the events of a program that arms blocks and is done then
arms_said : (es : List ℕ) (hs : List Heard) (x : Waited) → Says (arm_all es (Done x)) hs → left (arm_all es (Done x)) hs ≡ Done x
    → map deed (entries hs) ≡ map arm_of es
arms_said [] [] x s d = refl
arms_said [] (h ∷ hs) x s d = absurd (cc s.0)
arms_said (e ∷ es) [] x s d = absurd (cc d)
arms_said (e ∷ es) (h ∷ hs) x s d = go (behind h.entry.reply (arm_all es (Done x))) s.1 d (arms_said es hs x) where
  later : Program Waited
  later = arm_all es (Done x)

  here : deed h.entry ≡ arm_of e
  here = let q = some_pair_parts (Ecb e) h.entry.object (op_on.Ecb Arm) h.entry.op s.0 in (λ i. (sym q.0 i, sym q.1 i))

  go : (on_ecb h.entry.reply (armed later) ≡ later) ⊎ (on_ecb h.entry.reply (armed later) ≡ Wrong)
      → Says (on_ecb h.entry.reply (armed later)) hs → left (on_ecb h.entry.reply (armed later)) hs ≡ Done x
      → (Says later hs → left later hs ≡ Done x → map deed (entries hs) ≡ map arm_of es)
      → map deed (entries (h ∷ hs)) ≡ map arm_of (e ∷ es)
  go (inl q) says done more = λ i. here i ∷ more (subst (λ p. Says p hs) q says) (subst (λ p. left p hs ≡ Done x) q done) i
  go (inr q) says done more = absurd (wrong_stays hs x (subst (λ p. left p hs ≡ Done x) q done))

-- each block was armed, in the order of the list, and nothing else was done
pub arms_listed : (es : List ℕ) (t u : CallerFace) → ArmsAll es t u → AreArmed es t u
arms_listed es t u arms =
    let x : Waited = Err refusal.TooMany in
    let run = arms (Done x) in
    record { entries = entries run.events; logged = run.went.logged; arms = arms_said es run.events x run.says run.leaves }
