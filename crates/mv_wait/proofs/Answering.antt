-- What an event on a block is answered, by the state in which it found the block.
use Rattle.std.proofs.Common.{◌≡◌, ℕ, Bool, false, List, ◌⊎◌, inl, inr, refl, sym, ap, ◌∙◌}
use Rattle.std.proofs.Common.{subst}
use Rattle.std.proofs.lemmas.Bool.{false≢true}
use Rattle.mv_ecb.specs.declared.operation.EcbOp.{EcbOp}
use Rattle.mv_ecb.specs.declared.operation.EcbOp.TheVariants.{Arm, Settle, Post}
use Rattle.mv_ecb.specs.declared.operation.EcbReply.TheVariants as ecb_reply
use Rattle.mv_ecb.specs.Table.{ecb_step}
use Rattle.mv_ecb.specs.Word.{EcbState, Zero, Waiting, Extended, Complete}
use Rattle.mv_machine.specs.declared.entry.Entry.{Entry}
use Rattle.mv_machine.specs.declared.entry.Object.{Object}
use Rattle.mv_machine.specs.declared.entry.Object.TheVariants.{Ecb, Volume}
use Rattle.mv_machine.specs.declared.entry.VolumeOp.TheVariants.{Read, Write}
use Rattle.mv_machine.specs.declared.entry.VolumeReply.TheVariants.{Value, Stored}
use Rattle.mv_wait.specs.Says.{SaysSettled, SaysWord, SaysValue, SaysPosted}
use Rattle.mv_machine.specs.declared.entry.Op.{Op}
use Rattle.mv_machine.specs.declared.entry.Op.TheVariants as op_on
use Rattle.mv_machine.specs.declared.entry.Reply.{Reply}
use Rattle.mv_machine.specs.declared.entry.Reply.TheVariants as reply_of
use Rattle.mv_machine.specs.Legal.{after}
use Rattle.mv_machine.specs.Parts.{IsPossible}
use Rattle.mv_config.specs.Setup.{Setup, owner_of}
use Rattle.mv_board.specs.Faces.{CallerFace, HappenedAt, Happened}
use Rattle.mv_calls.specs.Keeping.{kept_of}
use Rattle.mv_calls.specs.Rest.{no_waits, waits_from}
use Rattle.mv_calls.specs.Behind.{IsBehind}
use Rattle.mv_calls.specs.Known.{BlockAgrees}
use Rattle.mv_calls.proofs.Behind.{last_is_behind}
use Rattle.mv_calls.proofs.Blocks.{block_agrees}
use Rattle.mv_wait.proofs.Runs.{entry_of}

-- the history behind which an event was made
pub made_behind : (c : Setup) (t u : CallerFace) (o : Object) (place : ℕ) (op : Op) (reply : Reply) → HappenedAt t o place op reply u
    → IsPossible c u.number u.log u.told
    → IsBehind c t.number t.log (entry_of t o place op reply) u.told
made_behind c t u o place op reply h p = last_is_behind c t.number t.log (entry_of t o place op reply) u.told
    (subst (λ (z : ℕ × List Entry). IsPossible c z.0 z.1 u.told) (λ i. (h.same.number i, h.logged i)) p)

-- a block that was found in some state, which agrees with what its owner's log says, answers by its table
pub record Answers (c : Setup) (t : CallerFace) (e : ℕ) (op : EcbOp) (reply : Reply) : Type 0 where
  pub state : EcbState
  pub reply_is : reply ≡ reply_of.Ecb (ecb_step op state).1
  pub agrees : owner_of c e ≡ t.number → BlockAgrees c e state ((waits_from no_waits t.log).armed e) ((kept_of t.number t.log).extended e)

pub block_answers : (c : Setup) (t u : CallerFace) (e : ℕ) (op : EcbOp) (reply : Reply) → Happened t (Ecb e) (op_on.Ecb op) reply u
    → IsPossible c u.number u.log u.told → Answers c t e op reply
block_answers c t u e op reply h p =
    let b = made_behind c t u (Ecb e) h.0 (op_on.Ecb op) reply h.1 p in record {
      state = ((after c b.before).ecb e).state;
      reply_is = (let r = b.follows.reply in cc);
      agrees = λ own. subst (λ (log : List Entry). BlockAgrees c e ((after c b.before).ecb e).state ((waits_from no_waits log).armed e)
          ((kept_of t.number log).extended e)) b.logged
          (block_agrees c e t.number own b.before b.legal);
    }

-- a block that is not extended settles
settles_state : (c : Setup) (n : ℕ) (x : EcbState) (a e : Bool) → BlockAgrees c n x a e → e ≡ false
    → ((ecb_step Settle x).1 ≡ ecb_reply.Open) ⊎ ((code : ℕ) × ((ecb_step Settle x).1 ≡ ecb_reply.Complete code))
settles_state c n Zero a e h plain = inl refl
settles_state c n Waiting a e h plain = inl refl
settles_state c n (Extended y) a e h plain = absurd (false≢true (sym plain ∙ h.0))
settles_state c n (Complete d) a e h plain = inr (d, refl)

-- one that is neither armed nor extended arms
arms_state : (c : Setup) (n : ℕ) (x : EcbState) (a e : Bool) → BlockAgrees c n x a e → a ≡ false → e ≡ false
    → ((ecb_step Arm x).1 ≡ ecb_reply.Armed) ⊎ ((code : ℕ) × ((ecb_step Arm x).1 ≡ ecb_reply.Complete code))
arms_state c n Zero a e h idle plain = inl refl
arms_state c n Waiting a e h idle plain = absurd (false≢true (sym idle ∙ h.0))
arms_state c n (Extended y) a e h idle plain = absurd (false≢true (sym plain ∙ h.0))
arms_state c n (Complete d) a e h idle plain = inr (d, refl)

pub settled_reply : (c : Setup) (t u : CallerFace) (e : ℕ) (reply : Reply) → Happened t (Ecb e) (op_on.Ecb Settle) reply u
    → IsPossible c u.number u.log u.told
    → owner_of c e ≡ t.number → (kept_of t.number t.log).extended e ≡ false
    → (reply ≡ reply_of.Ecb ecb_reply.Open) ⊎ ((code : ℕ) × (reply ≡ reply_of.Ecb (ecb_reply.Complete code)))
settled_reply c t u e reply h p own plain =
    let a = block_answers c t u e Settle reply h p in
    elim (settles_state c e a.state _ _ (a.agrees own) plain) [
      | inl o ↦ inl (a.reply_is ∙ ap (λ r. reply_of.Ecb r) o)
      | inr d ↦ inr (d.0, a.reply_is ∙ ap (λ r. reply_of.Ecb r) d.1)
    ]

pub armed_reply : (c : Setup) (t u : CallerFace) (e : ℕ) (reply : Reply) → Happened t (Ecb e) (op_on.Ecb Arm) reply u
    → IsPossible c u.number u.log u.told
    → owner_of c e ≡ t.number → (waits_from no_waits t.log).armed e ≡ false → (kept_of t.number t.log).extended e ≡ false
    → (reply ≡ reply_of.Ecb ecb_reply.Armed) ⊎ ((code : ℕ) × (reply ≡ reply_of.Ecb (ecb_reply.Complete code)))
armed_reply c t u e reply h p own idle plain =
    let a = block_answers c t u e Arm reply h p in
    elim (arms_state c e a.state _ _ (a.agrees own) idle plain) [
      | inl o ↦ inl (a.reply_is ∙ ap (λ r. reply_of.Ecb r) o)
      | inr d ↦ inr (d.0, a.reply_is ∙ ap (λ r. reply_of.Ecb r) d.1)
    ]

pub says_settled : (reply : Reply) → (reply ≡ reply_of.Ecb ecb_reply.Open)
    ⊎ ((code : ℕ) × (reply ≡ reply_of.Ecb (ecb_reply.Complete code))) → SaysSettled reply
says_settled reply (inl e) = subst SaysSettled (sym e) tt
says_settled reply (inr (code, e)) = subst SaysSettled (sym e) tt

pub says_word : (c : Setup) (t u : CallerFace) (e : ℕ) (op : EcbOp) (reply : Reply) → Happened t (Ecb e) (op_on.Ecb op) reply u
    → IsPossible c u.number u.log u.told
    → ((x : EcbState) → SaysWord (reply_of.Ecb (ecb_step op x).1)) → SaysWord reply
says_word c t u e op reply h p says = let a = block_answers c t u e op reply h p in subst SaysWord (sym a.reply_is) (says a.state)

posts_say : (d : ℕ) (x : EcbState) → SaysPosted (reply_of.Ecb (ecb_step (Post d) x).1)
posts_say d Zero = tt
posts_say d Waiting = tt
posts_say d (Extended y) = tt
posts_say d (Complete c) = tt

pub says_posted : (c : Setup) (t u : CallerFace) (e d : ℕ) (reply : Reply) → Happened t (Ecb e) (op_on.Ecb (Post d)) reply u
    → IsPossible c u.number u.log u.told → SaysPosted reply
says_posted c t u e d reply h p = let a = block_answers c t u e (Post d) reply h p in
    subst SaysPosted (sym a.reply_is) (posts_say d a.state)

pub says_value : (c : Setup) (t u : CallerFace) (v : ℕ) (reply : Reply) → Happened t (Volume v) (op_on.Volume Read) reply u
    → IsPossible c u.number u.log u.told → SaysValue reply
says_value c t u v reply h p =
    let b = made_behind c t u (Volume v) h.0 (op_on.Volume Read) reply h.1 p in
    let is : reply ≡ reply_of.Volume (Value ((after c b.before).volume v).state) = (let r = b.follows.reply in cc) in
    subst SaysValue (sym is) tt

pub says_stored : (c : Setup) (t u : CallerFace) (v m : ℕ) (reply : Reply) → Happened t (Volume v) (op_on.Volume (Write m)) reply u
    → IsPossible c u.number u.log u.told
    → reply ≡ reply_of.Volume Stored
says_stored c t u v m reply h p =
    let b = made_behind c t u (Volume v) h.0 (op_on.Volume (Write m)) reply h.1 p in
    let r = b.follows.reply in cc
