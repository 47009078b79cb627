-- Calls of one event that may be refused, and one that goes by a word.
use Rattle.std.proofs.Common.{◌≡◌, ℕ, ◌<◌, ◌^◌, ◌==◌, ◌&&◌, Bool, true, false, not, List, [], ◌∷◌, length}
use Rattle.std.proofs.Common.{Option, Some, None, Result, Ok, Err, cond, option_map, option_and_then, refl, sym, ap, ◌∙◌, subst}
use Rattle.std.proofs.Common.{arith}
use Rattle.std.proofs.lemmas.Bool.{false≢true, eqb-true, eq-eqb, lt-ltb}
use Rattle.std.specs.Option.{option_or}
use Rattle.mv_ecb.specs.declared.operation.EcbOp.TheVariants.{Clear, Extend, Post}
use Rattle.mv_ecb.specs.declared.operation.EcbReply.TheVariants as ecb_reply
use Rattle.mv_ecb.specs.Table.{ecb_step}
use Rattle.mv_ecb.specs.Word.{EcbState, Zero, Waiting, Extended, Complete}
use Rattle.mv_machine.specs.declared.entry.Entry.{Entry}
use Rattle.mv_machine.specs.declared.entry.Object.{Object}
use Rattle.mv_machine.specs.declared.entry.Object.TheVariants.{Ecb}
use Rattle.mv_machine.specs.declared.entry.Op.{Op}
use Rattle.mv_machine.specs.declared.entry.Op.TheVariants as op_on
use Rattle.mv_machine.specs.declared.entry.Reply.{Reply}
use Rattle.mv_machine.specs.declared.entry.Reply.TheVariants as reply_of
use Rattle.mv_machine.specs.Kept.{allowed}
use Rattle.mv_machine.specs.Parts.{IsPossible}
use Rattle.mv_config.specs.Setup.{Setup, owner_of, is_exit_of}
use Rattle.mv_board.specs.Faces.{CallerFace, Happened, Exchanged}
use Rattle.mv_calls.specs.declared.outcomes.PostAnswer.{PostAnswer}
use Rattle.mv_calls.specs.Keeping.{Kept, kept_of, nothing_kept}
use Rattle.mv_calls.proofs.Making.{kept_caller}
use Rattle.mv_calls.specs.Posts.{posting, try_post, expected_of, is_expected, same_post_reply}
use Rattle.mv_calls.specs.Program.{Program, Do, Done, Wrong, Heard, on_ecb, unless_refused}
use Rattle.mv_calls.specs.Refusal.{Refusal}
use Rattle.mv_calls.specs.Refusal as refusal
use Rattle.mv_calls.specs.Rest.{IsAtRest}
use Rattle.mv_calls.specs.Waits.{refused_if, is_others_block, clear, the_word, extend, extend_refusal, extended}
use Rattle.mv_wait.specs.Posted.{answer_in}
use Rattle.mv_wait.specs.Run.{IsServed}
use Rattle.mv_wait.specs.Says.{SaysExtended}
use Rattle.mv_wait.specs.Single.{extend_reply}
use Rattle.mv_wait.proofs.Answering.{block_answers}
use Rattle.mv_calls.specs.Known.{BlockAgrees}
use Rattle.mv_wait.proofs.OneEvent.{event_served}
use Rattle.mv_wait.proofs.Runs.{heard_of, went_word, serves}
use Rattle.mv_wait.proofs.Steps.{still_at_rest}

-- ---- whose a block is

pub own_is : (c : Setup) (e k : ℕ) (log : List Entry) → is_others_block c (kept_of k log) e ≡ false → owner_of c e ≡ k
own_is c e k log is = eqb-true (owner_of c e) k (go (owner_of c e == k) refl) where
  other : is_others_block c (kept_of k log) e ≡ not (owner_of c e == k)
  other = ap (λ j. not (owner_of c e == j)) (kept_caller (nothing_kept k) log)

  go : (b : Bool) → (owner_of c e == k) ≡ b → (owner_of c e == k) ≡ true
  go true q = q
  go false q = absurd (false≢true (sym is ∙ (other ∙ ap not q)))

-- ---- extend

pub extend_refusal_is : (c : Setup) (e exit : ℕ) (kept : Kept) (a b d : Bool) → is_others_block c kept e ≡ a → is_exit_of c exit e ≡ b
    → kept.extended e ≡ d
    → extend_refusal c e exit kept
    ≡ option_or (refused_if a refusal.NotOwner) (option_or (refused_if (not b) refusal.BadExit) (refused_if d refusal.Extended))
extend_refusal_is c e exit kept a b d p q r =
    (λ i. option_or (refused_if (p i) refusal.NotOwner)
    (option_or (refused_if (not (q i)) refusal.BadExit) (refused_if (r i) refusal.Extended)))

-- what an extend that is not refused was asked
pub record MayExtend (c : Setup) (e exit : ℕ) (kept : Kept) : Type 0 where
  pub own : is_others_block c kept e ≡ false
  pub starts : is_exit_of c exit e ≡ true
  pub plain : kept.extended e ≡ false

pub may_extend : (c : Setup) (e exit : ℕ) (kept : Kept) → extend_refusal c e exit kept ≡ None → MayExtend c e exit kept
may_extend c e exit kept none = go (is_others_block c kept e) (is_exit_of c exit e) (kept.extended e) refl refl refl where
  go : (a b d : Bool) → is_others_block c kept e ≡ a → is_exit_of c exit e ≡ b → kept.extended e ≡ d → MayExtend c e exit kept
  go true b d p q r = absurd (cc (sym (extend_refusal_is c e exit kept true b d p q r) ∙ none))
  go false false d p q r = absurd (cc (sym (extend_refusal_is c e exit kept false false d p q r) ∙ none))
  go false true true p q r = absurd (cc (sym (extend_refusal_is c e exit kept false true true p q r) ∙ none))
  go false true false p q r = record { own = p; starts = q; plain = r }

extends_state : (c : Setup) (n x : ℕ) (s : EcbState) (a e : Bool) → BlockAgrees c n s a e → a ≡ false → e ≡ false
    → SaysExtended (reply_of.Ecb (ecb_step (Extend x) s).1)
extends_state c n x Zero a e h idle plain = tt
extends_state c n x Waiting a e h idle plain = absurd (false≢true (sym idle ∙ h.0))
extends_state c n x (Extended y) a e h idle plain = absurd (false≢true (sym plain ∙ h.0))
extends_state c n x (Complete d) a e h idle plain = tt

pub says_extended : (c : Setup) (t u : CallerFace) (e x : ℕ) (reply : Reply) → Happened t (Ecb e) (op_on.Ecb (Extend x)) reply u
    → IsPossible c u.number u.log u.told
    → owner_of c e ≡ t.number → IsAtRest t.log → (kept_of t.number t.log).extended e ≡ false → SaysExtended reply
says_extended c t u e x reply h p own rest plain =
    let a = block_answers c t u e (Extend x) reply h p in
    subst SaysExtended (sym a.reply_is) (extends_state c e x a.state _ _ (a.agrees own) (rest.armed e) plain)

pub allowed_extend : (c : Setup) (k e exit : ℕ) (log : List Entry) → k < c.callers → e < length c.owners → owner_of c e ≡ k
    → exit < 2 ^ 30 → is_exit_of c exit e ≡ true
    → allowed c k log (Ecb e) (op_on.Ecb (Extend exit)) ≡ true
allowed_extend c k e exit log lt there own few starts =
    rw (lt-ltb k c.callers lt, lt-ltb e (length c.owners) there, eq-eqb (owner_of c e) k own, lt-ltb exit (2 ^ 30) few, starts) refl

-- ---- a post by an exchange

same_twice : (reply : Reply) (a : PostAnswer) → answer_in reply ≡ Some a → same_post_reply reply reply ≡ true
same_twice (reply_of.Ecb ecb_reply.Posted) a is = refl
same_twice (reply_of.Ecb (ecb_reply.Woke x)) a is = eq-eqb x x refl
same_twice (reply_of.Ecb (ecb_reply.Already c)) a is = eq-eqb c c refl
same_twice reply a is = absurd (cc is)

answered : (reply : Reply) (a : PostAnswer) → answer_in reply ≡ Some a → on_ecb reply (posting (λ b. Done b)) ≡ Done a
answered (reply_of.Ecb ecb_reply.Posted) a is = cc is
answered (reply_of.Ecb (ecb_reply.Woke x)) a is = cc is
answered (reply_of.Ecb (ecb_reply.Already c)) a is = cc is
answered reply a is = absurd (cc is)

pub try_post_served : (c : Setup) (e expected code : ℕ) (reply : Reply) (a : PostAnswer) (t u : CallerFace)
    → Exchanged t (Ecb e) (op_on.Ecb (Post code)) expected reply u → answer_in reply ≡ Some a → IsAtRest t.log
    → IsServed 1 (try_post e expected code) (λ b. b ≡ a) t u
try_post_served c e expected code reply a t u x is rest =
    let o : Object = Ecb e in
    let op : Op = op_on.Ecb (Post code) in
    let h = heard_of t o x.place op reply in
    let known : expected_of o op expected ≡ Some (x.place, reply) =
    ap (λ z. option_and_then (λ v. option_map (λ r. (v.0, r)) (Rattle.mv_machine.specs.Packing.reply_in op v.1)) z) x.unpacks
    ∙ ap (λ z. option_map (λ r. (x.place, r)) z) x.replies in
    let same : is_expected same_post_reply (expected_of o op expected) x.place reply ≡ true =
    ap (λ z. is_expected same_post_reply z x.place reply) known ∙ (λ i. (eq-eqb x.place x.place refl i) && (same_twice reply a is i)) in
    serves 1 (try_post e expected code) (λ b. b ≡ a) t u a rest refl
    (record {
      events = h ∷ [];
      went = went_word t o x.place op reply u tt x.happened;
      few = omega arith;
      says = (refl, tt);
      leaves = ap (λ b. cond b (on_ecb reply (posting (λ b. Done b))) Wrong) same ∙ answered reply a is;
    })
    (still_at_rest t u o op reply (x.place, x.happened) (λ w. refl) rest)

-- ---- the calls that may be refused, with their refusal and without

pub clear_stops : (c : Setup) (e : ℕ) (kept : Kept) → is_others_block c kept e ≡ true → clear c e kept ≡ Done (Err refusal.NotOwner)
clear_stops c e kept is = rw is refl

abbrev pub clear_next : Heard → Program (Result ℕ Refusal)
clear_next h = on_ecb h.entry.reply (the_word (λ w. Done (Ok w)))

pub clear_goes : (c : Setup) (e : ℕ) (kept : Kept) → is_others_block c kept e ≡ false
    → clear c e kept ≡ Do (Ecb e) (op_on.Ecb Clear) clear_next
clear_goes c e kept is = rw is refl

abbrev pub extend_next : Heard → Program (Result (Unit {0}) Refusal)
extend_next h = on_ecb h.entry.reply extended

pub extend_stops : (c : Setup) (e exit : ℕ) (kept : Kept) (why : Refusal) → extend_refusal c e exit kept ≡ Some why
    → extend c e exit kept ≡ Done (Err why)
extend_stops c e exit kept why is = ap (λ r. unless_refused r (Do (Ecb e) (op_on.Ecb (Extend exit)) extend_next)) is

pub extend_goes : (c : Setup) (e exit : ℕ) (kept : Kept) → extend_refusal c e exit kept ≡ None
    → extend c e exit kept ≡ Do (Ecb e) (op_on.Ecb (Extend exit)) extend_next
extend_goes c e exit kept is = ap (λ r. unless_refused r (Do (Ecb e) (op_on.Ecb (Extend exit)) extend_next)) is

-- one that is not refused is answered by what its event found
pub extended_served : (c : Setup) (t u : CallerFace) (e exit : ℕ) (reply : Reply) (found : Option ℕ) (a : Result (Unit {0}) Refusal)
    → Happened t (Ecb e) (op_on.Ecb (Extend exit)) reply u → extend_refusal c e exit (kept_of t.number t.log) ≡ None → IsAtRest t.log
    → reply ≡ reply_of.Ecb (extend_reply found) → extended (extend_reply found) ≡ Done a
    → IsServed 1 (extend c e exit) (λ b. b ≡ a) t u
extended_served c t u e exit reply found a h none rest is answers =
    event_served (extend c e exit) (λ b. b ≡ a) t u (Ecb e) (op_on.Ecb (Extend exit)) extend_next reply a tt h
    (extend_goes c e exit (kept_of t.number t.log) none) (λ x r. ap (λ z. on_ecb z extended) (r ∙ is) ∙ answers) (λ w. refl) rest refl
