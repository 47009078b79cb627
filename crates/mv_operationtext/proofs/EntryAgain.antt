-- An entry that is written is read again.
use Rattle.std.proofs.Common.{◌≡◌, ℕ, ◌≤◌, true, List, [], ◌∷◌, ◌++◌, Option, Some, None, decimal, refl, sym, ap, ◌∙◌, arith, append_assoc}
use Rattle.std.specs.Prelude.{codes}
use Rattle.mv_machine.specs.declared.entry.Object.{Object}
use Rattle.mv_machine.specs.declared.entry.Object.TheVariants.{Ecb, Element, Volume, Latches}
use Rattle.mv_machine.specs.declared.entry.Op.{Op}
use Rattle.mv_machine.specs.declared.entry.Op.TheVariants as op_on
use Rattle.mv_machine.specs.declared.entry.Reply.{Reply}
use Rattle.mv_machine.specs.declared.entry.Reply.TheVariants as reply_of
use Rattle.mv_machine.specs.declared.entry.Entry.{Entry}
use Rattle.mv_config.specs.Limits.{highest_place}
use Rattle.mv_operationtext.specs.Words.{◌<+>◌}
use Rattle.mv_operationtext.specs.Ranges.{highest_u32}
use Rattle.mv_operationtext.specs.Reading.{Reader, behind, after, number, any_u32, parted}
use Rattle.mv_operationtext.specs.EcbText.{ecb_op, ecb_reply, ecb_op_text, ecb_reply_text}
use Rattle.mv_operationtext.specs.ElementText.{element_op, element_reply, element_op_text, element_reply_text}
use Rattle.mv_operationtext.specs.VolumeText.{volume_op, volume_reply, volume_op_text, volume_reply_text}
use Rattle.mv_operationtext.specs.LatchText.{latch_op, latch_reply, latch_op_text, latch_reply_text}
use Rattle.mv_operationtext.specs.declared.version.Version.{Version}
use Rattle.mv_operationtext.specs.declared.version.Version.TheVariants.{One, Two}
use Rattle.mv_operationtext.specs.EntryText.{caller_text, caller_read, object_text, op_text, reply_text, entry_text, IsEventInRange}
use Rattle.mv_operationtext.specs.EntryText.{IsObjectTyped, IsOpTyped, IsReplyTyped, HasText, object_read, deed, deed_on, entry_of, entry_on}
use Rattle.mv_operationtext.specs.EntryText.{entry_read}
use Rattle.mv_operationtext.proofs.Numbers.{Ends, number_again, u32_again, parted_again, parted_at_again}
use Rattle.mv_operationtext.proofs.OneCallNumber.{IsCallIn}
use Rattle.mv_operationtext.proofs.Again.{ecb_op_again, ecb_reply_again, element_op_again, element_reply_again, volume_op_again}
use Rattle.mv_operationtext.proofs.Again.{volume_reply_again, latch_op_again, latch_reply_again}

object_again : (o : Object) (rest : List ℕ) → IsObjectTyped o → Ends rest → object_read true (object_text o ++ rest) ≡ Some (o, rest)
unfolding object_read behind after
object_again (Ecb n) rest t e = rw (u32_again n rest t e) refl
object_again (Element n) rest t e = rw (u32_again n rest t e) refl
object_again (Volume n) rest t e = rw (u32_again n rest t e) refl
object_again Latches rest t e = refl

-- an operation and a reply, where each is read again
deed_again : {O R : Type 0} (op_reader : Reader O) (reply_reader : Reader R) (op : O) (r : R) (op_is reply_is : List ℕ)
    → ((rest : List ℕ) → Ends rest → op_reader (op_is ++ rest) ≡ Some (op, rest)) → reply_reader (reply_is ++ []) ≡ Some (r, [])
    → deed op_reader reply_reader ((op_is <+> codes "=" <+> reply_is) ++ []) ≡ Some ((op, r), [])
deed_again op_reader reply_reader op r op_is reply_is one two =
    parted_at_again (codes " = ") op_reader (λ _. reply_reader) op r op_is reply_is [] (one (codes " = " ++ (reply_is ++ [])) refl) two

deed_on_again : (o : Object) (op : Op) (r : Reply) → IsEventInRange o op r → IsOpTyped op → IsReplyTyped r
    → deed_on true o ((op_text op <+> codes "=" <+> reply_text r) ++ []) ≡ Some ((op, r), [])
deed_on_again (Ecb n) (op_on.Ecb op) (reply_of.Ecb r) h to tr =
    rw (deed_again (ecb_op true) (ecb_reply true) op r (ecb_op_text op) (ecb_reply_text r) (λ rest e. ecb_op_again op rest h.0 e)
    (ecb_reply_again r [] h.1 tr refl)) refl
deed_on_again (Element n) (op_on.Element op) (reply_of.Element r) h to tr =
    rw (deed_again (element_op true) (element_reply true) op r (element_op_text op) (element_reply_text r)
    (λ rest e. element_op_again op rest h.0 to e) (element_reply_again r [] h.1 refl)) refl
deed_on_again (Volume n) (op_on.Volume op) (reply_of.Volume r) h to tr =
    rw (deed_again (volume_op true) (volume_reply true) op r (volume_op_text op) (volume_reply_text r)
    (λ rest e. volume_op_again op rest to e) (volume_reply_again r [] tr refl)) refl
deed_on_again Latches (op_on.Latch op) (reply_of.Latch r) h to tr =
    rw (deed_again (latch_op true) (latch_reply true) op r (latch_op_text op) (latch_reply_text r)
    (λ rest e. latch_op_again op rest to e) (latch_reply_again r [] tr refl)) refl
deed_on_again o op r h to tr = absurd h

entry_on_again : (caller : ℕ) (o : Object) (place : ℕ) (op : Op) (r : Reply) → place ≤ highest_place → IsEventInRange o op r → IsOpTyped op
    → IsReplyTyped r
    → entry_on true caller o ((decimal place <+> op_text op <+> codes "=" <+> reply_text r) ++ []) ≡ Some (entry_of caller o place op r, [])
entry_on_again caller o place op r le h to tr =
    let said = op_text op <+> codes "=" <+> reply_text r in
    rw (parted_again (number true 0 highest_place) (λ _. deed_on true o) place (op, r) (decimal place) said []
    (number_again 0 highest_place place (32 ∷ (said ++ [])) (omega arith) le (omega arith) refl) (deed_on_again o op r h to tr)) refl

-- a caller, and the number of its call in version 2
caller_again : (v : Version) (k : ℕ) (call : Option ℕ) (rest : List ℕ) → k ≤ highest_u32 → IsCallIn v call
    → caller_read true v (caller_text k call ++ 32 ∷ rest) ≡ Some ((k, call), 32 ∷ rest)
unfolding caller_read
caller_again One k None rest le m = rw (u32_again k (32 ∷ rest) le refl) refl
caller_again One k (Some n) rest le m = absurd m
caller_again Two k None rest le m = absurd m
caller_again Two k (Some n) rest le m =
    let both = parted_at_again (codes ".") (any_u32 true) (λ caller. any_u32 true) k n (decimal k) (decimal n) (32 ∷ rest)
    (u32_again k (46 ∷ (decimal n ++ 32 ∷ rest)) le refl) (u32_again n (32 ∷ rest) m refl) in
    rw both refl

pub entry_again : (v : Version) (call : Option ℕ) (e : Entry) → HasText e → IsCallIn v call
    → entry_read true v (entry_text call e ++ []) ≡ Some ((call, e), [])
unfolding entry_read entry_text
entry_again v call e h m =
    let who = caller_text e.caller call in
    let more = decimal e.place <+> op_text e.op <+> codes "=" <+> reply_text e.reply in
    let last = 32 ∷ (more ++ []) in
    let front = parted_again (caller_read true v) (λ _. object_read true) (e.caller, call) e.object who (object_text e.object) last
    (caller_again v e.caller call (object_text e.object ++ last) h.1.caller m) (object_again e.object last h.1.object refl) in
    let regrouped : who <+> object_text e.object <+> more ≡ (who <+> object_text e.object) <+> more =
    sym (append_assoc who (32 ∷ object_text e.object) (32 ∷ more)) in
    let all = parted_again (parted (caller_read true v) (object_read true)) (λ x. entry_on true x.0.0 x.1) ((e.caller, call), e.object) e
    (who <+> object_text e.object) more [] front
    (entry_on_again e.caller e.object e.place e.op e.reply h.0.place h.0.event h.1.op h.1.reply) in
    ap (λ (t : List ℕ). entry_read true v (t ++ [])) regrouped ∙ rw all refl
