-- The codes that the replies of blocks name.
use Rattle.std.proofs.Common.{◌≡◌, List, [], ◌∷◌, ◌++◌, ℕ, sym, subst, arith}
use Rattle.std.proofs.lemmas.Bool.{false≢true}
use Rattle.mv_ecb.specs.declared.operation.EcbOp.{EcbOp}
use Rattle.mv_ecb.specs.Table.{ecb_step}
use Rattle.mv_ecb.specs.Word.{EcbState}
use Rattle.mv_element.specs.Table.{element_step}
use Rattle.mv_latch.specs.LatchSet.{latch_step}
use Rattle.mv_latch.specs.declared.operation.Wake.{Wake}
use Rattle.mv_machine.specs.declared.entry.Entry.{Entry}
use Rattle.mv_machine.specs.declared.entry.Object.{Object}
use Rattle.mv_machine.specs.declared.entry.Object.TheVariants.{Ecb, Element, Volume, Latches}
use Rattle.mv_machine.specs.declared.entry.Op.{Op}
use Rattle.mv_machine.specs.declared.entry.Op.TheVariants as op_on
use Rattle.mv_machine.specs.declared.entry.Reply.{Reply}
use Rattle.mv_machine.specs.declared.entry.Reply.TheVariants as reply_of
use Rattle.mv_machine.specs.Legal.{IsNext, Legal, after}
use Rattle.mv_machine.specs.Packing.{IsBlock}
use Rattle.mv_machine.specs.Parts.{IsPossible}
use Rattle.mv_machine.specs.Replies.{NamesLowCode}
use Rattle.mv_config.specs.Setup.{Setup}
use Rattle.mv_machine.specs.System.{System, opening, volume_step}
use Rattle.mv_machine.proofs.EntryRuns.{entry_of}
use Rattle.mv_machine.proofs.Histories.{LegalFrom-front, LegalFrom-rest}
use Rattle.mv_machine.proofs.Words.{numbers_after}
use Rattle.mv_calls.proofs.Behind.{last_is_behind}

-- a block whose code is low names it
block_names : (op : EcbOp) (x : EcbState) → IsBlock x → NamesLowCode (reply_of.Ecb (ecb_step op x).1)
block_names op x low = grind arith

named : (c : Setup) (s : System) (k : ℕ) (o : Object) (p : ℕ) (op : Op) (r : Reply) → IsNext c s (entry_of k o p op r)
    → ((n : ℕ) → IsBlock (s.ecb n).state) → NamesLowCode r
named c s k (Ecb n) p (op_on.Ecb op) r h low =
    let is : r ≡ reply_of.Ecb (ecb_step op (s.ecb n).state).1 = (let q = h.reply in cc) in
    subst NamesLowCode (sym is) (block_names op (s.ecb n).state (low n))
named c s k (Element n) p (op_on.Element op) r h low =
    let is : r ≡ reply_of.Element (element_step op (s.element n).state).1 = (let q = h.reply in cc) in subst NamesLowCode (sym is) tt
named c s k (Volume n) p (op_on.Volume op) r h low =
    let is : r ≡ reply_of.Volume (volume_step op (s.volume n).state).1 = (let q = h.reply in cc) in subst NamesLowCode (sym is) tt
named c s k Latches p (op_on.Latch op) r h low =
    let is : r ≡ reply_of.Latch (latch_step k s.latches.place op s.latches.state).1 = (let q = h.reply in cc) in
    subst NamesLowCode (sym is) tt
named c s k o p op r h low = absurd (false≢true h.admits)

-- the next event of a legal list, each entry of one, and the last of a possible log
next_names_low : (c : Setup) (es : List Entry) (e : Entry) → Legal c es → IsNext c (after c es) e → NamesLowCode e.reply
next_names_low c es e l h = named c (after c es) e.caller e.object e.place e.op e.reply h (numbers_after c es l).blocks

pub each_names_low : (c : Setup) (xs ys : List Entry) (e : Entry) → Legal c (xs ++ e ∷ ys) → NamesLowCode e.reply
each_names_low c xs ys e l =
    next_names_low c xs e (LegalFrom-front c (opening c) xs (e ∷ ys) l) (LegalFrom-rest c (opening c) xs (e ∷ ys) l).0

pub possible_names_low : (c : Setup) (k : ℕ) (log : List Entry) (e : Entry) (shown : List (List Wake))
    → IsPossible c k (log ++ e ∷ []) shown → NamesLowCode e.reply
possible_names_low c k log e shown p = let b = last_is_behind c k log e shown p in next_names_low c b.before e b.legal b.follows
