-- Each next entry passes a block or an element by, or is an event on it.
use Rattle.std.proofs.Common.{ℕ, ◌⊎◌, inl, inr, refl, arith}
use Rattle.std.proofs.lemmas.Bool.{cases_eq, eq-eqb, false≢true}
use Rattle.mv_ecb.specs.declared.operation.EcbOp.{EcbOp}
use Rattle.mv_ecb.specs.declared.operation.EcbReply.{EcbReply}
use Rattle.mv_ecb.specs.Table.{ecb_step}
use Rattle.mv_ecb.specs.Word.{EcbState}
use Rattle.mv_element.specs.declared.operation.ElementOp.{ElementOp}
use Rattle.mv_element.specs.declared.operation.ElementReply.{ElementReply}
use Rattle.mv_element.specs.declared.element.ElementState.{ElementState}
use Rattle.mv_element.specs.Table.{element_step}
use Rattle.mv_machine.specs.declared.entry.Object.{Object}
use Rattle.mv_machine.specs.declared.entry.Object.TheVariants.{Ecb, Element, Volume, Latches}
use Rattle.mv_machine.specs.declared.entry.Op.{Op}
use Rattle.mv_machine.specs.declared.entry.Op.TheVariants as op_on
use Rattle.mv_machine.specs.declared.entry.Reply.{Reply}
use Rattle.mv_machine.specs.declared.entry.Reply.TheVariants as reply_of
use Rattle.mv_machine.specs.declared.entry.Entry.{Entry}
use Rattle.mv_machine.specs.Elements.{as_element_event}
use Rattle.mv_machine.specs.Legal.{IsNext}
use Rattle.mv_machine.specs.OnePost.{as_ecb_event}
use Rattle.mv_config.specs.Setup.{Setup}
use Rattle.mv_machine.specs.System.{System}
use Rattle.mv_machine.proofs.EntryRuns.{entry_of}
use Rattle.mv_machine.proofs.OneObject.{Table, Subject, PassesBy, HappensAt}

-- what an event does to a block, whoever makes it and wherever it stands
abbrev pub ecb_table : Table EcbOp EcbReply EcbState
ecb_table k p op s = ecb_step op s

-- and to an element
abbrev pub element_table : Table ElementOp ElementReply ElementState
element_table k p op s = element_step op s

-- a block of the machine
abbrev pub block : ℕ → Subject EcbOp EcbReply EcbState
block n = record { table = ecb_table; object = Ecb n; cell = λ s. s.ecb n; on = λ op. op_on.Ecb op; as_event = as_ecb_event n }

-- an element of it
abbrev pub element : ℕ → Subject ElementOp ElementReply ElementState
element n = record {
  table = element_table;
  object = Element n;
  cell = λ s. s.element n;
  on = λ op. op_on.Element op;
  as_event = as_element_event n;
}

-- a block, by the parts of the entry
at_block : (c : Setup) (s : System) (n k : ℕ) (o : Object) (p : ℕ) (op : Op) (r : Reply) → IsNext c s (entry_of k o p op r)
    → PassesBy (block n) s (entry_of k o p op r) ⊎ HappensAt (block n) s (entry_of k o p op r)
at_block c s n k (Ecb m) p (op_on.Ecb op) (reply_of.Ecb r) h = elim (cases_eq m n) [
  | inl same ↦ inr (record {
    event = record { caller = k; place = p; op = op; reply = r };
    is = grind arith;
    op = refl;
    there = eq-eqb m n same;
    answered = record { place = grind arith; reply = grind arith };
    after = grind arith;
  })
  | inr other ↦ inl (record { none = grind arith; kept = grind arith })
]
at_block c s n k (Ecb m) p (op_on.Ecb op) r h = absurd (cc h.reply)
at_block c s n k (Element m) p (op_on.Element op) r h = inl (record { none = refl; kept = refl })
at_block c s n k (Volume m) p (op_on.Volume op) r h = inl (record { none = refl; kept = refl })
at_block c s n k Latches p (op_on.Latch op) r h = inl (record { none = refl; kept = refl })
at_block c s n k o p op r h = absurd (false≢true h.admits)

-- an element, likewise
at_element : (c : Setup) (s : System) (n k : ℕ) (o : Object) (p : ℕ) (op : Op) (r : Reply) → IsNext c s (entry_of k o p op r)
    → PassesBy (element n) s (entry_of k o p op r) ⊎ HappensAt (element n) s (entry_of k o p op r)
at_element c s n k (Element m) p (op_on.Element op) (reply_of.Element r) h = elim (cases_eq m n) [
  | inl same ↦ inr (record {
    event = record { caller = k; place = p; op = op; reply = r };
    is = grind arith;
    op = refl;
    there = eq-eqb m n same;
    answered = record { place = grind arith; reply = grind arith };
    after = grind arith;
  })
  | inr other ↦ inl (record { none = grind arith; kept = grind arith })
]
at_element c s n k (Element m) p (op_on.Element op) r h = absurd (cc h.reply)
at_element c s n k (Ecb m) p (op_on.Ecb op) r h = inl (record { none = refl; kept = refl })
at_element c s n k (Volume m) p (op_on.Volume op) r h = inl (record { none = refl; kept = refl })
at_element c s n k Latches p (op_on.Latch op) r h = inl (record { none = refl; kept = refl })
at_element c s n k o p op r h = absurd (false≢true h.admits)

-- each next entry at a block
pub block_meets : (c : Setup) (n : ℕ) (s : System) (e : Entry) → IsNext c s e → PassesBy (block n) s e ⊎ HappensAt (block n) s e
block_meets c n s e h = at_block c s n e.caller e.object e.place e.op e.reply h

-- and at an element
pub element_meets : (c : Setup) (n : ℕ) (s : System) (e : Entry) → IsNext c s e → PassesBy (element n) s e ⊎ HappensAt (element n) s e
element_meets c n s e h = at_element c s n e.caller e.object e.place e.op e.reply h
