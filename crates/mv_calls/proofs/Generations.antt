-- The generations that replies name.
use Rattle.std.proofs.Common.{◌≡◌, ℕ, ◌+◌, ◌≤◌, ◌<◌, List, [], ◌∷◌, ◌++◌, length, refl, sym, ap, subst, arith, length-append}
use Rattle.std.proofs.lemmas.Bool.{false≢true}
use Rattle.mv_element.specs.declared.element.ElementState.{ElementState}
use Rattle.mv_element.specs.declared.operation.ElementOp.{ElementOp}
use Rattle.mv_element.specs.declared.operation.ElementOp.TheVariants as element_op
use Rattle.mv_element.specs.Table.{element_step}
use Rattle.mv_machine.specs.declared.entry.Entry.{Entry}
use Rattle.mv_machine.specs.declared.entry.Object.{Object}
use Rattle.mv_machine.specs.declared.entry.Object.TheVariants.{Ecb, Element, Volume, Latches}
use Rattle.mv_machine.specs.declared.entry.Op.{Op}
use Rattle.mv_machine.specs.declared.entry.Op.TheVariants as op_on
use Rattle.mv_machine.specs.declared.entry.Reply.{Reply}
use Rattle.mv_machine.specs.declared.entry.Reply.TheVariants as reply_of
use Rattle.mv_machine.specs.Legal.{IsNext, Legal, after}
use Rattle.mv_config.specs.Setup.{Setup}
use Rattle.mv_machine.specs.System.{System, moved, advanced, opening}
use Rattle.mv_machine.proofs.Budgets.{no_high_generation}
use Rattle.mv_machine.proofs.EntryRuns.{entry_of}
use Rattle.mv_machine.proofs.Histories.{with_at-same, LegalFrom-front, LegalFrom-rest}
use Rattle.mv_machine.proofs.Longer.{legal_longer, after_longer}
use Rattle.mv_machine.specs.Replies.{NamesUpTo}

-- a reply names the generation before the event or the one after it
names_either : (op : ElementOp) (x : ElementState) (most : ℕ) → x.generation ≤ most → (element_step op x).0.generation ≤ most
    → NamesUpTo most (reply_of.Element (element_step op x).1)
names_either element_op.Open x most before after = grind arith
names_either (element_op.Pause g) x most before after = grind arith
names_either (element_op.Resume g) x most before after = grind arith
names_either (element_op.Release g d) x most before after = grind arith
names_either (element_op.Close g) x most before after = grind arith
names_either element_op.Test x most before after = before

-- a reply names a generation that an element has before or after it
named : (c : Setup) (s : System) (k : ℕ) (o : Object) (p : ℕ) (op : Op) (r : Reply) (most : ℕ) → IsNext c s (entry_of k o p op r)
    → ((n : ℕ) → (s.element n).state.generation ≤ most) → ((n : ℕ) → ((moved s k o op).element n).state.generation ≤ most)
    → NamesUpTo most r
named c s k (Element n) p (op_on.Element op) r most h before after =
    let is : r ≡ reply_of.Element (element_step op (s.element n).state).1 = (let q = h.reply in cc) in
    let now : (element_step op (s.element n).state).0.generation ≤ most =
    subst (λ (z : ℕ). z ≤ most) (ap (λ (z : Rattle.mv_machine.specs.System.Cell ElementState). z.state.generation)
    (with_at-same s.element n (advanced (s.element n) (element_step op (s.element n).state).0) n refl)) (after n) in
    subst (NamesUpTo most) (sym is) (names_either op (s.element n).state most (before n) now)
named c s k (Ecb n) p (op_on.Ecb op) r most h before after =
    let is : r ≡ reply_of.Ecb (Rattle.mv_ecb.specs.Table.ecb_step op (s.ecb n).state).1 = (let q = h.reply in cc) in
    subst (NamesUpTo most) (sym is) tt
named c s k (Volume n) p (op_on.Volume op) r most h before after =
    let is : r ≡ reply_of.Volume (Rattle.mv_machine.specs.System.volume_step op (s.volume n).state).1 = (let q = h.reply in cc) in
    subst (NamesUpTo most) (sym is) tt
named c s k Latches p (op_on.Latch op) r most h before after =
    let is : r ≡ reply_of.Latch (Rattle.mv_latch.specs.LatchSet.latch_step k s.latches.place op s.latches.state).1 =
    (let q = h.reply in cc) in
    subst (NamesUpTo most) (sym is) tt
named c s k o p op r most h before after = absurd (false≢true h.admits)

-- so within the budgets none is too high
pub next_names : (c : Setup) (es : List Entry) (e : Entry) → Legal c es → IsNext c (after c es) e → length es < 524287
    → NamesUpTo 262143 e.reply
next_names c es e l h few =
    let longer : length (es ++ e ∷ []) ≡ length es + 1 = length-append es (e ∷ []) in
    named c (after c es) e.caller e.object e.place e.op e.reply 262143 h
    (λ n. no_high_generation c es n l (omega arith))
    (λ n. subst (λ (s : System). (s.element n).state.generation ≤ 262143) (after_longer c es e)
    (no_high_generation c (es ++ e ∷ []) n (legal_longer c es e l h) (omega arith)))

-- in no entry of a legal list
pub each_names : (c : Setup) (xs ys : List Entry) (e : Entry) → Legal c (xs ++ e ∷ ys) → length (xs ++ e ∷ ys) ≤ 524287
    → NamesUpTo 262143 e.reply
each_names c xs ys e l few =
    let size : length (xs ++ e ∷ ys) ≡ length xs + length (e ∷ ys) = length-append xs (e ∷ ys) in
    next_names c xs e (LegalFrom-front c (opening c) xs (e ∷ ys) l) (LegalFrom-rest c (opening c) xs (e ∷ ys) l).0 (omega arith)
