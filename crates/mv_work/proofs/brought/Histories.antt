-- What a run gives for each initiator's own entries: they are plain, and codes are given to initiators alone.
use Rattle.std.proofs.Common.{◌≡◌, ℕ, ◌<◌, ◌==◌, List, [], ◌∷◌, ◌++◌, Option, Some, None, inl, inr, ◌⊎◌, refl, sym, ap, ◌∙◌, subst}
use Rattle.std.proofs.Common.{append_assoc}
use Rattle.std.specs.List.{AllByRecursion}
use Rattle.std.proofs.lemmas.Bool.{cases_eq}
use Rattle.std.proofs.lemmas.List.Elements.{filter-append}
use Rattle.mv_latch.specs.declared.operation.Wake.{Wake}
use Rattle.mv_machine.specs.declared.entry.Entry.{Entry}
use Rattle.mv_machine.specs.declared.entry.Object.{Object}
use Rattle.mv_machine.specs.declared.entry.Op.{Op}
use Rattle.mv_machine.specs.Legal.{IsNext, LegalFrom, next, of}
use Rattle.mv_config.specs.Setup.{Setup}
use Rattle.mv_machine.specs.System.{System}
use Rattle.mv_machine.specs.Told.{told}
use Rattle.mv_calls.specs.Program.{noted, entries, wakes_then}
use Rattle.mv_calls.specs.Runs.{heard_in}
use Rattle.mv_machine.proofs.Places.{of_mine, of_other}
use Rattle.mv_deck.specs.Deck.{JobData}
use Rattle.mv_plan.specs.CountingAlone.{ScansAreSteady}
use Rattle.mv_plan.specs.HandingOut.{gift_code}
use Rattle.mv_plan.specs.SpoolSetup.{initiator}
use Rattle.mv_plan.proofs.points.Asks.{IsNoPause, no_gift, reader_no_pause, scheduler_no_pause, writer_no_pause}
use Rattle.mv_plan.proofs.points.Points.{reader_asks, scheduler_asks, writer_asks}
use Rattle.mv_plan.proofs.walks.Walks.{Points, Move, WalkTo, reads, schedules, initiates, writes}
use Rattle.mv_work.proofs.brought.Brings.{ArePlain, Past, TellsTheSame, then_told}

-- ---- a caller's entries

entries_noted : (es : List Entry) (told : List (List Wake)) → entries (noted es told) ≡ es
entries_noted [] told = refl
entries_noted (e ∷ es) told = ap (λ z. e ∷ z) (entries_noted es (wakes_then e.object e.op told))

-- what a caller hears is of its own entries
pub entries_heard : (c : Setup) (k : ℕ) (es : List Entry) → entries (heard_in c k es) ≡ of k es
entries_heard c k es = entries_noted (of k es) (told c k es)

-- ---- each is plain

-- these entries end in one of the caller, and those of others behind it
pub record LastOf (k : ℕ) (seen : List Entry) (once : Entry) : Type 0 where
  pub before : List Entry
  pub between : List Entry
  pub all : seen ≡ before ++ once ∷ between
  pub none : of k between ≡ []
  pub own : once.caller ≡ k

abbrev pub LastIs : ℕ → List Entry → Option Entry → Type 0
LastIs k seen None = Unit {0}
LastIs k seen (Some once) = LastOf k seen once

module _ (c : Setup) (k : ℕ) (all : List Entry) (steady : ScansAreSteady all) where
  tells_the_same : (seen es : List Entry) (e : Entry) (last : Option Entry) → all ≡ seen ++ e ∷ es → e.caller ≡ k → LastIs k seen last
      → TellsTheSame last e
  tells_the_same seen es e None split own l = tt
  tells_the_same seen es e (Some once) split own l = λ v once_on once_op again_on again_op. steady l.before l.between es once e v
      (split ∙ ap (λ z. z ++ e ∷ es) l.all ∙ append_assoc l.before (once ∷ l.between) (e ∷ es)) once_on once_op again_on again_op
      (l.own ∙ sym own) (subst (λ n. of n l.between ≡ []) (sym own) l.none)

  -- another's entry is behind it
  still_last : (seen : List Entry) (e : Entry) (last : Option Entry) → (e.caller ≡ k → ⊥) → LastIs k seen last
      → LastIs k (seen ++ e ∷ []) last
  still_last seen e None other l = tt
  still_last seen e (Some once) other l = record {
    before = l.before;
    between = l.between ++ e ∷ [];
    all = ap (λ z. z ++ e ∷ []) l.all ∙ append_assoc l.before (once ∷ l.between) (e ∷ []);
    none = filter-append (λ (x : Entry). x.caller == k) l.between (e ∷ []) ∙ ap (λ z. z ++ of k (e ∷ [])) l.none ∙ of_other k e [] other;
    own = l.own;
  }

  pub plain_from : (s : System) (seen es : List Entry) (p : Past) → all ≡ seen ++ es → LegalFrom c s es → LastIs k seen p.last
      → ArePlain p (of k es)
  plain_from s seen [] p split legal l = tt
  plain_from s seen (e ∷ es) p split legal l = go (cases_eq e.caller k) (λ q behind. plain_from (next s e) (seen ++ e ∷ []) es q
      (split ∙ sym (append_assoc seen (e ∷ []) es)) legal.1 behind) where
        go : (e.caller ≡ k) ⊎ (e.caller ≡ k → ⊥) → ((q : Past) → LastIs k (seen ++ e ∷ []) q.last → ArePlain q (of k es))
            → ArePlain p (of k (e ∷ es))
        go (inl own) later = subst (λ l. ArePlain p l) (sym (of_mine k e es own)) (
          (λ free. no_gift s e.caller e.object e.op e.reply legal.0.reply free, tells_the_same seen es e p.last split own l),
          later (then_told p e) (record { before = seen; between = []; all = refl; none = refl; own = own }),
        )
        go (inr other) later = subst (λ l. ArePlain p l) (sym (of_other k e es other)) (later p (still_last seen e p.last other l))

-- ---- who is given a code

-- an initiator is, where any is
abbrev pub GivesInitiators : ℕ → Entry → Type 0
GivesInitiators initiators e = (code : ℕ) → gift_code e.reply ≡ Some code → (i : ℕ) × (i < initiators) × (e.caller ≡ initiator i)

-- an event that is no pause gives none
no_code : (c : Setup) (s : System) (initiators : ℕ) (e : Entry) (o : Object) (op : Op) → IsNext c s e → e.object ≡ o → e.op ≡ op
    → IsNoPause o op → GivesInitiators initiators e
no_code c s initiators e o op n same_o same_op free code q =
    let none : gift_code e.reply ≡ None =
    no_gift s e.caller e.object e.op e.reply n.reply
    (subst (λ z. IsNoPause e.object z) (sym same_op) (subst (λ z. IsNoPause z op) (sym same_o) free)) in
    absurd (cc (sym none ∙ q))

one_given : (c : Setup) (deck : List JobData) (initiators : ℕ) (s : System) (t u : Points) (e : Entry) → IsNext c s e
    → Move deck initiators t e u → GivesInitiators initiators e
one_given c deck initiators s t u e n (reads x k at o op moved) =
    no_code c s initiators e (reader_asks x).0 (reader_asks x).1 n o op (reader_no_pause x)
one_given c deck initiators s t u e n (schedules x k at o op moved) =
    no_code c s initiators e (scheduler_asks _ x).0 (scheduler_asks _ x).1 n o op (scheduler_no_pause _ x)
one_given c deck initiators s t u e n (initiates i x lt k at o op moved) = λ code q. (i, lt, k)
one_given c deck initiators s t u e n (writes x k at o op moved) =
    no_code c s initiators e (writer_asks x).0 (writer_asks x).1 n o op (writer_no_pause x)

pub all_given : (c : Setup) (deck : List JobData) (initiators : ℕ) (s : System) (t : Points) (es : List Entry) (u : Points)
    → WalkTo c deck initiators s t es u → AllByRecursion (GivesInitiators initiators) es
all_given c deck initiators s t [] u w = tt
all_given c deck initiators s t (e ∷ es) u w =
    (one_given c deck initiators s t w.0 e w.1 w.2, all_given c deck initiators (next s e) w.0 es u w.3)
