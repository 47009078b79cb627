-- Of each job there is one record: the one code that names it was given to one initiator, who brought one record for it.
use Rattle.std.proofs.Common.{◌≡◌, ℕ, zero, suc, ◌+◌, ◌<◌, ◌≤◌, ◌==◌, List, [], ◌∷◌, ◌++◌, length, map, filter, get_or, flat_map, Option}
use Rattle.std.proofs.Common.{Some, None, inl, inr, ◌⊎◌, refl, sym, ap, ◌∙◌, subst, append-nil, arith}
use Rattle.std.specs.List.{AllByRecursion}
use Rattle.std.proofs.lemmas.Bool.{cases_eq, eq-eqb, ne_eqb}
use Rattle.std.proofs.lemmas.List.Elements.{filter-append}
use Rattle.mv_machine.specs.declared.entry.Entry.{Entry}
use Rattle.mv_machine.specs.Legal.{of}
use Rattle.mv_machine.proofs.Places.{of_mine, of_other}
use Rattle.mv_deck.specs.Deck.{JobData}
use Rattle.mv_deck.specs.EndCode.{not_run}
use Rattle.mv_plan.specs.HandingOut.{gift_code, naming, given_codes}
use Rattle.mv_plan.specs.SpoolSetup.{initiator}
use Rattle.mv_plan.specs.SpoolTasks.{not_to_run}
use Rattle.mv_plan.proofs.deck.Ends.{naming_own, naming_other, naming_zero}
use Rattle.mv_plan.proofs.volumes.Totals.{with_code, codes_of}
use Rattle.mv_work.specs.Records.{JobRecord}
use Rattle.mv_work.proofs.brought.Histories.{GivesInitiators}
use Rattle.mv_work.proofs.brought.Rounds.{AreRounds, IsOwn, code_named}

-- ---- codes that name a job

-- those of these codes that name job j
abbrev named_codes : ℕ → List ℕ → List ℕ
named_codes j [] = []
named_codes j (code ∷ codes) = with_code (naming j (Some code)) (named_codes j codes)

given-step : (j : ℕ) (e : Entry) (es : List Entry)
    → given_codes j (e ∷ es) ≡ with_code (naming j (gift_code e.reply)) (given_codes j es)
given-step j e es = go (naming j (gift_code e.reply)) refl where
  go : (slot : Option ℕ) → naming j (gift_code e.reply) ≡ slot → given_codes j (e ∷ es) ≡ with_code slot (given_codes j es)
  go None q = rw q refl
  go (Some code) q = rw q refl

given_named : (j : ℕ) (es : List Entry) → given_codes j es ≡ named_codes j (codes_of es)
given_named j [] = refl
given_named j (e ∷ es) = given-step j e es ∙ go (gift_code e.reply) (given_named j es) where
  go : (slot : Option ℕ) → given_codes j es ≡ named_codes j (codes_of es)
      → with_code (naming j slot) (given_codes j es) ≡ named_codes j (with_code slot (codes_of es))
  go None rest = rest
  go (Some code) rest = ap (with_code (naming j (Some code))) rest

-- the records of job j
abbrev pub about : ℕ → List JobRecord → List JobRecord
about j records = filter (λ r. r.job == j) records

pub about_own : (j : ℕ) (r : JobRecord) (records : List JobRecord) → r.job ≡ j → about j (r ∷ records) ≡ r ∷ about j records
about_own j r records e = rw (eq-eqb r.job j e) refl

pub about_other : (j : ℕ) (r : JobRecord) (records : List JobRecord) → (r.job ≡ j → ⊥) → about j (r ∷ records) ≡ about j records
about_other j r records d = rw (ne_eqb r.job j d) refl

-- the codes that name job j, of those that came with records, are those of its records
codes_about : (deck : List JobData) (j : ℕ) → length deck ≤ not_to_run → j < length deck → (records : List JobRecord)
    → AllByRecursion (IsOwn deck) records → named_codes j (map code_named records ++ 0 ∷ []) ≡ map code_named (about j records)
codes_about deck j few lt [] own = ap (λ slot. with_code slot []) (naming_zero j)
codes_about deck j few lt (r ∷ records) own = go (cases_eq r.job j) (codes_about deck j few lt records own.1) where
  go : (r.job ≡ j) ⊎ (r.job ≡ j → ⊥) → named_codes j (map code_named records ++ 0 ∷ []) ≡ map code_named (about j records)
      → named_codes j (map code_named (r ∷ records) ++ 0 ∷ []) ≡ map code_named (about j (r ∷ records))
  go (inl e) rest =
      ap (λ slot. with_code slot (named_codes j (map code_named records ++ 0 ∷ [])))
      (subst (λ k. naming k (Some (code_named r)) ≡ Some (code_named r)) e (naming_own r.job (r.end == not_run)))
      ∙ ap (λ z. code_named r ∷ z) rest ∙ ap (map code_named) (sym (about_own j r records e))
  go (inr d) rest =
      ap (λ slot. with_code slot (named_codes j (map code_named records ++ 0 ∷ [])))
      (naming_other (length deck) j r.job (r.end == not_run) few lt own.0.job d)
      ∙ rest ∙ ap (map code_named) (sym (about_other j r records d))

-- ---- the one initiator that is given a code of job j

-- an entry that gives no code of the job gives its caller none
silent : (j k : ℕ) (x : Entry) (es : List Entry) → naming j (gift_code x.reply) ≡ None
    → given_codes j (of k (x ∷ es)) ≡ given_codes j (of k es)
silent j k x es q = go (cases_eq x.caller k) where
  go : (x.caller ≡ k) ⊎ (x.caller ≡ k → ⊥) → given_codes j (of k (x ∷ es)) ≡ given_codes j (of k es)
  go (inl own) = ap (given_codes j) (of_mine k x es own) ∙ given-step j x (of k es) ∙ ap (λ s. with_code s (given_codes j (of k es))) q
  go (inr other) = ap (given_codes j) (of_other k x es other)

-- a caller is given no code where nobody is
none_given : (j k : ℕ) (es : List Entry) → given_codes j es ≡ [] → given_codes j (of k es) ≡ []
none_given j k [] e = refl
none_given j k (x ∷ es) e = go (naming j (gift_code x.reply)) refl (none_given j k es) where
  go : (slot : Option ℕ) → naming j (gift_code x.reply) ≡ slot → (given_codes j es ≡ [] → given_codes j (of k es) ≡ [])
      → given_codes j (of k (x ∷ es)) ≡ []
  go (Some n) q later = absurd (cc (sym (given-step j x es ∙ ap (λ s. with_code s (given_codes j es)) q) ∙ e))
  go None q later = silent j k x es q ∙ later (sym (given-step j x es ∙ ap (λ s. with_code s (given_codes j es)) q) ∙ e)

naming_some : (j : ℕ) (slot : Option ℕ) (code : ℕ) → naming j slot ≡ Some code → (n : ℕ) × (slot ≡ Some n)
naming_some j None code e = absurd (cc e)
naming_some j (Some n) code e = (n, refl)

record OneGiven (initiators j code : ℕ) (es : List Entry) : Type 0 where
  who : ℕ
  low : who < initiators
  here : given_codes j (of (initiator who) es) ≡ code ∷ []
  others : (m : ℕ) → (who ≡ m → ⊥) → given_codes j (of (initiator m) es) ≡ []

one_given : (initiators j code : ℕ) (es : List Entry) → given_codes j es ≡ code ∷ [] → AllByRecursion (GivesInitiators initiators) es
    → OneGiven initiators j code es
one_given initiators j code [] e all = absurd (cc e)
one_given initiators j code (x ∷ es) e all = go (naming j (gift_code x.reply)) refl (one_given initiators j code es) where
  go : (slot : Option ℕ) → naming j (gift_code x.reply) ≡ slot
      → (given_codes j es ≡ code ∷ [] → AllByRecursion (GivesInitiators initiators) es → OneGiven initiators j code es)
      → OneGiven initiators j code (x ∷ es)
  go None q later =
      let r : OneGiven initiators j code es = later (sym (given-step j x es ∙ ap (λ s. with_code s (given_codes j es)) q) ∙ e) all.1 in
      record {
        who = r.who;
        low = r.low;
        here = silent j (initiator r.who) x es q ∙ r.here;
        others = λ m other. silent j (initiator m) x es q ∙ r.others m other;
      }
  go (Some n) q later =
      let both : n ∷ given_codes j es ≡ code ∷ [] = sym (given-step j x es ∙ ap (λ s. with_code s (given_codes j es)) q) ∙ e in
      let same : n ≡ code = cc both in
      let none : given_codes j es ≡ [] = cc both in
      let given : (n : ℕ) × (gift_code x.reply ≡ Some n) = naming_some j (gift_code x.reply) n q in
      let i : (i : ℕ) × (i < initiators) × (x.caller ≡ initiator i) = all.0 given.0 given.1 in
      record {
        who = i.0;
        low = i.1;
        here = ap (given_codes j) (of_mine (initiator i.0) x es i.2) ∙ given-step j x (of (initiator i.0) es)
            ∙ ap (λ s. with_code s (given_codes j (of (initiator i.0) es))) q ∙ ap (λ z. n ∷ z) (none_given j (initiator i.0) es none)
            ∙ ap (λ z. z ∷ []) same;
        others = λ m other. ap (given_codes j) (of_other (initiator m) x es (λ q. other (two_less (sym i.2 ∙ q))))
            ∙ none_given j (initiator m) es none;
      } where
        two_less : {a b : ℕ} → a + 2 ≡ b + 2 → a ≡ b
        two_less e = omega arith

-- ---- the records of all

-- the list of a member
abbrev pub list_at : List (List JobRecord) → ℕ → List JobRecord
list_at records i = get_or records i []

-- where one list alone has records of a job, all lists together have these
one_list : (j i : ℕ) (records : List (List JobRecord)) (found : List JobRecord) → i < length records
    → about j (list_at records i) ≡ found → ((m : ℕ) → m < length records → (i ≡ m → ⊥) → about j (list_at records m) ≡ [])
    → about j (flat_map (λ rs. rs) records) ≡ found
one_list j i [] found lt here others = absurd (omega arith)
one_list j zero (rs ∷ records) found lt here others =
    filter-append (λ (r : JobRecord). r.job == j) rs (flat_map (λ rs. rs) records)
    ∙ ap (λ z. z ++ about j (flat_map (λ rs. rs) records)) here
    ∙ ap (λ z. found ++ z) (none records (λ m less. others (suc m) (omega arith) (λ e. absurd (omega arith))))
    ∙ append-nil found where
      none : (ls : List (List JobRecord)) → ((m : ℕ) → m < length ls → about j (list_at ls m) ≡ [])
          → about j (flat_map (λ rs. rs) ls) ≡ []
      none [] each = refl
      none (l ∷ ls) each =
          filter-append (λ (r : JobRecord). r.job == j) l (flat_map (λ rs. rs) ls)
          ∙ ap (λ z. z ++ about j (flat_map (λ rs. rs) ls)) (each 0 (omega arith))
          ∙ none ls (λ m less. each (suc m) (omega arith))
one_list j (suc i) (rs ∷ records) found lt here others =
    filter-append (λ (r : JobRecord). r.job == j) rs (flat_map (λ rs. rs) records)
    ∙ ap (λ z. z ++ about j (flat_map (λ rs. rs) records)) (others 0 (omega arith) (λ e. absurd (omega arith)))
    ∙ one_list j i records found (omega arith) here (λ m less d. others (suc m) (omega arith) (λ e. d (omega arith)))

-- one record whose code this is
pub record OneAbout (j code : ℕ) (records : List JobRecord) : Type 0 where
  pub found : JobRecord
  pub alone : about j records ≡ found ∷ []
  pub named : code_named found ≡ code

one_coded : (code : ℕ) (rs : List JobRecord) → map code_named rs ≡ code ∷ []
    → (r : JobRecord) × (rs ≡ r ∷ []) × (code_named r ≡ code)
one_coded code [] e = absurd (cc e)
one_coded code (r ∷ []) e = (r, refl, cc e)
one_coded code (r ∷ q ∷ rs) e = absurd (cc e)

none_coded : (rs : List JobRecord) → map code_named rs ≡ [] → rs ≡ []
none_coded [] e = refl
none_coded (r ∷ rs) e = absurd (cc e)

-- Each initiator's records are right, and come with the codes that it was given; so of a job whose code was given once there is
-- one record.
pub one_record : (deck : List JobData) (initiators : ℕ) (es : List Entry) (records : List (List JobRecord)) (j code : ℕ)
    → length deck ≤ not_to_run → j < length deck → given_codes j es ≡ code ∷ [] → AllByRecursion (GivesInitiators initiators) es
    → length records ≡ initiators
    → ((i : ℕ) → i < initiators → AreRounds deck (codes_of (of (initiator i) es)) (list_at records i))
    → OneAbout j code (flat_map (λ rs. rs) records)
one_record deck initiators es records j code few lt given all count each = record {
  found = one.0;
  alone = one_list j given_to.who records (one.0 ∷ []) (let c = count in let l = given_to.low in omega arith) one.1 others;
  named = one.2;
} where
  given_to : OneGiven initiators j code es
  given_to = one_given initiators j code es given all

  about_is : (m : ℕ) → m < initiators → map code_named (about j (list_at records m)) ≡ given_codes j (of (initiator m) es)
  about_is m less =
      sym (codes_about deck j few lt (list_at records m) (each m less).1)
      ∙ ap (named_codes j) (sym (each m less).0)
      ∙ sym (given_named j (of (initiator m) es))

  one : (r : JobRecord) × (about j (list_at records given_to.who) ≡ r ∷ []) × (code_named r ≡ code)
  one = one_coded code (about j (list_at records given_to.who)) (about_is given_to.who given_to.low ∙ given_to.here)

  others : (m : ℕ) → m < length records → (given_to.who ≡ m → ⊥) → about j (list_at records m) ≡ []
  others m less other = none_coded (about j (list_at records m))
      (about_is m (let c = count in omega arith) ∙ given_to.others m other)
