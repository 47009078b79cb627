-- An input has one explanation: a journal has one verdict.
use Rattle.std.proofs.Common.{◌≡◌, ℕ, zero, suc, ◌+◌, ◌-◌, ◌<◌, List, [], ◌∷◌, ◌++◌, length, take, drop, slice_get, Option, Some, None}
use Rattle.std.proofs.Common.{refl, sym, ap, ◌∙◌, arith, inl, inr}
use Rattle.std.proofs.Math.Seq.{take-append_seam, drop-append_seam, take-append-add}
use Rattle.std.proofs.lemmas.Bool.{cases_lt, cases_order}
use Rattle.std.proofs.lemmas.List.{take-take}
use Rattle.std.proofs.lemmas.Option.{same_Some}
use Rattle.mv_line.specs.declared.fault.TextFault.{TextFault}
use Rattle.mv_machine.specs.declared.entry.Entry.{Entry}
use Rattle.mv_machine.specs.declared.replaying.Illegal.{Illegal}
use Rattle.mv_machine.specs.Legal.{Legal, after_from}
use Rattle.mv_machine.specs.Replay.{IsFirstIllegal}
use Rattle.mv_config.specs.Setup.{Setup}
use Rattle.mv_machine.specs.System.{answer, opening}
use Rattle.mv_machine.proofs.Replays.{not_legal}
use Rattle.mv_calls.specs.CallsReplay.{IsFirstNumber}
use Rattle.mv_calls.specs.Numbers.{calls}
use Rattle.mv_calls.proofs.call_numbers.Prefixes.{calls-take}
use Rattle.mv_calls.proofs.call_numbers.Refused.{front_is_legal}
use Rattle.mv_operationtext.specs.declared.version.Version.{Version}
use Rattle.mv_entrytext.specs.Fault.{text_fault}
use Rattle.mv_entrytext.specs.Journal.{first_line}
use Rattle.mv_operationtext.specs.Version.{number_of}
use Rattle.mv_entrytext.proofs.LinesAgain.{no_fault, one_journal}
use Rattle.mv_explain.specs.declared.judging.Verdict.{Verdict}
use Rattle.mv_explain.specs.declared.judging.Verdict.TheVariants as verdict
use Rattle.mv_explain.specs.declared.subject.Subject.{Subject}
use Rattle.mv_explain.specs.declared.subject.Subject.TheVariants.{Nothing, Deck, Script, Journal, Other}
use Rattle.mv_explain.specs.Explained.{IsExplainedAs}
use Rattle.mv_explain.specs.Journal.{IsFaultSo, IsJournalExplained, IsJudgedSo, before_text, fault_of_journal_text, illegal_at}
use Rattle.mv_explain.specs.Journal.{illegal_text, verdict_text}
use Rattle.mv_explain.specs.Judged.{IsVerdict}

-- ---- the first illegal event

-- a list, by the place where it is parted
parts : (es before later : List Entry) (e : Entry) (k : ℕ) → es ≡ before ++ e ∷ later → k ≡ length before
    → (take k es ≡ before) × (drop k es ≡ e ∷ later)
parts es before later e k split at =
    let front : take k es ≡ before =
    ap (λ (xs : List Entry). take k xs) split ∙ ap (λ (n : ℕ). take n (before ++ e ∷ later)) at ∙ take-append_seam before (e ∷ later) in
    let rest : drop k es ≡ e ∷ later =
    ap (λ (xs : List Entry). drop k xs) split ∙ ap (λ (n : ℕ). drop n (before ++ e ∷ later)) at ∙ drop-append_seam before (e ∷ later) in
    (front, rest)

-- the first event of a list
head_same : (e f : Entry) (es fs : List Entry) → e ∷ es ≡ f ∷ fs → e ≡ f
head_same e f es fs same = cc

-- at one place the machine answers one thing
same_answer : (c : Setup) (es : List Entry) (i j : Illegal) → IsFirstIllegal c (opening c) es i → IsFirstIllegal c (opening c) es j
    → i.index ≡ j.index → i.machine ≡ j.machine
same_answer c es i j p q at =
    let a = parts es p.before p.later p.entry i.index p.split p.index in
    let b = parts es q.before q.later q.entry j.index q.split q.index in
    let before : p.before ≡ q.before = sym a.0 ∙ ap (λ (k : ℕ). take k es) at ∙ b.0 in
    let rest : p.entry ∷ p.later ≡ q.entry ∷ q.later = sym a.1 ∙ ap (λ (k : ℕ). drop k es) at ∙ b.1 in
    let entry : p.entry ≡ q.entry = head_same p.entry q.entry p.later q.later rest in
    p.machine ∙ ap (λ (e : Entry). answer c (after_from (opening c) p.before) e.caller e.object e.op) entry
    ∙ ap (λ (xs : List Entry). answer c (after_from (opening c) xs) q.entry.caller q.entry.object q.entry.op) before ∙ sym q.machine

-- what is said of one place and one answer
same_text : (bytes : List ℕ) (c : Setup) (first : ℕ) (es : List Entry) (i j : Illegal) (x : Option Entry) → i.index ≡ j.index
    → i.machine ≡ j.machine → illegal_at bytes c first es i x ≡ illegal_at bytes c first es j x
same_text bytes c first es i j None at machine = refl
same_text bytes c first es i j (Some e) at machine =
    λ k. illegal_text bytes (first + at k) e (machine k) ++ before_text c first es (at k) e

-- the events up to it and further are not legal
past_illegal : (c : Setup) (es : List Entry) (i : Illegal) (n : ℕ) → IsFirstIllegal c (opening c) es i → i.index < n → Legal c (take n es)
    → ⊥
past_illegal c es i n w lt legal =
    let at : i.index ≡ length w.before = w.index in
    let more : ℕ = n - suc (length w.before) in
    let far : n ≡ length w.before + suc more = omega (arith, lt, at) in
    not_legal c (opening c) (take n es) i (record {
      before = w.before;
      entry = w.entry;
      later = take more w.later;
      split = ap (λ (xs : List Entry). take n xs) w.split ∙ ap (λ (k : ℕ). take k (w.before ++ w.entry ∷ w.later)) far
          ∙ take-append-add w.before (w.entry ∷ w.later) (suc more);
      index = w.index;
      legal = w.legal;
      kept = w.kept;
      machine = w.machine;
      differs = w.differs;
    }) legal

-- so there is one
one_illegal : (c : Setup) (es : List Entry) (i j : Illegal) → IsFirstIllegal c (opening c) es i → IsFirstIllegal c (opening c) es j
    → i.index ≡ j.index
one_illegal c es i j p q = elim (cases_order i.index j.index) [
  | inl e ↦ e
  | inr rest ↦ elim rest [
    | inl lt ↦ absurd (past_illegal c es i j.index p lt (front_is_legal c es j q))
    | inr lt ↦ absurd (past_illegal c es j i.index q lt (front_is_legal c es i p))
  ]
]

-- ---- the first call number that is wrong

-- a number in a front is that of the list
in_front : (xs : List ℕ) (n k : ℕ) → k < n → slice_get (take n xs) k ≡ slice_get xs k
in_front xs zero k lt = absurd (omega (arith, lt))
in_front [] (suc n) k lt = refl
in_front (x ∷ xs) (suc n) zero lt = refl
in_front (x ∷ xs) (suc n) (suc k) lt = in_front xs n k (omega (arith, lt))

-- up to a wrong number all are right
right_before : (c : Setup) (es : List Entry) (ns : List ℕ) (k x y : ℕ) → IsFirstNumber c es ns k x y → take k ns ≡ calls c (take k es)
right_before c es ns k x y w =
    w.other.same ∙ sym (calls-take c k (take (k + 1) es)) ∙ ap (λ (xs : List Entry). calls c xs) (take-take k (k + 1) es (omega arith))

-- the number of the machine
machine_number : (c : Setup) (es : List Entry) (ns : List ℕ) (k x y : ℕ) → IsFirstNumber c es ns k x y
    → slice_get (calls c es) k ≡ Some y
machine_number c es ns k x y w =
    sym (in_front (calls c es) (k + 1) k (omega arith)) ∙ ap (λ (xs : List ℕ). slice_get xs k) (sym (calls-take c (k + 1) es))
    ∙ w.other.other

-- where numbers are right, none of them is wrong
not_wrong : (c : Setup) (es : List Entry) (ns : List ℕ) (n k x y : ℕ) → k < n → take n ns ≡ calls c (take n es)
    → IsFirstNumber c es ns k x y → ⊥
not_wrong c es ns n k x y lt right w =
    w.other.differs (same_Some x y (sym w.other.one ∙ sym (in_front ns n k lt) ∙ ap (λ (xs : List ℕ). slice_get xs k) right
    ∙ ap (λ (xs : List ℕ). slice_get xs k) (calls-take c n es) ∙ in_front (calls c es) n k lt ∙ machine_number c es ns k x y w))

-- so there is one first
one_wrong : (c : Setup) (es : List Entry) (ns : List ℕ) (k x y l u v : ℕ) → IsFirstNumber c es ns k x y → IsFirstNumber c es ns l u v
    → k ≡ l
one_wrong c es ns k x y l u v p q = elim (cases_order k l) [
  | inl e ↦ e
  | inr rest ↦ elim rest [
    | inl lt ↦ absurd (not_wrong c es ns l k x y lt (right_before c es ns l u v q) p)
    | inr lt ↦ absurd (not_wrong c es ns k l u v lt (right_before c es ns k x y p) q)
  ]
]

-- which the event has, and which the machine
one_kept : (c : Setup) (es : List Entry) (ns : List ℕ) (k x y l u v : ℕ) → IsFirstNumber c es ns k x y → IsFirstNumber c es ns l u v
    → k ≡ l → x ≡ u
one_kept c es ns k x y l u v p q at =
    same_Some x u (sym p.other.one ∙ ap (λ (n : ℕ). slice_get ns n) at ∙ q.other.one)

one_machine : (c : Setup) (es : List Entry) (ns : List ℕ) (k x y l u v : ℕ) → IsFirstNumber c es ns k x y → IsFirstNumber c es ns l u v
    → k ≡ l → y ≡ v
one_machine c es ns k x y l u v p q at =
    same_Some y v (sym (machine_number c es ns k x y p) ∙ ap (λ (n : ℕ). slice_get (calls c es) n) at ∙ machine_number c es ns l u v q)

-- ---- the verdict

-- events that are legal with their numbers have no wrong number
legal_numbers : (c : Setup) (es : List Entry) (ns : List ℕ) (k x y : ℕ) → ns ≡ calls c es → IsFirstNumber c es ns k x y → ⊥
legal_numbers c es ns k x y right w =
    not_wrong c es ns (k + 1) k x y (omega arith)
    (ap (λ (xs : List ℕ). take (k + 1) xs) right ∙ sym (calls-take c (k + 1) es)) w

-- the first event that is wrong is illegal or has a wrong number, and not both
not_both : (c : Setup) (es : List Entry) (ns : List ℕ) (i : Illegal) (k x y : ℕ) → IsFirstIllegal c (opening c) es i
    → take i.index ns ≡ calls c (take i.index es) → IsFirstNumber c es ns k x y → ⊥
not_both c es ns i k x y p right w = elim (cases_lt k i.index) [
  | inl lt ↦ not_wrong c es ns i.index k x y lt right w
  | inr ge ↦ past_illegal c es i (k + 1) p (omega (arith, ge)) w.legal
]

-- so what is said by two verdicts is one text
one_verdict : (bytes : List ℕ) (first version : ℕ) (c : Setup) (es : List Entry) (ns : List ℕ) (v w : Verdict)
    → IsVerdict version c es ns v → IsVerdict version c es ns w → verdict_text bytes c first es v ≡ verdict_text bytes c first es w
one_verdict bytes first version c es ns verdict.Legal verdict.Legal p q = refl
one_verdict bytes first version c es ns verdict.Legal (verdict.Illegal j) p q = absurd (not_legal c (opening c) es j q.0 p.0)
one_verdict bytes first version c es ns verdict.Legal (verdict.Misnumbered l u v) p q =
    absurd (legal_numbers c es ns l u v (p.1 q.0) q.1)
one_verdict bytes first version c es ns (verdict.Illegal i) verdict.Legal p q = absurd (not_legal c (opening c) es i p.0 q.0)
one_verdict bytes first version c es ns (verdict.Illegal i) (verdict.Illegal j) p q =
    let at : i.index ≡ j.index = one_illegal c es i j p.0 q.0 in
    ap (λ (k : ℕ). illegal_at bytes c first es i (slice_get es k)) at
    ∙ same_text bytes c first es i j (slice_get es j.index) at (same_answer c es i j p.0 q.0 at)
one_verdict bytes first version c es ns (verdict.Illegal i) (verdict.Misnumbered l u v) p q =
    absurd (not_both c es ns i l u v p.0 (p.1 q.0) q.1)
one_verdict bytes first version c es ns (verdict.Misnumbered k x y) verdict.Legal p q =
    absurd (legal_numbers c es ns k x y (q.1 p.0) p.1)
one_verdict bytes first version c es ns (verdict.Misnumbered k x y) (verdict.Illegal j) p q =
    absurd (not_both c es ns j k x y q.0 (q.1 p.0) p.1)
one_verdict bytes first version c es ns (verdict.Misnumbered k x y) (verdict.Misnumbered l u v) p q =
    let at : k ≡ l = one_wrong c es ns k x y l u v p.1 q.1 in
    let kept : x ≡ u = one_kept c es ns k x y l u v p.1 q.1 at in
    let machine : y ≡ v = one_machine c es ns k x y l u v p.1 q.1 at in
    ap (λ (n : ℕ). verdict_text bytes c first es (verdict.Misnumbered n x y)) at
    ∙ ap (λ (n : ℕ). verdict_text bytes c first es (verdict.Misnumbered l n y)) kept
    ∙ ap (λ (n : ℕ). verdict_text bytes c first es (verdict.Misnumbered l u n)) machine

-- ---- a journal

-- one that was judged has no fault
judged_is_sound : (bytes s : List ℕ) → IsJudgedSo bytes s → text_fault bytes ≡ None
judged_is_sound bytes s a = ap text_fault a.read.text ∙ no_fault a.read.version a.setup a.entries a.calls a.journal a.read.calls

not_faulty : (bytes s t : List ℕ) → IsFaultSo bytes s → IsJudgedSo bytes t → ⊥
not_faulty bytes s t a b =
    let both : None ≡ Some a.fault = sym (judged_is_sound bytes t b) ∙ a.first in
    absurd cc

-- what is said of a fault
one_fault : (bytes s t : List ℕ) → IsFaultSo bytes s → IsFaultSo bytes t → s ≡ t
one_fault bytes s t a b =
    a.written ∙ ap (λ (f : TextFault). fault_of_journal_text bytes f) (same_Some a.fault b.fault (sym a.first ∙ b.first)) ∙ sym b.written

-- and of events
one_judgement : (bytes s t : List ℕ) → IsJudgedSo bytes s → IsJudgedSo bytes t → s ≡ t
one_judgement bytes s t a b =
    let same = one_journal a.read.version b.read.version a.setup b.setup a.entries b.entries a.calls b.calls a.journal a.read.calls b.journal
    b.read.calls (sym a.read.text ∙ b.read.text) in
    let version : a.version ≡ b.version = a.read.number ∙ ap (λ (x : Version). number_of x) same.0 ∙ sym b.read.number in
    let judged : IsVerdict b.version b.setup b.entries b.calls a.verdict = rw (← version, ← same.1, ← same.2, ← same.3) a.judged in
    a.written ∙ ap (λ (d : Setup). verdict_text bytes d (first_line d) a.entries a.verdict) same.1
    ∙ ap (λ (es : List Entry). verdict_text bytes b.setup (first_line b.setup) es a.verdict) same.2
    ∙ one_verdict bytes (first_line b.setup) b.version b.setup b.entries b.calls a.verdict b.verdict judged b.judged ∙ sym b.written

one_of_journal : (bytes s t : List ℕ) → IsJournalExplained bytes s → IsJournalExplained bytes t → s ≡ t
one_of_journal bytes s t (inl a) (inl b) = one_fault bytes s t a b
one_of_journal bytes s t (inl a) (inr b) = absurd (not_faulty bytes s t a b)
one_of_journal bytes s t (inr a) (inl b) = absurd (not_faulty bytes t s b a)
one_of_journal bytes s t (inr a) (inr b) = one_judgement bytes s t a b

-- ---- any input

pub one_explanation : (x : Subject) (bytes s t : List ℕ) → IsExplainedAs x bytes s → IsExplainedAs x bytes t → s ≡ t
one_explanation Nothing bytes s t a b = a ∙ sym b
one_explanation Deck bytes s t a b = a ∙ sym b
one_explanation Script bytes s t a b = a ∙ sym b
one_explanation Journal bytes s t a b = one_of_journal bytes s t a b
one_explanation Other bytes s t a b = a ∙ sym b
