-- The first entry of a list that is not the machine's or has another call number.
use Rattle.std.proofs.Common.{◌≡◌, ℕ, zero, suc, ◌+◌, ◌<◌, ◌≤◌, List, [], ◌∷◌, ◌++◌, length, take, Option, Some, None}
use Rattle.std.proofs.Common.{refl, sym, ap, ◌∙◌, arith, inl, inr}
use Rattle.std.proofs.lemmas.Bool.{cases_order}
use Rattle.std.proofs.lemmas.List.{take-take, take_at, take_all, length-append, same_from_push}
use Rattle.mv_machine.specs.declared.entry.Entry.{Entry}
use Rattle.mv_machine.specs.Legal.{Legal}
use Rattle.mv_config.specs.Setup.{Setup}
use Rattle.mv_calls.specs.Numbers.{calls}
use Rattle.mv_calls.proofs.call_numbers.Prefixes.{calls-take, legal_take}
use Rattle.mv_operationtext.specs.declared.version.Version.{Version}
use Rattle.mv_operationtext.specs.declared.version.Version.TheVariants.{One, Two}
use Rattle.mv_entrytext.specs.Fault.{AreCallsIn}
use Rattle.mv_entrytext.specs.Lines.{with_call}
use Rattle.mv_replay.specs.Judgement.{calls_in, AreRight, IsFirstWrong}

-- ---- a front of what is right is right

-- nothing has no front but itself
take_none : (k : ℕ) → take {A = ℕ} k [] ≡ []
take_none zero = refl
take_none (suc k) = refl

-- the numbers of a front are a front of the numbers
calls_in-take : (v : Version) (c : Setup) (k : ℕ) (es : List Entry) → calls_in v c (take k es) ≡ take k (calls_in v c es)
calls_in-take One c k es = sym (take_none k)
calls_in-take Two c k es = calls-take c k es

-- so a front of entries that are right is right
pub right_front : (v : Version) (c : Setup) (es : List Entry) (ns : List ℕ) (k : ℕ) → AreRight v c es ns
    → AreRight v c (take k es) (take k ns)
right_front v c es ns k r = record {
  legal = legal_take c k es r.legal;
  numbers = ap (λ (x : List ℕ). take k x) r.numbers ∙ sym (calls_in-take v c k es);
}

-- a number is one
some_number : (k j : ℕ) → Some k ≡ Some j → j ≡ k
some_number k j e = cc

-- ---- there is one first

-- what is right up to a place is right with each entry before it
right_below : (v : Version) (c : Setup) (es : List Entry) (ns : List ℕ) (i j : ℕ) → i < j → AreRight v c (take j es) (take j ns)
    → AreRight v c (take (suc i) es) (take (suc i) ns)
right_below v c es ns i j lt r =
    let le : suc i ≤ j = omega arith in
    let front = right_front v c (take j es) (take j ns) (suc i) r in
    rw (take-take (suc i) j es le, take-take (suc i) j ns le) at front

-- two firsts are one
pub one_first : (v : Version) (c : Setup) (es : List Entry) (ns : List ℕ) (i j : ℕ) → IsFirstWrong v c es ns i → IsFirstWrong v c es ns j
    → i ≡ j
one_first v c es ns i j p q = elim (cases_order i j) [
  | inl e ↦ e
  | inr rest ↦ elim rest [
    | inl lt ↦ absurd (p.bad (right_below v c es ns i j lt q.good))
    | inr lt ↦ absurd (q.bad (right_below v c es ns j i lt p.good))
  ]
]

-- where all is right there is none
pub not_first : (v : Version) (c : Setup) (es : List Entry) (ns : List ℕ) (i : ℕ) → AreRight v c es ns → IsFirstWrong v c es ns i → ⊥
not_first v c es ns i r w = w.bad (right_front v c es ns (suc i) r)

-- ---- one entry more

-- a front of a front
front_same : {A : Type 0} (i n : ℕ) (xs ys : List A) → take n ys ≡ xs → i ≤ n → take i ys ≡ take i xs
front_same {A = A} i n xs ys e le = sym (take-take i n ys le) ∙ ap (λ (x : List A). take i x) e

-- the entries before the last
entries_front : (es : List Entry) (e : Entry) → take (length es) (es ++ e ∷ []) ≡ es
entries_front es e = take_at es (e ∷ []) (length es) refl

-- and their numbers
numbers_front : (v : Version) (es : List Entry) (ns : List ℕ) (told : Option ℕ) (e : Entry) → AreCallsIn v es ns
    → AreCallsIn v (es ++ e ∷ []) (with_call told ns) → take (length es) (with_call told ns) ≡ ns
numbers_front One es ns told e before now =
    ap (λ (x : List ℕ). take (length es) x) now ∙ take_none (length es) ∙ sym before
numbers_front Two es ns None e before now = absurd (omega (arith, before.one_each, now.one_each, length-append es (e ∷ [])))
numbers_front Two es ns (Some k) e before now = take_at ns (k ∷ []) (length es) before.one_each

-- all numbers there are
numbers_all : (v : Version) (es : List Entry) (ns : List ℕ) → AreCallsIn v es ns → (n : ℕ) → length es ≤ n → take n ns ≡ ns
numbers_all One es ns h n le = ap (λ (x : List ℕ). take n x) h ∙ take_none n ∙ sym h
numbers_all Two es ns h n le = take_all n ns (omega (arith, h.one_each, le))

-- what is wrong stays so
pub still_wrong : (v : Version) (c : Setup) (es : List Entry) (ns : List ℕ) (told : Option ℕ) (e : Entry) (i : ℕ) → AreCallsIn v es ns
    → AreCallsIn v (es ++ e ∷ []) (with_call told ns) → IsFirstWrong v c es ns i → IsFirstWrong v c (es ++ e ∷ []) (with_call told ns) i
still_wrong v c es ns told e i before now w =
    let all : List Entry = es ++ e ∷ [] in
    let numbers : List ℕ = with_call told ns in
    let within : i < length es = w.within in
    let front = entries_front es e in
    let those = numbers_front v es ns told e before now in
    record {
      within = omega (arith, within, length-append es (e ∷ []));
      good = rw (
        front_same i (length es) es all front (omega (arith, within)),
        front_same i (length es) ns numbers those (omega (arith, within)),
      ) w.good;
      bad = rw (
        front_same (suc i) (length es) es all front (omega (arith, within)),
        front_same (suc i) (length es) ns numbers those (omega (arith, within)),
      ) w.bad;
    }

-- what is not right with one more is wrong there
pub wrong_now : (v : Version) (c : Setup) (es : List Entry) (ns : List ℕ) (told : Option ℕ) (e : Entry) → AreCallsIn v es ns
    → AreCallsIn v (es ++ e ∷ []) (with_call told ns) → AreRight v c es ns → (AreRight v c (es ++ e ∷ []) (with_call told ns) → ⊥)
    → IsFirstWrong v c (es ++ e ∷ []) (with_call told ns) (length es)
wrong_now v c es ns told e before now right other =
    let all : List Entry = es ++ e ∷ [] in
    let long : length all ≡ length es + 1 = length-append es (e ∷ []) in
    record {
      within = omega (arith, long);
      good = rw (entries_front es e, numbers_front v es ns told e before now) right;
      bad = rw (
        take_all (suc (length es)) all (omega (arith, long)),
        numbers_all v all (with_call told ns) now (suc (length es)) (omega (arith, long)),
      ) other;
    }

-- an entry that is legal behind the others is right with its number
pub right_now : (v : Version) (c : Setup) (es : List Entry) (ns : List ℕ) (told : Option ℕ) (e : Entry) (n : ℕ)
    → AreCallsIn v (es ++ e ∷ []) (with_call told ns) → AreCallsIn v es ns → AreRight v c es ns → Legal c (es ++ e ∷ [])
    → calls c (es ++ e ∷ []) ≡ calls c es ++ n ∷ [] → ((k : ℕ) → told ≡ Some k → k ≡ n)
    → AreRight v c (es ++ e ∷ []) (with_call told ns)
right_now One c es ns told e n now before right l number same = record { legal = l; numbers = now }
right_now Two c es ns None e n now before right l number same =
    absurd (omega (arith, before.one_each, now.one_each, length-append es (e ∷ [])))
right_now Two c es ns (Some k) e n now before right l number same = record {
  legal = l;
  numbers = ap (λ (x : List ℕ). x ++ k ∷ []) right.numbers ∙ ap (λ (x : ℕ). calls c es ++ x ∷ []) (same k refl) ∙ sym number;
}

-- and with another it is not
pub not_right : (v : Version) (c : Setup) (es : List Entry) (ns : List ℕ) (told : Option ℕ) (e : Entry) (n : ℕ)
    → AreCallsIn v (es ++ e ∷ []) (with_call told ns) → AreCallsIn v es ns → calls c (es ++ e ∷ []) ≡ calls c es ++ n ∷ []
    → (((k : ℕ) → told ≡ Some k → k ≡ n) → ⊥) → AreRight v c (es ++ e ∷ []) (with_call told ns) → ⊥
not_right One c es ns None e n now before number other r = other (λ k is. absurd cc)
not_right One c es ns (Some k) e n now before number other r =
    absurd (omega (arith, ap (λ (x : List ℕ). length x) now, length-append ns (k ∷ [])))
not_right Two c es ns None e n now before number other r =
    absurd (omega (arith, before.one_each, now.one_each, length-append es (e ∷ [])))
not_right Two c es ns (Some k) e n now before number other r =
    let same = same_from_push ns (calls c es) k n (r.numbers ∙ number) in
    other (λ j is. some_number k j is ∙ same.1)
