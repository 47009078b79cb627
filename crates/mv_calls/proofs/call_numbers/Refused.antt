-- Why a list with call numbers is refused, by its legal front.
use Rattle.std.proofs.Common.{◌≡◌, ℕ, ◌+◌, ◌<◌, List, [], ◌∷◌, ◌++◌, length, take, drop, slice_get, get_or, Some, subst, refl}
use Rattle.std.proofs.Common.{sym, ap, ◌∙◌, arith}
use Rattle.std.proofs.lemmas.List.{take-take, take_more, take-append-drop, append_assoc, length-take-le, length-append}
use Rattle.std.proofs.Math.Seq.{take-append_seam}
use Rattle.std.proofs.lemmas.Option.{slice_get-get_or}
use Rattle.mv_machine.specs.declared.entry.Entry.{Entry}
use Rattle.mv_machine.specs.declared.replaying.Illegal.{Illegal}
use Rattle.mv_machine.specs.Legal.{Legal, LegalFrom}
use Rattle.mv_machine.specs.Replay.{IsFirstIllegal}
use Rattle.mv_config.specs.Setup.{Setup}
use Rattle.mv_machine.specs.System.{System, opening}
use Rattle.mv_machine.proofs.Replays.{not_legal}
use Rattle.mv_calls.proofs.call_numbers.Judged.{judged_there}
use Rattle.mv_calls.proofs.call_numbers.Prefixes.{calls-take, calls_length, one_more, slice_get_front}
use Rattle.mv_calls.specs.declared.calls_replaying.CallsRefusal.{CallsRefusal}
use Rattle.mv_calls.specs.declared.calls_replaying.CallsRefusal.TheVariants as refusal
use Rattle.mv_calls.specs.CallsReplay.{IsFirstNumber, IsIllegalRefused, IsCallsRefused}
use Rattle.mv_calls.specs.declared.judge.Judge.{Judge}
use Rattle.mv_calls.specs.Judge.{IsJudgedNext}
use Rattle.mv_calls.specs.Numbers.{calls}

-- the front of a list before its first illegal entry
front_is : (c : Setup) (s : System) (es : List Entry) (i : Illegal) (w : IsFirstIllegal c s es i) → take i.index es ≡ w.before
front_is c s es i w = ap (λ xs. take i.index xs) w.split ∙ ap (λ n. take n (w.before ++ w.entry ∷ w.later)) w.index
    ∙ take-append_seam w.before (w.entry ∷ w.later)

-- it is legal
pub front_is_legal : (c : Setup) (es : List Entry) (i : Illegal) → IsFirstIllegal c (opening c) es i → Legal c (take i.index es)
front_is_legal c es i w = subst (λ xs. LegalFrom c (opening c) xs) (sym (front_is c (opening c) es i w)) w.legal

-- and shorter than the list
pub front_is_within : (c : Setup) (es : List Entry) (i : Illegal) → IsFirstIllegal c (opening c) es i → i.index < length es
front_is_within c es i w =
    let l : length es ≡ length w.before + length (w.entry ∷ w.later) = ap (λ xs. length xs) w.split ∙ length-append w.before
    (w.entry ∷ w.later) in
    let n : i.index ≡ length w.before = w.index in
    grind arith

-- what stands behind a list
slice_get-seam : (xs : List ℕ) (y : ℕ) (ys : List ℕ) → slice_get (xs ++ y ∷ ys) (length xs) ≡ Some y
slice_get-seam [] y ys = refl
slice_get-seam (x ∷ xs) y ys = slice_get-seam xs y ys

-- ---- in the middle of the list, whose entries up to here are judged

-- one more has its number
pub number_there : (c : Setup) (es : List Entry) (kept : List ℕ) (i n : ℕ) (e : Entry) → i < length es → length kept ≡ length es
    → e ≡ get_or es i e → take i kept ≡ calls c (take i es) → calls c (take i es ++ e ∷ []) ≡ calls c (take i es) ++ n ∷ []
    → n ≡ get_or kept i 0 → take (i + 1) kept ≡ calls c (take (i + 1) es)
number_there c es kept i n e lt long at same is here =
    take_more kept i 0 (omega (arith, lt, long)) ∙ ap (λ ns. ns ++ get_or kept i 0 ∷ []) same
    ∙ ap (λ (m : ℕ). calls c (take i es) ++ m ∷ []) (sym here) ∙ sym is ∙ ap (λ (xs : List Entry). calls c xs) (sym (one_more es i e lt at))

-- or with another's
pub other_there : (c : Setup) (es : List Entry) (kept : List ℕ) (i machine : ℕ) (e : Entry) (j : Judge) → i < length es
    → length kept ≡ length es → e ≡ get_or es i e → take i kept ≡ calls c (take i es) → IsJudgedNext c (take i es) e machine j
    → (machine ≡ get_or kept i 0 → ⊥) → IsFirstNumber c es kept i (get_or kept i 0) machine
other_there c es kept i machine e j lt long at same next differs =
    let front : List Entry = take i es in
    let far : i ≡ length (calls c front) = sym (length-take-le i es (omega arith)) ∙ sym (calls_length c front) in
    let all : calls c (take (i + 1) es) ≡ calls c front ++ machine ∷ [] =
    ap (λ (xs : List Entry). calls c xs) (one_more es i e lt at) ∙ next.number in
    record {
      legal = (judged_there c es i e j lt at next.judged).legal;
      other = record {
        same = same ∙ sym (take-append_seam (calls c front) (machine ∷ []))
            ∙ ap (λ (n : ℕ). take n (calls c front ++ machine ∷ [])) (sym far) ∙ ap (λ (ns : List ℕ). take i ns) (sym all);
        one = slice_get-get_or kept i 0 (omega (arith, lt, long));
        other = ap (λ (ns : List ℕ). slice_get ns i) all ∙ ap (λ (n : ℕ). slice_get (calls c front ++ machine ∷ []) n) far
            ∙ slice_get-seam (calls c front) machine [];
        differs = λ is. differs (sym is);
      };
    }

-- or it is not the machine's
pub unfit_there : (c : Setup) (es : List Entry) (i : ℕ) (e : Entry) → i < length es → e ≡ get_or es i e
    → (Legal c (take i es ++ e ∷ []) → ⊥) → Legal c (take (i + 1) es) → ⊥
unfit_there c es i e lt at bad l = bad (subst (λ (xs : List Entry). Legal c xs) (one_more es i e lt at) l)

-- the first illegal entry of a front is that of the list
illegal_front : (c : Setup) (s : System) (es : List Entry) (n : ℕ) (i : Illegal) → IsFirstIllegal c s (take n es) i
    → IsFirstIllegal c s es i
illegal_front c s es n i w = record {
  before = w.before;
  entry = w.entry;
  later = w.later ++ drop n es;
  split = sym (take-append-drop n es) ∙ ap (λ xs. xs ++ drop n es) w.split
      ∙ append_assoc w.before (w.entry ∷ w.later) (drop n es);
  index = w.index;
  legal = w.legal;
  kept = w.kept;
  machine = w.machine;
  differs = w.differs;
}

-- so what a front is refused for, up to which the numbers are right, the list is
pub refused_by_front : (c : Setup) (es : List Entry) (kept : List ℕ) (i : ℕ) (r : CallsRefusal) → i < length es
    → take i kept ≡ calls c (take i es) → IsIllegalRefused c (take (i + 1) es) r → IsCallsRefused c es kept r
refused_by_front c es kept i (refusal.Illegal x) lt same w =
    let there : x.index < length (take (i + 1) es) = front_is_within c (take (i + 1) es) x w in
    let long : length (take (i + 1) es) ≡ i + 1 = length-take-le (i + 1) es (omega arith) in
    record {
      illegal = illegal_front c (opening c) es (i + 1) x w;
      numbers = sym (take-take x.index i kept (omega arith)) ∙ ap (λ ns. take x.index ns) same
          ∙ sym (calls-take c x.index (take i es)) ∙ ap (λ xs. calls c xs) (take-take x.index i es (omega arith));
    }
refused_by_front c es kept i (refusal.Number index k machine) lt same w = absurd w
refused_by_front c es kept i refusal.NoMemory lt same w = tt

-- ---- the whole list

-- a list that is refused, and not for want of memory, is not legal with its call numbers
pub refused_is_wrong : (c : Setup) (es : List Entry) (kept : List ℕ) (r : CallsRefusal) → IsCallsRefused c es kept r
    → (r ≡ refusal.NoMemory → ⊥) → Legal c es → kept ≡ calls c es → ⊥
refused_is_wrong c es kept (refusal.Illegal i) w other l same = not_legal c (opening c) es i w.illegal l
refused_is_wrong c es kept (refusal.Number index k machine) w other l same =
    let at : slice_get (take (index + 1) (calls c es)) index ≡ Some machine = ap (λ ns. slice_get ns index)
    (sym (calls-take c (index + 1) es)) ∙ w.other.other in
    let mine : slice_get (take (index + 1) (calls c es)) index ≡ Some k = slice_get_front (calls c es) index k
    (ap (λ ns. slice_get ns index) (sym same) ∙ w.other.one) in
    w.other.differs (let e : Some k ≡ Some machine = sym mine ∙ at in cc e)
refused_is_wrong c es kept refusal.NoMemory w other l same = other refl
