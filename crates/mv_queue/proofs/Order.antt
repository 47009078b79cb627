-- At each moment of a history what came out is what went in, in order, and the rest is in the slots. By the invariant that each section of the
-- latch restores. Used by pass.
use Rattle.mv_wait.specs.Prelude.{is_write, Legal, of, Setup, Entry, Object, Volume, Op, Reply}
use Rattle.mv_guarded.proofs.Gathered.{numbers}
use Rattle.mv_guarded.proofs.Holding.{still_holds}
use Rattle.mv_guarded.proofs.LockInvariant.{IsKept, IsStep, kept_at_each_moment}
use Rattle.mv_guarded.proofs.Reading.{value_read}
use Rattle.mv_guarded.proofs.Rules.{keeps_weaker}
use Rattle.mv_guarded.proofs.Volumes.{read_replies, value_kept, value_written}
use Rattle.mv_guarded.specs.Guarded.{GuardsVolume, HasRead, HoldsLatch, IsGuarding, Keeps, value}
use Rattle.mv_wait.specs.Prelude.latch_op.{Purge}
use Rattle.mv_wait.specs.Prelude.mode.{Exclusive}
use Rattle.mv_wait.proofs.EntryRuns.{entry_of}
use Rattle.mv_wait.specs.Prelude.volume_op.{Read, Write}
use Rattle.mv_queue.proofs.Logs.{Tally, Tells, even_counted, even_still, tally, tells_nothing, tells_put, tells_puts, tells_taken}
use Rattle.mv_queue.proofs.Logs.{tells_takes}
use Rattle.mv_queue.specs.Queue.{HasSeen, IsAllowed, IsCount, IsEven, IsPut, IsQueue, IsTake, came_out, counted, slot, went_in}
use Rattle.mv_queue.specs.Setup.{put_count, room, taken_count}
use Rattle.std.proofs.Common.{List, None, Option, Some, [], ap, append_assoc, arith, get_or, inl, inr, length, refl, subst, suc, sym, true}
use Rattle.std.proofs.Common.{ℕ, ◌++◌, ◌+◌, ◌<◌, ◌∙◌, ◌∷◌, ◌≡◌, ◌≤◌, ◌⊎◌}
use Rattle.std.proofs.Math.ListN.{get_or-append}
use Rattle.std.proofs.Math.Nat.{eq-or-lt_of_le}
use Rattle.std.proofs.Math.Seq.{get_or-append_seam}
use Rattle.std.proofs.lemmas.Bool.{false≢true}
use Rattle.std.proofs.lemmas.List.{append-nil, length-append}
use Rattle.mv_wait.specs.Prelude.op_on

-- ---- one log

even_nothing : (log : List Entry) (j p : ℕ) (o : Object) (op : Op) (r : Reply) → Tells None None None None o op r → IsEven log
    → IsEven (log ++ entry_of j o p op r ∷ [])
even_nothing log j p o op r tells =
    even_still log (log ++ entry_of j o p op r ∷ []) (tally None None None None log (entry_of j o p op r) tells)

-- after an entry that it may make, a task is even, or holds the latch
last_of : (k : ℕ) (log : List Entry) (j p : ℕ) (o : Object) (op : Op) (r : Reply) → IsAllowed k log o op
    → IsEven (log ++ entry_of j o p op r ∷ []) ⊎ HoldsLatch 0 Exclusive k (log ++ entry_of j o p op r ∷ [])
last_of k log j p o (op_on.Latch (Purge requestor)) r may = absurd may
last_of k log j p (Volume n) (op_on.Volume (Write x)) r (inl put) =
    inr (still_holds 0 Exclusive k n log (entry_of j (Volume n) p (op_on.Volume (Write x)) r) refl put.seen.holds)
last_of k log j p (Volume n) (op_on.Volume (Write x)) r (inr count) =
    inl (even_counted log n x (entry_of j (Volume n) p (op_on.Volume (Write x)) r) refl refl count.owes)
last_of k log j p (Volume n) (op_on.Volume Read) r (inl take) =
    inr (still_holds 0 Exclusive k n log (entry_of j (Volume n) p (op_on.Volume Read) r) refl take.seen.holds)
last_of k log j p (Volume n) (op_on.Volume Read) r (inr looks) =
    inl (even_nothing log j p (Volume n) (op_on.Volume Read) r (tells_nothing (Volume n) (op_on.Volume Read) r looks.0) looks.1)
last_of k log j p o op r may = inl (even_nothing log j p o op r (tells_nothing o op r tt) may)

guards : (n k : ℕ) (log : List Entry) (o : Object) (op : Op) → IsAllowed k log o op → IsGuarding 0 n k log o op
guards n k log o (op_on.Latch (Purge requestor)) may = may
guards n k log (Volume m) (op_on.Volume (Write x)) (inl put) = λ at. put.seen.holds
guards n k log (Volume m) (op_on.Volume (Write x)) (inr count) = λ at. count.holds
guards n k log o (op_on.Volume (Write x)) may = λ at. absurd (cc at)
guards n k log o op may = tt

-- ---- the invariant

-- what went in and has not come out is in the slots
record IsInside (c : Setup) (before : List Entry) : Type 0 where
  inside : List ℕ
  order : went_in before ≡ came_out before ++ inside
  few : length inside ≤ room
  slots : (i : ℕ) → i < length inside → value c before (slot (length (came_out before) + i)) ≡ get_or inside i 0

-- and the counts are right, but for the item that the task with this log is still to count
record IsMine (c : Setup) (own before : List Entry) : Type 0 where
  content : IsInside c before
  puts : length (went_in before) + counted put_count own ≡ value c before put_count + length (went_in own)
  takes : length (came_out before) + counted taken_count own ≡ value c before taken_count + length (came_out own)

swap : (c : Setup) (own other before : List Entry) → IsEven own → IsEven other → IsMine c own before → IsMine c other before
swap c own other before even also m =
    let a = even.0 in
    let b = even.1 in
    let d = also.0 in
    let e = also.1 in
    let f = m.puts in let g = m.takes in record { content = m.content; puts = omega arith; takes = omega arith }

plus_none : (n : ℕ) → n ≡ n + 0
plus_none n = omega arith

-- an item that is put in, and one that is taken out, is at another place of the ring than those inside
apart : (i p : ℕ) → i < p → p < i + room → slot i ≡ slot p → ⊥
apart i p low high same = absurd (omega arith)

same_inside : (c : Setup) (puts takes : Option ℕ) (before new : List Entry) → Tally None None puts takes before new
    → ((i : ℕ) → value c new (slot i) ≡ value c before (slot i)) → IsInside c before → IsInside c new
same_inside c puts takes before new t values s =
    let out : came_out new ≡ came_out before = t.out ∙ append-nil (came_out before) in record {
      inside = s.inside;
      order = t.into ∙ append-nil (went_in before) ∙ s.order ∙ ap (λ xs. xs ++ s.inside) (sym out);
      few = s.few;
      slots = λ i lt. ap (λ xs. value c new (slot (length xs + i))) out ∙ values (length (came_out before) + i) ∙ s.slots i lt;
    }

put_inside : (c : Setup) (before new : List Entry) (n x : ℕ) → Tally (Some x) None None None before new → (s : IsInside c before)
    → length s.inside < room → n ≡ slot (length (came_out before) + length s.inside) → value c new n ≡ x
    → ((m : ℕ) → (m ≡ n → ⊥) → value c new m ≡ value c before m) → IsInside c new
put_inside c before new n x t s free here written kept =
    let out : came_out new ≡ came_out before = t.out ∙ append-nil (came_out before) in
    let base = length (came_out before) in
    let longer = length-append s.inside (x ∷ []) in record {
      inside = s.inside ++ x ∷ [];
      order = t.into ∙ ap (λ xs. xs ++ x ∷ []) s.order ∙ append_assoc (came_out before) s.inside (x ∷ [])
          ∙ ap (λ xs. xs ++ (s.inside ++ x ∷ [])) (sym out);
      few = omega arith;
      slots = λ i lt. ap (λ xs. value c new (slot (length xs + i))) out ∙ elim (eq-or-lt_of_le (let le : i ≤ length s.inside = omega arith in le)) [
        | inl last ↦ ap (λ k. value c new (slot (base + k))) last ∙ ap (value c new) (sym here) ∙ written
            ∙ sym (ap (λ k. get_or (s.inside ++ x ∷ []) k 0) last ∙ get_or-append_seam s.inside x [] 0)
        | inr low ↦ kept (slot (base + i)) (λ same. apart (base + i) (base + length s.inside) (omega arith) (omega arith) (same ∙ here))
            ∙ s.slots i low ∙ sym (get_or-append s.inside (x ∷ []) 0 i low)
      ];
    }

take_inside : (c : Setup) (before new : List Entry) (x : ℕ) (inside : List ℕ) → Tally None (Some x) None None before new
    → went_in before ≡ came_out before ++ inside → length inside ≤ room
    → ((i : ℕ) → i < length inside → value c before (slot (length (came_out before) + i)) ≡ get_or inside i 0) → 0 < length inside
    → value c before (slot (length (came_out before) + 0)) ≡ x → ((m : ℕ) → value c new m ≡ value c before m) → IsInside c new
take_inside c before new x [] t order few slots some first kept = absurd (omega arith)
take_inside c before new x (y ∷ rest) t order few slots some first kept =
    let same : x ≡ y = sym first ∙ slots 0 (omega arith) in
    let out : came_out new ≡ came_out before ++ y ∷ [] = t.out ∙ ap (λ z. came_out before ++ z ∷ []) same in
    let longer : length (came_out new) ≡ length (came_out before) + 1 = t.longer_out in record {
      inside = rest;
      order = t.into ∙ append-nil (went_in before) ∙ order ∙ sym (append_assoc (came_out before) (y ∷ []) rest)
          ∙ ap (λ xs. xs ++ rest) (sym out);
      few = omega arith;
      slots = λ i lt. kept (slot (length (came_out new) + i))
          ∙ ap (λ k. value c before (slot k)) (let e : length (came_out new) + i ≡ length (came_out before) + suc i = omega arith in e)
          ∙ slots (suc i) (omega arith);
    }

-- ---- entry by entry

module _ (c : Setup) (es : List Entry) (legal : Legal c es) (allowed : (k : ℕ) → k < c.callers → Keeps IsAllowed k [] (of k es)) where
  guarding : (n : ℕ) → GuardsVolume c es 0 n
  guarding n = record {
    legal = legal;
    guards = λ k lt. keeps_weaker IsAllowed k (IsGuarding 0 n) (guards n k) [] (of k es) (allowed k lt);
  }

  module _ (before later : List Entry) (k p : ℕ) (r : Reply) (o : Object) (op : Op) (is : es ≡ before ++ entry_of k o p op r ∷ later) where
    abbrev e : Entry
    e = entry_of k o p op r

    abbrev new : List Entry
    new = before ++ e ∷ []

    now : Legal c (before ++ e ∷ later)
    now = subst (Legal c) is legal

    -- what the caller has read of a volume under the latch is its number
    number_is : (n x : ℕ) → HasRead 0 n k x (of k before) → value c before n ≡ x
    number_is n x read = value_read c es before (e ∷ later) 0 n k x (guarding n) is read

    -- the invariant after the entry, if the counts rise by what it counts
    mine_next : (put taken puts takes : Option ℕ) → Tells put taken puts takes o op r → IsMine c (of k before) before
        → value c new put_count ≡ value c before put_count + length (numbers puts)
        → value c new taken_count ≡ value c before taken_count + length (numbers takes) → IsInside c new → IsMine c (of k before ++ e ∷ []) new
    mine_next put taken puts takes tells m puts_is takes_is content =
        let t = tally put taken puts takes before e tells in
        let u = tally put taken puts takes (of k before) e tells in
        let a = t.longer_in in
        let b = t.longer_out in
        let d = u.longer_in in
        let f = u.longer_out in
        let g = u.put_counts in
        let h = u.take_counts in
        let was = m.puts in let were = m.takes in record { content = content; puts = omega arith; takes = omega arith }

    -- the counts and the items inside, for a task that has counted what it moved
    record AreCounted (taken put : ℕ) (m : IsMine c (of k before) before) : Type 0 where
      base : length (came_out before) ≡ taken
      size : length (came_out before) + length m.content.inside ≡ put

    counted_all : (taken put : ℕ) (m : IsMine c (of k before) before) → HasSeen k taken put (of k before) → IsEven (of k before)
        → AreCounted taken put m
    counted_all taken put m seen even =
        let put_is = number_is put_count put seen.read_put in
        let taken_is = number_is taken_count taken seen.read_taken in
        let all = ap length m.content.order ∙ length-append (came_out before) m.content.inside in
        let puts = m.puts in
        let takes = m.takes in
        let a = even.0 in let b = even.1 in record { base = omega arith; size = omega arith }

  calm : (before later : List Entry) (k p : ℕ) (r : Reply) (o : Object) (op : Op) → es ≡ before ++ entry_of k o p op r ∷ later
      → Tells None None None None o op r → IsEven (of k before) → ((n : ℕ) → o ≡ Volume n → is_write op ≡ true → ⊥)
      → IsStep IsEven (IsMine c) 0 k (of k before) before (entry_of k o p op r)
  calm before later k p r o op is tells even none =
      let f = entry_of k o p op r in
      let after = before ++ f ∷ [] in
      let values : (n : ℕ) → value c after n ≡ value c before n =
      λ n. value_kept c before f later n (now before later k p r o op is) (none n) in
      let t = tally None None None None before f tells in
      let a = t.longer_in in
      let b = t.longer_out in
      let put = values put_count in
      let taken = values taken_count in
      inr (
        even,
        even_nothing (of k before) k p o op r tells even,
        λ log m. record {
          content = same_inside c None None before after t (λ i. values (slot i)) m.content;
          puts = (let was = m.puts in omega arith);
          takes = (let was = m.takes in omega arith);
        },
      )

  module _ (before later : List Entry) (k p : ℕ) (r : Reply) where
    -- a write of volume n leaves the others
    kept : (n x : ℕ) → es ≡ before ++ entry_of k (Volume n) p (op_on.Volume (Write x)) r ∷ later → (j : ℕ) → (j ≡ n → ⊥)
        → value c (before ++ entry_of k (Volume n) p (op_on.Volume (Write x)) r ∷ []) j ≡ value c before j
    kept n x is j other =
        value_kept c before (entry_of k (Volume n) p (op_on.Volume (Write x)) r) later j
        (now before later k p r (Volume n) (op_on.Volume (Write x)) is)
        (λ at write. other (let same : Volume n ≡ Volume j = at in sym (cc same)))

    put_step : (n x : ℕ) → IsPut k n (of k before) → es ≡ before ++ entry_of k (Volume n) p (op_on.Volume (Write x)) r ∷ later
        → IsMine c (of k before) before
        → IsMine c (of k before ++ entry_of k (Volume n) p (op_on.Volume (Write x)) r ∷ [])
        (before ++ entry_of k (Volume n) p (op_on.Volume (Write x)) r ∷ [])
    put_step n x put is m =
        let o = Volume n in
        let op = op_on.Volume (Write x) in
        let here = put.here in
        let tells = tells_put n x r (omega arith) in
        let all = counted_all before later k p r o op is put.taken_is put.put_is m put.seen put.even in
        let base = all.base in
        let size = all.size in
        let free = put.free in
        mine_next before later k p r o op is (Some x) None None None tells m
        (kept n x is put_count (λ same. absurd (omega arith)) ∙ plus_none (value c before put_count))
        (kept n x is taken_count (λ same. absurd (omega arith)) ∙ plus_none (value c before taken_count))
        (put_inside c before (before ++ entry_of k o p op r ∷ []) n x (tally (Some x) None None None before (entry_of k o p op r) tells)
        m.content (omega arith) (put.here ∙ ap slot (sym size))
        (value_written c before (entry_of k o p op r) later n x (now before later k p r o op is) refl refl) (kept n x is))

    take_step : (n : ℕ) → IsTake k n (of k before) → es ≡ before ++ entry_of k (Volume n) p (op_on.Volume Read) r ∷ later
        → IsMine c (of k before) before
        → IsMine c (of k before ++ entry_of k (Volume n) p (op_on.Volume Read) r ∷ [])
        (before ++ entry_of k (Volume n) p (op_on.Volume Read) r ∷ [])
    take_step n take is m =
        let o = Volume n in
        let op = op_on.Volume Read in
        let x = value c before n in
        let here = take.here in
        let legal_now = now before later k p r o op is in
        let tells : Tells None (Some x) None None o op r = subst (Tells None (Some x) None None o op)
        (sym (read_replies c before (entry_of k o p op r) later n legal_now refl refl)) (tells_taken n x (omega arith)) in
        let all = counted_all before later k p r o op is take.taken_is take.put_is m take.seen take.even in
        let base = all.base in
        let size = all.size in
        let some = take.some in
        let same : (j : ℕ) → value c (before ++ entry_of k o p op r ∷ []) j ≡ value c before j =
        λ j. value_kept c before (entry_of k o p op r) later j legal_now (λ at write. false≢true write) in
        mine_next before later k p r o op is None (Some x) None None tells m
        (same put_count ∙ plus_none (value c before put_count)) (same taken_count ∙ plus_none (value c before taken_count))
        (take_inside c before (before ++ entry_of k o p op r ∷ []) x m.content.inside
        (tally None (Some x) None None before (entry_of k o p op r) tells) m.content.order m.content.few m.content.slots (omega arith)
        (ap (λ i. value c before (slot i)) (let first : length (came_out before) + 0 ≡ take.taken_is = omega arith in first)
        ∙ ap (value c before) (sym take.here)) same)

    count_step : (n x : ℕ) → IsCount k n x (of k before) → es ≡ before ++ entry_of k (Volume n) p (op_on.Volume (Write x)) r ∷ later
        → IsMine c (of k before) before
        → IsMine c (of k before ++ entry_of k (Volume n) p (op_on.Volume (Write x)) r ∷ [])
        (before ++ entry_of k (Volume n) p (op_on.Volume (Write x)) r ∷ [])
    count_step n x count is m =
        let o = Volume n in
        let op = op_on.Volume (Write x) in
        let f = entry_of k o p op r in
        let after = before ++ f ∷ [] in
        let risen : value c after n ≡ value c before n + 1 =
        value_written c before f later n x (now before later k p r o op is) refl refl ∙ count.more
        ∙ ap (λ i. i + 1) (sym (number_is before later k p r o op is n count.old count.read)) in
        let content : (puts takes : Option ℕ) → Tells None None puts takes o op r → room ≤ n → IsInside c after = λ puts takes tells high.
        same_inside c puts takes before after (tally None None puts takes before f tells)
        (λ i. kept n x is (slot i) (λ same. absurd (omega arith))) m.content in elim count.owes [
          | inl owes ↦
              let at = owes.0 in
              let tells = tells_puts n x r at in
              mine_next before later k p r o op is None None (Some x) None tells m
              (subst (λ j. value c after j ≡ value c before j + 1) at risen)
              (kept n x is taken_count (λ same. absurd (omega arith)) ∙ plus_none (value c before taken_count))
              (content (Some x) None tells (omega arith))
          | inr owes ↦
              let at = owes.0 in
              let tells = tells_takes n x r at in
              mine_next before later k p r o op is None None None (Some x) tells m
              (kept n x is put_count (λ same. absurd (omega arith)) ∙ plus_none (value c before put_count))
              (subst (λ j. value c after j ≡ value c before j + 1) at risen) (content None (Some x) tells (omega arith))
        ]

    step_of : (o : Object) (op : Op) → es ≡ before ++ entry_of k o p op r ∷ later → IsAllowed k (of k before) o op
        → IsStep IsEven (IsMine c) 0 k (of k before) before (entry_of k o p op r)
    step_of o (op_on.Latch (Purge requestor)) is may = absurd may
    step_of (Volume n) (op_on.Volume (Write x)) is (inl put) = inl (put.seen.holds, put_step n x put is)
    step_of (Volume n) (op_on.Volume (Write x)) is (inr count) = inl (count.holds, count_step n x count is)
    step_of (Volume n) (op_on.Volume Read) is (inl take) = inl (take.seen.holds, take_step n take is)
    step_of (Volume n) (op_on.Volume Read) is (inr looks) =
        calm before later k p r (Volume n) (op_on.Volume Read) is (tells_nothing (Volume n) (op_on.Volume Read) r looks.0) looks.1
        (λ m at write. false≢true write)
    step_of (Volume n) op is may = calm before later k p r (Volume n) op is (tells_nothing (Volume n) op r tt) may (λ m at write. false≢true write)
    step_of o op is may = calm before later k p r o op is (tells_nothing o op r tt) may (λ m at write. absurd (cc at))

  first : IsMine c [] []
  first = record {
    content = record { inside = []; order = refl; few = omega arith; slots = λ i lt. absurd (omega arith) };
    puts = refl;
    takes = refl;
  }

  pub is_queue : 0 < c.callers → IsQueue es
  is_queue some before later is =
      let kept : IsKept c IsEven (IsMine c) before =
      kept_at_each_moment c es 0 0 IsAllowed IsEven (IsMine c) legal allowed (guards 0) (refl, refl)
      (λ k log e. last_of k log e.caller e.place e.object e.op e.reply) (swap c)
      (λ front e rest split. step_of front rest e.caller e.place e.reply e.object e.op split) some first before later is in
      let s = kept.mine.content in record { inside = s.inside; order = s.order; few = s.few }
