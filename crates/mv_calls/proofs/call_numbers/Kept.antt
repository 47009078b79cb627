-- What is kept of each caller, as it is read and written.
use Rattle.std.proofs.Common.{◌≡◌, ℕ, ◌+◌, ◌<◌, ◌≤◌, ◌==◌, Bool, true, false, if◌then◌else◌, List, [], ◌++◌, length, map, set, get_or}
use Rattle.std.proofs.Common.{Option, Some, None, refl, sym, ap, ◌∙◌, arith}
use Rattle.std.proofs.lemmas.List.{map-set, length-map, get_or-map}
use Rattle.mv_latch.specs.declared.operation.Wake.{Wake}
use Rattle.mv_machine.specs.declared.entry.Entry.{Entry}
use Rattle.mv_machine.specs.declared.entry.Object.{Object}
use Rattle.mv_machine.specs.declared.entry.Object.TheVariants.{Ecb, Element, Volume, Latches}
use Rattle.mv_machine.specs.declared.entry.Op.{Op}
use Rattle.mv_machine.specs.declared.entry.Op.TheVariants as op_on
use Rattle.mv_machine.specs.declared.entry.Reply.{Reply}
use Rattle.mv_machine.specs.Legal.{IsNext}
use Rattle.mv_config.specs.Setup.{Setup}
use Rattle.mv_machine.specs.State.{table}
use Rattle.mv_machine.specs.System.{System, admitted, wakes_after, with_at}
use Rattle.mv_machine.proofs.Tables.{table-set}
use Rattle.mv_calls.specs.declared.counting.Counter.{Counter}
use Rattle.mv_calls.specs.Counters.{numbering_of, numbering_at}
use Rattle.mv_calls.specs.declared.counting.Last.{Last}
use Rattle.mv_calls.specs.Numbers.{Numbering, unnumbered, numbered, numbered_at, wakes_at, asked, kept_pending, continues, group_after}

-- a counter that is written
pub counted-set : (xs : List Counter) (n : ℕ) (x : Counter) → n < length xs → numbering_at (set xs n x) ≡ with_at (numbering_at xs) n (numbering_of x)
counted-set xs n x lt =
    ap (λ ys. table (λ (t : Numbering). t) unnumbered ys) (map-set numbering_of xs n x)
    ∙ table-set (λ (t : Numbering). t) unnumbered (map numbering_of xs) n (numbering_of x) (rw (length-map xs numbering_of) lt)

-- a counter that is read
pub counted-read : (xs : List Counter) (n : ℕ) (x : Counter) → n < length xs → x ≡ get_or xs n x → numbering_at xs n ≡ numbering_of x
counted-read xs n x lt at = get_or-map numbering_of xs n x unnumbered lt ∙ ap numbering_of (sym at)

-- the wakes are asked of events on the latch set alone
asked_same : (c : Setup) (s : System) (shown : List Wake) (k : ℕ) (o : Object) (op : Op) (reply : Reply) → admitted c s k o op ≡ true
    → asked c o op reply (wakes_after c s shown k o op) ≡ asked c o op reply (wakes_at s k o op)
asked_same c s shown k Latches (op_on.Latch op) reply a = rw a refl
asked_same c s shown k Latches (op_on.Ecb op) reply a = refl
asked_same c s shown k Latches (op_on.Element op) reply a = refl
asked_same c s shown k Latches (op_on.Volume op) reply a = refl
asked_same c s shown k (Ecb e) (op_on.Ecb op) reply a = refl
asked_same c s shown k (Ecb e) (op_on.Element op) reply a = refl
asked_same c s shown k (Ecb e) (op_on.Volume op) reply a = refl
asked_same c s shown k (Ecb e) (op_on.Latch op) reply a = refl
asked_same c s shown k (Element e) op reply a = refl
asked_same c s shown k (Volume e) op reply a = refl

-- what is kept of the caller with one more entry
pub numbered_so : (c : Setup) (s : System) (shown ws : List Wake) (xs : List Counter) (e : Entry) (old : Counter) → IsNext c s e
    → e.caller < length xs → old ≡ get_or xs e.caller old → ws ≡ wakes_after c s shown e.caller e.object e.op
    → numbered c (numbering_of old) e ws ≡ numbered_at c s (numbering_at xs) e
numbered_so c s shown ws xs e old n lt at told =
    ap (λ t. numbered c t e ws) (sym (counted-read xs e.caller old lt at))
    ∙ (ap (λ x. numbered c (numbering_at xs e.caller) e x) told
    ∙ ap (λ ps. record (numbered c (numbering_at xs e.caller) e []) {
      pending = ps ++ kept_pending
          (numbering_at xs e.caller).pending e.object e.op;
    }) (asked_same c s shown e.caller e.object e.op e.reply n.admits))

-- and of all
pub one_counted : (c : Setup) (s : System) (shown ws : List Wake) (xs : List Counter) (e : Entry) (old new : Counter) → IsNext c s e
    → e.caller < length xs
    → old ≡ get_or xs e.caller old → ws ≡ wakes_after c s shown e.caller e.object e.op
    → numbering_of new ≡ numbered c (numbering_of old) e ws
    → numbering_at (set xs e.caller new) ≡ with_at (numbering_at xs) e.caller (numbered_at c s (numbering_at xs) e)
one_counted c s shown ws xs e old new n lt at told is =
    counted-set xs e.caller new lt
    ∙ ap (λ t. with_at (numbering_at xs) e.caller t) (is ∙ numbered_so c s shown ws xs e old n lt at told)

-- ---- how high the numbers are

-- a group number rises by one at most
one_more : (last : Option Last) (g : ℕ) (b : Bool) (i : ℕ) → g ≤ i → group_after last g b ≤ i + 1
one_more None g b i le = omega arith
one_more (Some e) g true i le = omega arith
one_more (Some e) g false i le = omega arith

-- one of two numbers
low_at : (b : Bool) (t u : Numbering) (i : ℕ) → t.group ≤ i → u.group ≤ i → (if b then t else u).group ≤ i
low_at true t u i lt lu = lt
low_at false t u i lt lu = lu

-- so no group number is above the place
pub round_low : (c : Setup) (s : System) (table : ℕ → Numbering) (e : Entry) (i : ℕ) → ((k : ℕ) → (table k).group ≤ i) → (k : ℕ)
    → (with_at table e.caller (numbered_at c s table e) k).group ≤ i + 1
round_low c s table e i low k = low_at (k == e.caller) (numbered_at c s table e) (table k) (i + 1)
    (one_more (table e.caller).last (table e.caller).group (continues (table e.caller) e.object e.op) i (low e.caller))
    (let l : (table k).group ≤ i = low k in omega arith)
