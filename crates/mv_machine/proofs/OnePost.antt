-- Between two clears of a block at most one post is taken.
use Rattle.std.proofs.Common.{◌≡◌, ℕ, ◌≤◌, false, IsTrue, List, [], ◌∷◌, ◌++◌, length, inl, inr, refl}
use Rattle.std.proofs.Common.{sym, ◌∙◌, ap, arith, append-nil, append_assoc, length-append, subst}
use Rattle.std.proofs.lemmas.List.Elements.{filter_map-append}
use Rattle.std.specs.List.{AllByRecursion}
use Rattle.mv_ecb.specs.declared.operation.EcbOp.{EcbOp}
use Rattle.mv_ecb.specs.declared.operation.EcbOp.TheVariants.{Post}
use Rattle.mv_ecb.specs.declared.operation.EcbReply.TheVariants.{Already}
use Rattle.mv_ecb.specs.Table.{ecb_step}
use Rattle.mv_ecb.specs.Word.{EcbState, Complete}
use Rattle.mv_machine.specs.declared.entry.Entry.{Entry}
use Rattle.mv_machine.specs.Legal.{Legal}
use Rattle.mv_machine.specs.OnePost.{EcbEvent, ecb_events, clears, taken_code, taken, EndsCleared, TakesOnePost}
use Rattle.mv_machine.specs.OnePost.{TakePosts}
use Rattle.mv_config.specs.Setup.{Setup}
use Rattle.mv_machine.specs.System.{Cell, opening}
use Rattle.mv_machine.proofs.Subjects.{block, ecb_table, block_meets}
use Rattle.mv_machine.proofs.OneObject.{IsAnsweredBy, next_cell, cell_after, RunFrom, RunFrom-front}
use Rattle.mv_machine.proofs.OneObject.{RunFrom-rest, run_of}
use Rattle.mv_machine.proofs.OneObject.{cell_after-append}

-- ---- the run of one block

block_run : (c : Setup) (n : ℕ) (es : List Entry) → Legal c es → RunFrom ecb_table ((opening c).ecb n) (ecb_events n es)
block_run c n es l = run_of (block n) c (block_meets c n) (opening c) es l

-- ---- a stretch

-- the codes that were taken, by the state that they led to
abbrev HasTaken : List ℕ → EcbState → Type 0
HasTaken codes (Complete c) = codes ≡ c ∷ []
HasTaken codes _ = codes ≡ []

-- one more event that does not clear
takes_next : (codes : List ℕ) (s : EcbState) (v : EcbEvent) → v.reply ≡ (ecb_step v.op s).1 → clears v.op ≡ false → HasTaken codes s
    → HasTaken (codes ++ taken (v ∷ [])) (ecb_step v.op s).0
takes_next codes s v r n h = grind arith

-- and so on
takes_along : (past : List EcbEvent) (cell : Cell EcbState) (vs : List EcbEvent) → RunFrom ecb_table cell vs
    → AllByRecursion (λ v. clears v.op ≡ false) vs → HasTaken (taken past) cell.state
    → HasTaken (taken (past ++ vs)) (cell_after ecb_table cell vs).state
takes_along past cell [] l n h = rw append-nil h
takes_along past cell (v ∷ vs) l n h =
    subst (λ es. HasTaken (taken es) (cell_after ecb_table (next_cell ecb_table cell v) vs).state) (append_assoc past (v ∷ []) vs)
    (takes_along (past ++ v ∷ []) (next_cell ecb_table cell v) vs l.1 n.1
    (subst (λ codes. HasTaken codes (ecb_step v.op cell.state).0)
    (sym (filter_map-append (λ (w : EcbEvent). taken_code w.op w.reply) past (v ∷ [])))
    (takes_next (taken past) cell.state v l.0.reply n.0 h)))

-- a block that was just cleared, or never touched, is not complete
not_complete_yet : (vs : List EcbEvent) (cell : Cell EcbState) → HasTaken [] cell.state → RunFrom ecb_table cell vs → EndsCleared vs
    → HasTaken [] (cell_after ecb_table cell vs).state
not_complete_yet vs cell h l (inl none) = rw none h
not_complete_yet vs cell h l (inr w) =
    subst (λ es. HasTaken [] (cell_after ecb_table cell es).state) (sym w.2)
    (subst (λ (x : Cell EcbState). HasTaken [] x.state) (sym (cell_after-append ecb_table cell w.0 (w.1 ∷ [])))
    (cleared w.1.op (cell_after ecb_table cell w.0).state w.3)) where
      cleared : (op : EcbOp) (s : EcbState) → IsTrue (clears op) → HasTaken [] (ecb_step op s).0
      cleared op s is = grind arith

-- the codes that were taken are one, or none
one_at_most : (codes : List ℕ) (s : EcbState) → HasTaken codes s → length codes ≤ 1
one_at_most codes s h = grind arith

-- who answers Already was complete with that code
was_complete : (codes : List ℕ) (op : EcbOp) (s : EcbState) (code : ℕ) → (ecb_step op s).1 ≡ Already code → HasTaken codes s
    → codes ≡ code ∷ []
was_complete codes op s code r h = grind arith

-- behind a post the block is complete
complete_then : (codes : List ℕ) (op : EcbOp) (s : EcbState) (code : ℕ) → op ≡ Post code → HasTaken codes (ecb_step op s).0
    → length codes ≡ 1
complete_then codes op s code is h = grind arith

module _ (stretch : List EcbEvent) (cell : Cell EcbState) (l : RunFrom ecb_table cell stretch)
    (n : AllByRecursion (λ v. clears v.op ≡ false) stretch) (empty : HasTaken [] cell.state) where
  -- what was taken in a front of the stretch
  taken_before : (before later : List EcbEvent) → stretch ≡ before ++ later
      → HasTaken (taken before) (cell_after ecb_table cell before).state
  taken_before before later split =
      takes_along [] cell before (RunFrom-front ecb_table cell before later (rw split at l))
      (front before later (rw split at n)) empty where
        front : (xs ys : List EcbEvent) → AllByRecursion (λ v. clears v.op ≡ false) (xs ++ ys)
            → AllByRecursion (λ v. clears v.op ≡ false) xs
        front [] ys a = tt
        front (x ∷ xs) ys a = (a.0, front xs ys a.1)

  -- the event behind it is an event on the block
  event_at : (before later : List EcbEvent) (v : EcbEvent) → stretch ≡ before ++ v ∷ later
      → IsAnsweredBy ecb_table (cell_after ecb_table cell before) v
  event_at before later v split = (RunFrom-rest ecb_table cell before (v ∷ later) (rw split at l)).0

  pub takes_one : TakesOnePost stretch
  takes_one = record {
    once = one_at_most (taken stretch) (cell_after ecb_table cell stretch).state (taken_before stretch [] (sym (append-nil stretch)));
    already = λ before later v code split is.
        was_complete (taken before) v.op (cell_after ecb_table cell before).state code
        (sym (event_at before later v split).reply ∙ is) (taken_before before (v ∷ later) split);
    some = λ before later v code split is.
        let front : stretch ≡ (before ++ v ∷ []) ++ later = split ∙ sym (append_assoc before (v ∷ []) later) in
        let one = complete_then (taken (before ++ v ∷ [])) v.op (cell_after ecb_table cell before).state code is
        (subst (λ (x : Cell EcbState). HasTaken (taken (before ++ v ∷ [])) x.state) (cell_after-append ecb_table cell before (v ∷ []))
        (taken_before (before ++ v ∷ []) later front)) in
        let whole : taken stretch ≡ taken (before ++ v ∷ []) ++ taken later =
        ap taken front ∙ filter_map-append (λ (w : EcbEvent). taken_code w.op w.reply) (before ++ v ∷ []) later in
        let count = ap (λ (codes : List ℕ). length codes) whole ∙ length-append (taken (before ++ v ∷ [])) (taken later) in
        omega arith;
  }

-- the law
pub posts_are_taken_once : (c : Setup) (es : List Entry) → Legal c es → TakePosts es
posts_are_taken_once c es l n stretch is =
    let start : Cell EcbState = (opening c).ecb n in
    let whole : RunFrom ecb_table start (is.before ++ (stretch ++ is.later)) = subst (RunFrom ecb_table start) is.split
    (block_run c n es l) in
    let rest = RunFrom-rest ecb_table start is.before (stretch ++ is.later) whole in
    takes_one stretch (cell_after ecb_table start is.before)
    (RunFrom-front ecb_table (cell_after ecb_table start is.before) stretch is.later rest) is.unbroken
    (not_complete_yet is.before start refl (RunFrom-front ecb_table start is.before (stretch ++ is.later) whole) is.begins)
