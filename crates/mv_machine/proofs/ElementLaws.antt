-- What the events on one element keep to.
use Rattle.std.proofs.Common.{◌≡◌, ℕ, ◌+◌, ◌<◌, ◌≤◌, IsTrue, List, [], ◌∷◌, ◌++◌, length, Option, Some, None, ◌⊎◌, inl, inr, refl}
use Rattle.std.proofs.Common.{◌∙◌, arith, append-nil}
use Rattle.std.proofs.lemmas.Bool.{cases_order}
use Rattle.std.proofs.lemmas.List.Elements.{filter_map-append}
use Rattle.std.specs.List.{AllByRecursion}
use Rattle.mv_element.specs.declared.operation.ElementOp.{ElementOp}
use Rattle.mv_element.specs.declared.element.ElementState.{ElementState}
use Rattle.mv_element.specs.declared.element.Phase.{Phase}
use Rattle.mv_element.specs.declared.element.Phase.TheVariants.{Free, Reset, Prereleased, Paused, Released}
use Rattle.mv_element.specs.Element.{free}
use Rattle.mv_element.specs.Table.{element_step}
use Rattle.mv_machine.specs.System.{Cell}
use Rattle.mv_machine.proofs.Subjects.{element_table}
use Rattle.mv_machine.proofs.OneObject.{next_cell, cell_after, RunFrom, RunFrom-front, RunFrom-rest, along}
use Rattle.mv_machine.specs.Elements.{ElementEvent, given_code, accepted_code, releases, givens, ends_by, IsSpentUpTo, IsOrderlyElement}

-- an event answers what the table says at this state
abbrev pub Answers : ElementState → ElementEvent → Type 0
Answers s v = v.reply ≡ (element_step v.op s).1

pub rises : (op : ElementOp) (s : ElementState) → s.generation ≤ (element_step op s).0.generation
rises op s = grind arith

pub no_given : (g : ℕ) (s : ElementState) (v : ElementEvent) → Answers s v → g < s.generation → given_code g v.reply ≡ None
no_given g s v e lt = grind arith

pub no_accepted : (g : ℕ) (s : ElementState) (v : ElementEvent) → Answers s v → g < s.generation → accepted_code g v ≡ None
no_accepted g s v e lt = grind arith

pub answers_spent : (g : ℕ) (s : ElementState) (v : ElementEvent) → Answers s v → g < s.generation → IsSpentUpTo g v
answers_spent g s v e lt = grind arith

-- once its generation has passed g, nothing is released or given under g, and what carries g is answered Spent
pub record Passed (g : ℕ) (vs : List ElementEvent) : Type 0 where
  pub none_released : releases g vs ≡ []
  pub none_given : givens g vs ≡ []
  pub all_spent : AllByRecursion (IsSpentUpTo g) vs

pub passed : (g : ℕ) (cell : Cell ElementState) (vs : List ElementEvent) → g < cell.state.generation → RunFrom element_table cell vs
    → Passed g vs
passed g cell [] lt l = record { none_released = refl; none_given = refl; all_spent = tt }
passed g cell (v ∷ vs) lt l =
    let up : cell.state.generation ≤ (element_step v.op cell.state).0.generation = rises v.op cell.state in
    let rest : Passed g vs = passed g (next_cell element_table cell v) vs (omega arith) l.1 in
    record {
      none_released = rw (no_accepted g cell.state v l.0.reply lt) rest.none_released;
      none_given = rw (no_given g cell.state v l.0.reply lt) rest.none_given;
      all_spent = (answers_spent g cell.state v l.0.reply lt, rest.all_spent);
    }

-- what is known of the releases and gifts of generation g, by the state that they led to
abbrev pub kept_at : Phase → ℕ → List ℕ
kept_at Prereleased c = c ∷ []
kept_at Released c = c ∷ []
kept_at _ c = []

one_kept : (p : Phase) (c : ℕ) → length (kept_at p c) ≤ 1
one_kept Free c = omega arith
one_kept Reset c = omega arith
one_kept Prereleased c = omega arith
one_kept Paused c = omega arith
one_kept Released c = omega arith

pub record Known (g : ℕ) (rel giv : List ℕ) (s : ElementState) : Type 0 where
  pub future : s.generation < g → (rel ≡ []) × (giv ≡ [])
  pub now : s.generation ≡ g → (rel ≡ kept_at s.phase s.code) × (giv ≡ [])
  pub past : g < s.generation → (giv ≡ []) ⊎ ((c : ℕ) × (giv ≡ c ∷ []) × (rel ≡ c ∷ []))
  pub few : length rel ≤ 1

-- the table, as far as this needs it
abbrev pub kept_in : ElementState → List ℕ
kept_in s = kept_at s.phase s.code

rises_by_one : (op : ElementOp) (s : ElementState) → (element_step op s).0.generation ≤ s.generation + 1
rises_by_one op s = grind arith

not_yet_accepted : (g : ℕ) (s : ElementState) (v : ElementEvent) → Answers s v → s.generation < g → releases g (v ∷ []) ≡ []
not_yet_accepted g s v e lt = grind arith

not_yet_given : (g : ℕ) (s : ElementState) (v : ElementEvent) → Answers s v → s.generation < g → givens g (v ∷ []) ≡ []
not_yet_given g s v e lt = grind arith

begins_empty : (op : ElementOp) (s : ElementState) → s.generation < (element_step op s).0.generation → kept_in (element_step op s).0 ≡ []
begins_empty op s lt = grind arith

keeps_codes : (g : ℕ) (s : ElementState) (v : ElementEvent) → Answers s v → s.generation ≡ g → (element_step v.op s).0.generation ≡ g
    → kept_in s ++ releases g (v ∷ []) ≡ kept_in (element_step v.op s).0
keeps_codes g s v e is same = grind arith

gives_none : (g : ℕ) (s : ElementState) (v : ElementEvent) → Answers s v → s.generation ≡ g → (element_step v.op s).0.generation ≡ g
    → givens g (v ∷ []) ≡ []
gives_none g s v e is same = grind arith

given_kept : (g code : ℕ) (s : ElementState) (v : ElementEvent) → Answers s v → given_code g v.reply ≡ Some code → (s.generation ≡ g)
    × (kept_in s ≡ code ∷ []) × (g < (element_step v.op s).0.generation)
given_kept g code s v e is = grind arith

given_not_released : (g code : ℕ) (s : ElementState) (v : ElementEvent) → Answers s v → given_code g v.reply ≡ Some code
    → releases g (v ∷ []) ≡ []
given_not_released g code s v e is = grind arith

ends_unreleased : (g : ℕ) (s : ElementState) (v : ElementEvent) → Answers s v → s.generation ≡ g → g < (element_step v.op s).0.generation
    → releases g (v ∷ []) ≡ []
ends_unreleased g s v e is lt = grind arith

hands_over : (g : ℕ) (s : ElementState) (v : ElementEvent) → Answers s v → (givens g (v ∷ []) ≡ [])
    ⊎ ((c : ℕ) × (givens g (v ∷ []) ≡ c ∷ []) × (kept_in s ++ releases g (v ∷ []) ≡ c ∷ []))
hands_over g s v e = go (given_code g v.reply) refl where
  go : (o : Option ℕ) → given_code g v.reply ≡ o → (givens g (v ∷ []) ≡ [])
      ⊎ ((c : ℕ) × (givens g (v ∷ []) ≡ c ∷ []) × (kept_in s ++ releases g (v ∷ []) ≡ c ∷ []))
  go None h = inl (rw h refl)
  go (Some c) h = inr (c, rw h refl, rw ((given_kept g c s v e h).1, given_not_released g c s v e h) refl)

module _ (g : ℕ) (rel giv : List ℕ) (s : ElementState) (v : ElementEvent) (e : Answers s v) (k : Known g rel giv s) where
  abbrev s' : ElementState
  s' = (element_step v.op s).0

  known-future : s'.generation < g → (rel ++ releases g (v ∷ []) ≡ []) × (giv ++ givens g (v ∷ []) ≡ [])
  known-future lt =
      let up : s.generation ≤ s'.generation = rises v.op s in
      let before : s.generation < g = omega arith in
      rw (not_yet_accepted g s v e before, not_yet_given g s v e before, (k.future before).0, (k.future before).1) (refl, refl)

  known-now : s'.generation ≡ g → (rel ++ releases g (v ∷ []) ≡ kept_in s') × (giv ++ givens g (v ∷ []) ≡ [])
  known-now is =
      let up : s.generation ≤ s'.generation = rises v.op s in
      elim (cases_order s.generation g) [
        | inl same ↦ rw ((k.now same).0, (k.now same).1, keeps_codes g s v e same is, gives_none g s v e same is) (refl, refl)
        | inr (inl before) ↦ rw (
          not_yet_accepted g s v e before,
          not_yet_given g s v e before,
          (k.future before).0,
          (k.future before).1,
          begins_empty v.op s (omega (arith, is, before)),
        ) (refl, refl)
        | inr (inr after) ↦ absurd (omega arith)
      ]

  known-past : g < s'.generation → (giv ++ givens g (v ∷ []) ≡ [])
      ⊎ ((c : ℕ) × (giv ++ givens g (v ∷ []) ≡ c ∷ []) × (rel ++ releases g (v ∷ []) ≡ c ∷ []))
  known-past lt =
      let one : s'.generation ≤ s.generation + 1 = rises_by_one v.op s in
      elim (cases_order s.generation g) [
        | inl same ↦ rw ((k.now same).0, (k.now same).1) (hands_over g s v e)
        | inr (inl before) ↦ absurd (omega arith)
        | inr (inr after) ↦ rw (no_accepted g s v e after, no_given g s v e after, append-nil, append-nil) (k.past after)
      ]

  known-few : length (rel ++ releases g (v ∷ [])) ≤ 1
  known-few =
      let up : s.generation ≤ s'.generation = rises v.op s in
      elim (cases_order s.generation g) [
        | inl same ↦ elim (cases_order s'.generation g) [
          | inl is ↦ rw ((known-now is).0) (one_kept s'.phase s'.code)
          | inr (inl before) ↦ absurd (omega arith)
          | inr (inr after) ↦ rw ((k.now same).0, ends_unreleased g s v e same after, append-nil) (one_kept s.phase s.code)
        ]
        | inr (inl before) ↦ rw ((k.future before).0, not_yet_accepted g s v e before) (omega arith)
        | inr (inr after) ↦ rw (no_accepted g s v e after, append-nil) k.few
      ]

pub known_more : (g : ℕ) (rel giv : List ℕ) (s : ElementState) (v : ElementEvent) → Answers s v → Known g rel giv s
    → Known g (rel ++ releases g (v ∷ [])) (giv ++ givens g (v ∷ [])) (element_step v.op s).0
known_more g rel giv s v e k = record {
  future = known-future g rel giv s v e k;
  now = known-now g rel giv s v e k;
  past = known-past g rel giv s v e k;
  few = known-few g rel giv s v e k;
}

abbrev pub start : Cell ElementState
start = record { place = 0; state = free 0 }

pub known : (g : ℕ) (vs : List ElementEvent) → RunFrom element_table start vs
    → Known g (releases g vs) (givens g vs) (cell_after element_table start vs).state
known g vs l =
    along element_table (λ past s. Known g (releases g past) (givens g past) s)
    (λ past cell v t k. rw (filter_map-append (accepted_code g) past (v ∷ []), filter_map-append (λ w. given_code g w.reply) past (v ∷ []))
    (known_more g (releases g past) (givens g past) cell.state v t.reply k))
    [] start (record { future = λ _. (refl, refl); now = λ _. (refl, refl); past = λ lt. inl refl; few = omega arith }) vs l

-- part 2
pub given_once : (g : ℕ) (vs : List ElementEvent) → RunFrom element_table start vs → length (givens g vs) ≤ 1
given_once g vs l =
    let k : Known g (releases g vs) (givens g vs) (cell_after element_table start vs).state = known g vs l in
    let s : ElementState = (cell_after element_table start vs).state in
    elim (cases_order (cell_after element_table start vs).state.generation g) [
      | inl same ↦ rw ((k.now same).1) (omega arith)
      | inr (inl before) ↦ rw ((k.future before).1) (omega arith)
      | inr (inr after) ↦ elim (k.past after) [ inl none ↦ rw none (omega arith) | inr w ↦ rw (w.1) (omega arith) ]
    ]

-- no token is accepted twice
pub accepted_once : (g : ℕ) (vs : List ElementEvent) → RunFrom element_table start vs → length (releases g vs) ≤ 1
accepted_once g vs l = (known g vs l).few

ends_up : (g : ℕ) (s : ElementState) (v : ElementEvent) → Answers s v → IsTrue (ends_by g v.op v.reply)
    → g < (element_step v.op s).0.generation
ends_up g s v e is = grind arith

module _ (g : ℕ) (vs before later : List ElementEvent) (v : ElementEvent) (l : RunFrom element_table start vs)
    (split : vs ≡ before ++ v ∷ later) where
  abbrev there : Cell ElementState
  there = cell_after element_table start before

  run_at : RunFrom element_table start before × RunFrom element_table there (v ∷ later)
  run_at =
      let whole : RunFrom element_table start (before ++ v ∷ later) = rw split at l in
      (RunFrom-front element_table start before (v ∷ later) whole, RunFrom-rest element_table start before (v ∷ later) whole)

  -- part 1
  pub reached : (code : ℕ) → given_code g v.reply ≡ Some code → (releases g before ≡ code ∷ []) × (releases g later ≡ [])
  reached code is =
      let run : RunFrom element_table start before × RunFrom element_table there (v ∷ later) = run_at in
      let w : (there.state.generation ≡ g) × (kept_in there.state ≡ code ∷ []) × (g < (element_step v.op there.state).0.generation) =
      given_kept g code there.state v run.1.0.reply is in
      let k : Known g (releases g before) (givens g before) there.state = known g before run.0 in
      ((k.now w.0).0 ∙ w.1, (passed g (next_cell element_table there v) later w.2 run.1.1).none_released)

  -- part 3
  pub spent_later : IsTrue (ends_by g v.op v.reply) → AllByRecursion (IsSpentUpTo g) later
  spent_later is =
      (passed g (next_cell element_table there v) later (ends_up g there.state v run_at.1.0.reply is) run_at.1.1).all_spent

pub element_is_orderly : (vs : List ElementEvent) → RunFrom element_table start vs → IsOrderlyElement vs
element_is_orderly vs l = record {
  reached = λ g code before later v split is. reached g vs before later v l split code is;
  once = λ g. given_once g vs l;
  accepted = λ g. accepted_once g vs l;
  spent = λ g before later v split is. spent_later g vs before later v l split is;
}
