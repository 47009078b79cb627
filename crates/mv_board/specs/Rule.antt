-- The rule of the table, an inductive invariant. Between any two steps of any threads there is one legal history: the merge of
-- the callers' logs that the views hold. The words, and the lists of the latch set, are what this history leads to, and each part
-- in a view is its caller's part of this history.
use Rattle.std.specs.Prelude.{◌≡◌, ℕ, zero, suc, ◌+◌, ◌<◌, ◌≤◌, ◌==◌, true, ◌⊎◌, List, [], ◌∷◌, ◌++◌, length, slice_index}
use Rattle.std.specs.Prelude.{if◌then◌else◌}
use Rattle.std.specs.List.{AllByRecursion}
use mathlib.Core.Option.{Option, some}
use lib.ListN.{get_elem?}
use Rattle.atomic_table.specs.Table.{State}
use Rattle.mv_ecb.specs.Word.{is_complete}
use Rattle.mv_element.specs.Element.{is_released}
use Rattle.mv_latch.specs.declared.request.Request.{Request}
use Rattle.mv_machine.specs.declared.entry.Entry.{Entry}
use Rattle.mv_machine.specs.declared.entry.Object.{Object}
use Rattle.mv_config.specs.Check.{IsValid}
use Rattle.mv_machine.specs.Kept.{HasMade}
use Rattle.mv_machine.specs.Legal.{Legal, after, of}
use Rattle.mv_machine.specs.Merge.{merged}
use Rattle.mv_machine.specs.Owned.{IsGranted, IsGone}
use Rattle.mv_machine.specs.Packing.{word_at}
use Rattle.mv_machine.specs.Parts.{Had}
use Rattle.mv_config.specs.Setup.{Setup, owner_of, element_owner, element_count}
use Rattle.mv_machine.specs.System.{Cell, latches_of}
use Rattle.mv_machine.specs.Told.{told}
use Rattle.mv_board.specs.declared.item.Item.{Item}
use Rattle.mv_board.specs.declared.item.Item.TheVariants.{Held}
use Rattle.mv_board.specs.declared.item.Lists.{Lists}
use Rattle.mv_board.specs.declared.view.Named.{Named}
use Rattle.mv_board.specs.declared.view.Part.{Part}
use Rattle.mv_board.specs.declared.view.View.{View}
use Rattle.mv_board.specs.declared.watch.Watch.{Watch}
use Rattle.mv_board.specs.declared.watch.Watch.TheVariants as watch
use Rattle.mv_board.specs.Words.{HasWord, word_number, word_count, turn_word}

-- ---- sums over the views

-- the sum of f over all views
abbrev pub tally : (View → ℕ) → List View → ℕ
tally f [] = 0
tally f (v ∷ vs) = f v + tally f vs

-- how many of these parts are of caller k
abbrev pub holders_in : ℕ → List Part → ℕ
holders_in k [] = 0
holders_in k (p ∷ ps) = (if p.caller == k then 1 else 0) + holders_in k ps

-- how many parts of a view are of caller k
abbrev pub holders : ℕ → View → ℕ
holders k v = holders_in k v.parts

-- how many callers were made so far
abbrev pub made : List View → ℕ
made vs = tally (λ v. v.made) vs

-- how many views hold the turn
abbrev pub turns : List View → ℕ
turns vs = tally (λ v. length v.turn) vs

-- ---- the history, read off the views

-- the parts of all views together
abbrev pub all_parts : List View → List Part
all_parts [] = []
all_parts (v ∷ vs) = v.parts ++ all_parts vs

-- the log of caller k in these parts; empty if it has no part, as before the caller is made
abbrev pub log_in : ℕ → List Part → List Entry
log_in k [] = []
log_in k (p ∷ ps) = if p.caller == k then p.log else log_in k ps

-- the logs of n callers from caller k on, as the views have them
abbrev pub logs_from : ℕ → ℕ → List View → List (List Entry)
logs_from k zero vs = []
logs_from k (suc n) vs = log_in k (all_parts vs) ∷ logs_from (suc k) n vs

-- the merge of all logs that the views hold
abbrev pub history_of : Setup → List View → List Entry
history_of c vs = merged (logs_from 0 c.callers vs)

-- ---- what the views hold of a history

-- a caller's log and told list are its part of the history, its budget is the events in its log and those left, and each word
-- that it read was the object's between the caller's entries on that object
pub record IsPart (c : Setup) (h : List Entry) (p : Part) : Type 0 where
  pub logged : p.log ≡ of p.caller h
  pub shown : p.told ≡ told c p.caller h
  pub budget : length p.log + p.left ≡ slice_index c.budgets p.caller
  pub had : AllByRecursion (λ m. Had c h p.caller m.after m.object m.word) p.sights

-- what a view says is so: if it counts the callers, its count is the number of callers made, and each of its parts is one of h
pub record Knows (c : Setup) (h : List Entry) (callers : ℕ) (v : View) : Type 0 where
  pub counted : 0 < v.made → v.made ≡ callers
  pub parts : AllByRecursion (IsPart c h) v.parts

-- Each caller that was made has exactly one part in all views, and any other has no part and no entry. The configuration has all
-- callers that were made, and what each view says is so.
pub record Logs (c : Setup) (vs : List View) (h : List Entry) : Type 0 where
  pub one : (k : ℕ) → k < made vs → tally (holders k) vs ≡ 1
  pub none_yet : (k : ℕ) → made vs ≤ k → tally (holders k) vs ≡ 0
  pub few : made vs ≤ c.callers
  pub unmade : (k : ℕ) → made vs ≤ k → of k h ≡ []
  pub known : (j : ℕ) (v : View) → get_elem? vs j ≡ some v → Knows c h (made vs) v

-- ---- the latch set's turn

-- these lists are the latch set of the history, with its place
abbrev pub IsLists : Setup → Cell (List (List Request)) → Lists → Type 0
IsLists c x l = (l.place ≡ x.place) × (l.latches ≡ latches_of c x.state)

-- a view that holds the turn names the lists as they are in the history, with their place
abbrev pub IsNamed : Cell (List (List Request)) → Named → Type 0
IsNamed x t = (t.place ≡ x.place) × (t.lists ≡ x.state)

-- Either the turn's word is 0 and the lists are in the slot, or it is 1 and exactly one view holds the turn and names the lists.
pub record Turns (c : Setup) (x : Cell (List (List Request))) (word : ℕ) (homes : List (Option Item)) (vs : List View) : Type 0 where
  pub count : word ≡ turns vs
  pub single : word ≤ 1
  pub home : word ≡ 0 → (l : Lists) × (get_elem? homes 0 ≡ some (some (Held l))) × IsLists c x l
  pub named : (j : ℕ) (v : View) → get_elem? vs j ≡ some v → AllByRecursion (IsNamed x) v.turn

-- ---- watches

-- what caller k watches is its own and ready: its block is complete, its element is released, or its request is granted or gone
abbrev pub IsReady : Setup → List Entry → ℕ → Watch → Type 0
IsReady c h k (watch.Ecb n) = (n < length c.owners) × (owner_of c n ≡ k) × (is_complete ((after c h).ecb n).state ≡ true)
IsReady c h k (watch.Element n) = (n < element_count c) × (element_owner c n ≡ k) × (is_released ((after c h).element n).state.phase ≡ true)
IsReady c h k (watch.Latch latch id) = HasMade latch id (of k h) × (IsGranted k latch id (after c h) ⊎ IsGone k latch id (after c h))

-- each listed watch is ready for the view's own caller; a view without parts lists nothing
abbrev pub ReadyFor : Setup → List Entry → List Part → List Watch → Type 0
ReadyFor c h [] ws = ws ≡ []
ReadyFor c h (p ∷ ps) ws = AllByRecursion (IsReady c h p.caller) ws

-- a view with parts has the configuration, and one without parts has none
abbrev pub AboutFor : Setup → List Part → List Setup → Type 0
AboutFor c [] cs = cs ≡ []
AboutFor c (p ∷ ps) cs = cs ≡ c ∷ []

-- ---- the rule

-- the history h explains the state of the table: it is legal, and the words, the slot and the views are those that it leads to
pub record Stands (c : Setup) (s : State Item View) (h : List Entry) : Type 0 where
  pub valid : IsValid c
  pub legal : Legal c h
  pub logs : Logs c s.views h
  pub wide : length s.words ≡ word_count c
  pub words : (o : Object) → HasWord c o → slice_index s.words (word_number o) ≡ word_at (after c h) o
  pub turn : Turns c (after c h).latches (slice_index s.words turn_word) s.homes s.views
  pub ready : (j : ℕ) (v : View) → get_elem? s.views j ≡ some v → ReadyFor c h v.parts v.ready
  pub about : (j : ℕ) (v : View) → get_elem? s.views j ≡ some v → AboutFor c v.parts v.about
  pub idle : (j : ℕ) (v : View) → get_elem? s.views j ≡ some v → v.parts ≡ [] → v.turn ≡ []

-- The invariant of the table. It names its history: the merge of the logs.
abbrev pub Ruled : Setup → State Item View → Type 0
Ruled c s = Stands c s (history_of c s.views)
