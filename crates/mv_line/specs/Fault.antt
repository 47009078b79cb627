-- The faults of a text, by line and in each line by kind, and the first of them. The rules of a text say which faults a line has.
use Rattle.std.specs.Prelude.{◌≡◌, ℕ, ◌+◌, ◌<◌, ◌≤◌, ◌⊎◌, Bool, false, not, List, [], ◌∷◌, ◌++◌, length, map, fold, Option, Some, None}
use Rattle.std.specs.Prelude.{if◌then◌else◌}
use Rattle.std.specs.List.{Contains}
use Rattle.mv_line.specs.declared.fault.LineRefusal.{LineRefusal}
use Rattle.mv_line.specs.declared.fault.LineRefusal.TheVariants.{Has}
use Rattle.mv_line.specs.declared.fault.LineRefusal.TheVariants as of_line
use Rattle.mv_line.specs.declared.fault.TextFault.{TextFault}
use Rattle.mv_line.specs.declared.fault.TextRefusal.{TextRefusal}
use Rattle.mv_line.specs.declared.fault.TextRefusal.TheVariants.{Fault, NoMemory}
use Rattle.mv_line.specs.declared.line.Lines.{Lines}
use Rattle.mv_line.specs.Line.{lines_of}

-- The rules of a text, where Said is what its lines so far have stated. `with_line` adds a line to that; `kinds_of` lists the
-- kinds of fault of the next line, rising; `is_whole` says whether the text may end here, and `cut_short` is the kind of fault if
-- it may not.
pub record LineRules (Said : Type 0) : Type 0 where
  pub with_line : Said → List ℕ → Said
  pub kinds_of : Said → List ℕ → List ℕ
  pub is_whole : Said → Bool
  pub cut_short : ℕ

-- the number of a kind as a list, if the kind's test holds; otherwise the empty list
abbrev pub when : {K : Type 0} → (K → ℕ) → Bool → K → List ℕ
when number_of holds kind = if holds then number_of kind ∷ [] else []

-- The line of this number has a fault of this kind, if the first of the lines has the number `from` and `said` was stated before
-- them. Either the line itself has the fault, after the lines before it, or the text is cut short, and the number is one past the
-- last line's.
pub data HasFaultAt {Said : Type 0} (rules : LineRules Said) (from : ℕ) (said : Said) (lines : List (List ℕ)) (number kind : ℕ)
    : Type 0 where
  in_line : (before behind : List (List ℕ)) (line : List ℕ) → lines ≡ before ++ line ∷ behind → number ≡ length before + from
      → Contains (rules.kinds_of (fold rules.with_line said before) line) kind → HasFaultAt rules from said lines number kind
  at_end : rules.is_whole (fold rules.with_line said lines) ≡ false → number ≡ length lines + from → kind ≡ rules.cut_short
      → HasFaultAt rules from said lines number kind

-- the fault of this kind in the line of this number
abbrev pub fault_at : ℕ → ℕ → TextFault
fault_at line kind = record { line = line; kind = kind }

-- f is not after g: by line, and in one line by kind
abbrev pub IsNoLater : TextFault → TextFault → Type 0
IsNoLater f g = (f.line < g.line) ⊎ ((f.line ≡ g.line) × (f.kind ≤ g.kind))

-- all faults of lines of which the first has this number, by line, and in each line by kind
abbrev pub faults_by_line : {Said : Type 0} → LineRules Said → ℕ → Said → List (List ℕ) → List TextFault
faults_by_line rules number said [] = map (fault_at number) (if not (rules.is_whole said) then rules.cut_short ∷ [] else [])
faults_by_line rules number said (line ∷ lines) =
    map (fault_at number) (rules.kinds_of said line) ++ faults_by_line rules (number + 1) (rules.with_line said line) lines

-- the first element of a list, if there is one
abbrev pub first_of_list : {A : Type 0} → List A → Option A
first_of_list [] = None
first_of_list (x ∷ xs) = Some x

-- the first fault of the lines of a text, if `said` was stated before them: that of the lowest line, and there the first kind
-- that the rules list
abbrev pub first_fault : {Said : Type 0} → LineRules Said → Said → List (List ℕ) → Option TextFault
first_fault rules said lines = first_of_list (faults_by_line rules 1 said lines)

-- ---- the pass over the lines

-- a pass goes from `before` to `behind` over the line of this number
pub record IsPassed (before : Lines) (number : ℕ) (line : List ℕ) (behind : Lines) : Type 0 where
  pub here : number ≡ before.number
  pub first : lines_of before.left.now ≡ line ∷ lines_of behind.left.now
  pub next : behind.number ≡ before.number + 1
  pub shorter : length behind.left.now < length before.left.now

-- Of the lines of a text, `left` are left, of which the first has this number; the lines before them have no fault and have
-- stated `said`. So the first fault of what is left is that of the whole text, and so is what the lines state in the end.
pub record HasPassed {Said : Type 0} (rules : LineRules Said) (start : Said) (lines : List (List ℕ)) (number : ℕ) (said : Said)
    (left : List (List ℕ)) : Type 0 where
  pub first : first_of_list (faults_by_line rules number said left) ≡ first_fault rules start lines
  pub all : fold rules.with_line said left ≡ fold rules.with_line start lines

-- ---- what a refusal says

-- a refusal of a line has the lowest of the line's kinds, whose numbers these are; out of memory may be returned for any line
abbrev pub TellsLowest : {K : Type 0} → (K → ℕ) → LineRefusal K → List ℕ → Type 0
TellsLowest number_of (Has kind) kinds = first_of_list kinds ≡ Some (number_of kind)
TellsLowest number_of of_line.NoMemory kinds = Unit {0}

-- the refusal of a text for the refusal of its line of this number
abbrev pub refusal_at : {K : Type 0} → (K → ℕ) → ℕ → LineRefusal K → TextRefusal
refusal_at number_of line (Has kind) = Fault (fault_at line (number_of kind))
refusal_at number_of line of_line.NoMemory = NoMemory

-- a refusal with a fault has the first fault of the text; out of memory may be returned for any text
abbrev pub TellsFirst : TextRefusal → Option TextFault → Type 0
TellsFirst (Fault f) first = first ≡ Some f
TellsFirst NoMemory first = Unit {0}
