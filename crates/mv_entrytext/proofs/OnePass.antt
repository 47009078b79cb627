-- Entries that are numbered and written one by one.
use Rattle.std.proofs.Common.{◌≡◌, ℕ, ◌+◌, List, [], ◌∷◌, ◌++◌, length, Some, subst, refl, sym, ap, ◌∙◌, arith}
use Rattle.std.proofs.lemmas.List.{append_assoc, append-nil, length-append}
use Rattle.std.specs.List.{flat_map}
use Rattle.mv_latch.specs.declared.operation.Wake.{Wake}
use Rattle.mv_machine.specs.declared.entry.Entry.{Entry}
use Rattle.mv_machine.specs.History.{HistoryFace, IsGiven}
use Rattle.mv_machine.specs.Legal.{Legal}
use Rattle.mv_config.specs.Setup.{Setup}
use Rattle.mv_machine.specs.System.{opening}
use Rattle.mv_machine.specs.Told.{last_wakes}
use Rattle.mv_machine.proofs.Histories.{LegalFrom-front}
use Rattle.mv_calls.specs.declared.counters.CallCounters.{CallCounters}
use Rattle.mv_calls.specs.Counters.{HasCounted, IsCountable}
use Rattle.mv_calls.specs.Numbers.{calls}
use Rattle.mv_calls.proofs.call_numbers.Prefixes.{calls_length}
use Rattle.mv_operationtext.specs.declared.version.Version.TheVariants.{One, Two}
use Rattle.mv_entrytext.specs.Journal.{EntryOf, End, line, entry_lines, head_text, journal_text, text_of, text1}
use Rattle.mv_entrytext.proofs.CallNumbers.{numbered_more}

-- an entry was given, and later ones are still to come
module _ (whole past coming later : List Entry) (e : Entry) (split : past ++ coming ≡ whole) (next : coming ≡ e ∷ later) where
  pub split_there : (past ++ e ∷ []) ++ later ≡ whole
  split_there = append_assoc past (e ∷ []) later ∙ ap (λ (xs : List Entry). past ++ xs) (sym next) ∙ split

  -- so far it is legal where the whole is
  pub legal_so_far : (c : Setup) → Legal c whole → Legal c (past ++ e ∷ [])
  legal_so_far c l = LegalFrom-front c (opening c) (past ++ e ∷ []) later (subst (λ (xs : List Entry). Legal c xs) (sym split_there) l)

  -- and shorter than the whole before
  pub shorter_so_far : length past + 1 + length later ≡ length whole
  shorter_so_far =
      let there : length ((past ++ e ∷ []) ++ later) ≡ length whole = ap (λ (xs : List Entry). length xs) split_there in
      omega (arith, there, length-append (past ++ e ∷ []) later, length-append past (e ∷ []))

-- so it is counted next, behind those that were given before
pub given_countable : (c d : Setup) (whole : List Entry) (old new : HistoryFace) (e : Entry) (ws : List Wake) (x : CallCounters)
    → d ≡ new.config → old.config ≡ c → old.past ++ old.coming ≡ whole → IsGiven old e new → Legal c whole → HasCounted c old.past x
    → ws ≡ last_wakes new.config new.past → (d ≡ c) × IsCountable c old.past e ws x
given_countable c d whole old new e ws x now was split given legal counted wakes =
    let config : new.config ≡ c = given.config ∙ was in (
      now ∙ config,
      record {
        counted = counted;
        legal = legal_so_far whole old.past old.coming new.coming e split given.coming c legal;
        wakes = wakes ∙ ap (λ (z : Setup). last_wakes z new.past) config ∙ ap (λ (es : List Entry). last_wakes c es) given.past;
      },
    )

-- its line, with its number, stands behind those before it
pub call_line_more : (c : Setup) (es : List Entry) (e : Entry) (n : ℕ) → calls c (es ++ e ∷ []) ≡ calls c es ++ n ∷ []
    → entry_lines (es ++ e ∷ []) (calls c (es ++ e ∷ [])) ≡ entry_lines es (calls c es) ++ EntryOf (Some n) e ∷ []
call_line_more c es e n number =
    ap (λ (ns : List ℕ). entry_lines (es ++ e ∷ []) ns) number ∙ numbered_more es (calls c es) e n (calls_length c es)

-- the text is whole with the lines of all, in version 1
pub plain_over : (c : Setup) (es : List Entry)
    → head_text One c ++ flat_map line (entry_lines es []) ++ line (End (length es)) ≡ text1 c es
unfolding text_of
plain_over c es = refl

-- and in version 2, where none is still to come
pub text_over : (c : Setup) (whole past coming : List Entry) → past ++ coming ≡ whole → coming ≡ []
    → head_text Two c ++ flat_map line (entry_lines past (calls c past)) ++ line (End (length past)) ≡ journal_text c whole
unfolding text_of
text_over c whole past coming split none =
    let all : past ≡ whole = sym (append-nil past) ∙ ap (λ (xs : List Entry). past ++ xs) (sym none) ∙ split in
    ap (λ (es : List Entry). head_text Two c ++ flat_map line (entry_lines es (calls c es)) ++ line (End (length es))) all
