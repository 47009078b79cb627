-- A text that is written to a sink piece by piece.
use Rattle.std.proofs.Common.{◌≡◌, ℕ, ◌+◌, List, [], ◌∷◌, ◌++◌, length, take, Some, None, subst, refl, sym, ap, ◌∙◌, arith}
use Rattle.std.proofs.Common.{append-nil, append_assoc, take-add, take_at, drop_at}
use Rattle.std.proofs.lemmas.Grind.{flat_map-append}
use Rattle.std.proofs.lemmas.List.{length-append, take-append-le}
use Rattle.std.specs.declared.option.Option.{Option}
use Rattle.std.specs.Prelude.{OnOk, OnErr}
use Rattle.std.proofs.Common.{Result, Ok, Err}
use Rattle.std.specs.List.{flat_map}
use Rattle.mv_io.specs.Sink.{Appends, AppendsFront}
use Rattle.mv_machine.specs.declared.entry.Entry.{Entry}
use Rattle.mv_config.specs.Setup.{Setup}
use Rattle.mv_machine.specs.System.{opening}
use Rattle.mv_calls.specs.Numbers.{calls, unnumbered}
use Rattle.mv_calls.proofs.call_numbers.Counted.{calls_more}
use Rattle.mv_operationtext.specs.declared.version.Version.TheVariants.{Two}
use Rattle.mv_entrytext.specs.HistoryText.{IsWrittenSoFar, text_up_to}
use Rattle.mv_entrytext.specs.Journal.{Line, EntryOf, End, entry_lines, head_text, journal_text, line}
use Rattle.mv_entrytext.proofs.OnePass.{call_line_more, text_over}

-- ---- pieces

-- a piece behind another
appends_both : (old mid new : Option (List ℕ)) (xs ys : List ℕ) → Appends old mid xs → Appends mid new ys → Appends old new (xs ++ ys)
appends_both None mid new xs ys a b = tt
appends_both (Some zs) mid new xs ys a b = (rw a at b) ∙ ap Some (append_assoc zs xs ys)

-- the piece was written
pub written_on : (first mid new : Option (List ℕ)) (piece text : List ℕ) → Appends mid new piece → IsWrittenSoFar first mid piece text
    → IsWrittenSoFar first new [] text
written_on first mid new piece text wrote p = record {
  taken = p.taken ++ piece;
  appended = appends_both first mid new p.taken piece p.appended wrote;
  whole = append-nil (p.taken ++ piece) ∙ p.whole;
}

-- a front of it was written
pub cut_there : (first mid new : Option (List ℕ)) (piece text : List ℕ) → AppendsFront mid new piece → IsWrittenSoFar first mid piece text
    → AppendsFront first new text
cut_there None mid new piece text wrote p = tt
cut_there (Some xs) mid new piece text wrote p =
    let cut = subst (λ (o : Option (List ℕ)). AppendsFront o new piece) p.appended wrote in
    let n : ℕ = length p.taken in
    let k : ℕ = cut.0 in
    let front : p.taken ++ take k piece ≡ take (n + k) text =
    ap (λ (ys : List ℕ). ys ++ take k piece) (sym (take_at p.taken piece n refl))
    ∙ ap (λ (ys : List ℕ). take n (p.taken ++ piece) ++ take k ys) (sym (drop_at p.taken piece n refl))
    ∙ sym (take-add n k (p.taken ++ piece)) ∙ ap (λ (ys : List ℕ). take (n + k) ys) p.whole in (
      n + k,
      omega (arith, cut.1, ap (λ (ys : List ℕ). length ys) p.whole, length-append p.taken piece),
      cut.2 ∙ ap Some (append_assoc xs p.taken (take k piece)) ∙ ap (λ (ys : List ℕ). Some (xs ++ ys)) front,
    )

-- more was put behind it
pub written_more : (first now : Option (List ℕ)) (piece longer text more : List ℕ) → longer ≡ piece ++ more
    → IsWrittenSoFar first now piece text
    → IsWrittenSoFar first now longer (text ++ more)
written_more first now piece longer text more is p = record {
  taken = p.taken;
  appended = p.appended;
  whole = ap (λ (xs : List ℕ). p.taken ++ xs) is ∙ sym (append_assoc p.taken piece more) ∙ ap (λ (xs : List ℕ). xs ++ more) p.whole;
}

-- a front of a text is one of a longer text
pub cut_longer : (first now : Option (List ℕ)) (text rest : List ℕ) → AppendsFront first now text → AppendsFront first now (text ++ rest)
cut_longer None now text rest cut = tt
cut_longer (Some xs) now text rest cut = (
  cut.0,
  omega (arith, cut.1, length-append text rest),
  cut.2 ∙ ap (λ (ys : List ℕ). Some (xs ++ ys)) (sym (take-append-le cut.0 text rest (omega (arith, cut.1)))),
)

-- nothing was written yet
nothing_taken : (old : Option (List ℕ)) → Appends old old []
nothing_taken None = tt
nothing_taken (Some xs) = ap Some (sym (append-nil xs))

-- all was
pub written_out : {T E : Type 0} (r : Result T E) (old new : Option (List ℕ)) (piece text : List ℕ)
    → OnOk r (IsWrittenSoFar old new piece text)
    → OnOk r (piece ≡ []) → OnOk r (Appends old new text)
written_out (Err e) old new piece text p none = tt
written_out (Ok x) old new piece text p none =
    subst (λ (xs : List ℕ). Appends old new xs)
    (sym (append-nil p.taken) ∙ ap (λ (xs : List ℕ). p.taken ++ xs) (sym none) ∙ p.whole) p.appended

-- what holds holds where a call was refused
pub if_refused : {T E Q : Type 0} (r : Result T E) → Q → OnErr r Q
if_refused (Ok x) q = tt
if_refused (Err e) q = q

-- ---- the text of a history

-- its head is the first piece
pub head_waits : (old : Option (List ℕ)) (c : Setup) (piece : List ℕ) → piece ≡ head_text Two c
    → IsWrittenSoFar old old piece (text_up_to c [])
head_waits old c piece is = record {
  taken = [];
  appended = nothing_taken old;
  whole = is ∙ sym (append-nil (head_text Two c));
}

-- one line more
pub text_line_more : (c : Setup) (es : List Entry) (e : Entry) (n : ℕ) → calls c (es ++ e ∷ []) ≡ calls c es ++ n ∷ []
    → text_up_to c (es ++ e ∷ []) ≡ text_up_to c es ++ line (EntryOf (Some n) e)
text_line_more c es e n number =
    let ls : List Line = entry_lines es (calls c es) in
    let here : List ℕ = line (EntryOf (Some n) e) in
    ap (λ (xs : List Line). head_text Two c ++ flat_map line xs) (call_line_more c es e n number)
    ∙ ap (λ (xs : List ℕ). head_text Two c ++ xs) (flat_map-append line ls (EntryOf (Some n) e ∷ []))
    ∙ ap (λ (xs : List ℕ). head_text Two c ++ (flat_map line ls ++ xs)) (append-nil here)
    ∙ sym (append_assoc (head_text Two c) (flat_map line ls) here)

-- the whole goes on behind each line
pub text_goes_on : (c : Setup) (past coming : List Entry) → (rest : List ℕ) × (journal_text c (past ++ coming) ≡ text_up_to c past ++ rest)
text_goes_on c past [] = (line (End (length past)), sym (text_over c (past ++ []) past [] refl refl))
text_goes_on c past (e ∷ later) =
    let number = calls_more c (opening c) (λ k. unnumbered) past e in
    let behind = text_goes_on c (past ++ e ∷ []) later in
    let more = text_line_more c past e _ number in (
      line (EntryOf (Some _) e) ++ behind.0,
      ap (λ (es : List Entry). journal_text c es) (sym (append_assoc past (e ∷ []) later)) ∙ behind.1
          ∙ ap (λ (xs : List ℕ). xs ++ behind.0) more
          ∙ append_assoc (text_up_to c past) _ behind.0,
    )

-- so a front of the text up to a line is one of the whole
pub cut_so_far : (first now : Option (List ℕ)) (c : Setup) (past coming whole : List Entry) → past ++ coming ≡ whole
    → AppendsFront first now (text_up_to c past) → AppendsFront first now (journal_text c whole)
cut_so_far first now c past coming whole split cut =
    let on = text_goes_on c past coming in
    subst (λ (xs : List ℕ). AppendsFront first now xs) (sym on.1 ∙ ap (λ (es : List Entry). journal_text c es) split)
    (cut_longer first now (text_up_to c past) on.0 cut)

-- and with the last line it is the whole
pub all_there : (c : Setup) (past coming whole : List Entry) (n : ℕ) (text : List ℕ)
    → past ++ coming ≡ whole → coming ≡ [] → n ≡ length past → journal_text c whole ≡ text → text_up_to c past ++ line (End n) ≡ text
all_there c past coming whole n text split none count is =
    ap (λ (k : ℕ). text_up_to c past ++ line (End k)) count ∙ text_over c whole past coming split none ∙ is
