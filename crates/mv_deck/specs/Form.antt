-- The statement of a form.
use Rattle.std.specs.Prelude.{ℕ, List, map, Option, option_map}
use Rattle.std.specs.Borrow.{Bor}
use Rattle.mv_deck.specs.declared.form.Form.{Form}
use Rattle.mv_deck.specs.declared.form.Form.TheVariants as form
use Rattle.mv_deck.specs.declared.form.Part.{Part}
use Rattle.mv_deck.specs.declared.form.Version.{Version}
use Rattle.mv_line.specs.Part.{parts_left}
use Rattle.mv_deck.specs.Line.{comma}
use Rattle.mv_deck.specs.Statement.{Statement, Null, DeckOf, JobOf, PrintOf, UseOf, FreeOf, CountOf, ScanOf, AbendOf, ReturnOf, AfterPart}
use Rattle.mv_deck.specs.Statement.{part_of}

-- the bytes of a reference
abbrev pub bytes_behind : Bor (List ℕ) → List ℕ
bytes_behind text = text.now

-- what contracts see of a part of an AFTER list
abbrev pub part_data : Part → AfterPart
part_data p = record { name = p.name.now; most = option_map bytes_behind p.most }

-- the parts of an AFTER list, none if there is no list
abbrev pub listed : Version → Option (Bor (List ℕ)) → List AfterPart
listed v list = map (part_of v) (parts_left comma list)

-- the statement of a form
abbrev pub stated : Version → Form → Statement
stated v form.Null = Null
stated v (form.Deck version) = DeckOf version.now
stated v (form.Job name after) = JobOf name.now (listed v after)
stated v (form.Print text) = PrintOf text.now
stated v (form.Use latch mode) = UseOf latch.now mode
stated v (form.Free latch) = FreeOf latch.now
stated v (form.Count volume amount) = CountOf volume.now amount.now
stated v (form.Scan volume) = ScanOf volume.now
stated v (form.Abend code) = AbendOf code.now
stated v (form.Return code) = ReturnOf code.now
