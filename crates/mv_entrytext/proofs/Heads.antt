-- What the reader of the head takes.
use Rattle.std.proofs.Common.{◌≡◌, Bool, false, not, cond, Option, Some, None, refl, sym, ap, ◌∙◌}
use Rattle.mv_config.specs.Check.{IsValid, is_valid}
use Rattle.mv_config.specs.Setup.{Setup}
use Rattle.mv_config.proofs.Validity.{valid_is}
use Rattle.mv_entrytext.specs.declared.fault.Kind.{Kind}
use Rattle.mv_entrytext.specs.declared.fault.Kind.TheVariants.{BadConfig}
use Rattle.mv_entrytext.specs.Draft.{kind_of_config}
use Rattle.mv_entrytext.specs.declared.line.Line.{Line}
use Rattle.mv_entrytext.specs.declared.line.Line.TheVariants.{Version, Callers, Elements, Volumes, Latches, Quota, Budget, Owner, Exit}
use Rattle.mv_entrytext.specs.declared.line.Line.TheVariants.{Events}
use Rattle.mv_entrytext.specs.declared.line.Stage.{Stage}
use Rattle.mv_entrytext.specs.declared.line.Stage.TheVariants as stage
use Rattle.mv_entrytext.specs.Journal as journal
use Rattle.mv_entrytext.specs.Fault.{kind_said, is_ended}
use Rattle.mv_entrytext.specs.Lines.{Draft}
use Rattle.mv_entrytext.specs.Said.{said, stage_of}

-- within the head a text is cut off wherever it ends
pub not_ended : (s : Stage) → is_ended (stage_of s) ≡ false
not_ended stage.Version = refl
not_ended stage.Callers = refl
not_ended stage.Elements = refl
not_ended stage.Volumes = refl
not_ended stage.Latches = refl
not_ended stage.Quota = refl
not_ended stage.Budgets = refl
not_ended stage.Owners = refl
not_ended stage.Exits = refl

pub said_other : (l : Line) → (l ≡ Events → ⊥) → said l ≡ journal.Events → ⊥
said_other (Version v) h e = cc
said_other (Callers n) h e = cc
said_other (Elements n) h e = cc
said_other (Volumes n) h e = cc
said_other (Latches n) h e = cc
said_other (Quota q p) h e = cc
said_other (Budget n) h e = cc
said_other (Owner n) h e = cc
said_other (Exit x) h e = cc
said_other Events h e = h refl

-- no other line than the last of the head is at fault by what it says
pub nothing_said : (d : Draft) (l : Line) → (l ≡ Events → ⊥) → kind_said d (Some (said l)) ≡ None
nothing_said d (Version v) h = refl
nothing_said d (Callers n) h = refl
nothing_said d (Elements n) h = refl
nothing_said d (Volumes n) h = refl
nothing_said d (Latches n) h = refl
nothing_said d (Quota q p) h = refl
nothing_said d (Budget n) h = refl
nothing_said d (Owner n) h = refl
nothing_said d (Exit x) h = refl
nothing_said d Events h = absurd (h refl)

-- the kind of the line that ends the head, by the refusal and by the test
pub config_said : (c : Setup) → kind_of_config c ≡ cond {A = Option Kind} (not (is_valid c)) (Some BadConfig) None
config_said c = ap (λ (b : Bool). cond {A = Option Kind} b (Some BadConfig) None) (valid_is c)

none_of_config : (c : Setup) → IsValid c → kind_of_config c ≡ None
none_of_config c v = rw v refl

pub valid_said : (d : Draft) → IsValid d.setup → kind_said d (Some journal.Events) ≡ None
valid_said d v = sym (config_said d.setup) ∙ none_of_config d.setup v
