-- Tables of events: which tables a configuration can have.
use Rattle.std.specs.Prelude.{◌≡◌, ℕ, ◌+◌, ◌==◌, ◌<◌, ◌≤◌, nat_lt, not, Bool, false, ◌&&◌, ◌||◌, List, ◌++◌, length, find, Option, Some}
use Rattle.std.specs.Prelude.{None, option_map, if◌then◌else◌}
use Rattle.std.specs.List.{list_any, range_with_len}
use Rattle.std.specs.Option.{option_or}
use Rattle.mv_config.specs.Check.{is_within}
use Rattle.mv_config.specs.Limits.{ecbs_limit}
use Rattle.mv_config.specs.Setup.{Setup, owner_of, is_on_exit}
use Rattle.mv_calls.specs.declared.table.Table.{Table}
use Rattle.mv_calls.specs.declared.table.TableRefusal.{TableRefusal}
use Rattle.mv_calls.specs.declared.table.TableRefusal.TheVariants.{BadSize, BadRange, NotOwner, BadLatch, BadVolume, HasExit}

-- the most events of a table
abbrev pub table_limit : ℕ
table_limit = 32

-- the block of an event, by the event's index
abbrev pub event_block : Table → ℕ → ℕ
event_block t index = t.events + index

-- the block of a slot, by its position
abbrev pub slot_block : Table → ℕ → ℕ
slot_block t position = t.slots + position

-- the blocks of a table, in rising order
abbrev pub blocks_of_table : Table → List ℕ
blocks_of_table t =
    if nat_lt t.events t.slots then range_with_len t.events t.size ++ range_with_len t.slots t.size
    else range_with_len t.slots t.size ++ range_with_len t.events t.size

-- whether a range of blocks goes past the last block
abbrev pub passes : Setup → ℕ → ℕ → Bool
passes c first size = nat_lt (length c.owners) (first + size)

-- whether two ranges of this length have a block in common
abbrev pub meet : ℕ → ℕ → ℕ → Bool
meet first second size = nat_lt first (second + size) && nat_lt second (first + size)

-- whether the ranges of a table are bad: they go past the last block, or have a block in common
abbrev pub is_bad_range : Setup → Table → Bool
is_bad_range c t = passes c t.events t.size || passes c t.slots t.size || meet t.events t.slots t.size

-- whether a configuration can have a table: it has 1 to 32 events, and as many slots; their blocks exist, no block is in both ranges,
-- all are the owner's, and none is the source or a target of an exit; its latch and its volume exist
abbrev pub can_have : Setup → Table → Bool
can_have c t =
    is_within 1 table_limit t.size && (not (is_bad_range c t)
    && (not (list_any (λ e. not (owner_of c e == t.owner)) (blocks_of_table t))
    && (nat_lt t.latch c.latches && (nat_lt t.volume c.volumes && not (list_any (is_on_exit c) (blocks_of_table t))))))

-- the lowest block of a table that is not its owner's
abbrev pub first_of_others : Setup → Table → Option ℕ
first_of_others c t = find (λ e. not (owner_of c e == t.owner)) (blocks_of_table t)

-- the lowest block of a table that is on an exit
abbrev pub first_with_exit : Setup → Table → Option ℕ
first_with_exit c t = find (is_on_exit c) (blocks_of_table t)

-- a refusal if a test holds
abbrev pub table_refused_if : Bool → TableRefusal → Option TableRefusal
table_refused_if b why = if b then Some why else None

-- why a table is refused, if it is
abbrev pub table_refusal : Setup → Table → Option TableRefusal
table_refusal c t =
    option_or (table_refused_if (not (is_within 1 table_limit t.size)) BadSize)
    (option_or (table_refused_if (is_bad_range c t) BadRange)
    (option_or (option_map (λ e. NotOwner e) (first_of_others c t))
    (option_or (table_refused_if (not (nat_lt t.latch c.latches)) BadLatch)
    (option_or (table_refused_if (not (nat_lt t.volume c.volumes)) BadVolume)
    (option_map (λ e. HasExit e) (first_with_exit c t))))))

-- a table that was checked against this configuration: no rule refuses it
abbrev pub IsTableOf : Setup → Table → Type 0
IsTableOf c t = table_refusal c t ≡ None

-- A table that is sound for a configuration: it has 1 to 32 events and as many slots; their blocks exist, differ, and are the
-- owner's; its latch and its volume exist; and no exit starts from its blocks or leads to them.
pub record IsSoundTable (c : Setup) (t : Table) : Type 0 where
  pub some : 1 ≤ t.size
  pub few : t.size ≤ table_limit
  pub events : t.events + t.size ≤ length c.owners
  pub slots : t.slots + t.size ≤ length c.owners
  pub apart : (i k : ℕ) → i < t.size → k < t.size → event_block t i ≡ slot_block t k → ⊥
  pub owned : (i : ℕ) → i < t.size → (owner_of c (event_block t i) ≡ t.owner) × (owner_of c (slot_block t i) ≡ t.owner)
  pub latch : t.latch < c.latches
  pub volume : t.volume < c.volumes
  pub alone : (i : ℕ) → i < t.size → (is_on_exit c (event_block t i) ≡ false) × (is_on_exit c (slot_block t i) ≡ false)

-- what holds of a checked table, whatever the configuration was: it has few events, and its blocks have numbers below the limit
-- of blocks
pub record IsSmallTable (t : Table) : Type 0 where
  pub few : t.size ≤ table_limit
  pub events : t.events + t.size ≤ ecbs_limit
  pub slots : t.slots + t.size ≤ ecbs_limit
