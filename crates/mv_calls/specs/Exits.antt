-- In what a task observes: blocks that exits start from, exits that replies name, and wakes.
use Rattle.std.specs.Prelude.{◌≡◌, ℕ, suc, true, List}
use Rattle.std.specs.List.{AllByRecursion}
use Rattle.mv_ecb.specs.declared.operation.EcbReply.TheVariants.{Woke}
use Rattle.mv_machine.specs.declared.entry.Object.{Object}
use Rattle.mv_machine.specs.declared.entry.Object.TheVariants.{Ecb}
use Rattle.mv_machine.specs.declared.entry.Reply.{Reply}
use Rattle.mv_machine.specs.declared.entry.Reply.TheVariants as reply_of
use Rattle.mv_config.specs.Setup.{Setup, is_exit_of}
use Rattle.mv_machine.specs.Waking.{AreFairWakes}
use Rattle.mv_calls.specs.Program.{Heard}

-- some exit starts from a block
abbrev pub StartsExit : Setup → ℕ → Type 0
StartsExit c e = (x : ℕ) × (is_exit_of c x e ≡ true)

-- the exit that a block's reply names, if it names one, starts from the block
abbrev pub NamesOwnExit : Setup → Object → Reply → Type 0
NamesOwnExit c (Ecb e) (reply_of.Ecb (Woke (suc x))) = is_exit_of c (suc x) e ≡ true
NamesOwnExit c _ _ = Unit {0}

-- each reply among these events names only an exit of its block
abbrev pub NameOwnExits : Setup → List Heard → Type 0
NameOwnExits c hs = AllByRecursion (λ h. NamesOwnExit c h.entry.object h.entry.reply) hs

-- the wakes of each of these events are fair
abbrev pub HaveFairWakes : Setup → List Heard → Type 0
HaveFairWakes c hs = AllByRecursion (λ h. AreFairWakes c h.wakes) hs
