-- The exits as they are read: the targets of one, and the blocks that are on any.
use Rattle.std.proofs.Common.{◌≡◌, ℕ, zero, suc, ◌-◌, List, [], ◌∷◌, ◌||◌, map, Option, Some, None, option_map, slice_get, refl}
use Rattle.std.proofs.Common.{sym, ap, ◌∙◌, arith}
use Rattle.std.proofs.lemmas.Option.{slice_get-map}
use Rattle.std.specs.List.{list_any}
use Rattle.mv_config.specs.declared.config.Config.{Config}
use Rattle.mv_config.specs.declared.config.Exit.{Exit}
use Rattle.mv_config.specs.Config.{setup_of, exit_of}
use Rattle.mv_config.specs.Setup.{Setup, targets_of, targets_at, is_on, is_on_exit}

-- exits are counted from 1
counted : (c : Setup) (x : ℕ) → (x ≡ 0 → ⊥) → targets_of c x ≡ targets_at (slice_get c.exits (x - 1))
counted c zero n = absurd (n refl)
counted c (suc x) n = let e : (suc x - 1) ≡ x = omega arith in rw e refl

-- what is read in the list of exits
there : (config : Config) (x : ℕ) (read : Option Exit) → (x ≡ 0 → ⊥) → slice_get config.exits.items (x - 1) ≡ read
    → targets_of (setup_of config) x ≡ targets_at (option_map exit_of read)
there config x read n is = counted (setup_of config) x n ∙ ap targets_at
    (slice_get-map exit_of config.exits.items (x - 1) ∙ ap (option_map exit_of) is)

-- an exit that is there
pub targets_found : (config : Config) (c : Setup) (x : ℕ) (e : Exit) → setup_of config ≡ c → (x ≡ 0 → ⊥)
    → slice_get config.exits.items (x - 1) ≡ Some e → targets_of c x ≡ e.targets.items
targets_found config c x e given n is = ap (λ s. targets_of s x) (sym given) ∙ there config x (Some e) n is

-- one that is not
pub targets_missing : (config : Config) (c : Setup) (x : ℕ) → setup_of config ≡ c → (x ≡ 0 → ⊥)
    → slice_get config.exits.items (x - 1) ≡ None → targets_of c x ≡ []
targets_missing config c x given n is = ap (λ s. targets_of s x) (sym given) ∙ there config x None n is

-- what is so of each exit as it was given
pub on_given_exit : (given : Config) (c : Setup) (e : ℕ) → setup_of given ≡ c
    → list_any (λ x. is_on (exit_of x) e) given.exits.items ≡ is_on_exit c e
on_given_exit given c e same =
    any_of_map given.exits.items ∙ ap (λ (d : Setup). is_on_exit d e) same where
      any_of_map : (xs : List Exit) → list_any (λ x. is_on (exit_of x) e) xs ≡ list_any (λ x. is_on x e) (map exit_of xs)
      any_of_map [] = refl
      any_of_map (x ∷ xs) = ap (λ b. is_on (exit_of x) e || b) (any_of_map xs)
