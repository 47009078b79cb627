-- Which configurations are refused, and with which refusal.
use Rattle.std.specs.Prelude.{◌≡◌, ℕ, ◌==◌, nat_le, nat_lt, Bool, not, ◌&&◌, ◌||◌, List, [], ◌∷◌, length, sum, find, Option, Some}
use Rattle.std.specs.Prelude.{None, option_map, if◌then◌else◌}
use Rattle.std.specs.List.{list_all, list_any, position_from}
use Rattle.std.specs.Option.{option_or}
use Rattle.mv_config.specs.declared.config.CheckRefusal.{CheckRefusal}
use Rattle.mv_config.specs.declared.config.CheckRefusal.TheVariants.{Limit, BadOwner, BadExit, Budget}
use Rattle.mv_config.specs.declared.config.ConfigLimit.{ConfigLimit}
use Rattle.mv_config.specs.declared.config.ConfigLimit.TheVariants.{Callers, Elements, Volumes, Latches, Quota, Posted, Budgets}
use Rattle.mv_config.specs.declared.config.ConfigLimit.TheVariants.{Ecbs, Exits, Targets}
use Rattle.mv_config.specs.Limits.{callers_limit, elements_limit, volumes_limit, latches_limit, requests_limit, ecbs_limit}
use Rattle.mv_config.specs.Limits.{exits_limit, targets_limit, events_limit}
use Rattle.mv_config.specs.Setup.{Setup, SetupExit}

-- whether a number is in this range, its ends included
abbrev pub is_within : ℕ → ℕ → ℕ → Bool
is_within low high n = nat_le low n && nat_le n high

-- whether a configuration keeps a limit
abbrev pub keeps : ConfigLimit → Setup → Bool
keeps Callers c = is_within 1 callers_limit c.callers
keeps Elements c = is_within 1 elements_limit c.elements_per_caller
keeps Volumes c = is_within 1 volumes_limit c.volumes
keeps Latches c = is_within 1 latches_limit c.latches
keeps Quota c = is_within 1 requests_limit c.quota
keeps Posted c = nat_le c.posted_quota c.quota
keeps Budgets c = length c.budgets == c.callers
keeps Ecbs c = nat_le (length c.owners) ecbs_limit
keeps Exits c = nat_le (length c.exits) exits_limit
keeps Targets c = list_all (λ x. is_within 1 targets_limit (length x.targets)) c.exits

-- the limits in the order in which they are checked
abbrev pub limits : List ConfigLimit
limits = Callers ∷ Elements ∷ Volumes ∷ Latches ∷ Quota ∷ Posted ∷ Budgets ∷ Ecbs ∷ Exits ∷ Targets ∷ []

-- the first limit that a configuration does not keep
abbrev pub first_limit : Setup → Option ConfigLimit
first_limit c = find (λ l. not (keeps l c)) limits

-- the first event control block whose owner is not a caller
abbrev pub first_bad_owner : Setup → Option ℕ
first_bad_owner c = position_from (λ owner. nat_le c.callers owner) 0 c.owners

-- whether an exit's source is not a block, or one of its targets is not a block or not above the source
abbrev pub is_bad_exit : ℕ → SetupExit → Bool
is_bad_exit ecbs x = nat_le ecbs x.source || list_any (λ target. nat_le ecbs target || nat_le target x.source) x.targets

-- the first such exit, counted from 1
abbrev pub first_bad_exit : Setup → Option ℕ
first_bad_exit c = position_from (is_bad_exit (length c.owners)) 1 c.exits

-- the sum of the budgets, if it is above the limit of a run's events
abbrev pub bad_budget : Setup → Option ℕ
bad_budget c = if nat_lt events_limit (sum c.budgets) then Some (sum c.budgets) else None

-- the reason why a configuration is refused, if it is
abbrev pub refusal_of : Setup → Option CheckRefusal
refusal_of c =
    option_or (option_map (λ l. Limit l) (first_limit c))
    (option_or (option_map (λ e. BadOwner e) (first_bad_owner c))
    (option_or (option_map (λ x. BadExit x) (first_bad_exit c))
    (option_map (λ b. Budget b) (bad_budget c))))

-- Whether a configuration can be run. Its callers, its elements for each caller, its volumes and its latches, and the requests that a
-- caller may have, are within their limits; of these requests no more may be posted than may stand. Each caller has a budget of events.
-- There are at most as many blocks and exits as may be, and each exit has 1 to 8 targets. Each block's owner is a caller. Each exit leads
-- from a block to blocks with higher numbers. All budgets together are at most as many events as a run may have.
abbrev pub is_valid : Setup → Bool
is_valid c =
    is_within 1 callers_limit c.callers && (is_within 1 elements_limit c.elements_per_caller
    && (is_within 1 volumes_limit c.volumes && (is_within 1 latches_limit c.latches
    && (is_within 1 requests_limit c.quota && (nat_le c.posted_quota c.quota
    && ((length c.budgets == c.callers) && (nat_le (length c.owners) ecbs_limit && (nat_le (length c.exits) exits_limit
    && (list_all (λ x. is_within 1 targets_limit (length x.targets)) c.exits
    && (not (list_any (λ owner. nat_le c.callers owner) c.owners) && (not (list_any (is_bad_exit (length c.owners)) c.exits)
    && not (nat_lt events_limit (sum c.budgets)))))))))))))

-- a configuration that no rule refuses
abbrev pub IsValid : Setup → Type 0
IsValid c = refusal_of c ≡ None
