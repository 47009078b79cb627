-- What contracts see of a caller, and its invariant.
use Rattle.std.specs.Prelude.{◌≡◌, ◌*◌, ◌<◌, ◌≤◌, [], ◌∷◌, vec_capacity}
use Rattle.std.specs.List.{AllByRecursion}
use Rattle.mv_config.specs.Limits.{events_limit}
use Rattle.mv_config.specs.Setup.{Setup}
use Rattle.mv_board.specs.declared.caller.Caller.TheInside.{Inside}
use Rattle.mv_board.specs.Faces.{CallerFace, last_of, part_of}
use Rattle.mv_board.specs.View.{own}

-- what a caller's seat, events and log say of it
abbrev pub face_of : Inside → CallerFace
face_of i = record {
  table = i.seat.table_id;
  about = i.seat.me.0.about;
  number = i.events.caller;
  left = i.events.left;
  room = i.events.log.room;
  log = i.events.log.entries;
  told = (own i.seat.me.0).told;
  wakes = i.events.wakes.items;
  met = (own i.seat.me.0).sights;
  returned = i.seat.me.0.returned;
  ready = i.seat.me.0.ready;
}

-- the invariant of a caller: between its calls the seat has taken nothing out of a slot and does not hold the turn, and its view
-- has the part of this caller only. The log has room for all events that are left, and `wakes` for all wakes of an event; `wakes`
-- is the last element of the told list. The configuration has such a caller, and at most `events_limit` events are left to it
pub record IsSeated (i : Inside) : Type 0 where
  pub empty : i.seat.me.1 ≡ []
  pub parts : i.seat.me.0.parts ≡ part_of (face_of i) ∷ []
  pub turn : i.seat.me.0.turn ≡ []
  pub whose : i.events.log.caller ≡ i.events.caller
  pub room : i.events.left ≤ i.events.log.room
  pub wakes : AllByRecursion (λ (c : Setup). c.callers * c.quota ≤ vec_capacity i.events.wakes) i.seat.me.0.about
  pub shown : i.events.wakes.items ≡ last_of (own i.seat.me.0).told
  pub exists : AllByRecursion (λ (c : Setup). i.events.caller < c.callers) i.seat.me.0.about
  pub few : i.events.left ≤ events_limit
