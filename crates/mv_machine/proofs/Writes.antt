-- One cell of one table is written: that is the machine's step.
use Rattle.std.proofs.Common.{Vec, Global, vec_capacity, ◌≡◌, ℕ, ◌+◌, ◌<◌, ◌==◌, nat_lt, true, false, length, get_or, None, Some, refl}
use Rattle.std.proofs.Common.{cond, ap, ◌∙◌}
use Rattle.std.specs.Vec.{with_item}
use Rattle.std.proofs.lemmas.List.{get_or_read, length-set}
use Rattle.mv_ecb.specs.declared.operation.EcbOp.{EcbOp}
use Rattle.mv_ecb.specs.declared.operation.EcbReply.{EcbReply}
use Rattle.mv_ecb.specs.Word.{EcbState}
use Rattle.mv_ecb.specs.Table.{ecb_step}
use Rattle.mv_element.specs.declared.operation.ElementOp.{ElementOp}
use Rattle.mv_element.specs.declared.operation.ElementReply.{ElementReply}
use Rattle.mv_element.specs.declared.element.ElementState.{ElementState}
use Rattle.mv_element.specs.Table.{element_step}
use Rattle.mv_latch.specs.declared.operation.LatchOp.{LatchOp}
use Rattle.mv_latch.specs.declared.operation.LatchReply.{LatchReply}
use Rattle.mv_latch.specs.declared.operation.Wake.{Wake}
use Rattle.mv_latch.specs.LatchSet.{LatchLists, latch_admitted, latch_step, wakes}
use Rattle.mv_machine.specs.declared.entry.Object.{Object}
use Rattle.mv_machine.specs.declared.entry.Object.TheVariants.{Ecb, Element, Volume, Latches}
use Rattle.mv_machine.specs.declared.entry.Op.{Op}
use Rattle.mv_machine.specs.declared.entry.Op.TheVariants as op_on
use Rattle.mv_machine.specs.declared.entry.Reply.TheVariants as reply_of
use Rattle.mv_machine.specs.declared.entry.VolumeOp.{VolumeOp}
use Rattle.mv_machine.specs.declared.entry.VolumeReply.{VolumeReply}
use Rattle.mv_machine.specs.declared.state.EcbCell.{EcbCell}
use Rattle.mv_machine.specs.declared.state.ElementCell.{ElementCell}
use Rattle.mv_machine.specs.declared.state.VolumeCell.{VolumeCell}
use Rattle.mv_machine.specs.declared.state.State.{State}
use Rattle.mv_config.specs.Setup.{Setup}
use Rattle.mv_machine.specs.System.{System, latches_of, admitted, answer, moved, after_step, wakes_after, with_at, advanced, volume_step}
use Rattle.mv_machine.specs.State.{IsOpenedWith, IsStep, system_of, wakes_of, ecb_cell, no_ecb, element_cell, no_element, volume_cell}
use Rattle.mv_machine.specs.State.{no_volume}
use Rattle.mv_machine.specs.Elements.{FitsItsPlace}
use Rattle.mv_machine.proofs.ElementRuns.{fits_next}
use Rattle.mv_machine.proofs.LatchIds.{same_count, new_from_next}
use Rattle.mv_machine.proofs.Tables.{table-set}

at_fits : (s : System) (n : ℕ) (op : ElementOp) (m : ℕ) → FitsItsPlace (s.element m) → FitsItsPlace (s.element n)
    → FitsItsPlace (with_at s.element n (advanced (s.element n) (element_step op (s.element n).state).0) m)
at_fits s n op m f g =
    elim (m == n) as (λ b. FitsItsPlace (cond b (advanced (s.element n) (element_step op (s.element n).state).0) (s.element m))) [
      | true ↦ fits_next (s.element n) op g
      | false ↦ f
    ]

-- generations fit after any step
pub moved_fits : (s : System) (k : ℕ) (o : Object) (op : Op) → ((m : ℕ) → FitsItsPlace (s.element m)) → (m : ℕ)
    → FitsItsPlace ((moved s k o op).element m)
moved_fits s k (Element n) (op_on.Element op) f m = at_fits s n op m (f m) (f n)
moved_fits s k (Ecb n) (op_on.Ecb op) f m = f m
moved_fits s k (Volume n) (op_on.Volume op) f m = f m
moved_fits s k Latches (op_on.Latch op) f m = f m
moved_fits s k o op f m = f m

pub after_step_fits : (c : Setup) (s : System) (k : ℕ) (o : Object) (op : Op) → ((m : ℕ) → FitsItsPlace (s.element m)) → (m : ℕ)
    → FitsItsPlace ((after_step c s k o op).element m)
after_step_fits c s k o op f m =
    elim (admitted c s k o op) as (λ b. FitsItsPlace ((cond b (moved s k o op) s).element m)) [
      | true ↦ moved_fits s k o op f m
      | false ↦
          f m
    ]

pub same_fits : (t u : System) → t ≡ u → ((m : ℕ) → FitsItsPlace (u.element m)) → (m : ℕ) → FitsItsPlace (t.element m)
same_fits t u e f = rw e f

-- a state with other cells is opened, too, where these are as many and the elements' generations fit
still_opened : (c : Setup) (s : State) (ecbs : Vec EcbCell Global) (elements : Vec ElementCell Global) (volumes : Vec VolumeCell Global)
    → IsOpenedWith c s → length ecbs.items ≡ length s.ecbs.items → length elements.items ≡ length s.elements.items
    → length volumes.items ≡ length s.volumes.items
    → ((n : ℕ) → FitsItsPlace ((system_of (record s { ecbs = ecbs; elements = elements; volumes = volumes })).element n))
    → IsOpenedWith c (record s { ecbs = ecbs; elements = elements; volumes = volumes })
still_opened c s ecbs elements volumes o same_ecbs same_elements same_volumes fit = record {
  ecbs = same_ecbs ∙ o.ecbs;
  elements = same_elements ∙ o.elements;
  volumes = same_volumes ∙ o.volumes;
  lists = o.lists;
  latches = o.latches;
  room = o.room;
  new_ids = o.new_ids;
  generations = fit;
}

-- an operation on an event control block: its cell is written
module _ (c : Setup) (s : State) (k n : ℕ) (op : EcbOp) (x : EcbCell) (z : EcbState × EcbReply) (lt : n < length s.ecbs.items)
    (read : x ≡ get_or s.ecbs.items n x) (step : z ≡ ecb_step op x.word)
    (ok : admitted c (system_of s) k (Ecb n) (op_on.Ecb op) ≡ true) where
  abbrev ecb_after : State
  ecb_after = record s { ecbs = with_item s.ecbs n (record { place = x.place + 1; word = z.0 }) }

  ecb_read : x ≡ get_or s.ecbs.items n no_ecb
  ecb_read = get_or_read s.ecbs.items n x lt read no_ecb

  ecb_written : system_of ecb_after ≡ after_step c (system_of s) k (Ecb n) (op_on.Ecb op)
  ecb_written = rw (ok, step, ecb_read) (ap (λ f. record (system_of s) { ecb = f }) (table-set ecb_cell no_ecb s.ecbs.items n _ lt))

  ecb_answered : Some (x.place, reply_of.Ecb z.1) ≡ answer c (system_of s) k (Ecb n) (op_on.Ecb op)
  ecb_answered = rw (ok, step, ecb_read) refl

  pub ecb_made : IsOpenedWith c s → IsStep c s ecb_after k (Ecb n) (op_on.Ecb op) (Some (x.place, reply_of.Ecb z.1))
  ecb_made o = record {
    answered = ecb_answered;
    after = ecb_written;
    wakes = refl;
    opened = still_opened c s ecb_after.ecbs s.elements s.volumes o (length-set s.ecbs.items n _) refl refl o.generations;
  }

-- an operation on an element
module _ (c : Setup) (s : State) (k n : ℕ) (op : ElementOp) (x : ElementCell) (z : ElementState × ElementReply)
    (lt : n < length s.elements.items) (read : x ≡ get_or s.elements.items n x) (step : z ≡ element_step op x.state)
    (ok : admitted c (system_of s) k (Element n) (op_on.Element op) ≡ true) where
  abbrev element_after : State
  element_after = record s { elements = with_item s.elements n (record { place = x.place + 1; state = z.0 }) }

  element_read : x ≡ get_or s.elements.items n no_element
  element_read = get_or_read s.elements.items n x lt read no_element

  element_written : system_of element_after ≡ after_step c (system_of s) k (Element n) (op_on.Element op)
  element_written = rw (ok, step, element_read) (ap (λ f. record (system_of s) { element = f })
      (table-set element_cell no_element s.elements.items n _ lt))

  element_answered : Some (x.place, reply_of.Element z.1) ≡ answer c (system_of s) k (Element n) (op_on.Element op)
  element_answered = rw (ok, step, element_read) refl

  pub element_made : IsOpenedWith c s → IsStep c s element_after k (Element n) (op_on.Element op) (Some (x.place, reply_of.Element z.1))
  element_made o = record {
    answered = element_answered;
    after = element_written;
    wakes = refl;
    opened = still_opened c s s.ecbs element_after.elements s.volumes o refl (length-set s.elements.items n _) refl
        (same_fits _ _ element_written (after_step_fits c (system_of s) k (Element n) (op_on.Element op) o.generations));
  }

-- an operation on a volume
module _ (c : Setup) (s : State) (k n : ℕ) (op : VolumeOp) (x : VolumeCell) (z : ℕ × VolumeReply) (lt : n < length s.volumes.items)
    (read : x ≡ get_or s.volumes.items n x) (step : z ≡ volume_step op x.number)
    (ok : admitted c (system_of s) k (Volume n) (op_on.Volume op) ≡ true) where
  abbrev volume_after : State
  volume_after = record s { volumes = with_item s.volumes n (record { place = x.place + 1; number = z.0 }) }

  volume_read : x ≡ get_or s.volumes.items n no_volume
  volume_read = get_or_read s.volumes.items n x lt read no_volume

  volume_written : system_of volume_after ≡ after_step c (system_of s) k (Volume n) (op_on.Volume op)
  volume_written = rw (ok, step, volume_read) (ap (λ f. record (system_of s) { volume = f })
      (table-set volume_cell no_volume s.volumes.items n _ lt))

  volume_answered : Some (x.place, reply_of.Volume z.1) ≡ answer c (system_of s) k (Volume n) (op_on.Volume op)
  volume_answered = rw (ok, step, volume_read) refl

  pub volume_made : IsOpenedWith c s → IsStep c s volume_after k (Volume n) (op_on.Volume op) (Some (x.place, reply_of.Volume z.1))
  volume_made o = record {
    answered = volume_answered;
    after = volume_written;
    wakes = refl;
    opened = still_opened c s s.ecbs s.elements volume_after.volumes o refl refl (length-set s.volumes.items n _) o.generations;
  }

-- an operation on the latch set
module _ (c : Setup) (s : State) (k : ℕ) (op : LatchOp) (o : IsOpenedWith c s) where
  -- the latch set asks its own conditions of the same lists and quotas
  pub same_latches : latch_admitted k op s.latches ≡ latch_admitted k op (latches_of c s.latches.lists)
  same_latches = ap (λ l. latch_admitted k op l) o.latches

  pub latches_made : (new : LatchLists) (w : Vec Wake Global) (r : LatchReply)
      → new ≡ record s.latches { lists = (latch_step k s.latch_place op s.latches.lists).0 }
      → r ≡ (latch_step k s.latch_place op s.latches.lists).1 → w.items ≡ wakes k op s.latches.lists → vec_capacity w ≡ vec_capacity s.wakes
      → admitted c (system_of s) k Latches (op_on.Latch op) ≡ true
      → IsStep c s (record s { latches = new; latch_place = s.latch_place + 1; wakes = w }) k Latches (op_on.Latch op)
      (Some (s.latch_place, reply_of.Latch r))
  latches_made new w r lists reply woken capacity ok = record {
    answered = rw (ok, reply) refl;
    after = rw (ok, lists) refl;
    wakes = rw ok woken;
    opened = record {
      ecbs = o.ecbs;
      elements = o.elements;
      volumes = o.volumes;
      lists = rw lists (same_count k s.latch_place op s.latches.lists ∙ o.lists);
      latches = rw lists (ap (λ (l : LatchLists). record l { lists = (latch_step k s.latch_place op s.latches.lists).0 }) o.latches);
      room = rw capacity o.room;
      new_ids = rw lists (new_from_next k s.latch_place op s.latches.lists o.new_ids);
      generations = o.generations;
    };
  }

same_wakes : (c : Setup) (s : State) (k : ℕ) (o : Object) (op : Op) → admitted c (system_of s) k o op ≡ false
    → wakes_of s ≡ wakes_after c (system_of s) (wakes_of s) k o op
same_wakes c s k Latches (op_on.Latch op) not_so = rw not_so refl
same_wakes c s k o op not_so = refl

-- no operation of one who is no caller is admitted
pub no_caller : (c : Setup) (s : System) (k : ℕ) (o : Object) (op : Op) → nat_lt k c.callers ≡ false → admitted c s k o op ≡ false
no_caller c s k (Ecb n) (op_on.Ecb op) none = rw none refl
no_caller c s k (Element n) (op_on.Element op) none = rw none refl
no_caller c s k (Volume n) (op_on.Volume op) none = rw none refl
no_caller c s k Latches (op_on.Latch op) none = rw none refl
no_caller c s k o op none = refl

-- an operation that is not admitted changes nothing
pub refused : (c : Setup) (s : State) (k : ℕ) (o : Object) (op : Op) → IsOpenedWith c s → admitted c (system_of s) k o op ≡ false
    → IsStep c s s k o op None
refused c s k o op opened not_so = record {
  answered = rw not_so refl;
  after = rw not_so refl;
  wakes =
      same_wakes c s k o op not_so;
  opened = opened;
}
