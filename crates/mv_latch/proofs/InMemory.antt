-- A latch set in memory: what its invariant gives, and what keeps it.
use Rattle.std.proofs.Common.{◌≡◌, ℕ, ◌*◌, ◌<◌, ◌≤◌, zero, suc, List, [], ◌∷◌, length, set, get_or}
use Rattle.std.proofs.Common.{replicate, Vec, Global, vec_len, vec_capacity, sym, ap, ◌∙◌, subst, arith}
use Rattle.std.specs.List.{AllByRecursion}
use Rattle.std.specs.Vec.{with_item, with_items}
use Rattle.std.proofs.lemmas.List.{length-map, map-set, with_items_is}
use Rattle.mv_latch.specs.declared.latch_set.LatchSet.TheInside.{Inside}
use Rattle.mv_latch.specs.declared.request.Request.{Request}
use Rattle.mv_latch.specs.Request.{of_caller}
use Rattle.mv_latch.specs.Latch.{HasDistinctIds}
use Rattle.mv_latch.specs.LatchSet.{LatchLists, list_of, count_in, IsSound}
use Rattle.mv_latch.specs.Queues.{items_of, capacities, HaveRoom}
use Rattle.mv_latch.specs.Inside.{view_of, IsLatchSet}
use Rattle.mv_latch.proofs.Purges.{items_at, total_at, capacities_kept}
use Rattle.mv_latch.proofs.Quotas.{total_fit, total_free, list_distinct}

room_at : (room : ℕ) (queues : List (Vec Request Global)) (i : ℕ) (d : Vec Request Global) → i < length queues → HaveRoom room queues
    → room ≤ vec_capacity (get_or queues i d)
room_at room [] i d lt h = absurd (omega arith)
room_at room (v ∷ rest) zero d lt h = h.0
room_at room (v ∷ rest) (suc i) d lt h = room_at room rest i d (omega arith) h.1

-- the list that was read at a latch
pub record IsRead (s : Inside) (value : LatchLists) (i : ℕ) (v : Vec Request Global) : Type 0 where
  pub ready : IsLatchSet s
  pub seen : view_of s ≡ value
  pub within : i < length value.lists
  pub read : v ≡ get_or s.lists.items i v

in_memory : (s : Inside) (value : LatchLists) (i : ℕ) (v : Vec Request Global) → IsRead s value i v → i < length s.lists.items
in_memory s value i v r = simp length-map at (rw (ap (λ z. length z.lists) (sym r.seen)) at r.within)

pub items_read : (s : Inside) (value : LatchLists) (i : ℕ) (v : Vec Request Global) → IsRead s value i v → v.items ≡ list_of value.lists i
items_read s value i v r =
    ap (λ (w : Vec Request Global). w.items) r.read ∙ items_at s.lists.items i v (in_memory s value i v r)
    ∙ ap (λ (z : LatchLists). list_of z.lists i) r.seen

pub sound_value : (s : Inside) (value : LatchLists) → IsLatchSet s → view_of s ≡ value → IsSound value
sound_value s value r e = subst IsSound e r.sound

pub read_distinct : (s : Inside) (value : LatchLists) (i : ℕ) (v : Vec Request Global) → IsRead s value i v → HasDistinctIds v.items
read_distinct s value i v r =
    let w : IsSound value = sound_value s value r.ready r.seen in
    subst HasDistinctIds (sym (items_read s value i v r)) (list_distinct value.lists i w.distinct)

pub read_fits : (s : Inside) (value : LatchLists) (i : ℕ) (v : Vec Request Global) → IsRead s value i v
    → vec_len v ≤ value.callers * value.quota
read_fits s value i v r =
    omega (
      arith,
      total_fit value (sound_value s value r.ready r.seen),
      total_at value.lists i,
      ap length (items_read s value i v r),
      v.ok.0,
    )

pub read_free : (s : Inside) (value : LatchLists) (i : ℕ) (v : Vec Request Global) (caller : ℕ) → IsRead s value i v
    → caller < value.callers → count_in (of_caller caller) value.lists < value.quota → vec_len v < vec_capacity v
read_free s value i v caller r known free =
    let room = room_at (s.callers * s.quota) s.lists.items i v (in_memory s value i v r) r.ready.room in
    omega (
      arith,
      room,
      total_free value caller (sound_value s value r.ready r.seen) known free,
      total_at value.lists i,
      ap length (items_read s value i v r),
      v.ok.0,
      ap (λ (z : LatchLists). z.callers * z.quota) r.seen,
      ap (λ (w : Vec Request Global). vec_capacity w) r.read,
    )

-- ---- one list changes
pub view_with : (s : Inside) (value : LatchLists) (i : ℕ) (v : Vec Request Global) (qs : List Request) → view_of s ≡ value → v.items ≡ qs
    → view_of (record s { lists = with_item s.lists i v }) ≡ record value { lists = set value.lists i qs }
view_with s value i v qs e f =
    ap (λ (z : List (List Request)). record (view_of s) { lists = z })
    (map-set (λ (w : Vec Request Global). w.items) s.lists.items i v ∙ ap (set (items_of s.lists.items) i) f)
    ∙ ap (λ (z : LatchLists). record z { lists = set z.lists i qs }) e

pub ready_with : (s : Inside) (value : LatchLists) (i : ℕ) (old v : Vec Request Global) (qs : List Request) → IsRead s value i old
    → vec_capacity v ≡ vec_capacity old → v.items ≡ qs
    → IsSound (record value { lists = set value.lists i qs }) → IsLatchSet (record s { lists = with_item s.lists i v })
ready_with s value i old v qs r same f w = record {
  sound = subst IsSound (sym (view_with s value i v qs r.seen f)) w;
  room =
      subst (λ z. AllByRecursion (λ n. s.callers * s.quota ≤ n) z)
      (sym (capacities_kept s.lists.items i old v (in_memory s value i old r)
      (same ∙ ap (λ (w : Vec Request Global). vec_capacity w) r.read))) r.ready.room;
}

-- ---- all lists change
pub view_all : (s : Inside) (value : LatchLists) (queues : List (Vec Request Global)) (lists : List (List Request)) → view_of s ≡ value
    → length queues ≡ length s.lists.items → items_of queues ≡ lists
    → view_of (record s { lists = with_items s.lists queues }) ≡ record value { lists = lists }
view_all s value queues lists e long f =
    ap (λ (z : List (Vec Request Global)). record (view_of s) { lists = items_of z })
    (with_items_is s.lists queues (long ∙ sym s.lists.ok.0))
    ∙ ap (λ (z : List (List Request)). record (view_of s) { lists = z }) f
    ∙ ap (λ (z : LatchLists). record z { lists = lists }) e

pub ready_all : (s : Inside) (value : LatchLists) (queues : List (Vec Request Global)) (lists : List (List Request)) → IsLatchSet s
    → view_of s ≡ value → length queues ≡ length s.lists.items → items_of queues ≡ lists
    → capacities queues ≡ capacities s.lists.items → IsSound (record value { lists = lists })
    → IsLatchSet (record s { lists = with_items s.lists queues })
ready_all s value queues lists r e long f same w = record {
  sound = subst IsSound (sym (view_all s value queues lists e long f)) w;
  room =
      subst (λ z. AllByRecursion (λ n. s.callers * s.quota ≤ n) z)
      (sym (ap capacities (with_items_is s.lists queues (long ∙ sym s.lists.ok.0)) ∙ same)) r.room;
}

-- a new set
pub ready_new : (s : Inside) (latches : ℕ) → items_of s.lists.items ≡ replicate latches [] → HaveRoom (s.callers * s.quota) s.lists.items
    → IsSound (record (view_of s) { lists = replicate latches [] }) → IsLatchSet s
ready_new s latches e room w =
    record { sound = subst (λ (z : List (List Request)). IsSound (record (view_of s) { lists = z })) (sym e) w; room = room }
