-- Seats by their tasks and rooms. Used by `seated` and `run_tasks`.
use Rattle.std.proofs.Common.{◌≡◌, ℕ, ◌+◌, ◌<◌, List, [], ◌∷◌, ◌++◌, suc, length, map, get_or, sym, ap, ◌∙◌, subst, arith}
use Rattle.std.proofs.lemmas.List.{get_or-map, length-append, length-map}
use Rattle.mv_board.specs.Faces.{BoardFace, CallerFace, IsOf, IsFresh, AreFresh, AreInOrder}
use Rattle.mv_wait.proofs.Parts.{fresh_at}
use Rattle.mv_attach.specs.declared.seat.Seat.{Seat}

module _ {S : Type 0} where
  pub fresh_seats : (b : BoardFace) (seats : List (Seat S)) (tasks : List CallerFace) → map (λ (s : Seat S). s.task) seats ≡ tasks
      → AreFresh b 0 tasks → (k : ℕ) (d : Seat S) → k < length seats → IsFresh b k (get_or seats k d).task
  fresh_seats b seats tasks are fresh k d lt =
      let size = ap length are in
      let same = length-map seats (λ (s : Seat S). s.task) in
      let one : IsFresh b (0 + k) (get_or tasks k d.task) = fresh_at b 0 k tasks d.task fresh (omega arith) in
      subst (λ t. IsFresh b k t) (ap (λ ts. get_or ts k d.task) (sym are) ∙ get_or-map (λ (s : Seat S). s.task) seats k d d.task lt)
      (subst (λ n. IsFresh b n (get_or tasks k d.task)) (let e : 0 + k ≡ k = omega arith in e) one)

  pub rooms_so : (P : ℕ → S → Type 0) (seats : List (Seat S)) (rooms : List S) → map (λ (s : Seat S). s.room) seats ≡ rooms
      → ((k : ℕ) (r : S) → k < length rooms → P k (get_or rooms k r)) → (k : ℕ) (d : Seat S) → k < length seats
      → P k (get_or seats k d).room
  rooms_so P seats rooms are each k d lt =
      let size = ap length are in
      let same = length-map seats (λ (s : Seat S). s.room) in
      subst (P k) (ap (λ rs. get_or rs k d.room) (sym are) ∙ get_or-map (λ (s : Seat S). s.room) seats k d d.room lt)
      (each k d.room (omega arith))

  pub in_order : (b : BoardFace) (j : ℕ) (seats : List (Seat S))
      → ((i : ℕ) (d : Seat S) → i < length seats → IsOf b (get_or seats i d).task × ((get_or seats i d).task.number ≡ j + i))
      → AreInOrder b j (map (λ (s : Seat S). s.task) seats)
  in_order b j [] each = tt
  in_order b j (x ∷ seats) each =
      let first = each 0 x (omega arith) in (
        first.0,
        first.1 ∙ (let e : j + 0 ≡ j = omega arith in e),
        in_order b (suc j) seats
            (λ i d lt. (
              (each (suc i) d (omega arith)).0,
              (each (suc i) d (omega arith)).1
                  ∙ (let e : j + suc i ≡ suc j + i = omega arith in e),
            )),
      )

  pub done_at : (P : ℕ → S → CallerFace → S → Type 0) (old new : List (Seat S)) (rooms : List S) (tasks : List CallerFace) (back : List S)
      → map (λ (s : Seat S). s.room) old ≡ rooms → tasks ≡ map (λ (s : Seat S). s.task) new → back ≡ map (λ (s : Seat S). s.room) new
      → length new ≡ length old
      → ((k : ℕ) (d : Seat S) → k < length old → P k (get_or old k d).room (get_or new k d).task (get_or new k d).room)
      → (k : ℕ) (s : S) (t : CallerFace) → k < length rooms → P k (get_or rooms k s) (get_or tasks k t) (get_or back k s)
  done_at P old new rooms tasks back were are gave count each k s t lt =
      let d : Seat S = record { task = t; room = s } in
      let size = ap length were in
      let same = length-map old (λ (x : Seat S). x.room) in
      let low : k < length old = omega arith in
      let still : k < length new = omega arith in
      let old_room : (get_or old k d).room ≡ get_or rooms k s =
      sym (get_or-map (λ (x : Seat S). x.room) old k d s low) ∙ ap (λ rs. get_or rs k s) were in
      let task : (get_or new k d).task ≡ get_or tasks k t =
      sym (get_or-map (λ (x : Seat S). x.task) new k d t still) ∙ ap (λ ts. get_or ts k t) (sym are) in
      let room : (get_or new k d).room ≡ get_or back k s =
      sym (get_or-map (λ (x : Seat S). x.room) new k d s still) ∙ ap (λ rs. get_or rs k s) (sym gave) in
      subst (λ r. P k r (get_or tasks k t) (get_or back k s)) old_room
      (subst (λ u. P k (get_or old k d).room u (get_or back k s)) task
      (subst (λ r. P k (get_or old k d).room (get_or new k d).task r) room (each k d low)))

  -- a room is left while a task is left, since there are as many rooms as tasks
  pub room_left : (seats : List (Seat S)) (yielded left tasks : List CallerFace) (task : CallerFace) (more rooms : List S)
      → map (λ (s : Seat S). s.task) seats ≡ yielded → yielded ++ task ∷ left ≡ tasks → map (λ (s : Seat S). s.room) seats ++ more ≡ rooms
      → length rooms ≡ length tasks → length more ≡ 0 → ⊥
  room_left seats yielded left tasks task more rooms seated all given same none =
      let by_task = length-map seats (λ (s : Seat S). s.task) in
      let by_room = length-map seats (λ (s : Seat S). s.room) in
      let so_far = ap length seated in
      let all_tasks = ap length all in
      let task_parts = length-append yielded (task ∷ left) in
      let all_rooms = ap length given in
      let room_parts = length-append (map (λ (s : Seat S). s.room) seats) more in omega arith
