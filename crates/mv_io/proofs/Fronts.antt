-- One more read after others, and one more write: the fronts of the told bytes join.
use Rattle.std.proofs.Common.{◌≡◌, ℕ, ◌+◌, ◌-◌, ◌<◌, ◌≤◌, List, ◌++◌, length, take, drop, None, Some, Ok, IfSome, refl, sym, ap, ◌∙◌}
use Rattle.std.proofs.Common.{arith, append_assoc, drop-drop, length-drop, length-take-le, take-add, take-take, take_at, drop_at}
use Rattle.std.proofs.lemmas.List.{take_rest, take-append-le}
use Rattle.std.proofs.lemmas.Slice.{take-put_mid}
use borrow.Rule.Slice.PartMut.{put_mid}
use Rattle.std.specs.declared.option.Option.{Option}
use Rattle.mv_io.specs.declared.failed.Failed.{Failed}
use Rattle.mv_io.specs.Source.{GivesFront, Reads}
use Rattle.mv_io.specs.Sink.{Appends, Writes}

-- ---- one read

-- what a read gave
pub Reads-gives : (old new : Option (List ℕ)) (buf : List ℕ) (k : ℕ) → Reads {E = Failed} old new (Ok k) buf
    → IfSome old (λ xs. GivesFront xs new buf k)
Reads-gives None new buf k read = tt
Reads-gives (Some xs) new buf k read = read.0

-- a read with room that gave nothing was at the end
pub Reads-end : (old new : Option (List ℕ)) (buf : List ℕ) → Reads {E = Failed} old new (Ok 0) buf → 0 < length buf
    → IfSome old (λ xs. 0 ≡ length xs)
Reads-end None new buf read room = tt
Reads-end (Some xs) new buf read room = sym (ap length ((read.1 room).0 refl))

-- ---- a read behind others

-- the first k bytes of a part that was written behind i others
take-put_mid_part : (buf piece : List ℕ) (i n k : ℕ) → i ≤ length buf → length piece ≡ n → k ≤ n
    → take (i + k) (put_mid i n buf piece) ≡ take i buf ++ take k piece
take-put_mid_part buf piece i n k within long few =
    let front = length-take-le i buf within in
    sym (take-take (i + k) (i + n) (put_mid i n buf piece) (omega arith))
    ∙ ap (take (i + k)) (take-put_mid i n buf piece (i + n) (omega arith) within)
    ∙ take-add i k (take i buf ++ piece)
    ∙ (λ x. take_at (take i buf) piece i front x ++ take k (drop_at (take i buf) piece i front x))

-- i bytes were given, and k more behind them
pub GivesFront-more : (old mid new : Option (List ℕ)) (buf piece : List ℕ) (i n k j : ℕ)
    → IfSome old (λ xs. GivesFront xs mid buf i) → IfSome mid (λ ys. GivesFront ys new piece k)
    → i ≤ length buf → length piece ≡ n → k ≤ n → j ≡ i + k
    → IfSome old (λ xs. GivesFront xs new (put_mid i n buf piece) j)
GivesFront-more None mid new buf piece i n k j given more within long few sum = tt
GivesFront-more (Some xs) mid new buf piece i n k j given more within long few sum =
    let front = rw given.left at more in
    rw sum (record {
      within = omega (arith, given.within, front.within, length-drop i xs);
      left = front.left ∙ ap Some (drop-drop k i xs);
      bytes = take-put_mid_part buf piece i n k within long few
          ∙ (λ x. given.bytes x ++ front.bytes x)
          ∙ sym (take-add i k xs);
    })

-- i bytes were given, and k more were all that was left
pub GivesFront-end : (old mid : Option (List ℕ)) (buf : List ℕ) (i k j : ℕ)
    → IfSome old (λ xs. GivesFront xs mid buf i) → IfSome mid (λ ys. k ≡ length ys) → j ≡ i + k → IfSome old (λ xs. j ≡ length xs)
GivesFront-end None mid buf i k j given rest sum = tt
GivesFront-end (Some xs) mid buf i k j given rest sum =
    let last = rw given.left at rest in
    omega (arith, given.within, length-drop i xs)

-- the buffer is lengthened
pub GivesFront-longer : (old mid : Option (List ℕ)) (buf longer rest : List ℕ) (i : ℕ)
    → IfSome old (λ xs. GivesFront xs mid buf i) → i ≤ length buf → longer ≡ buf ++ rest
    → IfSome old (λ xs. GivesFront xs mid longer i)
GivesFront-longer None mid buf longer rest i given within e = tt
GivesFront-longer (Some xs) mid buf longer rest i given within e = record {
  within = given.within;
  left = given.left;
  bytes = ap (take i) e ∙ take-append-le i buf rest within ∙ given.bytes;
}

-- ---- a write behind others

-- i bytes were taken, and a write of the rest took k more
pub Appends-more : (old mid new : Option (List ℕ)) (bytes : List ℕ) (i k : ℕ)
    → Appends old mid (take i bytes) → Writes {E = Failed} mid new (Ok k) (take (length bytes - i) (drop i bytes))
    → Appends old new (take (i + k) bytes)
Appends-more None mid new bytes i k taken write = tt
Appends-more (Some xs) mid new bytes i k taken write =
    (rw taken at write)
    ∙ ap (λ piece. Some ((xs ++ take i bytes) ++ take k piece)) (take_rest bytes i)
    ∙ ap Some (append_assoc xs (take i bytes) (take k (drop i bytes)) ∙ ap (λ l. xs ++ l) (sym (take-add i k bytes)))
