-- A written frame holds the packets that it reports (C2, in the bytes): read packet by packet it is the rows of queues 0, 1, 2, each of
-- its own id, and then filler; none of them is refused. Assumes nothing.
use Prim.Native.Nat.{ℕ, zero, suc, ◌+◌, ◌%◌, ◌<◌, ◌≤◌}
use mathlib.Core.Path.{◌≡◌, refl, sym, ap, ap₂, ◌∙◌}
use mathlib.Core.List.{List, [], ◌∷◌, ◌++◌, append_assoc, append-nil}
use mathlib.Core.Bool.{Bool, true, false}
use native.Mathlib.Omega.{arith}
use lib.Dec.{eqb, leb, lit<}
use lib.ListN.{length, get_or, take, drop, length-append}
use lib.Seq.{take_at, drop_at}
use Rattle.laws.specs.Part.{part_of}
use Rattle.laws.specs.Pick.{pick}
use Rattle.hand.specs.Settings.{at, Allowed}
use Rattle.hand.specs.declared.Three.{Three}
use Rattle.hand.specs.declared.Settings.{Settings}
use Rattle.hand.proofs.Answer.{hand_total}
use Rattle.packet.specs.Packet.{Chunk, Packet, decode}
use Rattle.packet.specs.Calls.{check_for}
use Rattle.packet.proofs.Round.{Says, round}
use Rattle.queue.specs.Queue.{units, no_units}
use Rattle.queue.proofs.Keep.{none_sound}
use Rattle.row.specs.Row.{head_len, packet_at, stepped, steps, outs, start_of}
use Rattle.row.specs.Private.{InRegion}
use Rattle.row.specs.declared.Out.{Out}
use Rattle.row.proofs.Steps.{at_fits, whole_of, whole_steps}
use Rattle.sender.specs.State.{index_of, out_of, waiting_of}
use Rattle.sender.specs.Frame.{hand_of, row_at, frame_packets, frame_bytes, ends_of, next_from, framed}
use Rattle.sender.specs.declared.Front.{Front}
use Rattle.sender.proofs.Framing.{null_outs}
use Rattle.demand.specs.Run.{Desk}
use Rattle.demand.specs.Bytes.{split, readable, own, index_after, numbered}
use Rattle.demand.proofs.Good.{Good, out_whole}
use Rattle.demand.proofs.Packets.{own_append, numbered_append, numbered_length, own_numbered}

-- the n packets of p data bytes that s begins with
abbrev packets_in : ℕ → ℕ → List ℕ → List Packet
packets_in p n s = readable p (split (p + 3) n s)

-- ---- a row
-- what the next packet says
abbrev pub chunk_at : ℕ → List ℕ → Out → Chunk
chunk_at p region o =
    record { first = eqb o.q.sent 0; last = leb (get_or (units o.q) 0 0) p; body = take (head_len p o.q) (drop o.at region) }

abbrev pub packet_for : ℕ → ℕ → List ℕ → Out → Packet
packet_for p id region o = record { id = id; index = o.index; chunk = chunk_at p region o }

unfoldable pub row_chunks : ℕ → List ℕ → ℕ → Out → List Chunk
row_chunks p region zero o = []
row_chunks p region (suc n) o = row_chunks p region n o ++ (chunk_at p region (steps p n o) ∷ [])

row_count : (p : ℕ) (region : List ℕ) (n : ℕ) (o : Out) → length (row_chunks p region n o) ≡ n
unfolding row_chunks
row_count p region zero o = refl
row_count p region (suc n) o = length-append (row_chunks p region n o) (chunk_at p region (steps p n o) ∷ []) ∙ omega (arith, row_count p region n o)

index_steps : (p n : ℕ) (o : Out) → (steps p n o).index ≡ index_after n o.index
unfolding steps stepped index_after
index_steps p zero o = refl
index_steps p (suc n) o = ap (λ (i : ℕ). (i + 1) % 8) (index_steps p n o)

pub row_more : (p id : ℕ) (region : List ℕ) (n : ℕ) (o : Out)
    → numbered id o.index (row_chunks p region (suc n) o) ≡ numbered id o.index (row_chunks p region n o) ++ (packet_for p id region (steps p n o) ∷ [])
unfolding row_chunks numbered
row_more p id region n o =
    let c = chunk_at p region (steps p n o) in
    let a = numbered id o.index (row_chunks p region n o) in
    numbered_append id o.index (row_chunks p region n o) (c ∷ [])
    ∙ ap (λ (i : ℕ). a ++ (record { id = id; index = i; chunk = c } ∷ []))
    (ap (λ (m : ℕ). index_after m o.index) (row_count p region n o) ∙ sym (index_steps p n o))

-- one packet in front of others
front_says : (p : ℕ) (k : Packet) (y : List ℕ) → Says p k y → (m : ℕ) (rest : List ℕ) → packets_in p (suc m) (y ++ rest) ≡ k ∷ packets_in p m rest
unfolding readable split
front_says p k y t m rest =
    ap₂ (λ (a b : List ℕ). pick (eqb (check_for p a) 0) (decode p a ∷ []) [] ++ packets_in p m b) (take_at y rest (p + 3) t.len) (drop_at y rest (p + 3) t.len)
    ∙ ap₂ (λ (n : ℕ) (a : Packet). pick (eqb n 0) (a ∷ []) [] ++ packets_in p m rest) t.right t.says

module _ (p id : ℕ) (region : List ℕ) (lo : 1 ≤ p) (hi : p ≤ 255) (hid : id < 4) where
  at_says : (o : Out) → o.index < 8 → Says p (packet_for p id region o) (packet_at p id region o)
  unfolding packet_at
  at_says o h = round p (packet_for p id region o) (at_fits p id o region lo hi hid h)

  -- the row in front of others
  in_row : (n : ℕ) (o : Out) → InRegion p o 4096 → (m : ℕ) (rest : List ℕ)
      → packets_in p (n + m) (outs p id region n o ++ rest) ≡ numbered id o.index (row_chunks p region n o) ++ packets_in p m rest
  unfolding outs row_chunks numbered
  in_row zero o w m rest = let z : 0 + m ≡ m = omega arith in ap (λ (k : ℕ). packets_in p k rest) z
  in_row (suc n) o w m rest =
      let a = outs p id region n o in
      let y = packet_at p id region (steps p n o) in
      let k = packet_for p id region (steps p n o) in
      let row = numbered id o.index (row_chunks p region n o) in
      let e = whole_steps p 4096 n o lo w in
      let z : suc n + m ≡ n + suc m = omega arith in
      ap₂ (λ (i : ℕ) (l : List ℕ). packets_in p i l) z (append_assoc a y rest)
      ∙ in_row n o w (suc m) (y ++ rest)
      ∙ ap (λ (l : List Packet). row ++ l) (front_says p k y (at_says (steps p n o) e.index) m rest)
      ∙ sym (append_assoc row (k ∷ []) (packets_in p m rest))
      ∙ ap (λ (l : List Packet). l ++ packets_in p m rest) (sym (row_more p id region n o))

-- ---- the frame
-- what stands behind it in the output does not matter
module _ (g : Settings) (x : Desk) (k : Good g.p x) (al : Allowed g) (rest : List ℕ) where
  abbrev S : Front
  S = x.state

  abbrev N : Three
  N = (hand_of g S).packets

  abbrev F : ℕ
  F = (hand_of g S).filler

  abbrev bytes : ℕ → ℕ → List ℕ
  bytes id n = outs g.p id (part_of x.store id) n (out_of S id)

  abbrev nulls : List ℕ
  nulls = outs g.p 3 [] F (start_of no_units (index_of S 3))

  abbrev row : ℕ → ℕ → List Packet
  row id n = numbered id (index_of S id) (row_chunks g.p (part_of x.store id) n (out_of S id))

  abbrev fill : List Packet
  fill = numbered 3 (index_of S 3) (row_chunks g.p [] F (start_of no_units (index_of S 3)))

  -- what is read of its bytes
  abbrev pub frame_read : List Packet
  frame_read = packets_in g.p g.n (frame_bytes g S x.store ++ rest)

  sum : g.n ≡ N.a + (N.b + (N.c + (F + 0)))
  unfolding hand_of
  sum = omega (arith, hand_total g (waiting_of g.p S) S.turn al)

  fill_whole : InRegion g.p (start_of no_units (index_of S 3)) 4096
  fill_whole = let i = k.indexes 3 (lit< tt) in whole_of g.p 4096 (start_of no_units (index_of S 3)) (none_sound g.p) (let b = (none_sound g.p).bytes in omega arith) (omega arith)

  bytes_are : frame_bytes g S x.store ++ rest ≡ bytes 0 N.a ++ (bytes 1 N.b ++ (bytes 2 N.c ++ (nulls ++ rest)))
  unfolding frame_bytes frame_packets row_at
  bytes_are =
      let i = k.indexes 3 (lit< tt) in
      ap (λ (l : List ℕ). (((bytes 0 N.a ++ bytes 1 N.b) ++ bytes 2 N.c) ++ l) ++ rest) (sym (null_outs g.p (index_of S 3) [] (omega arith) F))
      ∙ append_assoc ((bytes 0 N.a ++ bytes 1 N.b) ++ bytes 2 N.c) nulls rest
      ∙ append_assoc (bytes 0 N.a ++ bytes 1 N.b) (bytes 2 N.c) (nulls ++ rest)
      ∙ append_assoc (bytes 0 N.a) (bytes 1 N.b) (bytes 2 N.c ++ (nulls ++ rest))

  frame_packets_law : frame_read ≡ row 0 N.a ++ (row 1 N.b ++ (row 2 N.c ++ (fill ++ [])))
  unfolding readable split
  frame_packets_law =
      let p = g.p in
      let lo = al.low in
      let hi = al.high in
      ap₂ (λ (n : ℕ) (l : List ℕ). packets_in p n l) sum bytes_are
      ∙ in_row p 0 _ lo hi (lit< tt) N.a (out_of S 0) (out_whole p x k 0 (lit< tt)) _ _
      ∙ ap (λ (l : List Packet). row 0 N.a ++ l)
      (in_row p 1 _ lo hi (lit< tt) N.b (out_of S 1) (out_whole p x k 1 (lit< tt)) _ _
      ∙ ap (λ (l : List Packet). row 1 N.b ++ l)
      (in_row p 2 _ lo hi (lit< tt) N.c (out_of S 2) (out_whole p x k 2 (lit< tt)) _ _
      ∙ ap (λ (l : List Packet). row 2 N.c ++ l) (in_row p 3 [] lo hi (lit< tt) F (start_of no_units (index_of S 3)) fill_whole 0 rest)))

  -- those of id, by which of the four rows is its own
  four : (id : ℕ) (a b c d : Bool) → eqb id 0 ≡ a → eqb id 1 ≡ b → eqb id 2 ≡ c → eqb id 3 ≡ d
      → own id frame_read ≡ pick a (row 0 N.a) [] ++ (pick b (row 1 N.b) [] ++ (pick c (row 2 N.c) [] ++ (pick d fill [] ++ [])))
  unfolding own
  four id a b c d ea eb ec ed =
      ap (own id) frame_packets_law
      ∙ own_append id (row 0 N.a) (row 1 N.b ++ (row 2 N.c ++ (fill ++ [])))
      ∙ ap₂ (λ (u v : List Packet). u ++ v) (own_numbered id 0 (index_of S 0) _ a ea)
      (own_append id (row 1 N.b) (row 2 N.c ++ (fill ++ []))
      ∙ ap₂ (λ (u v : List Packet). u ++ v) (own_numbered id 1 (index_of S 1) _ b eb)
      (own_append id (row 2 N.c) (fill ++ [])
      ∙ ap₂ (λ (u v : List Packet). u ++ v) (own_numbered id 2 (index_of S 2) _ c ec)
      (own_append id fill [] ∙ ap (λ (u : List Packet). u ++ []) (own_numbered id 3 (index_of S 3) _ d ed))))

  -- the packets of each id: those of its row, in order
  pub frame_own : (id : ℕ) → id < 3 → own id frame_read ≡ numbered id (index_of S id) (row_chunks g.p (part_of x.store id) (at N id) (out_of S id))
  frame_own zero h = four 0 true false false false refl refl refl refl ∙ append-nil (row 0 N.a)
  frame_own (suc zero) h = four 1 false true false false refl refl refl refl ∙ append-nil (row 1 N.b)
  frame_own (suc (suc zero)) h = four 2 false false true false refl refl refl refl ∙ append-nil (row 2 N.c)
  frame_own (suc (suc (suc id))) h = absurd (omega arith)

  pub frame_filler : own 3 frame_read ≡ numbered 3 (index_of S 3) (row_chunks g.p [] F (start_of no_units (index_of S 3)))
  frame_filler = four 3 false false false true refl refl refl refl ∙ append-nil fill

  -- C2: the packets of each id counted in the written frame are those reported
  pub counted : (id : ℕ) → id < 3 → length (own id frame_read) ≡ at (hand_of g S).packets id
  counted id h = ap length (frame_own id h) ∙ numbered_length id (index_of S id) _ ∙ row_count g.p (part_of x.store id) (at N id) (out_of S id)

  pub counted_filler : length (own 3 frame_read) ≡ (hand_of g S).filler
  counted_filler = ap length frame_filler ∙ numbered_length 3 (index_of S 3) _ ∙ row_count g.p [] F (start_of no_units (index_of S 3))

-- the index that it leaves
pub frame_index : (g : Settings) (s : Front) (id : ℕ) → id < 3 → index_of (framed g s).next id ≡ index_after (at (hand_of g s).packets id) (index_of s id)
unfolding framed next_from ends_of
frame_index g s zero h = index_steps g.p (hand_of g s).packets.a (out_of s 0)
frame_index g s (suc zero) h = index_steps g.p (hand_of g s).packets.b (out_of s 1)
frame_index g s (suc (suc zero)) h = index_steps g.p (hand_of g s).packets.c (out_of s 2)
frame_index g s (suc (suc (suc id))) h = absurd (omega arith)
