-- Values written row by row: the bytes of the packet. Assumes nothing.
use Prim.Native.Nat.{ℕ, zero, suc, ◌+◌, ◌*◌, ◌≤◌, ◌<◌}
use mathlib.Core.Bool.{true, false, ◌||◌}
use mathlib.Core.Path.{◌≡◌, refl, sym, ap, ap₂, ◌∙◌}
use mathlib.Core.List.{List, [], ◌∷◌, ◌++◌, append_assoc, append-nil}
use native.Mathlib.Nat.{add-zero}
use native.Mathlib.Omega.{arith}
use borrow.Author.Tests.{ltb-false, eqb-true}
use lib.Dec.{eqb, ltb, lit≤, lit<}
use lib.ListN.{length, get_or, drop, length-append}
use lib.Seq.{drop-drop}
use Rattle.laws.specs.Big.{bytes_of}
use Rattle.laws.specs.Limits.{longest}
use Rattle.laws.specs.Written.{written}
use Rattle.laws.proofs.Big.{bytes_length}
use Rattle.laws.proofs.Flags.{both, or_false}
use Rattle.laws.proofs.Written.{written_none, write_next, written_length}
use Rattle.items.specs.Joined.{joined, kept, chunk_size}
use Rattle.items.proofs.Joins.{joined_kept}
use Rattle.description.specs.Bytes as described
use Rattle.fac.specs.Channel.{fac_bytes}
use Rattle.fac.proofs.Back as channel
use Rattle.record.specs.declared.Record.{Record}
use Rattle.mdi_spots.specs.Table.{table, names_of, name_of}
use Rattle.mdi_write.specs.Packet.{Streams, entry, entries, time_bytes, head_values, stream_values, values_of, items_of, packet_of}
use Rattle.mdi_write.specs.Answers.{any_long}
use Rattle.mdi_write.specs.Rows.{wire, wire_size, laid, size_for}
use Rattle.mdi_write.proofs.Values.{fours, four_at, wire_length, value_size_law, size_is}

-- ---- values under names

abbrev bytes_in : List (List ℕ) → List (List ℕ) → List ℕ
bytes_in ns vs = joined (kept (entries ns vs))

in_row : (n v : List ℕ) (ns vs : List (List ℕ)) → bytes_in (n ∷ ns) (v ∷ vs) ≡ wire n v ++ bytes_in ns vs
in_row n v ns vs = joined_kept (entry n v) (entries ns vs)

in_append : (ns xs ys : List (List ℕ)) → bytes_in ns (xs ++ ys) ≡ bytes_in ns xs ++ bytes_in (drop (length xs) ns) ys
unfolding joined kept
in_append ns [] ys = refl
in_append [] (v ∷ xs) [] = refl
in_append [] (v ∷ xs) (w ∷ ys) = refl
in_append (n ∷ ns) (v ∷ xs) ys =
    in_row n v ns (xs ++ ys)
    ∙ ap (λ (t : List ℕ). wire n v ++ t) (in_append ns xs ys)
    ∙ sym (append_assoc (wire n v) (bytes_in ns xs) (bytes_in (drop (length xs) ns) ys))
    ∙ ap (λ (t : List ℕ). t ++ bytes_in (drop (length xs) ns) ys) (sym (in_row n v ns xs))

-- how many bytes values take
abbrev sizes : List (List ℕ) → ℕ
sizes [] = 0
sizes (v ∷ vs) = wire_size (length v) + sizes vs

in_length : (ns vs : List (List ℕ)) → fours ns ≡ true → length vs ≤ length ns → length (bytes_in ns vs) ≡ sizes vs
unfolding joined kept
in_length ns [] e h = refl
in_length [] (v ∷ vs) e h = absurd (omega arith)
in_length (n ∷ ns) (v ∷ vs) e h =
    let b = both (eqb (length n) 4) (fours ns) e in
    ap length (in_row n v ns vs)
    ∙ length-append (wire n v) (bytes_in ns vs)
    ∙ ap₂ (λ (x y : ℕ). x + y) (wire_length n v (eqb-true _ _ b.0)) (in_length ns vs b.1 (omega arith))

split : (l : List (List ℕ)) (k : ℕ) → k < length l → drop k l ≡ get_or l k [] ∷ drop (suc k) l
split [] k h = absurd (omega arith)
split (x ∷ l) zero h = refl
split (x ∷ l) (suc k) h = split l k (omega arith)

-- ---- the values xs in the rows from b on stand in e, which was d, from at to n
abbrev pub Stand : List ℕ → ℕ → ℕ → List (List ℕ) → List ℕ → ℕ → Type 0
Stand d at b xs e n = (n ≡ at + length (laid b xs)) × (e ≡ written d at (laid b xs))

parts : (b : ℕ) (xs ys : List (List ℕ)) → laid b (xs ++ ys) ≡ laid b xs ++ laid (b + length xs) ys
parts b xs ys =
    in_append (drop b (names_of table)) xs ys
    ∙ ap (λ (l : List (List ℕ)). laid b xs ++ bytes_in l ys) (drop-drop (length xs) b (names_of table))

lengths : (b : ℕ) (xs ys : List (List ℕ)) → length (laid b (xs ++ ys)) ≡ length (laid b xs) + length (laid (b + length xs) ys)
lengths b xs ys = ap length (parts b xs ys) ∙ length-append (laid b xs) (laid (b + length xs) ys)

module _ (d : List ℕ) (at b : ℕ) (xs ys : List (List ℕ)) (room : at + length (laid b (xs ++ ys)) ≤ length d) (e : List ℕ) (n : ℕ) (s : Stand d at b xs e n) where
  -- what follows has room
  pub stand_room : n + length (laid (b + length xs) ys) ≤ length e
  stand_room =
      let l = lengths b xs ys in
      let k = s.0 in
      let m : length e ≡ length d = ap length s.1 ∙ written_length d at (laid b xs) (omega arith) in
      omega arith

  -- and stands behind it
  pub stand_next : (f : List ℕ) (m : ℕ) → Stand e n (b + length xs) ys f m → Stand d at b (xs ++ ys) f m
  stand_next f m t =
      let l = lengths b xs ys in
      let k = s.0 in
      let j = t.0 in (
        omega arith,
        t.1 ∙ write_next d e at (laid b xs) (laid (b + length xs) ys) n s.0 (omega arith) s.1 ∙ ap (written d at) (sym (parts b xs ys)),
      )

-- ---- the value in place k of some, in the rows from b on

-- there is room for it and those behind it
pub record Room (b : ℕ) (vs : List (List ℕ)) (k : ℕ) (d : List ℕ) (at : ℕ) : Type 0 where
  pub fits : at + length (laid (b + k) (drop k vs)) ≤ length d

pub row_first : (b : ℕ) (vs : List (List ℕ)) (d : List ℕ) (at : ℕ) → at + length (laid b vs) ≤ length d → Room b vs 0 d at
row_first b vs d at h = record { fits = rw add-zero h }

module _ (b : ℕ) (vs : List (List ℕ)) (k : ℕ) (h : k < length vs) (all : b + length vs ≤ 11) where
  one_is : laid (b + k) (get_or vs k [] ∷ []) ≡ wire (name_of (b + k)) (get_or vs k [])
  unfolding joined kept
  one_is =
      ap (λ (l : List (List ℕ)). bytes_in l (get_or vs k [] ∷ [])) (split (names_of table) (b + k) (omega arith))
      ∙ in_row (name_of (b + k)) (get_or vs k []) (drop (suc (b + k)) (names_of table)) []
      ∙ append-nil (wire (name_of (b + k)) (get_or vs k []))

  one_length : length (laid (b + k) (get_or vs k [] ∷ [])) ≡ wire_size (length (get_or vs k []))
  one_length = ap length one_is ∙ wire_length (name_of (b + k)) (get_or vs k []) (four_at (names_of table) refl (b + k) (omega arith))

  module _ (d : List ℕ) (at : ℕ) (room : Room b vs k d at) where
    room_here : at + length (laid (b + k) ((get_or vs k [] ∷ []) ++ drop (suc k) vs)) ≤ length d
    room_here = rw (split vs k h) at room.fits

    pub row_room : at + wire_size (length (get_or vs k [])) ≤ length d
    row_room =
        let l = one_length in
        let p = lengths (b + k) (get_or vs k [] ∷ []) (drop (suc k) vs) in
        let q = room_here in
        omega arith

    module _ (e : List ℕ) (n : ℕ) (put : (n ≡ at + wire_size (length (get_or vs k []))) × (e ≡ written d at (wire (name_of (b + k)) (get_or vs k [])))) where
      stands : Stand d at (b + k) (get_or vs k [] ∷ []) e n
      stands = (put.0 ∙ ap (λ (x : ℕ). at + x) (sym one_length), put.1 ∙ ap (written d at) (sym one_is))

      next_row : b + k + 1 ≡ b + suc k
      next_row = omega arith

      pub row_next : Room b vs (suc k) e n
      row_next = record { fits = rw next_row at (stand_room d at (b + k) (get_or vs k [] ∷ []) (drop (suc k) vs) room_here e n stands) }

      pub row_done : (f : List ℕ) (m : ℕ) → Stand e n (b + suc k) (drop (suc k) vs) f m → Stand d at (b + k) (drop k vs) f m
      row_done f m t =
          rw (split vs k h)
          (stand_next d at (b + k) (get_or vs k [] ∷ []) (drop (suc k) vs) room_here e n stands f m (rw (← next_row) at t))

pub no_more : (d : List ℕ) (at b : ℕ) → Stand d at b [] d at
unfolding joined kept
no_more d at b = (omega arith, sym (written_none d at))

-- ---- the streams
pub not_long : (ss : Streams) → any_long ss ≡ false
    → (length ss.s0 ≤ 65528) × (length ss.s1 ≤ 65528) × (length ss.s2 ≤ 65528) × (length ss.s3 ≤ 65528)
unfolding any_long
not_long ss e =
    let a = or_false (ltb longest (length ss.s0) || ltb longest (length ss.s1) || ltb longest (length ss.s2)) (ltb longest (length ss.s3)) e in
    let b = or_false (ltb longest (length ss.s0) || ltb longest (length ss.s1)) (ltb longest (length ss.s2)) a.0 in
    let c = or_false (ltb longest (length ss.s0)) (ltb longest (length ss.s1)) b.0 in
    (ltb-false _ _ c.0, ltb-false _ _ c.1, ltb-false _ _ b.1, ltb-false _ _ a.1)

-- ---- the packet
pub packet_is : (r : Record) (ss : Streams) → packet_of r ss ≡ laid 0 (head_values r ++ (stream_values ss ++ (time_bytes r.time ∷ [])))
unfolding packet_of items_of values_of
packet_is r ss = refl

sized : (n : ℕ) → wire_size (1 + n) ≡ 9 + n
sized n = sym (size_is (1 + n) (λ e. omega arith)) ∙ omega arith

pub packet_length : (r : Record) (ss : Streams) → length r.description.stream ≡ 4 → r.description.count ≤ 4
    → length (packet_of r ss) ≡ size_for r (length ss.s0) (length ss.s1) (length ss.s2) (length ss.s3)
unfolding packet_of items_of values_of chunk_size
packet_length r ss l m =
    let s = in_length (names_of table) (values_of r ss) refl (lit≤ tt) in
    let c : wire_size (length (bytes_of 4 r.count)) ≡ 12 = rw (bytes_length 4 r.count) refl in
    let f : wire_size (length (fac_bytes r.fac)) ≡ 17 = rw (channel.value_length_law r.fac) refl in
    let v : wire_size (length (described.value_of r.description)) ≡ 9 + 3 * r.description.count =
    ap (λ (k : ℕ). wire_size k) (value_size_law r.description l m) ∙ sized (3 * r.description.count) in
    omega arith

-- the three parts of it written
module _ (r : Record) (ss : Streams) (d : List ℕ) (room : length (packet_of r ss) ≤ length d) where
  abbrev behind : List (List ℕ)
  behind = stream_values ss ++ (time_bytes r.time ∷ [])

  all_room : 0 + length (laid 0 (head_values r ++ behind)) ≤ length d
  all_room = let p = ap length (packet_is r ss) in omega arith

  pub head_fits : 0 + length (laid 0 (head_values r)) ≤ length d
  head_fits = let p = lengths 0 (head_values r) behind in let a = all_room in omega arith

  module _ (a : ℕ) (d1 : List ℕ) (w1 : Stand d 0 0 (head_values r) d1 a) where
    rest_room : a + length (laid 6 behind) ≤ length d1
    rest_room = stand_room d 0 0 (head_values r) behind all_room d1 a w1

    pub streams_fit : a + length (laid 6 (stream_values ss)) ≤ length d1
    streams_fit = let p = lengths 6 (stream_values ss) (time_bytes r.time ∷ []) in let b = rest_room in omega arith

    module _ (b : ℕ) (d2 : List ℕ) (w2 : Stand d1 a 6 (stream_values ss) d2 b) where
      time_room : Room 10 (time_bytes r.time ∷ []) 0 d2 b
      time_room = row_first 10 (time_bytes r.time ∷ []) d2 b (stand_room d1 a 6 (stream_values ss) (time_bytes r.time ∷ []) rest_room d2 b w2)

      pub time_fits : b + wire_size (length (time_bytes r.time)) ≤ length d2
      time_fits = row_room 10 (time_bytes r.time ∷ []) 0 (lit< tt) (lit≤ tt) d2 b time_room

      pub packet_written : (n : ℕ) (d3 : List ℕ) → (n ≡ b + wire_size (length (time_bytes r.time))) × (d3 ≡ written d2 b (wire (name_of 10) (time_bytes r.time)))
          → (n ≡ length (packet_of r ss)) × (d3 ≡ written d 0 (packet_of r ss))
      packet_written n d3 p =
          let t = row_done 10 (time_bytes r.time ∷ []) 0 (lit< tt) (lit≤ tt) d2 b time_room d3 n p d3 n (no_more d3 n 11) in
          let q = stand_next d1 a 6 (stream_values ss) (time_bytes r.time ∷ []) rest_room d2 b w2 d3 n t in
          let w = stand_next d 0 0 (head_values r) behind all_room d1 a w1 d3 n q in
          let x = w.0 in
          let e = ap length (packet_is r ss) in
          (omega arith, w.1 ∙ ap (written d 0) (sym (packet_is r ss)))
