-- One call of a walk against the cut of the bytes taken so far: the state and the work buffer stand for it, before and after. `Stands` is the
-- invariant of a run and no part of a promise. Assumes nothing.
use Rattle.std.proofs.Common.{◌≡◌, ℕ, ◌+◌, ◌-◌, ◌%◌, ◌^◌, ◌<◌, ◌≤◌, min, Bool, true, false, eqb, ltb, leb, List, [], ◌∷◌, ◌++◌, length, take, drop, sym, refl, ap, ◌∙◌, ap₂, append-nil, arith, lit<, length-append, take-append-drop, length-take, length-take-le, take_all, take-add, drop_at, le-ltb, eq-eqb, leb-false, leb-true}
use native.Mathlib.Nat.{mod-add-mod}
use lib.Seq.{drop-length}
use Rattle.laws.specs.Big.{number_at}
use Rattle.laws.specs.Pick.{pick}
use Rattle.cutting.specs.Cutting.{Cut, waiting, joined, by, feed, all_of}
use Rattle.cutting.specs.Sign.{More, Whole, Wrong}
use Rattle.cutting.proofs.Needs.{step_taken, taken, takes_one}
use Rattle.moves.specs.Moves.{placed}
use Rattle.recording.specs.Recording.{step_for, stated_at}
use Rattle.recording.specs.Answers.{Step, Entry, End, Refused}
use Rattle.recording.proofs.Answers.{entry_means}
use Rattle.walk.specs.declared.Walk.{Walk}
use Rattle.walk.specs.State.{Fed}
use Rattle.walk.specs.Entries.{sign_of, entry_says, entry_need}
use Rattle.walk.specs.Walk.{held_of, taken_for, grown_for, met_by, fed_by, fed_for, work_for, packet_at}
use Rattle.walk.proofs.Entries.{says_short, begun_ways, need_short, need_rest, need_most, number_front, entry_steady, entry_real}
use Rattle.walk.proofs.Calls.{placed_front, placed_length}

pub record Stands (w : Walk) (work : List ℕ) (cut : Cut) : Type 0 where
  pub fine : w.number ≡ 0
  pub waits : cut.sign ≡ More
  pub long : length work ≡ 65532
  pub have : w.have ≡ length cut.rest
  pub held : take w.have work ≡ cut.rest
  pub begun : entry_says cut.rest ≡ More
  pub at : w.at ≡ (1 + length (all_of cut.records)) % 2 ^ 64

-- what a call makes of it: bytes are held, an entry is whole, or the entry is refused
pub data Comes (f : Fed) (v : List ℕ) (cut next : Cut) : Type 0 where
  held : f.whole ≡ false → next.records ≡ cut.records → Stands f.walk v next → Comes f v cut next
  whole : (r : List ℕ) → 4 ≤ length r → f.whole ≡ true → packet_at v f.size ≡ drop 4 r → next.records ≡ cut.records ++ (r ∷ []) → Stands f.walk v next → Comes f v cut next
  wrong : f.whole ≡ false → next.records ≡ cut.records → length v ≡ 65532 → 0 < f.walk.number → next.sign ≡ Wrong f.walk.number → Comes f v cut next

all_more : (rs : List (List ℕ)) (r : List ℕ) → length (all_of (rs ++ (r ∷ []))) ≡ length (all_of rs) + length r
unfolding all_of
all_more [] r = length-append r [] ∙ omega arith
all_more (q ∷ rs) r =
    let e = all_more rs r in
    length-append q (all_of (rs ++ (r ∷ []))) ∙ omega (arith, e, length-append q (all_of rs))

-- the packet of an entry that stands at the front
front_packet : (v g : List ℕ) (len : ℕ) → 4 + len ≡ length g → 4 ≤ length v → take (length g) v ≡ g → take len (drop 4 v) ≡ drop 4 g
front_packet v g len a l e =
    sym
    (ap (drop 4) (sym e ∙ ap (λ (k : ℕ). take k v) (sym a) ∙ take-add 4 len v)
    ∙ drop_at (take 4 v) (take len (drop 4 v)) 4 (length-take-le 4 v l))

-- a front, and what is behind so many bytes
front_split : (m : ℕ) (b : List ℕ) → take m b ++ drop (length (take m b)) b ≡ b
front_split m b = go (leb m (length b)) refl
  where
    go : (a : Bool) → leb m (length b) ≡ a → take m b ++ drop (length (take m b)) b ≡ b
    go true e = rw (length-take-le m b (leb-true m (length b) e)) (take-append-drop m b)
    go false e =
        let l : length b < m = leb-false m (length b) e in
        rw (take_all m b (omega arith), drop-length b) (append-nil b)

module _ (w : Walk) (work : List ℕ) (cut : Cut) (s : Stands w work cut) (block : List ℕ) where
  abbrev t : List ℕ
  t = taken_for w work block

  abbrev g : List ℕ
  g = grown_for w work block

  abbrev v : List ℕ
  v = placed work (min w.have 65532) t

  some : length cut.rest < entry_need cut.rest
  some = entry_steady.begun cut.rest s.begun

  least : min w.have 65532 ≡ w.have
  least = let n = need_most cut.rest in omega (arith, some, s.have)

  held_is : held_of w work ≡ cut.rest
  unfolding held_of
  held_is = ap (λ (k : ℕ). take k work) least ∙ s.held

  taken_same : t ≡ taken entry_says entry_need entry_steady cut.rest block
  unfolding taken_for
  taken_same = ap (λ (h : List ℕ). take (entry_need h - length h) block) held_is

  grown_same : g ≡ cut.rest ++ taken entry_says entry_need entry_steady cut.rest block
  unfolding grown_for
  grown_same = ap₂ (λ (a b : List ℕ). a ++ b) held_is taken_same

  -- what the bytes taken add to the cut
  cut_step : feed entry_says cut t ≡ joined cut.records (by (entry_says g) g (waiting g) (waiting []))
  unfolding feed
  cut_step =
      rw (s.waits, taken_same, grown_same)
      (ap (joined cut.records) (step_taken entry_says entry_need entry_steady cut.rest block s.begun))

  -- ---- the work buffer

  taken_fits : length t ≤ entry_need cut.rest - length cut.rest
  taken_fits =
      let k = length-take (entry_need cut.rest - length cut.rest) block in
      rw taken_same (omega arith)

  grown_length : length g ≡ w.have + length t
  unfolding grown_for
  grown_length = length-append (held_of w work) t ∙ ap (λ (n : ℕ). n + length t) (ap length held_is ∙ sym s.have)

  room : min w.have 65532 + length t ≤ length work
  room = let n = need_most cut.rest in omega (arith, least, taken_fits, some, s.have, s.long)

  work_long : length v ≡ 65532
  work_long = placed_length work (min w.have 65532) t room ∙ s.long

  work_front : take (length g) v ≡ g
  unfolding grown_for held_of
  work_front =
      let k : length g ≡ min w.have 65532 + length t = omega (arith, least, grown_length) in
      ap (λ (n : ℕ). take n v) k ∙ placed_front work (min w.have 65532) (length t) t refl room

  -- ---- the three outcomes

  comes_more : entry_says g ≡ More → (n : ℕ) → Comes (record { walk = record { number = 0; at = w.at; have = length g }; taken = n; whole = false; size = 0 }) v cut (feed entry_says cut t)
  comes_more e n =
      let c : feed entry_says cut t ≡ record { records = cut.records; rest = g; sign = More } =
      cut_step ∙ rw e (ap (λ (l : List (List ℕ)). record { records = l; rest = g; sign = More }) (append-nil cut.records)) in
      rw c (held refl refl (record { fine = refl; waits = refl; long = work_long; have = refl; held = work_front; begun = e; at = s.at }))

  comes_wrong : (k : ℕ) → entry_says g ≡ Wrong k → (n : ℕ)
      → Comes (record { walk = record { number = k; at = w.at; have = length g }; taken = n; whole = false; size = 0 }) v cut (feed entry_says cut t)
  comes_wrong k e n =
      let c : feed entry_says cut t ≡ record { records = cut.records; rest = g; sign = Wrong k } =
      cut_step ∙ rw e (ap (λ (l : List (List ℕ)). record { records = l; rest = g; sign = Wrong k }) (append-nil cut.records)) in
      rw c (wrong refl refl work_long (entry_real g k e) refl)

  -- a whole entry is all that is held: no byte behind it was taken
  entry_all : (start len next : ℕ) → step_for g 0 ≡ Entry start len next → (next ≡ length g) × (4 + len ≡ length g)
  unfolding stated_at
  entry_all start len next e =
      let m = entry_means g 0 start len next e in
      let f : length g ≤ entry_need cut.rest = omega (arith, grown_length, taken_fits, some, s.have) in
      let same : 4 ≤ length cut.rest → number_at 4 cut.rest 0 ≡ len =
      λ l. sym (number_front 4 cut.rest (taken entry_says entry_need entry_steady cut.rest block) 0 l) ∙ ap (λ (x : List ℕ). number_at 4 x 0) (sym grown_same) ∙ sym m.states in
      let most : length g ≤ 4 + len =
      begun_ways cut.rest s.begun (λ l. let k = need_short cut.rest l in omega arith)
      (λ l n k. let j = need_rest cut.rest (number_at 4 cut.rest 0) refl l n in let i = same l in omega arith) in
      (omega (arith, m.starts, m.ends, m.within), omega (arith, m.starts, m.ends, m.within))

  comes_whole : (start len next : ℕ) → step_for g 0 ≡ Entry start len next → (n : ℕ)
      → Comes (record { walk = record { number = 0; at = (w.at + next) % 2 ^ 64; have = 0 }; taken = n; whole = true; size = len }) v cut (feed entry_says cut t)
  unfolding entry_says sign_of packet_at
  comes_whole start len next e n =
      let a = entry_all start len next e in
      let y : entry_says g ≡ Whole = rw e refl in
      let c : feed entry_says cut t ≡ record { records = cut.records ++ (g ∷ []); rest = []; sign = More } = cut_step ∙ rw y refl in
      let i : (w.at + next) % 2 ^ 64 ≡ (1 + length (all_of (cut.records ++ (g ∷ [])))) % 2 ^ 64 =
      ap₂ (λ (x y : ℕ). (x + y) % 2 ^ 64) s.at a.0
      ∙ mod-add-mod (1 + length (all_of cut.records)) (2 ^ 64) (length g)
      ∙ ap (λ (k : ℕ). k % 2 ^ 64) (let q = all_more cut.records g in omega arith) in
      let f : length g ≤ length v = omega (arith, grown_length, room, least, work_long, s.long) in
      let p : pick (ltb (length v) (4 + len)) [] (take len (drop 4 v)) ≡ drop 4 g =
      rw (le-ltb (length v) (4 + len) (omega (arith, a.1))) (front_packet v g len a.1 (omega (arith, work_long)) work_front) in
      rw c (whole g (omega (arith, a.1)) refl p refl (record { fine = refl; waits = refl; long = work_long; have = refl; held = refl; begun = says_short [] (lit< tt); at = i }))

  -- the call as its promise has it
  pub comes : Comes (fed_for w work block) (work_for w work block) cut (feed entry_says cut t)
  unfolding fed_for work_for fed_by met_by entry_says sign_of
  comes = rw (eq-eqb w.number 0 s.fine) (go (step_for g 0) refl)
    where
      refused : (k p : ℕ) → step_for g 0 ≡ Refused k p → (b : Bool) → eqb k 2 ≡ b
          → Comes (record { walk = record { number = pick b 0 k; at = w.at; have = length g }; taken = length t; whole = false; size = 0 }) v cut (feed entry_says cut t)
      refused k p e true q = comes_more (rw (e, q) refl) (length t)
      refused k p e false q = comes_wrong k (rw (e, q) refl) (length t)

      go : (x : Step) → step_for g 0 ≡ x → Comes (fed_by x w.at (length g) (length t)) v cut (feed entry_says cut t)
      go (Entry a b c) e = comes_whole a b c e (length t)
      go End e = comes_more (rw e refl) (length t)
      go (Refused k p) e = refused k p e (eqb k 2) refl

  -- it takes bytes from the front of the block, and one at least where there is one
  taken_count : (fed_for w work block).taken ≡ length t
  unfolding fed_for fed_by
  taken_count = rw (eq-eqb w.number 0 s.fine) (go (step_for g 0))
    where
      go : (x : Step) → (fed_by x w.at (length g) (length t)).taken ≡ length t
      go (Entry a b c) = refl
      go End = refl
      go (Refused k p) = refl

  pub split : t ++ drop (fed_for w work block).taken block ≡ block
  unfolding taken_for
  split = rw taken_count (front_split (entry_need (held_of w work) - length (held_of w work)) block)

  pub progress : 0 < length block → 0 < (fed_for w work block).taken
  progress h = rw (taken_count, taken_same) (takes_one entry_says entry_need entry_steady cut.rest block s.begun h)
