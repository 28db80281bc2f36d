-- One packet from a queue to its line: nothing is lost. Assumes nothing.
use Prim.Native.Nat.{ℕ, ◌+◌, ◌%◌, ◌<◌, ◌≤◌}
use mathlib.Core.Path.{◌≡◌, refl, sym, ap, ◌∙◌}
use mathlib.Core.List.{List, [], ◌∷◌, ◌++◌, append_assoc}
use mathlib.Core.Bool.{Bool, true, false, not, ◌&&◌, true≢false}
use native.Mathlib.Omega.{arith}
use borrow.Author.Tests.{eq-eqb, ne_eqb, le-leb, leb-true, leb-false}
use lib.Dec.{leb, eqb}
use lib.ListN.{length, take, drop, length-append, length-take, length-drop, take-append-drop}
use lib.Seq.{take_all}
use Rattle.laws.specs.Pick.{pick}
use Rattle.packet.specs.Packet.{Chunk, nothing}
use Rattle.row.specs.Content.{chunk_of, rest_of, begun_of}
use Rattle.receiver.specs.Link.{kept, null_of, base_of, joins, adds, link_with, link_after, completes}
use Rattle.receiver.specs.Line.{Line, grown, line_after, units_by}
use Rattle.demand.specs.Stream.{AllFit}
use Rattle.delivery.specs.Whole.{wholes}
use Rattle.delivery.specs.Flow.{Linked}

-- a packet that is not null, of n bytes, and whose index is the next one
pub record Fine (l : Line) (i : ℕ) (b t : Bool) (n : ℕ) : Type 0 where
  pub index : l.link.heard ≡ true → l.link.index ≡ i
  pub begun : l.link.begun ≡ b
  pub size : l.link.len ≡ length l.bytes
  pub none : b ≡ false → l.bytes ≡ []
  pub real : null_of (not b) t n ≡ false
  pub fits : length l.bytes + n ≤ 4096

pub kept_is : (o h b : Bool) (x i : ℕ) → (h ≡ true → x ≡ i) → o ≡ b → o && pick h (eqb i x) true ≡ b
kept_is false h b x i e f = f
kept_is true true b x i e f = eq-eqb i x (sym (e refl)) ∙ f
kept_is true false b x i e f = f

pub null_some : (f t : Bool) (n : ℕ) → 1 ≤ n → null_of f t n ≡ false
unfolding null_of
null_some true true n h = ne_eqb n 0 (λ e. omega arith)
null_some true false n h = refl
null_some false t n h = refl

pub null_more : (f : Bool) (n : ℕ) → null_of f false n ≡ false
unfolding null_of
null_more true n = refl
null_more false n = refl

module _ (l : Line) (i : ℕ) (t : Bool) where
  pub adds_is : (b : Bool) (n : ℕ) → Fine l i b t n → adds l.link i (not b) t n ≡ true
  unfolding adds joins kept base_of
  adds_is true n g =
      rw (g.real, kept_is l.link.begun l.link.heard true l.link.index i g.index g.begun)
      (le-leb (l.link.len + n) 4096 (omega (arith, g.size, g.fits)))
  adds_is false n g = rw g.real (le-leb (0 + n) 4096 (omega (arith, g.fits)))

  base_is : (b : Bool) (n : ℕ) → Fine l i b t n → base_of l.link (not b) ≡ length l.bytes
  unfolding base_of
  base_is true n g = g.size
  base_is false n g = ap length (sym (g.none refl))

  grown_is : (b : Bool) (d : List ℕ) → Fine l i b t (length d) → grown l (record { first = not b; last = t; body = d }) ≡ l.bytes ++ d
  unfolding grown
  grown_is true d g = refl
  grown_is false d g = ap (λ (x : List ℕ). x ++ d) (sym (g.none refl))

-- the last packet of a unit
last_line : (l : Line) (i : ℕ) (b : Bool) (d : List ℕ) → Fine l i b true (length d)
    → (line_after l i (record { first = not b; last = true; body = d }) ≡ record { link = link_with i false 0; bytes = [] })
    × (units_by l i (record { first = not b; last = true; body = d }) ≡ (l.bytes ++ d) ∷ [])
unfolding line_after link_after units_by completes link_with
last_line l i b d g =
    let a = adds_is l i true b (length d) g in
    let y = grown_is l i true b d g in
    (simp (g.real, a), simp (a, y))

-- another packet of a unit
more_line : (l : Line) (i : ℕ) (b : Bool) (d : List ℕ) → Fine l i b false (length d)
    → (line_after l i (record { first = not b; last = false; body = d }) ≡ record { link = link_with i true (length (l.bytes ++ d)); bytes = l.bytes ++ d })
    × (units_by l i (record { first = not b; last = false; body = d }) ≡ [])
unfolding line_after link_after units_by completes link_with
more_line l i b d g =
    let a = adds_is l i false b (length d) g in
    let y = grown_is l i false b d g in
    let h = base_is l i false b (length d) g in
    (simp (g.real, a, y, h, length-append), simp a)

wholes_none : (l : Line) (us : List (List ℕ)) → l.bytes ≡ [] → wholes l us ≡ us
unfolding wholes
wholes_none l [] e = refl
wholes_none l (u ∷ us) e = ap (λ (x : List ℕ). (x ++ u) ∷ us) e

-- the line is in step after it, and what it completes with what is unfinished then is what was unfinished
pub record Passed (p : ℕ) (us : List (List ℕ)) (b : Bool) (i : ℕ) (l : Line) : Type 0 where
  pub linked : Linked (rest_of p us) (begun_of p us) ((i + 1) % 8) (line_after l i (chunk_of p b us))
  pub same : units_by l i (chunk_of p b us) ++ wholes (line_after l i (chunk_of p b us)) (rest_of p us) ≡ wholes l us

module _ (p : ℕ) (u : List ℕ) (us : List (List ℕ)) (b : Bool) (i : ℕ) (l : Line) (k : Linked (u ∷ us) b i l) where
  pub fine_of : (t : Bool) → null_of (not b) t (length (take p u)) ≡ false → Fine l i b t (length (take p u))
  unfolding wholes
  fine_of t z =
      record {
        index = k.index;
        begun = k.begun;
        size = k.size;
        none = k.none;
        real = z;
        fits = omega (arith, length-take p u, length-append l.bytes u, k.fit.0);
      }

  same_last : length u ≤ p → (c : Chunk) → c ≡ record { first = not b; last = true; body = take p u }
      → Linked us false ((i + 1) % 8) (line_after l i c) × (units_by l i c ++ wholes (line_after l i c) us ≡ wholes l (u ∷ us))
  unfolding wholes link_with
  same_last h c ec =
      let g = last_line l i b (take p u) (fine_of true (null_some (not b) true (length (take p u)) (omega (arith, length-take p u, k.some.0)))) in
      let t : take p u ≡ u = take_all p u h in
      let w : wholes (record { link = link_with i false 0; bytes = [] }) us ≡ us = wholes_none (record { link = link_with i false 0; bytes = [] }) us refl in
      let f : AllFit us = k.fit.1 in
      rw (ec, g.0, g.1, w) (
        record { index = λ e. refl; begun = refl; size = refl; none = λ e. refl; idle = λ e. refl; some = k.some.1; fit = rw w f },
        ap (λ (x : List ℕ). (l.bytes ++ x) ∷ us) t,
      )

  same_more : p < length u → (c : Chunk) → c ≡ record { first = not b; last = false; body = take p u }
      → Linked (drop p u ∷ us) true ((i + 1) % 8) (line_after l i c) × (units_by l i c ++ wholes (line_after l i c) (drop p u ∷ us) ≡ wholes l (u ∷ us))
  unfolding wholes link_with
  same_more h c ec =
      let g = more_line l i b (take p u) (fine_of false (null_more (not b) (length (take p u)))) in
      let w : (l.bytes ++ take p u) ++ drop p u ≡ l.bytes ++ u = append_assoc l.bytes (take p u) (drop p u) ∙ ap (λ (x : List ℕ). l.bytes ++ x) (take-append-drop p u) in
      rw (ec, g.0, g.1) (
        record {
          index = λ e. refl;
          begun = refl;
          size = refl;
          none = λ e. absurd (true≢false e);
          idle = λ e. cc;
          some = (omega (arith, length-drop p u), k.some.1);
          fit = rw w k.fit;
        },
        ap (λ (x : List ℕ). x ∷ us) w,
      )

  passed_some : Passed p (u ∷ us) b i l
  unfolding chunk_of rest_of begun_of
  passed_some = go (leb (length u) p) refl
    where
      go : (t : Bool) → leb (length u) p ≡ t → Passed p (u ∷ us) b i l
      go true e =
          let r = same_last (leb-true _ _ e) (record { first = not b; last = leb (length u) p; body = take p u }) (rw e) in
          record { linked = rw e (rw e at r.0); same = rw e (rw e at r.1) }
      go false e =
          let r = same_more (leb-false _ _ e) (record { first = not b; last = leb (length u) p; body = take p u }) (rw e) in
          record { linked = rw e (rw e at r.0); same = rw e (rw e at r.1) }

-- a null packet of a queue that has nothing left
null_kept : (l : Line) (i : ℕ) → l.link.begun ≡ false → kept l.link i ≡ false
unfolding kept
null_kept l i e = rw e

null_line : (l : Line) (i : ℕ) → l.link.begun ≡ false → (line_after l i nothing ≡ record { link = link_with i false 0; bytes = [] }) × (units_by l i nothing ≡ [])
unfolding line_after link_after units_by completes adds joins null_of link_with
null_line l i e = (rw (null_kept l i e), refl)

passed_none : (p : ℕ) (b : Bool) (i : ℕ) (l : Line) → Linked [] b i l → Passed p [] b i l
unfolding chunk_of rest_of begun_of wholes link_with
passed_none p b i l k =
    let g = null_line l i (k.begun ∙ k.idle refl) in
    record {
      linked = rw g.0 (record { index = λ e. refl; begun = refl; size = refl; none = λ e. refl; idle = λ e. refl; some = tt; fit = tt });
      same = rw g.1;
    }

pub passed : (p : ℕ) (us : List (List ℕ)) (b : Bool) (i : ℕ) (l : Line) → Linked us b i l → Passed p us b i l
passed p [] b i l k = passed_none p b i l k
passed p (u ∷ us) b i l k = passed_some p u us b i l k
