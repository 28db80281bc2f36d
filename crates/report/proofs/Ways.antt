-- The ways through the code, in its own words. Assumes nothing.
use Rattle.std.proofs.Common.{◌≡◌, ℕ, Bool, true, false, not, eqb, List, length, sym, refl, ap, ◌∙◌, subst, ap₂, zero-add, eq-eqb, ne_eqb}
use borrow.Author.Tests.{not-true, not-false}
use Rattle.laws.specs.Written.{written}
use Rattle.laws.proofs.Written.{written_none}
use Rattle.calendar.specs.Dates.{date_of}
use Rattle.calendar.specs.declared.Date.{Date}
use Rattle.calendar.proofs.Dates.{date_is}
use Rattle.inspect_text.specs.Break.{break_text}
use Rattle.inspect_text.specs.Inspect.{packet_text, refused_text, Line}
use Rattle.summary_text.specs.Summary.{summary_text, Summary}
use Rattle.mdi.specs.Reading.{read_for}
use Rattle.mdi.specs.declared.Answer.{Answer}
use Rattle.moves.specs.Moves.{Puts}
use Rattle.moves.proofs.Pieces.{puts_none}
use Rattle.stamp_text.specs.Stamp.{since}
use Rattle.tally.specs.Tally.{no_tally, counted_for, up}
use Rattle.tally.specs.declared.Tally.{Tally}
use Rattle.record.specs.Records.{no_record}
use Rattle.record.specs.declared.Record.{Record}
use Rattle.walk.specs.Walk as walks
use Rattle.walk.specs.declared.Ended.{Ended}
use Rattle.walk.specs.declared.Walk.{Walk}
use Rattle.walk.specs.State.{Fed}
use Rattle.report.specs.declared.Seen.{Seen}
use Rattle.report.specs.declared.Report.{Report}
use Rattle.report.specs.declared.Shown.{Shown}
use Rattle.report.specs.Report.{break_of, line_of, seen_after, no_seen, begun_for, is_whole, answer_in, break_for, line_for, seen_for, shown_for, summary_of, refusal_of, summary_for, refusal_for, closed_for}

pub begin_done : (first : List ℕ) (w : Walk) (t : Tally) (l : Record) → w ≡ walks.begun_for first → t ≡ no_tally → l ≡ no_record
    → record { walk = w; seen = record { tally = t; any = false; last = l } } ≡ begun_for first
unfolding begun_for no_seen
begin_done first w t l e f g = rw (e, f, g) refl

-- ---- a break

module _ (s : Seen) (a : Answer) where
  pub break_refused : (d : List ℕ) → (a.number ≡ 0 → ⊥) → Puts d 0 (break_of s a) d 0
  unfolding break_of
  break_refused d h = rw (ne_eqb a.number 0 h) (puts_none d 0)

  pub break_first : (d : List ℕ) → a.number ≡ 0 → not s.any ≡ true → Puts d 0 (break_of s a) d 0
  unfolding break_of
  break_first d h l = rw (eq-eqb a.number 0 h, not-true s.any l) (puts_none d 0)

  pub break_there : (d e : List ℕ) (n : ℕ) → a.number ≡ 0 → not s.any ≡ false → Puts d 0 (break_text s.last a.content) e n → Puts d 0 (break_of s a) e n
  unfolding break_of
  break_there d e n h l p = rw (eq-eqb a.number 0 h, not-false s.any l) p

  -- ---- what is seen after

  pub after_refused : (n : ℕ) (t : Tally) → n ≡ length (break_of s a) → t ≡ counted_for s.tally a (not (eqb n 0)) → (a.number ≡ 0 → ⊥)
      → record { tally = t; any = s.any; last = s.last } ≡ seen_after s a
  unfolding seen_after
  after_refused n t e q h = rw (q, e, ne_eqb a.number 0 h) refl

  pub after_read : (n : ℕ) (t : Tally) → n ≡ length (break_of s a) → t ≡ counted_for s.tally a (not (eqb n 0)) → a.number ≡ 0
      → record { tally = t; any = true; last = a.content } ≡ seen_after s a
  unfolding seen_after
  after_read n t e q h = rw (q, e, eq-eqb a.number 0 h) refl

-- ---- a packet

pub put_length : (d e xs : List ℕ) (n : ℕ) → Puts d 0 xs e n → n ≡ length xs
put_length d e xs n p = p.end ∙ zero-add (length xs)

-- the line with the date that its timestamp has
pub line_dated : (s : Seen) (at n : ℕ) (a : Answer) (d e : List ℕ) (k : ℕ) → n ≡ up s.tally.packets → Line n at a d e k → Puts d 0 (line_of s at a) e k
unfolding line_of
line_dated s at n a d e k q l =
    rw (← q) (subst (λ (x : Date). Puts d 0 (packet_text n at a x) e k) (date_is (since a.content.time) l.date l.dated) l.text)

-- ---- a block

by_fields : (w : Walk) (t : ℕ) (s u : Seen) (b c l m : ℕ) → s ≡ u → b ≡ c → l ≡ m
    → ◌≡◌ {A = Shown} (record { report = record { walk = w; seen = s }; taken = t; broken = b; line = l })
    (record { report = record { walk = w; seen = u }; taken = t; broken = c; line = m })
by_fields w t s u b c l m p q o = cc

module _ (r : Report) (work block : List ℕ) (f : Fed) (is : f ≡ walks.fed_for r.walk work block) where
  whole_is : (b : Bool) → f.whole ≡ b → is_whole r work block ≡ b
  unfolding is_whole
  whole_is b e = ap (λ (x : Fed). x.whole) (sym is) ∙ e

  answer_is : (v p : List ℕ) → v ≡ walks.work_for r.walk work block → p ≡ walks.packet_at v f.size → answer_in r work block ≡ read_for p
  unfolding answer_in
  answer_is v p q i = sym (ap read_for (i ∙ ap₂ (λ (x : List ℕ) (y : Fed). walks.packet_at x y.size) q is))

  pub feed_on : (v d l : List ℕ) → v ≡ walks.work_for r.walk work block → f.whole ≡ false
      → (record { report = record { walk = f.walk; seen = r.seen }; taken = f.taken; broken = 0; line = 0 } ≡ shown_for r work block)
      × ((v ≡ walks.work_for r.walk work block) × ((d ≡ written d 0 (break_for r work block)) × (l ≡ written l 0 (line_for r work block))))
  unfolding shown_for break_for line_for seen_for
  feed_on v d l e h =
      let w : is_whole r work block ≡ false = whole_is false h in
      rw (w, ← is) (refl, (e, (sym (written_none d 0), sym (written_none l 0))))

  pub feed_one : (v p d e l m : List ℕ) (s : Seen) (i k size : ℕ) → v ≡ walks.work_for r.walk work block → f.whole ≡ true → f.size ≡ size → p ≡ walks.packet_at v size
      → (s ≡ seen_after r.seen (read_for p)) × (Puts d 0 (break_of r.seen (read_for p)) e i × Puts l 0 (line_of r.seen r.walk.at (read_for p)) m k)
      → (record { report = record { walk = f.walk; seen = s }; taken = f.taken; broken = i; line = k } ≡ shown_for r work block)
      × ((v ≡ walks.work_for r.walk work block) × ((e ≡ written d 0 (break_for r work block)) × (m ≡ written l 0 (line_for r work block))))
  unfolding shown_for break_for line_for seen_for
  feed_one v p d e l m s i k size q h z o c =
      let w : is_whole r work block ≡ true = whole_is true h in
      let n : answer_in r work block ≡ read_for p = answer_is v p q (o ∙ ap (walks.packet_at v) (sym z)) in
      let x : i ≡ length (break_of r.seen (read_for p)) = put_length d e _ i c.1.0 in
      let y : k ≡ length (line_of r.seen r.walk.at (read_for p)) = put_length l m _ k c.1.1 in
      rw (w, n, ← is) (by_fields f.walk f.taken _ _ _ _ _ _ c.0 x y, (q, (c.1.0.text, c.1.1.text)))

-- ---- the end

pub refusal_none : (e : Ended) (d : List ℕ) → e.number ≡ 0 → Puts d 0 (refusal_of e) d 0
unfolding refusal_of
refusal_none e d h = rw (eq-eqb e.number 0 h) (puts_none d 0)

pub refusal_some : (e : Ended) (d f : List ℕ) (n : ℕ) → (e.number ≡ 0 → ⊥) → Puts d 0 (refused_text e.number e.place) f n → Puts d 0 (refusal_of e) f n
unfolding refusal_of
refusal_some e d f n h p = rw (ne_eqb e.number 0 h) p

-- the summary with the dates that its timestamps have
pub summary_dated : (s : Seen) (d e : List ℕ) (n : ℕ) → Summary s.tally d e n → Puts d 0 (summary_of s) e n
unfolding summary_of
summary_dated s d e n p =
    let i = date_is (since s.tally.first) p.date p.dated in
    let j = date_is (since s.tally.last) p.until p.dated_until in
    subst (λ (x : Date). Puts d 0 (summary_text s.tally (date_of (since s.tally.first)) x) e n) j
    (subst (λ (x : Date). Puts d 0 (summary_text s.tally x p.until) e n) i p.text)

pub end_done : (r : Report) (x : Ended) (d e f g : List ℕ) (n k : ℕ) → x ≡ walks.ended_for r.walk → Summary r.seen.tally d e n → Puts f 0 (refusal_of x) g k
    → (record { summary = n; refusal = k } ≡ closed_for r) × ((e ≡ written d 0 (summary_for r)) × (g ≡ written f 0 (refusal_for r)))
unfolding closed_for summary_for refusal_for
end_done r x d e f g n k q p m =
    let u = summary_dated r.seen d e n p in
    let i : n ≡ length (summary_of r.seen) = put_length d e _ n u in
    let j : k ≡ length (refusal_of x) = put_length f g _ k m in
    rw (← q) (rw (i, j) refl, (u.text, m.text))
