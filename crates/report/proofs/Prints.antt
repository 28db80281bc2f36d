-- What is printed of a recording is settled by its bytes: whatever blocks they come in, it is `report_of` of the file. Assumes nothing.
use Rattle.std.proofs.Common.{◌≡◌, ℕ, zero, suc, ◌+◌, ◌-◌, ◌%◌, ◌^◌, ◌<◌, ◌≤◌, Bool, true, false, eqb, List, [], ◌∷◌, ◌++◌, length, drop, sym, refl, ap, ◌∙◌, subst, append_assoc, append-nil, arith, lit<, length-append, length-drop, eq-eqb, ne_eqb, eqb-true}
use borrow.Author.Tests.{eqb-false}
use Rattle.laws.specs.Pick.{pick}
use Rattle.cutting.specs.Cutting.{Cut, waiting, joined, cut_from, unless, feed, feed_all, all_of, end_number, end_place}
use Rattle.cutting.specs.Sign.{Sign, More, Wrong}
use Rattle.cutting.proofs.Blocks.{feed_feed, feed_none, whole_file}
use Rattle.mdi.specs.Reading.{read_for}
use Rattle.recording.proofs.Answers.{open_empty, open_other, open_done}
use Rattle.walk.specs.declared.Ended.{Ended}
use Rattle.walk.specs.declared.Walk.{Walk}
use Rattle.walk.specs.State.{Fed}
use Rattle.walk.specs.Entries.{entry_says}
use Rattle.walk.specs.Walk as walks
use Rattle.walk.specs.Whole.{packets_of}
use Rattle.walk.proofs.Entries.{says_short}
use Rattle.walk.proofs.Blocks.{Stands, Comes, held, whole, wrong, comes, split, progress}
use Rattle.report.specs.declared.Seen.{Seen}
use Rattle.report.specs.Report.{break_of, line_of, seen_after, no_seen, begun_for, is_whole, answer_in, break_for, line_for, seen_for, shown_for, summary_of, refusal_of, summary_for, refusal_for}
use Rattle.report.specs.Run.{text_of, seen_of, closing, body_of, report_of, State, started, once, handed, ran, ended}

-- ---- one packet more, at the end

behind : ℕ → List (List ℕ) → ℕ
behind at [] = at
behind at (p ∷ ps) = behind (at + 4 + length p) ps

packets_more : (rs : List (List ℕ)) (r : List ℕ) → packets_of (rs ++ (r ∷ [])) ≡ packets_of rs ++ (drop 4 r ∷ [])
packets_more [] r = refl
packets_more (q ∷ rs) r = ap (λ (l : List (List ℕ)). drop 4 q ∷ l) (packets_more rs r)

seen_more : (s : Seen) (ps : List (List ℕ)) (p : List ℕ) → seen_of s (ps ++ (p ∷ [])) ≡ seen_after (seen_of s ps) (read_for p)
unfolding seen_of
seen_more s [] p = refl
seen_more s (q ∷ ps) p = seen_more (seen_after s (read_for q)) ps p

text_more : (s : Seen) (at : ℕ) (ps : List (List ℕ)) (p : List ℕ)
    → text_of s at (ps ++ (p ∷ [])) ≡ text_of s at ps ++ (break_of (seen_of s ps) (read_for p) ++ line_of (seen_of s ps) (behind at ps % 2 ^ 64) (read_for p))
unfolding text_of seen_of behind
text_more s at [] p = append-nil (break_of s (read_for p) ++ line_of s (at % 2 ^ 64) (read_for p))
text_more s at (q ∷ ps) p =
    let x = break_of s (read_for q) ++ line_of s (at % 2 ^ 64) (read_for q) in
    ap (λ (l : List ℕ). x ++ l) (text_more (seen_after s (read_for q)) (at + 4 + length q) ps p)
    ∙ sym (append_assoc x (text_of (seen_after s (read_for q)) (at + 4 + length q) ps) _)

behind_more : (at : ℕ) (ps : List (List ℕ)) (p : List ℕ) → behind at (ps ++ (p ∷ [])) ≡ behind at ps + 4 + length p
unfolding behind
behind_more at [] p = refl
behind_more at (q ∷ ps) p = behind_more (at + 4 + length q) ps p

all_more : (rs : List (List ℕ)) (r : List ℕ) → length (all_of (rs ++ (r ∷ []))) ≡ length (all_of rs) + length r
unfolding all_of
all_more [] r = length-append r [] ∙ omega arith
all_more (q ∷ rs) r =
    let e = all_more rs r in
    length-append q (all_of (rs ++ (r ∷ []))) ∙ omega (arith, e, length-append q (all_of rs))

-- ---- what a run has come to

record Tells (st : State) (rs : List (List ℕ)) : Type 0 where
  text : st.printed ≡ text_of no_seen 1 (packets_of rs)
  seen : st.report.seen ≡ seen_of no_seen (packets_of rs)
  place : 1 + length (all_of rs) ≡ behind 1 (packets_of rs)

data Means (st : State) (cut : Cut) : Type 0 where
  going : Stands st.report.walk st.work cut → Tells st cut.records → Means st cut
  stopped : 0 < st.report.walk.number → cut.sign ≡ Wrong st.report.walk.number → Tells st cut.records → Means st cut

tells_as : (st : State) (rs qs : List (List ℕ)) → qs ≡ rs → Tells st rs → Tells st qs
tells_as st rs qs e t = subst (λ (l : List (List ℕ)). Tells st l) (sym e) t

-- a call that gives no packet
tells_on : (st : State) (block : List ℕ) (rs : List (List ℕ)) → (walks.fed_for st.report.walk st.work block).whole ≡ false → Tells st rs → Tells (once st block) rs
unfolding once shown_for seen_for break_for line_for is_whole
tells_on st block rs e t = rw e (record { text = append-nil st.printed ∙ t.text; seen = t.seen; place = t.place })

-- a call that gives one
tells_one : (st : State) (block : List ℕ) (rs : List (List ℕ)) (r : List ℕ) → 4 ≤ length r → (walks.fed_for st.report.walk st.work block).whole ≡ true
    → walks.packet_at (walks.work_for st.report.walk st.work block) (walks.fed_for st.report.walk st.work block).size ≡ drop 4 r
    → st.report.walk.at ≡ (1 + length (all_of rs)) % 2 ^ 64 → Tells st rs → Tells (once st block) (rs ++ (r ∷ []))
unfolding once shown_for seen_for break_for line_for is_whole answer_in
tells_one st block rs r l e p a t =
    let ps = packets_of rs in
    let b : st.report.walk.at ≡ behind 1 ps % 2 ^ 64 = a ∙ ap (λ (k : ℕ). k % 2 ^ 64) t.place in
    let d : length (drop 4 r) ≡ length r - 4 = length-drop 4 r in
    rw (e, p)
    (record {
      text = rw (packets_more rs r, t.text, t.seen, b) (sym (text_more no_seen 1 ps (drop 4 r)));
      seen = rw (packets_more rs r, t.seen) (sym (seen_more no_seen ps (drop 4 r)));
      place = rw (packets_more rs r) (let x = all_more rs r in let y = behind_more 1 ps (drop 4 r) in omega (arith, t.place));
    })

-- ---- one call

once_means : (st : State) (cut : Cut) (block : List ℕ) (s : Stands st.report.walk st.work cut) → Tells st cut.records
    → Means (once st block) (feed entry_says cut (walks.taken_for st.report.walk st.work block))
unfolding once shown_for
once_means st cut block s t = go (comes st.report.walk st.work cut s block)
  where
    next : Cut
    next = feed entry_says cut (walks.taken_for st.report.walk st.work block)

    go : Comes (walks.fed_for st.report.walk st.work block) (walks.work_for st.report.walk st.work block) cut next → Means (once st block) next
    go (held e r x) = going x (tells_as (once st block) cut.records next.records r (tells_on st block cut.records e t))
    go (whole r l e p q x) = going x (tells_as (once st block) (cut.records ++ (r ∷ [])) next.records q (tells_one st block cut.records r l e p s.at t))
    go (wrong e r l n w) = stopped n w (tells_as (once st block) cut.records next.records r (tells_on st block cut.records e t))

-- once refused, nothing is taken and nothing printed
feed_wrong : (cut : Cut) (n : ℕ) (b : List ℕ) → cut.sign ≡ Wrong n → feed entry_says cut b ≡ cut
unfolding feed
feed_wrong cut n b e = ap (λ (x : Sign). unless x (joined cut.records (cut_from entry_says cut.rest b)) cut) e

module _ (st : State) (block : List ℕ) (n : st.report.walk.number ≡ 0 → ⊥) where
  fed_still : walks.fed_for st.report.walk st.work block ≡ record { walk = st.report.walk; taken = 0; whole = false; size = 0 }
  unfolding walks.fed_for
  fed_still = rw (ne_eqb st.report.walk.number 0 n) refl

  work_still : walks.work_for st.report.walk st.work block ≡ st.work
  unfolding walks.work_for
  work_still = rw (ne_eqb st.report.walk.number 0 n) refl

  whole_still : is_whole st.report st.work block ≡ false
  unfolding is_whole
  whole_still = ap (λ (f : Fed). f.whole) fed_still

  still : once st block ≡ st
  unfolding once shown_for seen_for break_for line_for
  still =
      rw (whole_still, fed_still, work_still)
      (ap (λ (l : List ℕ). record { report = st.report; work = st.work; printed = l }) (append-nil st.printed))

handed_still : (n : ℕ) (st : State) (block : List ℕ) → (st.report.walk.number ≡ 0 → ⊥) → handed n st block ≡ st
unfolding handed
handed_still zero st block m = refl
handed_still (suc n) st [] m = refl
handed_still (suc n) st (x ∷ block) m =
    let rest = drop (shown_for st.report st.work (x ∷ block)).taken (x ∷ block) in
    ap (λ (u : State). handed n u rest) (still st (x ∷ block) m) ∙ handed_still n st rest m

ran_still : (st : State) (bs : List (List ℕ)) → (st.report.walk.number ≡ 0 → ⊥) → ran st bs ≡ st
unfolding ran
ran_still st [] m = refl
ran_still st (b ∷ bs) m = ap (λ (u : State). ran u bs) (handed_still (length b) st b m) ∙ ran_still st bs m

-- ---- a block, and all blocks

shown_taken : (st : State) (block : List ℕ) → (shown_for st.report st.work block).taken ≡ (walks.fed_for st.report.walk st.work block).taken
unfolding shown_for
shown_taken st block = refl

handed_means : (n : ℕ) (st : State) (cut : Cut) (block : List ℕ) → length block ≤ n → Means st cut → Means (handed n st block) (feed entry_says cut block)
unfolding handed
handed_means zero st cut [] h m = rw (feed_none entry_says cut) m
handed_means zero st cut (x ∷ block) h m = absurd (omega arith)
handed_means (suc n) st cut [] h m = rw (feed_none entry_says cut) m
handed_means (suc n) st cut (x ∷ block) h (stopped k w t) =
    let z = handed_still (suc n) st (x ∷ block) (λ e. omega arith) in
    subst (λ (u : State). Means u (feed entry_says cut (x ∷ block))) (sym z) (rw (feed_wrong cut st.report.walk.number (x ∷ block) w) (stopped k w t))
handed_means (suc n) st cut (x ∷ block) h (going s t) =
    let b = x ∷ block in
    let part = walks.taken_for st.report.walk st.work b in
    let rest = drop (shown_for st.report st.work b).taken b in
    let e = shown_taken st b in
    let l : length rest ≡ length b - (shown_for st.report st.work b).taken = length-drop (shown_for st.report st.work b).taken b in
    let q : 0 < (walks.fed_for st.report.walk st.work b).taken = progress st.report.walk st.work cut s b (omega arith) in
    let d : part ++ rest ≡ b = ap (λ (k : ℕ). part ++ drop k b) e ∙ split st.report.walk st.work cut s b in
    subst (λ (c : Cut). Means (handed n (once st b) rest) c) (feed_feed entry_says cut part rest ∙ ap (feed entry_says cut) d)
    (handed_means n (once st b) (feed entry_says cut part) rest (omega arith) (once_means st cut b s t))

ran_means : (st : State) (cut : Cut) (bs : List (List ℕ)) → Means st cut → Means (ran st bs) (feed_all entry_says cut bs)
unfolding ran feed_all
ran_means st cut [] m = m
ran_means st cut (b ∷ bs) m = ran_means (handed (length b) st b) (feed entry_says cut b) bs (handed_means (length b) st cut b (omega arith) m)

-- ---- the end

ended_going : (w : Walk) (work : List ℕ) (cut : Cut) → Stands w work cut
    → walks.ended_for w ≡ record { number = end_number cut.sign cut.rest; place = end_place cut.sign cut.rest ((1 + length (all_of cut.records)) % 2 ^ 64) }
unfolding walks.ended_for
ended_going w work cut s = rw (s.waits, eq-eqb w.number 0 s.fine) (go cut.rest s.have)
  where
    place : ℕ
    place = (1 + length (all_of cut.records)) % 2 ^ 64

    go : (rest : List ℕ) → w.have ≡ length rest
        → ◌≡◌ {A = Ended} (record { number = pick (eqb w.have 0) 0 2; place = pick (eqb w.have 0) 0 w.at })
        (record { number = end_number More rest; place = end_place More rest place })
    go [] e = rw (eq-eqb w.have 0 e) refl
    go (x ∷ rest) e = rw (ne_eqb w.have 0 (λ z. omega arith), s.at) refl

ended_stopped : (w : Walk) (cut : Cut) (at : ℕ) → 0 < w.number → cut.sign ≡ Wrong w.number
    → walks.ended_for w ≡ record { number = end_number cut.sign cut.rest; place = end_place cut.sign cut.rest at }
unfolding walks.ended_for
ended_stopped w cut at n e = rw (e, ne_eqb w.number 0 (λ z. omega arith)) refl

closed : (st : State) (cut : Cut) → Tells st cut.records
    → walks.ended_for st.report.walk ≡ record { number = end_number cut.sign cut.rest; place = end_place cut.sign cut.rest ((1 + length (all_of cut.records)) % 2 ^ 64) }
    → ended st ≡ body_of cut
unfolding ended body_of closing summary_for refusal_for
closed st cut t e = rw (t.text, t.seen, e) refl

end_means : (st : State) (cut : Cut) → Means st cut → ended st ≡ body_of cut
end_means st cut (going s t) = closed st cut t (ended_going st.report.walk st.work cut s)
end_means st cut (stopped n w t) = closed st cut t (ended_stopped st.report.walk cut ((1 + length (all_of cut.records)) % 2 ^ 64) n w)

-- ---- the whole run

ended_refused : (w : Walk) (n : ℕ) → w.number ≡ suc n → walks.ended_for w ≡ record { number = suc n; place = 0 }
unfolding walks.ended_for
ended_refused w n e = rw (e, ne_eqb (suc n) 0 (λ z. omega arith)) refl

-- a recording whose version byte is refused, or that has none: nothing of it is looked at
ran_refused : (first work : List ℕ) (bs : List (List ℕ)) (n : ℕ) → (walks.begun_for first).number ≡ suc n → ended (ran (started first work) bs) ≡ closing no_seen (suc n) 0
unfolding started begun_for ended closing summary_for refusal_for
ran_refused first work bs n e =
    ap ended (ran_still (started first work) bs (λ z. omega arith))
    ∙ ap (λ (x : Ended). summary_of no_seen ++ refusal_of x) (ended_refused (walks.begun_for first) n e)

-- no byte at all
pub prints_none : (work : List ℕ) (bs : List (List ℕ)) → ended (ran (started [] work) bs) ≡ report_of []
unfolding report_of walks.begun_for
prints_none work bs =
    let o = open_empty [] refl in
    ran_refused [] work bs 1 (ap (λ x. x.number) (sym o)) ∙ rw (← o) refl

-- a first byte, and what follows in blocks of any length
pub prints : (work : List ℕ) → length work ≡ 65532 → (v : ℕ) (bs : List (List ℕ)) → ended (ran (started (v ∷ []) work) bs) ≡ report_of (v ∷ all_of bs)
unfolding report_of walks.begun_for started begun_for all_of text_of seen_of no_seen behind
prints work long v bs = go (eqb v 1) refl
  where
    go : (b : Bool) → eqb v 1 ≡ b → ended (ran (started (v ∷ []) work) bs) ≡ report_of (v ∷ all_of bs)
    go true e =
        let o = open_done (v ∷ []) (λ z. omega arith) (eqb-true v 1 e) in
        let f = open_done (v ∷ all_of bs) (λ z. omega arith) (eqb-true v 1 e) in
        let m : Means (started (v ∷ []) work) (waiting []) =
        going
        (record {
          fine = ap (λ x. x.number) (sym o);
          waits = refl;
          long = long;
          have = refl;
          held = refl;
          begun = says_short [] (lit< tt);
          at = ap (λ x. x.first) (sym o);
        })
        (record { text = refl; seen = refl; place = refl }) in
        end_means (ran (started (v ∷ []) work) bs) (feed_all entry_says (waiting []) bs) (ran_means (started (v ∷ []) work) (waiting []) bs m)
        ∙ ap body_of (whole_file entry_says bs)
        ∙ rw (← f) refl
    go false e =
        let o = open_other (v ∷ []) (λ z. omega arith) (eqb-false v 1 e) in
        let f = open_other (v ∷ all_of bs) (λ z. omega arith) (eqb-false v 1 e) in
        ran_refused (v ∷ []) work bs 5 (ap (λ x. x.number) (sym o)) ∙ rw (← f) refl
