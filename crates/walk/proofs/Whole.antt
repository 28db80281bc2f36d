-- The cut of a recording's bytes is the walk of the recording: `next` gives the packets of the entries cut off, in order, and then what
-- stands behind them, a refusal or the end. Assumes nothing.
use Rattle.std.proofs.Common.{◌≡◌, ℕ, ◌+◌, ◌-◌, ◌≤◌, List, [], ◌∷◌, ◌++◌, length, take, drop, sym, refl, ap, ◌∙◌, subst, ⊎_elim, append_assoc, append-nil, arith, lit<, length-append, length-drop, take-append-drop, length-take-le, drop-drop, take_at, drop_at}
use lib.Seq.{drop-append-le}
use Rattle.laws.specs.Big.{big_of, number_at}
use Rattle.fields.proofs.Reading.{number_in}
use Rattle.cutting.specs.Cutting.{Cut, by, cut_from, cut_of, all_of}
use Rattle.cutting.specs.Records.{Good, AllGood, Begun}
use Rattle.cutting.specs.Sign.{Sign, More, Whole, Wrong}
use Rattle.cutting.proofs.Needs.{lt_or_le, records_good}
use Rattle.recording.specs.Recording.{step_for, packet_for, packet_in}
use Rattle.recording.specs.Answers.{Step, Entry, Refused}
use Rattle.recording.proofs.Answers.{step_end, step_past, step_long, step_cut, step_entry}
use Rattle.walk.specs.Entries.{entry_says}
use Rattle.walk.specs.Whole.{WalksTo, packets_of, last_of}
use Rattle.walk.proofs.Entries.{number_front, says_short, says_long, says_more, says_whole, ways}

clash : {A : Type 0} (s : Sign) → s ≡ Whole → s ≡ More → A
clash s p q = let o : ◌≡◌ {A = ℕ} 0 1 = cc in absurd (omega arith)

clash_wrong : {A : Type 0} (s : Sign) (k : ℕ) → s ≡ Wrong k → s ≡ More → A
clash_wrong s k p q = let o : ◌≡◌ {A = ℕ} 0 1 = cc in absurd (omega arith)

clash_both : {A : Type 0} (s : Sign) (k : ℕ) → s ≡ Whole → s ≡ Wrong k → A
clash_both s k p q = let o : ◌≡◌ {A = ℕ} 0 1 = cc in absurd (omega arith)

-- a good entry has just the bytes that it states
pub good_entry : (r : List ℕ) → Good entry_says r → (length r ≡ 4 + number_at 4 r 0) × (number_at 4 r 0 ≤ 65528)
good_entry r g =
    let n = number_at 4 r 0 in
    ways r (λ l. clash (entry_says r) g.ends (says_short r l))
    (λ l m. clash_both (entry_says r) 1 g.ends (says_long r n refl l m))
    (λ l m k. clash (entry_says r) g.ends (says_more r n refl l m k))
    (λ l m k.
    ⊎_elim
    (λ j.
    let p = take (4 + n) r in
    let q = drop (4 + n) r in
    let i : length p ≡ 4 + n = length-take-le (4 + n) r (omega arith) in
    let o : length q ≡ length r - (4 + n) = length-drop (4 + n) r in
    let e : r ≡ p ++ q = sym (take-append-drop (4 + n) r) in
    let s : n ≡ number_at 4 p 0 = ap (λ (t : List ℕ). number_at 4 t 0) e ∙ number_front 4 p q 0 (omega arith) in
    clash (entry_says p) (says_whole p n s (omega arith) m (omega arith)) (g.before p q (omega arith) e))
    (λ j. (omega arith, m))
    (lt_or_le (4 + n) (length r)))

-- a number behind other bytes
number_behind : (n : ℕ) (pre s : List ℕ) → n ≤ length s → number_at n (pre ++ s) (length pre) ≡ number_at n s 0
number_behind n pre s l =
    let k : length (pre ++ s) ≡ length pre + length s = length-append pre s in
    number_in n (pre ++ s) (length pre) (omega arith)
    ∙ ap (λ (x : List ℕ). big_of (take n x)) (drop_at pre s (length pre) refl)
    ∙ sym (number_in n s 0 (omega arith))

-- one entry, with anything before and behind it
module _ (pre r t : List ℕ) (g : Good entry_says r) where
  file : List ℕ
  file = pre ++ (r ++ t)

  file_length : length file ≡ length pre + (length r + length t)
  unfolding file
  file_length = length-append pre (r ++ t) ∙ ap (λ (k : ℕ). length pre + k) (length-append r t)

  size : length (drop 4 r) ≡ number_at 4 r 0
  size = let h = good_entry r g in length-drop 4 r ∙ omega (arith, h.0)

  stated : length (drop 4 r) ≡ number_at 4 file (length pre)
  unfolding file
  stated =
      let h = good_entry r g in
      let k : length (r ++ t) ≡ length r + length t = length-append r t in
      size ∙ sym (number_behind 4 pre (r ++ t) (omega (arith, h.0)) ∙ number_front 4 r t 0 (omega (arith, h.0)))

  entry_here : step_for file (length pre) ≡ Entry (length pre + 4) (length (drop 4 r)) (length pre + 4 + length (drop 4 r))
  entry_here =
      let h = good_entry r g in
      sym (step_entry file (length pre) (omega (arith, file_length, h.0)) (length (drop 4 r)) stated (omega (arith, size, h.1)) (omega (arith, file_length, size, h.0)))

  packet_here : packet_for file (length pre) ≡ drop 4 r
  unfolding packet_for packet_in file
  packet_here =
      let h = good_entry r g in
      rw entry_here
      (ap (take (length (drop 4 r)))
      (sym (drop-drop 4 (length pre) file)
      ∙ ap (drop 4) (drop_at pre (r ++ t) (length pre) refl)
      ∙ drop-append-le 4 r t (omega (arith, h.0)))
      ∙ take_at (drop 4 r) t (length (drop 4 r)) refl)

-- all of them, and what stands behind
walks_rows : (pre : List ℕ) (rs : List (List ℕ)) (t : List ℕ) (last : Step) → AllGood entry_says rs
    → step_for ((pre ++ all_of rs) ++ t) (length (pre ++ all_of rs)) ≡ last → WalksTo (pre ++ (all_of rs ++ t)) (length pre) (packets_of rs) last
unfolding all_of file
walks_rows pre [] t last g e = rw (append-nil pre) at e
walks_rows pre (r ∷ rs) t last g e =
    let h = good_entry r g.0 in
    let n : length (pre ++ r) ≡ length pre + 4 + length (drop 4 r) = length-append pre r ∙ omega (arith, size pre r t g.0, h.0) in
    let a : (pre ++ r) ++ all_of rs ≡ pre ++ (r ++ all_of rs) = append_assoc pre r (all_of rs) in
    let b : (pre ++ r) ++ (all_of rs ++ t) ≡ pre ++ (r ++ (all_of rs ++ t)) = append_assoc pre r (all_of rs ++ t) in
    let c : r ++ (all_of rs ++ t) ≡ (r ++ all_of rs) ++ t = sym (append_assoc r (all_of rs) t) in
    let more : WalksTo ((pre ++ r) ++ (all_of rs ++ t)) (length (pre ++ r)) (packets_of rs) last = walks_rows (pre ++ r) rs t last g.1 (rw a e) in
    subst (λ (f : List ℕ). WalksTo (pre ++ f) (length pre) (drop 4 r ∷ packets_of rs) last) c
    (entry_here pre r (all_of rs ++ t) g.0, (packet_here pre r (all_of rs ++ t) g.0, rw (b, n) at more))

-- ---- what stands behind the entries, by what the bytes left say

-- the bytes cut are a front of the file, and all of it where nothing is refused
pub record Front (says : List ℕ → Sign) (h s : List ℕ) (c : Cut) : Type 0 where
  pub behind : List ℕ
  pub same : h ++ s ≡ all_of c.records ++ (c.rest ++ behind)
  pub all : c.sign ≡ More → behind ≡ []
  pub said : says c.rest ≡ c.sign

pub cut_front : (says : List ℕ → Sign) → says [] ≡ More → (h s : List ℕ) → says h ≡ More → Front says h s (cut_from says h s)
unfolding cut_from all_of
cut_front says z h [] m = record { behind = []; same = refl; all = λ e. refl; said = m }
cut_front says z h (x ∷ s) m = go (says g) refl (λ e. cut_front says z g s e) (cut_front says z [] s z)
  where
    g : List ℕ
    g = h ++ (x ∷ [])

    shift : h ++ (x ∷ s) ≡ g ++ s
    shift = sym (append_assoc h (x ∷ []) s)

    go : (t : Sign) → says g ≡ t → (says g ≡ More → Front says g s (cut_from says g s)) → Front says [] s (cut_from says [] s)
        → Front says h (x ∷ s) (by t g (cut_from says g s) (cut_from says [] s))
    go More e on next = let f = on e in record { behind = f.behind; same = shift ∙ f.same; all = f.all; said = f.said }
    go Whole e on next = record {
      behind = next.behind;
      same = shift ∙ ap (λ (l : List ℕ). g ++ l) next.same ∙ sym (append_assoc g (all_of (cut_from says [] s).records) ((cut_from says [] s).rest ++ next.behind));
      all = next.all;
      said = next.said;
    }
    go (Wrong n) e on next = record { behind = s; same = shift; all = λ k. let o : ◌≡◌ {A = ℕ} 0 1 = cc in absurd (omega arith); said = e }

-- the step there
last_step : (pre rest u : List ℕ) (s : Sign) → entry_says rest ≡ s → (s ≡ More → u ≡ []) → (s ≡ Whole → ⊥)
    → step_for (pre ++ (rest ++ u)) (length pre) ≡ last_of s rest (length pre)
last_step pre rest u More e a w =
    let k : length (pre ++ rest) ≡ length pre + length rest = length-append pre rest in
    let d : rest ++ u ≡ rest = ap (λ (l : List ℕ). rest ++ l) (a refl) ∙ append-nil rest in
    ap (λ (l : List ℕ). step_for (pre ++ l) (length pre)) d ∙ go rest e k
  where
    go : (y : List ℕ) → entry_says y ≡ More → length (pre ++ y) ≡ length pre + length y → step_for (pre ++ y) (length pre) ≡ last_of More y (length pre)
    go [] m k = sym (step_end (pre ++ []) (length pre) (omega arith))
    go (x ∷ y) m k =
        let n = number_at 4 (x ∷ y) 0 in
        ways (x ∷ y)
        (λ l. sym (step_past (pre ++ (x ∷ y)) (length pre) (λ q. omega arith) (omega arith)))
        (λ l i. clash_wrong (entry_says (x ∷ y)) 1 (says_long (x ∷ y) n refl l i) m)
        (λ l i j. sym (step_cut (pre ++ (x ∷ y)) (length pre) (omega arith) n (sym (number_behind 4 pre (x ∷ y) l)) i (omega arith)))
        (λ l i j. clash (entry_says (x ∷ y)) (says_whole (x ∷ y) n refl l i j) m)
last_step pre rest u Whole e a w = absurd (w refl)
last_step pre rest u (Wrong n) e a w =
    let m = number_at 4 rest 0 in
    let k : length (pre ++ (rest ++ u)) ≡ length pre + length (rest ++ u) = length-append pre (rest ++ u) in
    let i : length (rest ++ u) ≡ length rest + length u = length-append rest u in
    ways rest (λ l. clash_wrong (entry_says rest) n e (says_short rest l))
    (λ l j.
    let o : 1 ≡ n = same_wrong (entry_says rest) 1 n (says_long rest m refl l j) e in
    sym (step_long (pre ++ (rest ++ u)) (length pre) (omega arith) m (sym (number_behind 4 pre (rest ++ u) (omega arith) ∙ number_front 4 rest u 0 l)) j)
    ∙ ap (λ (x : ℕ). Refused x 0) o)
    (λ l j q. clash_wrong (entry_says rest) n e (says_more rest m refl l j q))
    (λ l j q. clash_both (entry_says rest) n (says_whole rest m refl l j q) e)
  where
    same_wrong : (s : Sign) (a b : ℕ) → s ≡ Wrong a → s ≡ Wrong b → a ≡ b
    same_wrong s a b p q = cc

-- a cut never ends in a whole entry
never_whole : (says : List ℕ → Sign) (h s : List ℕ) → (cut_from says h s).sign ≡ Whole → ⊥
unfolding cut_from
never_whole says h [] e = let o : ◌≡◌ {A = ℕ} 0 1 = cc in absurd (omega arith)
never_whole says h (x ∷ s) e = go (says (h ++ (x ∷ []))) e (never_whole says (h ++ (x ∷ [])) s) (never_whole says [] s)
  where
    g : List ℕ
    g = h ++ (x ∷ [])

    go : (t : Sign) → (by t g (cut_from says g s) (cut_from says [] s)).sign ≡ Whole → ((cut_from says g s).sign ≡ Whole → ⊥) → ((cut_from says [] s).sign ≡ Whole → ⊥) → ⊥
    go More e on next = on e
    go Whole e on next = next e
    go (Wrong n) e on next = let o : ◌≡◌ {A = ℕ} 0 1 = cc in absurd (omega arith)

-- ---- the whole file: version byte v, and s behind it
pub walks_cut : (v : ℕ) (s : List ℕ)
    → WalksTo (v ∷ s) 1 (packets_of (cut_of entry_says s).records) (last_of (cut_of entry_says s).sign (cut_of entry_says s).rest (1 + length (all_of (cut_of entry_says s).records)))
unfolding cut_of
walks_cut v s =
    let c = cut_from entry_says [] s in
    let z : entry_says [] ≡ More = says_short [] (lit< tt) in
    let f : Front entry_says [] s c = cut_front entry_says z [] s z in
    let pre = (v ∷ []) ++ all_of c.records in
    let e : step_for (pre ++ (c.rest ++ f.behind)) (length pre) ≡ last_of c.sign c.rest (length pre) =
    last_step pre c.rest f.behind c.sign f.said f.all (never_whole entry_says [] s) in
    let k : length pre ≡ 1 + length (all_of c.records) = length-append (v ∷ []) (all_of c.records) in
    let g : AllGood entry_says c.records = records_good entry_says z [] s (begun_none z) in
    let w : WalksTo ((v ∷ []) ++ (all_of c.records ++ (c.rest ++ f.behind))) 1 (packets_of c.records) (last_of c.sign c.rest (1 + length (all_of c.records))) =
    walks_rows (v ∷ []) c.records (c.rest ++ f.behind) (last_of c.sign c.rest (1 + length (all_of c.records))) g (e ∙ ap (last_of c.sign c.rest) k) in
    subst (λ (l : List ℕ). WalksTo (v ∷ l) 1 (packets_of c.records) (last_of c.sign c.rest (1 + length (all_of c.records)))) (sym f.same) w
  where
    begun_none : entry_says [] ≡ More → Begun entry_says []
    begun_none e [] q k = e
    begun_none e (x ∷ p) q k = let n = ap length k in absurd (omega arith)
