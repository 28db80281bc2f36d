-- One call, seen from queue id: what it sends of the queue's id, and what it leaves. The one bridge from the calls to the theorems over
-- runs. Assumes nothing.
use Prim.Native.Nat.{ℕ, ◌<◌}
use mathlib.Core.Path.{◌≡◌, refl, sym, ap, ◌∙◌, subst}
use mathlib.Core.List.{List, [], ◌∷◌, ◌++◌, append-nil}
use mathlib.Core.Bool.{Bool, true, false, ◌&&◌, true≢false}
use native.Mathlib.Omega.{arith}
use borrow.Author.Tests.{eqb-true, eqb-false}
use lib.Dec.{eqb}
use lib.ListN.{length}
use Rattle.laws.specs.Pick.{pick}
use Rattle.laws.specs.Refuse.{refused_with}
use Rattle.hand.specs.Settings.{at, Allowed}
use Rattle.hand.specs.declared.Settings.{Settings}
use Rattle.hand.proofs.Allowed.{allowed}
use Rattle.queue.specs.Queue.{units, pushed}
use Rattle.queue.specs.Send.{Change, enters, leaves, changed, Lawful, got}
use Rattle.queue.specs.declared.Queue.{Queue}
use Rattle.queue.proofs.Keep.{pushed_units}
use Rattle.row.specs.Content.{begun_in, rests, begun_after, chunks}
use Rattle.sender.specs.State.{queue_of, index_of, put_queue}
use Rattle.sender.specs.Load.{load_tests, load_number, placed_in, load_for, store_for}
use Rattle.sender.specs.Private.{Accepted}
use Rattle.sender.specs.Frame.{hand_of, frame_tests, frame_number, frame_for, store_after, frame_out}
use Rattle.sender.specs.Load as loads
use Rattle.sender.specs.declared.Front.{Front}
use Rattle.sender.proofs.Loading.{passed}
use Rattle.sender.proofs.Framing.{fit_of}
use Rattle.demand.specs.Bytes.{readable, own, of_id, index_after, numbered}
use Rattle.demand.specs.Run.{Act, load, frame, Desk, settings_of}
use Rattle.demand.specs.Run as runs
use Rattle.demand.specs.Within.{change_of, accepted_by, sent_by, content_in}
use Rattle.demand.proofs.Good.{Good, loaded_queue}
use Rattle.demand.proofs.Served.{queue_after, share_met, no_more}
use Rattle.demand.proofs.Rows.{frame_index}
use Rattle.demand.proofs.Held.{own_content, other_content, load_begun, frame_content, frame_begun, frame_sent, frame_some}

-- the lengths of a queue's units, by what happened to it
pub record Did (p : ℕ) (h : List Change) (xs ys : List ℕ) : Type 0 where
  pub left : ys ≡ changed p h xs
  pub lawful : Lawful p h xs

pub record Went (p id : ℕ) (a : Act) (x : Desk) : Type 0 where
  -- the packets of id, what is left behind them, and that there was something for each
  pub sent : of_id p id (sent_by a x) ≡ numbered id (index_of x.state id) (chunks p (got (change_of id a x)) (begun_in (queue_of x.state id)) (content_in id x))
  pub left : content_in id (runs.after a x) ≡ rests p (got (change_of id a x)) (content_in id x) ++ accepted_by id a x
  pub begun : begun_in (queue_of (runs.after a x).state id) ≡ begun_after p (got (change_of id a x)) (begun_in (queue_of x.state id)) (content_in id x)
  pub index : index_of (runs.after a x).state id ≡ index_after (got (change_of id a x)) (index_of x.state id)
  pub some : (j : ℕ) → j < got (change_of id a x) → rests p j (content_in id x) ≡ [] → ⊥
  pub did : Did p (change_of id a x) (units (queue_of x.state id)) (units (queue_of (runs.after a x).state id))

-- ---- a load
module _ (p : ℕ) (g : Settings) (id j : ℕ) (unit : List ℕ) (x : Desk) (k : Good p x) where
  abbrev s : Front
  s = x.state

  abbrev no : ℕ
  no = refused_with (load_tests g s j (length unit) (length x.store))

  -- what it leaves of the queue, by whether it was accepted and for that queue
  pub load_left : (content_in id (runs.after (load g j unit) x) ≡ content_in id x ++ accepted_by id (load g j unit) x)
      × (begun_in (queue_of (runs.after (load g j unit) x).state id) ≡ begun_in (queue_of x.state id))
  unfolding runs.after accepted_by load_for store_for load_number
  load_left = go (eqb no 0) refl (eqb id j) refl
    where
      go : (b : Bool) → eqb no 0 ≡ b → (d : Bool) → eqb id j ≡ d
          → (content_in id (record { state = pick b (loads.loaded s j (length unit)) s; store = pick b (placed_in s j unit x.store) x.store })
          ≡ content_in id x ++ pick (b && d) (unit ∷ []) [])
          × (begun_in (queue_of (pick b (loads.loaded s j (length unit)) s) id) ≡ begun_in (queue_of s id))
      go false e d f = (sym (append-nil (content_in id x)), refl)
      go true e true f =
          let a = (passed g s j (length unit) (length x.store) (eqb-true _ _ e)).unit in
          let z : id ≡ j = eqb-true id j f in (
            ap (λ (m : ℕ). content_in m (record { state = loads.loaded s j (length unit); store = placed_in s j unit x.store })) z
                ∙ own_content p x k j unit a
                ∙ ap (λ (m : ℕ). content_in m x ++ (unit ∷ [])) (sym z),
            load_begun p x k j unit a id,
          )
      go true e false f =
          let a = (passed g s j (length unit) (length x.store) (eqb-true _ _ e)).unit in
          (other_content p x k j unit a id (eqb-false id j f) ∙ sym (append-nil (content_in id x)), load_begun p x k j unit a id)

  load_index : (b : Bool) → index_of (pick b (loads.loaded s j (length unit)) s) id ≡ index_of s id
  unfolding loads.loaded put_queue
  load_index true = refl
  load_index false = refl

  load_did : Did p (change_of id (load g j unit) x) (units (queue_of s id)) (units (queue_of (runs.after (load g j unit) x).state id))
  unfolding change_of runs.after load_for load_number changed Lawful
  load_did = go (eqb no 0) refl
    where
      both : (d : Bool) → (q : Queue) → q ≡ pick d (pushed (queue_of s j) (length unit)) (queue_of s id) → (d ≡ true → id ≡ j) → Accepted s j (length unit) (length x.store)
          → Did p (pick d (enters (length unit) ∷ []) []) (units (queue_of s id)) (units q)
      both true q e z a =
          let i = k.queues j a.id_in in
          record { left = ap units e ∙ pushed_units (queue_of s j) (length unit) i.eight a.count_in ∙ ap (λ (m : ℕ). units (queue_of s m) ++ (length unit ∷ [])) (sym (z refl)); lawful = (a.one, tt) }
      both false q e z a = record { left = ap units e; lawful = tt }

      go : (b : Bool) → eqb no 0 ≡ b
          → Did p (pick (b && eqb id j) (enters (length unit) ∷ []) []) (units (queue_of s id)) (units (queue_of (pick b (loads.loaded s j (length unit)) s) id))
      go true e =
          let a = (passed g s j (length unit) (length x.store) (eqb-true _ _ e)).unit in
          both (eqb id j) (queue_of (loads.loaded s j (length unit)) id) (loaded_queue s j id (length unit) k.three a.id_in) (eqb-true id j) a
      go false e = record { left = refl; lawful = tt }

  got_load : (b : Bool) → got (pick b (enters (length unit) ∷ []) []) ≡ 0
  unfolding got
  got_load true = refl
  got_load false = refl

  load_went : Went p id (load g j unit) x
  unfolding sent_by readable own numbered chunks rests begun_after index_after change_of runs.after load_for
  load_went =
      let b = eqb (load_number g s j unit x.store) 0 && eqb id j in
      let z : got (pick b (enters (length unit) ∷ []) []) ≡ 0 = got_load b in
      let l = load_left in
      record {
        sent = ap (λ (n : ℕ). numbered id (index_of s id) (chunks p n (begun_in (queue_of s id)) (content_in id x))) (sym z);
        left = l.0 ∙ ap (λ (n : ℕ). rests p n (content_in id x) ++ accepted_by id (load g j unit) x) (sym z);
        begun = l.1 ∙ ap (λ (n : ℕ). begun_after p n (begun_in (queue_of s id)) (content_in id x)) (sym z);
        index = load_index (eqb (load_number g s j unit x.store) 0) ∙ ap (λ (n : ℕ). index_after n (index_of s id)) (sym z);
        some = λ i h. absurd (omega arith);
        did = load_did;
      }

-- ---- a frame
got_frame : (s n : ℕ) → got (leaves s n ∷ []) ≡ n
unfolding got
got_frame s n = omega arith

none_got : (b : Bool) (t : Change) (j : ℕ) → b ≡ false → j < got (pick b (t ∷ []) []) → ⊥
unfolding got
none_got true t j e h = true≢false e
none_got false t j e h = omega arith

module _ (g : Settings) (id : ℕ) (out : List ℕ) (x : Desk) where
  abbrev ok : Bool
  ok = eqb (refused_with (frame_tests g x.state (length x.store) (length out))) 0

  frame_none : ok ≡ false → Went g.p id (frame g out) x
  unfolding sent_by readable own numbered change_of runs.after accepted_by frame_for store_after frame_number chunks rests begun_after index_after got changed Lawful
  frame_none e =
      record {
        sent = simp e;
        left = simp e (sym (append-nil (content_in id x)));
        begun = simp e;
        index = simp e;
        some = λ j l. absurd (none_got ok _ j e l);
        did = rw e (record { left = refl; lawful = tt });
      }

  frame_passed : id < 3 → Good g.p x → ok ≡ true → Allowed g → Went g.p id (frame g out) x
  unfolding sent_by change_of runs.after accepted_by frame_for store_after frame_out frame_number changed Lawful
  frame_passed h k e al =
      let n = at (hand_of g x.state).packets id in
      let t : pick ok (leaves (at g.share id) n ∷ []) [] ≡ leaves (at g.share id) n ∷ [] = ap (λ (b : Bool). pick b (leaves (at g.share id) n ∷ []) []) e in
      let z : got (pick ok (leaves (at g.share id) n ∷ []) []) ≡ n = ap got t ∙ got_frame (at g.share id) n in
      record {
        sent = rw (z, e) (frame_sent g x k al id h out);
        left = rw (z, e) (frame_content g x k al id h ∙ sym (append-nil (rests g.p n (content_in id x))));
        begun = rw (z, e) (frame_begun g x k al id h);
        index = rw (z, e) (frame_index g x.state id h);
        some = λ j l. frame_some g x k al id h j (omega arith);
        did = rw e (record { left = queue_after g x k al id h; lawful = (share_met g x k al id h, no_more g x k al id h, tt) });
      }

  frame_went : id < 3 → Good g.p x → Went g.p id (frame g out) x
  frame_went h k = go ok refl
    where
      go : (b : Bool) → ok ≡ b → Went g.p id (frame g out) x
      go true e = frame_passed h k e (allowed g (fit_of g x.state (length x.store) (length out) (eqb-true _ _ e)).allowed_in)
      go false e = frame_none e

pub went : (p id : ℕ) (a : Act) (x : Desk) → id < 3 → (settings_of a).p ≡ p → Good p x → Went p id a x
went p id (load g j unit) x h e k = load_went p g id j unit x k
went p id (frame g out) x h e k = subst (λ (q : ℕ). Went q id (frame g out) x) e (frame_went g id out x h (subst (λ (q : ℕ). Good q x) (sym e) k))
