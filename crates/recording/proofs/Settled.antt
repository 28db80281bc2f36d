-- Each promise settles its call: two outcomes that meet it for the same input are equal (01, "Acceptance of the promises"). Assumes nothing.
use Prim.Native.Nat.{ℕ}
use mathlib.Core.Path.{◌≡◌, refl, ap}
use mathlib.Core.List.{List}
use native.Mathlib.Omega.{arith}
use Rattle.std.specs.Prelude.{Result, Ok, Option, Some, None}
use Rattle.laws.specs.Settle.{Settles}
use Rattle.laws.proofs.Settle.{settled}
use Rattle.refusal.specs.declared.Refusal.{Refusal}
use Rattle.refusal.specs.declared.Refused as refused
use Rattle.refusal.proofs.Placed.{TellsPlace, settled_placed}
use Rattle.refusal.proofs.Told.{Tells, settled_told, settled_told_both}
use Rattle.recording.specs.declared.Entry as entry
use Rattle.recording.specs.Answers.{Opened, Step, Entry, Grown, opened_in, step_in, grown_in}
use Rattle.recording.specs.Recording.{opened_for, step_for, told, packet_for, start_output, started_for, grown_for, output_for}

-- what an answer says in 01's terms tells it from every other

opened_tells : Tells {A = ℕ} {V = Opened} opened_in
opened_tells =
    record { number = λ o. o.number; of_ok = λ n. refl; of_err = λ r. refl; values = λ a b e. ap (λ (o : Opened). o.first) e }

grown_tells : Tells {A = ℕ} {V = Grown} grown_in
grown_tells =
    record { number = λ g. g.number; of_ok = λ n. refl; of_err = λ r. refl; values = λ a b e. ap (λ (g : Grown). g.length) e }

clash : {A : Type 0} → ◌≡◌ {A = ℕ} 0 1 → A
clash z = absurd (omega arith)

entry_of : (s t l m n o : ℕ) → Entry s l n ≡ Entry t m o
    → ◌≡◌ {A = entry.Entry} (record { start = s; length = l; next = n }) (record { start = t; length = m; next = o })
entry_of s t l m n o e =
    let x : s ≡ t = cc in
    let y : l ≡ m = cc in
    let z : n ≡ o = cc in
    cc

step_tells : TellsPlace {A = Option entry.Entry} {V = Step} step_in
unfolding told
step_tells =
    record { number = λ s. (told s).number; place = λ s. (told s).place; of_ok = of_ok; of_err = λ r. refl; place_of_err = λ r. refl; values = values }
  where
    of_ok : (o : Option entry.Entry) → (told (step_in (Ok o))).number ≡ 0
    of_ok None = refl
    of_ok (Some x) = refl

    values : (o p : Option entry.Entry) → step_in (Ok o) ≡ step_in (Ok p) → o ≡ p
    values None None e = refl
    values None (Some y) e = clash cc
    values (Some x) None e = clash cc
    values (Some x) (Some y) e = ap Some (entry_of x.start y.start x.length y.length x.next y.next e)

-- an input is the file, and for the latter two the offset
pub opened : Settles (λ (file : List ℕ) (r : Result ℕ Refusal). opened_in r ≡ opened_for file)
opened = settled_told opened_tells opened_for

pub next : Settles (λ (i : List ℕ × ℕ) (r : Result (Option entry.Entry) refused.Refused). step_in r ≡ step_for i.0 i.1)
next = settled_placed step_tells (λ i. step_for i.0 i.1)

pub packet : Settles (λ (i : List ℕ × ℕ) (r : List ℕ). r ≡ packet_for i.0 i.1)
packet = settled (λ i. packet_for i.0 i.1)

-- an input is the output before the call, and for the latter the packet and the offset
pub start : Settles (λ (out : List ℕ) (o : Result ℕ Refusal × List ℕ). (grown_in o.0 ≡ started_for out) × (o.1 ≡ start_output out))
start = settled_told_both grown_tells started_for start_output

pub append : Settles (λ (i : List ℕ × List ℕ × ℕ) (o : Result ℕ Refusal × List ℕ).
    (grown_in o.0 ≡ grown_for i.0 i.1 i.2) × (o.1 ≡ output_for i.0 i.1 i.2))
append = settled_told_both grown_tells (λ i. grown_for i.0 i.1 i.2) (λ i. output_for i.0 i.1 i.2)
