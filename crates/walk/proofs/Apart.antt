-- What the value that a block gives says in 01's terms tells it apart. Assumes nothing.
use Rattle.std.proofs.Common.{◌≡◌, ℕ, Option, Some, None, refl, ap, arith}
use Rattle.std.specs.Option.{is_some, unwrap_or}
use Rattle.walk.specs.declared.Walk.{Walk}
use Rattle.walk.specs.declared.Fed as fed
use Rattle.walk.specs.State.{Fed, fed_in}

same_option : {A : Type 0} (d : A) (a b : Option A) → is_some a ≡ is_some b → unwrap_or a d ≡ unwrap_or b d → a ≡ b
same_option d None None e f = refl
same_option d None (Some n) e f = let z : ◌≡◌ {A = ℕ} 0 1 = cc in absurd (omega arith)
same_option d (Some m) None e f = let z : ◌≡◌ {A = ℕ} 0 1 = cc in absurd (omega arith)
same_option d (Some m) (Some n) e f = ap Some f

fed_fields : (a b : Walk) (m n : ℕ) (o p : Option ℕ) → a ≡ b → m ≡ n → o ≡ p
    → ◌≡◌ {A = fed.Fed} (record { walk = a; taken = m; packet = o }) (record { walk = b; taken = n; packet = p })
fed_fields a b m n o p e f g = cc

pub same_fed : (a b : fed.Fed) → fed_in a ≡ fed_in b → a ≡ b
same_fed a b e =
    fed_fields a.walk b.walk a.taken b.taken a.packet b.packet (ap (λ (f : Fed). f.walk) e) (ap (λ (f : Fed). f.taken) e)
    (same_option 0 a.packet b.packet (ap (λ (f : Fed). f.whole) e) (ap (λ (f : Fed). f.size) e))
