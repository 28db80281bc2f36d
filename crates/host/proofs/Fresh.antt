-- A fresh sender stays one where its turn, its indexes, its counts or its starts are set again to what they are. Assumes nothing.
use mathlib.Core.Path.{◌≡◌, ap}
use lib.ListN.{replicate}
use Rattle.sender.specs.State.{fresh}
use Rattle.sender.specs.Kept.{fresh_kept}
use Rattle.sender.specs.Rings.{fresh_rings}
use Rattle.sender.specs.declared.Sender.{Sender}

pub turn_again : (s : Sender) → s ≡ fresh_rings → ◌≡◌ {A = Sender} (record { q = s.q; turn = 0; index = s.index; waiting = s.waiting; start = s.start }) fresh_rings
unfolding fresh fresh_kept fresh_rings
turn_again s e = ap (λ (x : Sender). record { q = x.q; turn = 0; index = x.index; waiting = x.waiting; start = x.start }) e

pub index_again : (s : Sender) → s ≡ fresh_rings
    → ◌≡◌ {A = Sender} (record { q = s.q; turn = s.turn; index = replicate 4 0; waiting = s.waiting; start = s.start }) fresh_rings
unfolding fresh fresh_kept fresh_rings
index_again s e = ap (λ (x : Sender). record { q = x.q; turn = x.turn; index = replicate 4 0; waiting = x.waiting; start = x.start }) e

pub waiting_again : (s : Sender) → s ≡ fresh_rings
    → ◌≡◌ {A = Sender} (record { q = s.q; turn = s.turn; index = s.index; waiting = replicate 3 0; start = s.start }) fresh_rings
unfolding fresh_kept fresh_rings
waiting_again s e = ap (λ (x : Sender). record { q = x.q; turn = x.turn; index = x.index; waiting = replicate 3 0; start = x.start }) e

pub start_again : (s : Sender) → s ≡ fresh_rings
    → ◌≡◌ {A = Sender} (record { q = s.q; turn = s.turn; index = s.index; waiting = s.waiting; start = replicate 3 0 }) fresh_rings
unfolding fresh_rings
start_again s e = ap (λ (x : Sender). record { q = x.q; turn = x.turn; index = x.index; waiting = x.waiting; start = replicate 3 0 }) e
