-- The twelve marked examples of 01, in its order: what a call gives, in numbers, and what 01 says it gives. Assumes nothing.
use Rattle.std.specs.Prelude.{ℕ, ◌-◌, ◌≡◌, List, [], ◌∷◌, replicate}
use Rattle.clock.specs.Answers.{Stamped}
use Rattle.clock.specs.declared.Stamp.{Stamp}
use Rattle.clock.specs.Next.{next_for}
use Rattle.clock.specs.Stamps as stamps
use Rattle.description.specs.AnnexC.{annex_c}
use Rattle.description.specs.Answers as descriptions
use Rattle.places.specs.Parts.{Places, layout_for}
use Rattle.dispersal.specs.Dispersal as dispersal
use Rattle.hand.specs.Hand.{hand_for, Handed}
use Rattle.hand.specs.declared.Settings.{Settings}
use Rattle.hand.specs.declared.Three.{Three}

pub record Example : Type 0 where
  pub number : ℕ
  pub gives : List ℕ
  pub says : List ℕ

abbrev example : ℕ → List ℕ → List ℕ → Example
example n got said = record { number = n; gives = got; says = said }

-- every example holds
abbrev pub Hold : List Example → Type 0
Hold [] = Unit {0}
Hold (e ∷ es) = (e.gives ≡ e.says) × Hold es

-- a number and the padding of a layout
abbrev padded : Places → List ℕ
padded l = l.number ∷ l.padding.len ∷ []

abbrev stamp : ℕ → ℕ → ℕ → Stamp
stamp utco seconds milliseconds = record { utco = utco; seconds = seconds; milliseconds = milliseconds }

-- a number, seconds and milliseconds
abbrev time : Stamped → List ℕ
time g = g.number ∷ g.stamp.seconds ∷ g.stamp.milliseconds ∷ []

-- of examples 9 to 12: N 10, shares 3, 3, 2, ceilings 10, 6, 10 (p, which they leave open, is 4)
abbrev three : ℕ → ℕ → ℕ → Three
three a b c = record { a = a; b = b; c = c }

abbrev ten : Settings
ten = record { p = 4; n = 10; share = three 3 3 2; ceiling = three 10 6 10 }

-- a number, the packets of queues 0, 1 and 2, filler, turn
abbrev handed : Handed → List ℕ
handed h = h.number ∷ h.packets.a ∷ h.packets.b ∷ h.packets.c ∷ h.filler ∷ h.turn ∷ []

-- 12 is the frame after 11: what 11 left waits, from the turn that it gave
abbrev eleven : Handed
eleven = hand_for ten (three 20 20 20) 0

abbrev twelve : Handed
twelve = hand_for ten (three (20 - eleven.packets.a) (20 - eleven.packets.b) (20 - eleven.packets.c)) eleven.turn

unfoldable pub examples : List Example
examples =
    example 1 (descriptions.output_for annex_c 0 (replicate 10 0)) (0x01 ∷ 0x00 ∷ 0x04 ∷ 0x51 ∷ 0x03 ∷ 0xb0 ∷ 0x00 ∷ 0x01 ∷ 0x30 ∷ 0x00 ∷ [])
    ∷ example 2 (descriptions.entity_output_for 0 annex_c 0 (replicate 11 0))
    (0x12 ∷ 0x01 ∷ 0x00 ∷ 0x04 ∷ 0x51 ∷ 0x03 ∷ 0xb0 ∷ 0x00 ∷ 0x01 ∷ 0x30 ∷ 0x00 ∷ [])
    ∷ example 3 (padded (layout_for 1183 annex_c 0)) (0 ∷ 0 ∷ [])
    ∷ example 4 ((layout_for 1182 annex_c 0).number ∷ []) (12 ∷ [])
    ∷ example 5 ((descriptions.read_for (0x04 ∷ 0x00 ∷ 0x00 ∷ 0x02 ∷ []) 0).number ∷ []) (10 ∷ [])
    ∷ example 6 (dispersal.output_for (0 ∷ 0 ∷ []) (0 ∷ 0 ∷ [])) (0x07 ∷ 0xbe ∷ [])
    ∷ example 7 (stamps.output_for (stamp 0 1 400) (replicate 8 0)) (0 ∷ 0 ∷ 0 ∷ 0 ∷ 0 ∷ 0 ∷ 0x05 ∷ 0x90 ∷ [])
    ∷ example 8 (time (next_for (stamp 0 1 599))) (0 ∷ 1 ∷ 999 ∷ [])
    ∷ example 8 (time (next_for (stamp 0 1 600))) (0 ∷ 2 ∷ 0 ∷ [])
    ∷ example 9 (handed (hand_for ten (three 20 1 0) 0)) (0 ∷ 9 ∷ 1 ∷ 0 ∷ 0 ∷ 1 ∷ [])
    ∷ example 10 (handed (hand_for ten (three 0 20 0) 0)) (0 ∷ 0 ∷ 6 ∷ 0 ∷ 4 ∷ 2 ∷ [])
    ∷ example 11 (handed eleven) (0 ∷ 4 ∷ 4 ∷ 2 ∷ 0 ∷ 2 ∷ [])
    ∷ example 12 (handed twelve) (0 ∷ 4 ∷ 3 ∷ 3 ∷ 0 ∷ 1 ∷ [])
    ∷ []
