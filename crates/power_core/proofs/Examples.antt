-- The image of `int main(void){out(7);return 0;}` on refills that leave FFFF in registers and SRAM.
use Rattle.std.specs.Prelude.{◌≡◌, ℕ, ◌==◌, if◌then◌else◌, refl, List, [], ◌∷◌, get_or, zero, suc}
use Rattle.msp430_machine.proofs.Examples.{ordinary}
use Rattle.msp430_machine.specs.State.{State, Off, Awake, Ended, Trapped, no_flags}
use Rattle.power_core.specs.Runs.{Trail, start, after_go, after_wake}

abbrev pub code_words : List ℕ
code_words =
    0x9392 ∷ 0x1800 ∷ 0x2004 ∷ 0x4211 ∷ 0x1804 ∷ 0x4210 ∷ 0x1802 ∷ 0x42A2 ∷ 0x0F06 ∷ 0x4182 ∷ 0x1804 ∷ 0x40B2 ∷ 0x8024 ∷ 0x1802
    ∷ 0x4392 ∷ 0x1800 ∷ 0xD032 ∷ 0x0010 ∷ 0x4382 ∷ 0x1800 ∷ 0x403F ∷ 0x0007 ∷ 0x4F82 ∷ 0x0F02 ∷ 0x430F ∷ 0x4F82 ∷ 0x0F04 ∷ []

-- the words at the image's addresses, and zero elsewhere
abbrev pub loaded : State
loaded = record {
  phase = Off;
  charge = 0;
  reg = λ r. 0;
  flags = no_flags;
  other_bits = 0;
  sram = λ k. 0;
  fram = λ k. if k == 0xC00 then 1 else if k == 0xC01 then 0x8024 else if k == 0xC02 then 0x8000 else 0;
  code = λ k. if k == 0x3FFF then 0x8000 else get_or code_words k 0;
  taken = 0;
}

abbrev pub woken : ℕ → Trail → Trail
woken amount t = after_wake (record t.state { phase = Awake; charge = amount; reg = λ r. if r == 0 then 0x8000 else 0xFFFF; flags = no_flags; other_bits = 0; sram = λ k. 0xFFFF }) t

unfoldable steps : ℕ → Trail → Trail
steps zero t = t
steps (suc n) t = steps n (after_go ordinary [] t)

-- one refill: 9 instructions put 7 and end with 0, at 55
abbrev nine : Trail
unfolding steps
nine = steps 9 (woken 2000 (start loaded))

puts_seven : nine.put ≡ 7 ∷ []
unfolding steps
puts_seven = refl

ends : nine.state.phase ≡ Ended 0
unfolding steps
ends = refl

costs_55 : nine.spent ≡ 55
unfolding steps
costs_55 = refl

-- a first charge of 50 lasts for the output and not for the end: the gate is closed, and the second charge ends with trap 4
abbrev short_charge : Trail
unfolding steps
short_charge = steps 3 (woken 2000 (steps 9 (woken 50 (start loaded))))

short_puts_seven : short_charge.put ≡ 7 ∷ []
unfolding steps
short_puts_seven = refl

short_traps : short_charge.state.phase ≡ Trapped 4
unfolding steps
short_traps = refl

short_costs_66 : short_charge.spent ≡ 66
unfolding steps
short_costs_66 = refl

short_has_11_instructions : short_charge.instructions ≡ 11
unfolding steps
short_has_11_instructions = refl

short_has_one_closed_cut : short_charge.closed_cuts ≡ 1
unfolding steps
short_has_one_closed_cut = refl

-- a first charge of 20 is cut before the gate closes, and the second one does it all
abbrev tiny_charge : Trail
unfolding steps
tiny_charge = steps 9 (woken 2000 (steps 4 (woken 20 (start loaded))))

tiny_ends : tiny_charge.state.phase ≡ Ended 0
unfolding steps
tiny_ends = refl

tiny_costs_73 : tiny_charge.spent ≡ 73
unfolding steps
tiny_costs_73 = refl

tiny_has_12_instructions : tiny_charge.instructions ≡ 12
unfolding steps
tiny_has_12_instructions = refl

tiny_has_one_cut : tiny_charge.cuts ≡ 1
unfolding steps
tiny_has_one_cut = refl

tiny_has_no_closed_cut : tiny_charge.closed_cuts ≡ 0
unfolding steps
tiny_has_no_closed_cut = refl
