-- Words of objects at their homes: their addresses, what is read and written there, and the instruction that carries a word from one home to another.
use Rattle.std.proofs.Common.{◌≡◌, ℕ, ◌+◌, ◌-◌, ◌*◌, ◌/◌, ◌<◌, ◌≤◌, true, false, List, None, refl, ap, ◌∙◌, arith}
use Rattle.std.specs.Prelude.{nat_lt, ◌&&◌}
use Rattle.msp430_isa.specs.declared.instr.Src.TheVariants.{Abs as FromAbs}
use Rattle.msp430_isa.specs.declared.instr.Dst.TheVariants.{Abs as ToAbs}
use Rattle.msp430_isa.specs.declared.instr.Instr.{Instr}
use Rattle.msp430_isa.specs.Profile.{in_profile}
use Rattle.msp430_machine.specs.declared.addresses.Region.{Region}
use Rattle.msp430_machine.specs.declared.addresses.Region.TheVariants.{Sram, Fram}
use Rattle.msp430_machine.specs.State.{State, set_at}
use Rattle.msp430_machine.specs.Memory.{word_in, read, written_in, written}
use Rattle.msp430_machine.specs.Access.{AsSource, ByMove, access_fault, fault_at, first_of}
use Rattle.msp430_machine.specs.Execution.{done, put_by}
use Rattle.msp430_machine.proofs.Memories.{IsAt, is_sram, is_fram, is_word, word_allowed, read_at, after_read_at, puts_none_at}
use Rattle.msp430_machine.proofs.Writes.{word_by, written_by}
use Rattle.resumed_runs.specs.Code.{move}
use Rattle.laid_code.proofs.Homes.{Home, InSram, InFram, word_of, Changes}

abbrev pub address : Home → ℕ → ℕ
address (InSram w) i = 0x1C00 + 2 * (w + i)
address (InFram w) i = 2 * (w + i)

-- n words from the home on lie in SRAM, or in FRAM between the words of boot and heads and the call stack
abbrev pub IsRoom : Home → ℕ → Type 0
IsRoom (InSram w) n = w + n ≤ 1024
IsRoom (InFram w) n = (0x2200 ≤ w) × (w + n ≤ 0x3F80)

abbrev pub region_of : Home → Region
region_of (InSram w) = Sram
region_of (InFram w) = Fram

-- the state with this word there
abbrev pub stored : Home → ℕ → ℕ → State → State
stored (InSram w) i v s = record s { sram = set_at s.sram (w + i) v }
stored (InFram w) i v s = record s { fram = set_at s.fram (w + i) v }

-- ---- Addresses

pub fram_word : (k : ℕ) → 0x2200 ≤ k → k < 0x4000 → IsAt (2 * k) Fram
fram_word k high low = record { inside = is_fram (2 * k) (omega (arith, high)) (omega (arith, low)); even = omega arith }

pub at_home : (h : Home) (n i : ℕ) → IsRoom h n → i < n → IsAt (address h i) (region_of h)
at_home (InSram w) n i room low = record { inside = is_sram (0x1C00 + 2 * (w + i)) (omega arith) (omega (arith, room, low)); even = omega arith }
at_home (InFram w) n i room low = fram_word (w + i) (omega (arith, room.0)) (omega (arith, room.1, low))

pub address_fits : (h : Home) (n i : ℕ) → IsRoom h n → i < n → nat_lt (address h i) 65536 ≡ true
address_fits h n i room low = let x = (at_home h n i room low).inside.high in is_word (address h i) (omega (arith, x))

finds : (h : Home) (i : ℕ) (s : State) → word_in (region_of h) s (address h i) ≡ word_of s h i
finds (InSram w) i s = ap (λ k. s.sram k) (let e : (0x1C00 + 2 * (w + i) - 0x1C00) / 2 ≡ w + i = omega arith in e)
finds (InFram w) i s = ap (λ k. s.fram k) (let e : 2 * (w + i) / 2 ≡ w + i = omega arith in e)

writes : (h : Home) (i v : ℕ) (s : State) → written_in (region_of h) s (address h i) v ≡ stored h i v s
writes (InSram w) i v s = ap (λ k. record s { sram = set_at s.sram k v }) (let e : (0x1C00 + 2 * (w + i) - 0x1C00) / 2 ≡ w + i = omega arith in e)
writes (InFram w) i v s = ap (λ k. record s { fram = set_at s.fram k v }) (let e : 2 * (w + i) / 2 ≡ w + i = omega arith in e)

-- the word that is read there
pub read_home : (input : List ℕ) (h : Home) (n i : ℕ) (s : State) → IsRoom h n → i < n → read input false s (address h i) ≡ word_of s h i
read_home input h n i s room low =
    let at = at_home h n i room low in
    read_at input false s (address h i) (region_of h) at.inside ∙ (word_by s (address h i) (region_of h) at.inside.lies ∙ finds h i s)

-- and what a write of a word leaves
pub written_home : (h : Home) (n i v : ℕ) (s : State) → IsRoom h n → i < n → written false s (address h i) v ≡ stored h i v s
written_home h n i v s room low = written_by s (address h i) v (region_of h) (at_home h n i room low).inside ∙ writes h i v s

-- ---- From one home to another

abbrev pub carries : Home → Home → ℕ → Instr
carries from to i = move (FromAbs (address from i)) (ToAbs (address to i))

module _ (from to : Home) (n i : ℕ) (room_from : IsRoom from n) (room_to : IsRoom to n) (low : i < n) where
  here : IsAt (address from i) (region_of from)
  here = at_home from n i room_from low

  there : IsAt (address to i) (region_of to)
  there = at_home to n i room_to low

  pub carry_does : (input : List ℕ) (s : State) → done input (carries from to i) s ≡ stored to i (word_of s from i) s
  carry_does input s =
      ap (λ t. written false t (address to i) (read input false s (address from i))) (after_read_at s (address from i) (region_of from) here.inside)
      ∙ (ap (λ v. written false s (address to i) v) (read_home input from n i s room_from low) ∙ written_home to n i (word_of s from i) s room_to low)

  pub carry_puts : (input : List ℕ) (s : State) → put_by input (carries from to i) s ≡ None
  carry_puts input s = puts_none_at (address to i) (read input false s (address from i)) (region_of to) there.inside

  pub carry_allowed : (s : State) → access_fault s (carries from to i) ≡ None
  carry_allowed s =
      ap (λ f. first_of f (fault_at ByMove false (address to i))) (word_allowed AsSource (address from i) (region_of from) here)
      ∙ ap (λ f. first_of None f) (word_allowed ByMove (address to i) (region_of to) there)

  pub carry_fits : in_profile (carries from to i) ≡ true
  carry_fits = ap (λ c. c && nat_lt (address to i) 65536) (address_fits from n i room_from low) ∙ ap (λ c. true && c) (address_fits to n i room_to low)

-- ---- What a word that is stored changes

pub stored_changes : (h : Home) (i v : ℕ) (s : State) → Changes h i v s (stored h i v s)
stored_changes (InSram w) i v s = (refl, refl)
stored_changes (InFram w) i v s = (refl, refl)

-- what it leaves
pub record StoredSame (s u : State) : Type 0 where
  pub phase : u.phase ≡ s.phase
  pub reg : u.reg ≡ s.reg
  pub code : u.code ≡ s.code
  pub taken : u.taken ≡ s.taken

pub stored_same : (h : Home) (i v : ℕ) (s : State) → StoredSame s (stored h i v s)
stored_same (InSram w) i v s = record { phase = refl; reg = refl; code = refl; taken = refl }
stored_same (InFram w) i v s = record { phase = refl; reg = refl; code = refl; taken = refl }
