-- An operand lies in the reach of its place, and an access that the rules allow has no fault.
use Rattle.std.proofs.Common.{◌≡◌, ℕ, zero, suc, ◌+◌, ◌-◌, ◌*◌, ◌/◌, ◌%◌, ◌<◌, ◌≤◌, Bool, true, false, Some, None, refl, sym, ap, ◌∙◌, subst, arith, inl, inr, ◌⊎◌, ⊎_elim}
use Rattle.std.specs.Prelude.{if◌then◌else◌, ◌==◌, ◌&&◌, ◌||◌, not, nat_le}
use Rattle.std.proofs.lemmas.Bool.{cases_lt, and_parts}
use Rattle.std.proofs.lemmas.Bool.Decides.{nat_tests}
use Rattle.certificate.specs.declared.cert.Slot.{Slot}
use Rattle.certificate.specs.declared.cert.Slot.TheVariants.{Reg}
use Rattle.msp430_isa.specs.declared.instr.Src.{Src}
use Rattle.msp430_isa.specs.declared.instr.Src.TheVariants.{Reg as FromReg, Index as FromIndex, Abs as FromAbs, At, AtPlus, Imm, Short}
use Rattle.msp430_isa.specs.declared.instr.Dst.{Dst}
use Rattle.msp430_isa.specs.declared.instr.Dst.TheVariants.{Reg as ToReg, Index as ToIndex, Abs as ToAbs}
use Rattle.msp430_machine.specs.declared.answer.Why.TheVariants.{Odd}
use Rattle.msp430_machine.specs.declared.addresses.Region.{Region}
use Rattle.msp430_machine.specs.declared.addresses.Region.TheVariants.{Ports, Sram, Fram}
use Rattle.msp430_machine.specs.Addresses.{region}
use Rattle.msp430_machine.specs.Access.{Purpose, AsSource, ByMove, fault_at, fault_in}
use Rattle.msp430_machine.specs.State.{State, register}
use Rattle.msp430_machine.specs.Operands.{Operand, Constant, InRegister, InMemory, source, destination, index}
use Rattle.cert_rules.specs.Slots.{first_word, first_in}
use Rattle.cert_rules.specs.Forms.{is_general, is_plain_source, is_plain_destination}
use Rattle.cert_rules.specs.Ranges.{Range, Within, known_even}
use Rattle.cert_rules.specs.Known.{Known, range_of}
use Rattle.cert_rules.specs.Places.{Reach, Place, Number, InReg, InReach, one_address, offset_by, source_place, destination_place, lies, in_memory, may_read, may_change, may_move_to}
use Rattle.cert_effects.specs.Knows.{value_of}
use Rattle.cert_effects.proofs.Values.{Lies, in_sram, in_data, lies_sram, lies_data, value_register, register_general, equal_numbers}

-- ---- A place and what it is

pub data Denotes : Place → Operand → Type 0 where
  number : (v : ℕ) → Denotes (Number v) (Constant v)
  register_is : (r : ℕ) → is_general r ≡ true → Denotes (InReg r) (InRegister r)
  memory : (p : Reach) (a : ℕ) → p.least ≤ a → a ≤ p.greatest → (p.even ≡ true → a % 2 ≡ 0) → Denotes (InReach p) (InMemory a)

abbrev pub IsLow : Place → Type 0
IsLow (Number v) = Unit {0}
IsLow (InReg r) = Unit {0}
IsLow (InReach p) = p.greatest < 65536

pub even_of : (r : Range) (v : ℕ) → Within r v → known_even r ≡ true → v % 2 ≡ 0
even_of r v w h = elim (r.even) as (λ c. r.even ≡ c → (c || (r.least == r.greatest && r.least % 2 == 0)) ≡ true → v % 2 ≡ 0) [
  | true ↦ λ e k. w.is_even e
  | false ↦ λ e k.
      (let p = and_parts (r.least == r.greatest) (r.least % 2 == 0) k in
      let same : r.least ≡ r.greatest = equal_numbers r.least r.greatest p.0 in
      let even : r.least % 2 ≡ 0 = equal_numbers (r.least % 2) 0 p.1 in
      let it : v ≡ r.least = omega (arith, w.above, w.below, same) in ap (λ n. n % 2) it ∙ even)
] refl h

offset_even : (r : Range) (v x : ℕ) → Within r v → (offset_by x r).even ≡ true → (v + x) % 2 ≡ 0
offset_even r v x w h = elim (r.least == r.greatest) as (λ c. (r.least == r.greatest) ≡ c → (if c then (r.least + x) % 2 == 0 else known_even r && x % 2 == 0) ≡ true → (v + x) % 2 ≡ 0) [
  | true ↦ λ e k.
      (let same : r.least ≡ r.greatest = equal_numbers r.least r.greatest e in
      let it : v + x ≡ r.least + x = omega (arith, w.above, w.below, same) in ap (λ n. n % 2) it ∙ equal_numbers ((r.least + x) % 2) 0 k)
  | false ↦ λ e k.
      (let p = and_parts (known_even r) (x % 2 == 0) k in
      let ev : v % 2 ≡ 0 = even_of r v w p.0 in
      let ex : x % 2 ≡ 0 = equal_numbers (x % 2) 0 p.1 in omega (arith, ev, ex))
] refl h

-- x(Rn) is not wrapped
indexed : (κ : Known) (s : State) (r x : ℕ) → is_general r ≡ true → ((y : Slot) → Within (range_of κ y) (value_of s y)) → (range_of κ (Reg r)).greatest + x < 65536
    → Denotes (InReach (offset_by x (range_of κ (Reg r)))) (InMemory (index s r x))
indexed κ s r x g within low =
    let w = within (Reg r) in
    let v : ℕ = value_of s (Reg r) in
    let is : register s r ≡ v = register_general s r g ∙ sym (value_register s r g) in
    let small : (v + x) % 65536 ≡ v + x = omega (arith, w.below, low) in
    let it : index s r x ≡ v + x = ap (λ n. (n + x) % 65536) is ∙ small in
    subst (λ a. Denotes (InReach (offset_by x (range_of κ (Reg r)))) (InMemory a)) (sym it)
    (memory (offset_by x (range_of κ (Reg r))) (v + x) (omega (arith, w.above)) (omega (arith, w.below)) (offset_even (range_of κ (Reg r)) v x w))

absolute : (a : ℕ) → Denotes (InReach (one_address a)) (InMemory a)
absolute a = memory (one_address a) a (omega arith) (omega arith) (λ h. equal_numbers (a % 2) 0 h)

pub source_denotes : (κ : Known) (s : State) (src : Src) → is_plain_source src ≡ true → ((y : Slot) → Within (range_of κ y) (value_of s y)) → IsLow (source_place κ src)
    → Denotes (source_place κ src) (source s src)
source_denotes κ s (FromReg r) h within low = register_is r h
source_denotes κ s (FromIndex r x) h within low = indexed κ s r x h within low
source_denotes κ s (FromAbs a) h within low = absolute a
source_denotes κ s (Imm v) h within low = number v
source_denotes κ s (Short v) h within low = number v
source_denotes κ s (At r) h within low = absurd (let no : false ≡ true = h in cc)
source_denotes κ s (AtPlus r) h within low = absurd (let no : false ≡ true = h in cc)

pub destination_denotes : (κ : Known) (s : State) (dst : Dst) → is_plain_destination dst ≡ true → ((y : Slot) → Within (range_of κ y) (value_of s y)) → IsLow (destination_place κ dst)
    → Denotes (destination_place κ dst) (destination s dst)
destination_denotes κ s (ToReg r) h within low = register_is r h
destination_denotes κ s (ToIndex r x) h within low = indexed κ s r x h within low
destination_denotes κ s (ToAbs a) h within low = absolute a

-- ---- Where an allowed address lies

-- an address of memory, and the least of its reach
pub record Held (p : Reach) (a : ℕ) : Type 0 where
  pub here : Lies a
  pub least : Lies p.least
  pub same : region p.least ≡ region a

same_sram : (a b : ℕ) → region a ≡ Sram → region b ≡ Sram → region a ≡ region b
same_sram a b e f = e ∙ sym f

lies_parts : (lo hi : ℕ) (p : Reach) → lies lo hi p ≡ true → (lo ≤ p.least) × (p.greatest ≤ hi)
lies_parts lo hi p h = (let q = and_parts (nat_le lo p.least) (nat_le p.greatest hi) h in (le_of lo p.least q.0, le_of p.greatest hi q.1))
  where
    le_of : (a b : ℕ) → nat_le a b ≡ true → a ≤ b
    le_of a b e = grind (arith, nat_tests)

region_of : (a : ℕ) → Lies a → (r : Region) → ((0x1C00 ≤ a) × (a ≤ 0x23FF) × (r ≡ Sram)) ⊎ ((0x4400 ≤ a) × (a ≤ 0x7EFF) × (r ≡ Fram)) → region a ≡ r
region_of a (in_sram low high e s d) r h = ⊎_elim (λ x. e ∙ sym x.2) (λ x. absurd (omega (arith, x.0, high))) h
region_of a (in_data low high e s d) r h = ⊎_elim (λ x. absurd (omega (arith, x.1, low))) (λ x. e ∙ sym x.2) h

sram_region : (a : ℕ) → 0x1C00 ≤ a → a ≤ 0x23FF → region a ≡ Sram
sram_region a low high = region_of a (lies_sram a low high) Sram (inl (low, high, refl))

data_region : (a : ℕ) → 0x4400 ≤ a → a ≤ 0x7EFF → region a ≡ Fram
data_region a low high = region_of a (lies_data a low high) Fram (inr (low, high, refl))

pub held : (p : Reach) (a : ℕ) → in_memory p ≡ true → p.least ≤ a → a ≤ p.greatest → Held p a
held p a h low high = elim (lies 0x4400 0x7EFF p) as (λ c. lies 0x4400 0x7EFF p ≡ c → (c || lies 0x1C00 0x23FF p) ≡ true → Held p a) [
  | true ↦ λ e k. (let q = lies_parts 0x4400 0x7EFF p e in record {
    here = lies_data a (omega (arith, q.0, low)) (omega (arith, q.1, high));
    least = lies_data p.least q.0 (omega (arith, q.1, low, high));
    same = data_region p.least q.0 (omega (arith, q.1, low, high)) ∙ sym (data_region a (omega (arith, q.0, low)) (omega (arith, q.1, high)));
  })
  | false ↦ λ e k. (let q = lies_parts 0x1C00 0x23FF p k in record {
    here = lies_sram a (omega (arith, q.0, low)) (omega (arith, q.1, high));
    least = lies_sram p.least q.0 (omega (arith, q.1, low, high));
    same = sram_region p.least q.0 (omega (arith, q.1, low, high)) ∙ sym (sram_region a (omega (arith, q.0, low)) (omega (arith, q.1, high)));
  })
] refl h

ports : (a : ℕ) → 0x0F00 ≤ a → a < 0x0F08 → region a ≡ Ports
ports a low high = grind (arith, nat_tests)

pub record AtInput (p : Reach) (a : ℕ) : Type 0 where
  pub here : a ≡ 0x0F00
  pub least : region p.least ≡ Ports

pub record AtOutput (p : Reach) (a : ℕ) : Type 0 where
  pub here : (a ≡ 0x0F02) ⊎ (a ≡ 0x0F04) ⊎ (a ≡ 0x0F06)
  pub least : region p.least ≡ Ports

-- an allowed source, and an allowed destination of a MOV
pub readable : (p : Reach) (a : ℕ) → may_read p ≡ true → p.least ≤ a → a ≤ p.greatest → (p.even ≡ true → a % 2 ≡ 0) → (Held p a ⊎ AtInput p a) × (a % 2 ≡ 0)
readable p a h low high even =
    let q = and_parts p.even (in_memory p || lies 0x0F00 0x0F01 p) h in
    let ev : a % 2 ≡ 0 = even q.0 in (
      elim (in_memory p) as (λ c. in_memory p ≡ c → (c || lies 0x0F00 0x0F01 p) ≡ true → Held p a ⊎ AtInput p a) [
        | true ↦ λ e k. inl (held p a e low high)
        | false ↦ λ e k. (let r = lies_parts 0x0F00 0x0F01 p k in inr (record { here = omega (arith, r.0, r.1, low, high, ev); least = ports p.least r.0 (omega (arith, r.1, low, high)) }))
      ] refl q.1,
      ev,
    )

three : (a : ℕ) → 0x0F02 ≤ a → a ≤ 0x0F07 → a % 2 ≡ 0 → (a ≡ 0x0F02) ⊎ (a ≡ 0x0F04) ⊎ (a ≡ 0x0F06)
three a low high ev = ⊎_elim
    (λ lt. inl (omega (arith, low, lt, ev)))
    (λ ge. ⊎_elim (λ lt. inr (inl (omega (arith, ge, lt, ev)))) (λ ge'. inr (inr (omega (arith, ge', high, ev)))) (cases_lt a 0x0F06))
    (cases_lt a 0x0F04)

pub movable : (p : Reach) (a : ℕ) → may_move_to p ≡ true → p.least ≤ a → a ≤ p.greatest → (p.even ≡ true → a % 2 ≡ 0) → (Held p a ⊎ AtOutput p a) × (a % 2 ≡ 0)
movable p a h low high even =
    let q = and_parts p.even (in_memory p || lies 0x0F02 0x0F07 p) h in
    let ev : a % 2 ≡ 0 = even q.0 in (
      elim (in_memory p) as (λ c. in_memory p ≡ c → (c || lies 0x0F02 0x0F07 p) ≡ true → Held p a ⊎ AtOutput p a) [
        | true ↦ λ e k. inl (held p a e low high)
        | false ↦ λ e k. (let r = lies_parts 0x0F02 0x0F07 p k in inr (record { here = three a (omega (arith, r.0, low)) (omega (arith, r.1, high)) ev; least = ports p.least (omega (arith, r.0)) (omega (arith, r.1, low, high)) }))
      ] refl q.1,
      ev,
    )

pub changeable : (p : Reach) (a : ℕ) → may_change p ≡ true → p.least ≤ a → a ≤ p.greatest → (p.even ≡ true → a % 2 ≡ 0) → Held p a × (a % 2 ≡ 0)
changeable p a h low high even = (let q = and_parts p.even (in_memory p) h in (held p a q.1 low high, even q.0))

-- an allowed reach is low
memory_low : (p : Reach) → in_memory p ≡ true → p.greatest < 65536
memory_low p h = elim (lies 0x4400 0x7EFF p) as (λ c. lies 0x4400 0x7EFF p ≡ c → (c || lies 0x1C00 0x23FF p) ≡ true → p.greatest < 65536) [
  | true ↦ λ e k. omega (arith, (lies_parts 0x4400 0x7EFF p e).1)
  | false ↦ λ e k. omega (arith, (lies_parts 0x1C00 0x23FF p k).1)
] refl h

ports_low : (p : Reach) (lo hi : ℕ) → hi < 65536 → (in_memory p || lies lo hi p) ≡ true → p.greatest < 65536
ports_low p lo hi small h = elim (in_memory p) as (λ c. in_memory p ≡ c → (c || lies lo hi p) ≡ true → p.greatest < 65536) [
  | true ↦ λ e k. memory_low p e
  | false ↦ λ e k. omega (arith, small, (lies_parts lo hi p k).1)
] refl h

pub read_low : (p : Reach) → may_read p ≡ true → p.greatest < 65536
read_low p h = ports_low p 0x0F00 0x0F01 (omega arith) (and_parts p.even (in_memory p || lies 0x0F00 0x0F01 p) h).1

pub move_low : (p : Reach) → may_move_to p ≡ true → p.greatest < 65536
move_low p h = ports_low p 0x0F02 0x0F07 (omega arith) (and_parts p.even (in_memory p || lies 0x0F02 0x0F07 p) h).1

pub change_low : (p : Reach) → may_change p ≡ true → p.greatest < 65536
change_low p h = memory_low p (and_parts p.even (in_memory p) h).1

-- ---- No fault

fault_even : (purpose : Purpose) (a : ℕ) → a % 2 ≡ 0 → fault_at purpose false a ≡ fault_in (region a) purpose false a
fault_even purpose a e = ap (λ n. if not false && n == 1 then Some Odd else fault_in (region a) purpose false a) e

pub no_fault_held : (purpose : Purpose) (a : ℕ) → Lies a → a % 2 ≡ 0 → fault_at purpose false a ≡ None
no_fault_held purpose a (in_sram low high r s d) e = fault_even purpose a e ∙ ap (λ q. fault_in q purpose false a) r
no_fault_held purpose a (in_data low high r s d) e = fault_even purpose a e ∙ ap (λ q. fault_in q purpose false a) r

pub no_fault_input : (a : ℕ) → a ≡ 0x0F00 → fault_at AsSource false a ≡ None
no_fault_input a e = ap (λ n. fault_at AsSource false n) e

pub no_fault_output : (a : ℕ) → (a ≡ 0x0F02) ⊎ (a ≡ 0x0F04) ⊎ (a ≡ 0x0F06) → fault_at ByMove false a ≡ None
no_fault_output a h = ⊎_elim (λ e. ap (λ n. fault_at ByMove false n) e) (λ k. ⊎_elim (λ e. ap (λ n. fault_at ByMove false n) e) (λ e. ap (λ n. fault_at ByMove false n) e) k) h

-- ---- Of the words of a reach none is the first

none_of_words : (p : ℕ → Bool) (b n : ℕ) → first_word p b n ≡ None → (k : ℕ) → k < n → p (b + 2 * k) ≡ false
none_of_words p b zero h k lt = absurd (omega (arith, lt))
none_of_words p b (suc n) h k lt =
    elim (p b) as (λ c. p b ≡ c → (if c then Some b else first_word p (b + 2) n) ≡ None → p (b + 2 * k) ≡ false) [
      | true ↦ λ e x. absurd (let no : Some b ≡ None = x in cc)
      | false ↦ λ e x. ⊎_elim
          (λ z. (let at : b + 2 * k ≡ b = omega (arith, z) in ap p at ∙ e))
          (λ pos. (let on : b + 2 + 2 * (k - 1) ≡ b + 2 * k = omega (arith, pos) in ap p (sym on) ∙ none_of_words p (b + 2) n x (k - 1) (omega (arith, lt, pos))))
          (cases_lt k 1)
    ] refl h

pub none_in : (p : ℕ → Bool) (least greatest a : ℕ) → first_in p least greatest ≡ None → least ≤ a → a ≤ greatest → a % 2 ≡ 0 → p a ≡ false
none_in p least greatest a h low high even =
    let b : ℕ = least + least % 2 in
    let k : ℕ = (a - b) / 2 in
    let on : b + 2 * k ≡ a = omega (arith, low, even) in
    let within : k < (greatest + 2 - b) / 2 = omega (arith, low, high, even) in
    ap p (sym on) ∙ none_of_words p b ((greatest + 2 - b) / 2) h k within
