-- What an operation writes, and what is known behind it.
use Rattle.std.proofs.Common.{◌≡◌, ℕ, ◌+◌, ◌-◌, ◌%◌, ◌<◌, Bool, true, false, refl, sym, ap, ◌∙◌, subst, arith}
use Rattle.std.specs.Prelude.{if◌then◌else◌, ◌==◌, ℤ}
use Rattle.std.specs.Int.Signed.{◌≤ℤ◌}
use Rattle.std.proofs.lemmas.Int.{ints}
use Rattle.certificate.specs.declared.cert.Slot.{Slot}
use Rattle.certificate.specs.declared.cert.Slot.TheVariants.{Reg, Word}
use Rattle.msp430_isa.specs.declared.instr.TwoOp.{TwoOp}
use Rattle.msp430_isa.specs.declared.instr.TwoOp.TheVariants.{Mov as MOV, Add as ADD, Addc as ADDC, Subc as SUBC, Sub as SUB, Cmp as CMP, Bit as BIT, Bic as BIC, Bis as BIS, Xor as XOR, And as AND}
use Rattle.msp430_isa.specs.Results.{two_result}
use Rattle.msp430_machine.specs.declared.addresses.Region.TheVariants.{Ports}
use Rattle.msp430_machine.specs.Addresses.{region, out_port, end_port}
use Rattle.msp430_machine.specs.State.{Ended, Trapped, State}
use Rattle.msp430_machine.specs.Memory.{written, written_in}
use Rattle.cert_rules.specs.Slots.{same_slot, is_held}
use Rattle.cert_rules.specs.Ranges.{Within, any_word, doubled, rises, falls}
use Rattle.cert_rules.specs.Spending.{bound_at, when_raised, when_lowered}
use Rattle.cert_rules.specs.Known.{Known, range_of}
use Rattle.cert_rules.specs.Places.{Reach, Place, Number, InReg, InReach}
use Rattle.cert_rules.specs.Effects.{source_range, range_after, spent_after, without, with_written}
use Rattle.cert_rules.proofs.SpendingLemmas.{bound_le_settled, bound_raised, bound_lowered}
use Rattle.cert_effects.specs.Written.{Written}
use Rattle.cert_effects.specs.Knows.{value_of, Holds}
use Rattle.cert_effects.proofs.Values.{Lies, in_sram, in_data, SameValues, Sets, sets_sram, sets_data}
use Rattle.cert_effects.proofs.Results.{any_within, just_within, raised_within, raised_is, lowered_within, lowered_is, doubled_within, masked_within, two_word}
use Rattle.cert_effects.proofs.Knowing.{slots_equal, bound_mono, holds_given}

-- ---- A source's value

pub data Means (κ : Known) (s : State) : Place → ℕ → Type 0 where
  a_number : (c : ℕ) → c < 65536 → Means κ s (Number c) c
  a_register : (r : ℕ) → Means κ s (InReg r) (value_of s (Reg r))
  a_word : (p : Reach) (v : ℕ) → Within (source_range κ (InReach p)) v → v < 65536 → Means κ s (InReach p) v

pub means_word : (κ : Known) (s : State) (w : Written) (n : ℕ) (p : Place) (v : ℕ) → Holds κ s w n → Means κ s p v → v < 65536
means_word κ s w n p v h (a_number c lt) = lt
means_word κ s w n p v h (a_register r) = h.words (Reg r)
means_word κ s w n p v h (a_word q u within lt) = lt

-- ---- A result's range

source_within : (κ : Known) (s : State) (w : Written) (n : ℕ) (p : Place) (v : ℕ) → Holds κ s w n → Means κ s p v → Within (source_range κ p) v
source_within κ s w n p v h (a_number c lt) = just_within c
source_within κ s w n p v h (a_register r) = h.range (Reg r)
source_within κ s w n p v h (a_word q u within lt) = within

add_within : (κ : Known) (s : State) (w : Written) (n : ℕ) (p : Place) (v : ℕ) (x : Slot) → Holds κ s w n → Means κ s p v → Within (range_after κ ADD p x) ((value_of s x + v + 0) % 65536)
add_within κ s w n p v x h (a_number c lt) = raised_within (range_of κ x) (value_of s x) c (h.range x)
add_within κ s w n p v x h (a_register r) =
    elim (same_slot (Reg r) x) as (λ c. same_slot (Reg r) x ≡ c → Within (if c then doubled (range_of κ x) else any_word) ((value_of s x + value_of s (Reg r) + 0) % 65536)) [
      | true ↦ λ e. subst (λ y. Within (doubled (range_of κ x)) ((value_of s x + value_of s y + 0) % 65536)) (sym (slots_equal (Reg r) x e)) (doubled_within (range_of κ x) (value_of s x) (h.range x))
      | false ↦ λ e. any_within ((value_of s x + value_of s (Reg r) + 0) % 65536) (omega arith)
    ] refl
add_within κ s w n p v x h (a_word q u within lt) = any_within ((value_of s x + v + 0) % 65536) (omega arith)

sub_within : (κ : Known) (s : State) (w : Written) (n : ℕ) (p : Place) (v : ℕ) (x : Slot) → Holds κ s w n → Means κ s p v → Within (range_after κ SUB p x) ((value_of s x + (65535 - v) + 1) % 65536)
sub_within κ s w n p v x h (a_number c lt) = lowered_within (range_of κ x) (value_of s x) c (h.range x) (h.words x) lt
sub_within κ s w n p v x h (a_register r) = any_within ((value_of s x + (65535 - value_of s (Reg r)) + 1) % 65536) (omega arith)
sub_within κ s w n p v x h (a_word q u within lt) = any_within ((value_of s x + (65535 - v) + 1) % 65536) (omega arith)

and_within : (κ : Known) (s : State) (w : Written) (n : ℕ) (carry : Bool) (p : Place) (v : ℕ) (x : Slot) → Holds κ s w n → Means κ s p v → Within (range_after κ AND p x) (two_result AND false carry v (value_of s x))
and_within κ s w n carry p v x h (a_number c lt) = masked_within (value_of s x) c
and_within κ s w n carry p v x h (a_register r) = any_within _ (two_word AND carry (value_of s (Reg r)) (value_of s x) (h.words (Reg r)) (h.words x))
and_within κ s w n carry p v x h (a_word q u within lt) = any_within _ (two_word AND carry v (value_of s x) lt (h.words x))

pub result_within : (κ : Known) (s : State) (w : Written) (n : ℕ) (op : TwoOp) (carry : Bool) (p : Place) (v : ℕ) (x : Slot) → Holds κ s w n → Means κ s p v
    → Within (range_after κ op p x) (two_result op false carry v (value_of s x))
result_within κ s w n MOV carry p v x h m = source_within κ s w n p v h m
result_within κ s w n ADD carry p v x h m = add_within κ s w n p v x h m
result_within κ s w n SUB carry p v x h m = sub_within κ s w n p v x h m
result_within κ s w n AND carry p v x h m = and_within κ s w n carry p v x h m
result_within κ s w n ADDC carry p v x h m = any_within _ (two_word ADDC carry v (value_of s x) (means_word κ s w n p v h m) (h.words x))
result_within κ s w n SUBC carry p v x h m = any_within _ (two_word SUBC carry v (value_of s x) (means_word κ s w n p v h m) (h.words x))
result_within κ s w n CMP carry p v x h m = any_within _ (two_word CMP carry v (value_of s x) (means_word κ s w n p v h m) (h.words x))
result_within κ s w n BIT carry p v x h m = any_within _ (two_word BIT carry v (value_of s x) (means_word κ s w n p v h m) (h.words x))
result_within κ s w n BIC carry p v x h m = any_within _ (two_word BIC carry v (value_of s x) (means_word κ s w n p v h m) (h.words x))
result_within κ s w n BIS carry p v x h m = any_within _ (two_word BIS carry v (value_of s x) (means_word κ s w n p v h m) (h.words x))
result_within κ s w n XOR carry p v x h m = any_within _ (two_word XOR carry v (value_of s x) (means_word κ s w n p v h m) (h.words x))

-- ---- What is spent behind a result

settled_bound : (κ : Known) (s t : State) (w : Written) (n : ℕ) (x : Slot) (r : ℕ) → Holds κ s w n → Sets s t x r → bound_at (value_of s) κ.spent ≤ℤ bound_at (value_of t) (without x κ)
settled_bound κ s t w n x r h sets = bound_le_settled (λ y. same_slot y x) (range_of κ) (value_of s) (value_of t) κ.spent h.range (λ y e. sym (sets.there y e))

same_le : (a b : ℤ) → b ≡ a → a ≤ℤ b
same_le a b e = omega (arith, ints, e)

add_bound : (κ : Known) (s t : State) (w : Written) (n : ℕ) (p : Place) (v : ℕ) (x : Slot) → Holds κ s w n → Means κ s p v → Sets s t x ((value_of s x + v + 0) % 65536)
    → bound_at (value_of s) κ.spent ≤ℤ bound_at (value_of t) (spent_after κ ADD p x)
add_bound κ s t w n p v x h (a_number c lt) sets =
    elim (rises (range_of κ x) c) as (λ b. rises (range_of κ x) c ≡ b → bound_at (value_of s) κ.spent ≤ℤ bound_at (value_of t) (if b then when_raised x c κ.spent else without x κ)) [
      | true ↦ λ e. same_le _ _ (bound_raised x c (value_of s) (value_of t) κ.spent
          (λ y same. sets.here y same ∙ raised_is (range_of κ x) (value_of s x) c (h.range x) e ∙ ap (λ z. value_of s z + c) (sym (slots_equal y x same)))
          sets.there)
      | false ↦ λ e. settled_bound κ s t w n x _ h sets
    ] refl
add_bound κ s t w n p v x h (a_register r) sets = settled_bound κ s t w n x _ h sets
add_bound κ s t w n p v x h (a_word q u within lt) sets = settled_bound κ s t w n x _ h sets

sub_bound : (κ : Known) (s t : State) (w : Written) (n : ℕ) (p : Place) (v : ℕ) (x : Slot) → Holds κ s w n → Means κ s p v → Sets s t x ((value_of s x + (65535 - v) + 1) % 65536)
    → bound_at (value_of s) κ.spent ≤ℤ bound_at (value_of t) (spent_after κ SUB p x)
sub_bound κ s t w n p v x h (a_number c lt) sets =
    elim (falls (range_of κ x) c) as (λ b. falls (range_of κ x) c ≡ b → bound_at (value_of s) κ.spent ≤ℤ bound_at (value_of t) (if b then when_lowered x c κ.spent else without x κ)) [
      | true ↦ λ e. same_le _ _ (bound_lowered x c (value_of s) (value_of t) κ.spent
          (λ y same. ap (λ z. value_of s z) (slots_equal y x same) ∙ lowered_is (range_of κ x) (value_of s x) c (h.range x) (h.words x) lt e ∙ ap (λ k. k + c) (sym (sets.here y same)))
          (λ y e'. sym (sets.there y e')))
      | false ↦ λ e. settled_bound κ s t w n x _ h sets
    ] refl
sub_bound κ s t w n p v x h (a_register r) sets = settled_bound κ s t w n x _ h sets
sub_bound κ s t w n p v x h (a_word q u within lt) sets = settled_bound κ s t w n x _ h sets

pub result_bound : (κ : Known) (s t : State) (w : Written) (n : ℕ) (op : TwoOp) (carry : Bool) (p : Place) (v : ℕ) (x : Slot) → Holds κ s w n → Means κ s p v → Sets s t x (two_result op false carry v (value_of s x))
    → bound_at (value_of s) κ.spent ≤ℤ bound_at (value_of t) (spent_after κ op p x)
result_bound κ s t w n ADD carry p v x h m sets = add_bound κ s t w n p v x h m sets
result_bound κ s t w n SUB carry p v x h m sets = sub_bound κ s t w n p v x h m sets
result_bound κ s t w n MOV carry p v x h m sets = settled_bound κ s t w n x _ h sets
result_bound κ s t w n AND carry p v x h m sets = settled_bound κ s t w n x _ h sets
result_bound κ s t w n ADDC carry p v x h m sets = settled_bound κ s t w n x _ h sets
result_bound κ s t w n SUBC carry p v x h m sets = settled_bound κ s t w n x _ h sets
result_bound κ s t w n CMP carry p v x h m sets = settled_bound κ s t w n x _ h sets
result_bound κ s t w n BIT carry p v x h m sets = settled_bound κ s t w n x _ h sets
result_bound κ s t w n BIC carry p v x h m sets = settled_bound κ s t w n x _ h sets
result_bound κ s t w n BIS carry p v x h m sets = settled_bound κ s t w n x _ h sets
result_bound κ s t w n XOR carry p v x h m sets = settled_bound κ s t w n x _ h sets

-- ---- A slot that may be written is

pub holds_written : (κ : Known) (s t : State) (w : Written) (n : ℕ) (op : TwoOp) (carry : Bool) (p : Place) (v : ℕ) (x : Slot) → is_held x ≡ true
    → Holds κ s w n → Means κ s p v → Sets s t x (two_result op false carry v (value_of s x)) → ((q : ℕ) → x ≡ Reg q → w.registers q ≡ true)
    → Holds (with_written op p x κ) t w n
holds_written κ s t w n op carry p v x held h m sets written =
    holds_given κ s t w n x (range_after κ op p x) (two_result op false carry v (value_of s x)) (spent_after κ op p x) held sets
    (two_word op carry v (value_of s x) (means_word κ s w n p v h m) (h.words x))
    (result_within κ s w n op carry p v x h m) written
    (bound_mono n _ _ h.bound (result_bound κ s t w n op carry p v x h m sets)) h

-- ---- Where a result goes

pub sets_memory : (s : State) (a v : ℕ) → Lies a → a % 2 ≡ 0 → Sets s (written false s a v) (Word a) v
sets_memory s a v (in_sram low high r sr d) even = subst (λ q. Sets s (written_in q s a v) (Word a) v) (sym r) (sets_sram s a v low high even)
sets_memory s a v (in_data low high r sr d) even = subst (λ q. Sets s (written_in q s a v) (Word a) v) (sym r) (sets_data s a v low high even)

pub sent_same : (s : State) (a v : ℕ) → region a ≡ Ports → SameValues s (written false s a v)
sent_same s a v r = subst (λ q. SameValues s (written_in q s a v)) (sym r) (by_port (a == out_port) (a == end_port))
  where
    by_port : (o e : Bool) → SameValues s (if o then s else if e then record s { phase = Ended v } else record s { phase = Trapped v })
    by_port true e = record { registers = λ q g. refl; sram = refl; fram = refl; code = refl }
    by_port false true = record { registers = λ q g. refl; sram = refl; fram = refl; code = refl }
    by_port false false = record { registers = λ q g. refl; sram = refl; fram = refl; code = refl }
