-- No head begins inside an instruction that the sweep comes to, or inside another head.
use Rattle.std.proofs.Common.{◌≡◌, ℕ, ◌+◌, ◌-◌, ◌*◌, ◌%◌, ◌<◌, ◌≤◌, true, false, not, Option, Some, None, refl, sym, ap, ◌∙◌, subst, arith, inl, inr, ◌⊎◌, ⊎_elim}
use Rattle.std.specs.Prelude.{if◌then◌else◌, ◌&&◌, is_some, unwrap_or}
use Rattle.std.specs.Option.{option_and_then}
use Rattle.std.proofs.lemmas.Bool.{cases_lt, and_parts}
use Rattle.msp430_isa.specs.declared.instr.Src.TheVariants.{Imm}
use Rattle.msp430_isa.specs.declared.instr.Dst.TheVariants.{Abs as ToAbs}
use Rattle.msp430_isa.specs.declared.instr.TwoOp.TheVariants.{Mov as MOV}
use Rattle.msp430_isa.specs.declared.instr.Instr.{Instr}
use Rattle.msp430_isa.specs.declared.instr.Instr.TheVariants.{Two}
use Rattle.msp430_isa.specs.Encoding.{length_of}
use Rattle.msp430_isa.specs.Decoding.{instruction_at}
use Rattle.msp430_isa.proofs.Spelling.{length_few}
use Rattle.cert_rules.specs.Words.{word_in, head_bytes}
use Rattle.cert_rules.specs.Known.{Known}
use Rattle.cert_rules.specs.Sheet.{Sheet, is_head, word_or_zero, instruction_of, any_point}
use Rattle.cert_rules.specs.Standing.{Copy, copy_bytes, standing, bytes_of}
use Rattle.cert_rules.specs.Accesses.{sets_fault, access_faults}
use Rattle.cert_rules.specs.Sweep.{Swept, known_here}
use Rattle.cert_effects.proofs.Rules.{none_parts, unless_passes}
use Rattle.cert_code.proofs.Sweeping.{StepOf, InstructionAt, CopyAt, Found, an_instruction, a_copy, swept_step, step_parts, found_there}
use Rattle.cert_code.proofs.Tables.{HeadsApart}
use Rattle.cert_code.proofs.Edges.{true_or_false}

-- the words of each head
pub record HeadWords (t : Sheet) (h : ℕ) : Type 0 where
  pub even : h % 2 ≡ 0
  pub low : 0x8000 ≤ h
  pub begins : t.here.start ≤ h
  pub high : h + head_bytes ≤ t.here.end
  pub w0 : word_in t.blocks h ≡ Some 0x4182
  pub w1 : word_in t.blocks (h + 2) ≡ Some 0x1804
  pub w2 : word_in t.blocks (h + 4) ≡ Some 0x40B2
  pub w3 : word_in t.blocks (h + 6) ≡ Some (h + 18)
  pub w4 : word_in t.blocks (h + 8) ≡ Some 0x1802
  pub w5 : word_in t.blocks (h + 10) ≡ Some 0x4392
  pub w6 : word_in t.blocks (h + 12) ≡ Some 0x1800
  pub w7 : word_in t.blocks (h + 14) ≡ Some 0xD032
  pub w8 : word_in t.blocks (h + 16) ≡ Some 0x0010
  pub w9 : word_in t.blocks (h + 18) ≡ Some 0x4382
  pub w10 : word_in t.blocks (h + 20) ≡ Some 0x1800

value : Option ℕ → ℕ
value None = 0
value (Some w) = w

-- one address has one word
one_word : (t : Sheet) (a b v w : ℕ) → a ≡ b → word_in t.blocks a ≡ Some v → word_in t.blocks b ≡ Some w → v ≡ w
unfolding value
one_word t a b v w same e f = ap value (sym e ∙ ap (word_in t.blocks) same ∙ f)

some_known : (t : Sheet) (a : ℕ) (incoming : Option Known) → StepOf t a incoming → (κ : Known) × (known_here t a incoming ≡ Some κ)
some_known t a incoming s =
    by_case (known_here t a incoming) (and_parts (is_some (known_here t a incoming)) (not (any_point t (a + 1) (bytes_of (standing t a) - 1))) (unless_passes (is_some (known_here t a incoming) && not (any_point t (a + 1) (bytes_of (standing t a) - 1))) _ _ _ _ (step_parts t a incoming s.passes).0)).0
  where
    by_case : (o : Option Known) → is_some o ≡ true → (κ : Known) × (o ≡ Some κ)
    by_case None e = absurd (let bad : false ≡ true = e in cc)
    by_case (Some κ) e = (κ, refl)

pub found_at : (t : Sheet) (a w : ℕ) → word_in t.blocks a ≡ Some w → instruction_of t a ≡ instruction_at w (word_or_zero t (a + 2)) (word_or_zero t (a + 4))
found_at t a w e = ap (λ o. option_and_then (λ w. instruction_at w (word_or_zero t (a + 2)) (word_or_zero t (a + 4))) o) e

inside : (i j : Instr) → Some i ≡ Some j → i ≡ j
inside i j e = cc

-- no form writes RESUME
refused : (t : Sheet) (r a : ℕ) (κ : Known) → InstructionAt t a κ (Two MOV false (Imm r) (ToAbs 0x1802)) → ⊥
refused t r a κ there =
    let i : Instr = Two MOV false (Imm r) (ToAbs 0x1802) in
    let acc : access_faults t a κ i ≡ None = (none_parts (sets_fault a κ i) (access_faults t a κ i) there.own).1 in
    let bad : true ≡ false = ap is_some acc in cc

module _ (t : Sheet) (heads : (h : ℕ) → is_head t h ≡ true → t.here.start ≤ h → h < t.here.end → HeadWords t h) where
  -- the second word of a head begins no instruction, and no copy
  no_second : (b : ℕ) (κ : Known) → HeadWords t b → Found t (b + 2) κ → ⊥
  no_second b κ h (an_instruction i there) =
      let nothing : instruction_of t (b + 2) ≡ None = found_at t (b + 2) 0x1804 h.w1 in
      let bad : None ≡ Some i = sym nothing ∙ there.found in cc
  no_second b κ h (a_copy c there) = omega (arith, one_word t (b + 2) (b + 2) 0x1804 0x403F refl h.w1 there.w0)

  at_second : (b : ℕ) (incoming : Option Known) → HeadWords t b → Swept t (b + 2) incoming None → ⊥
  at_second b incoming h swept = ⊎_elim
      (λ is. (let same = one_word t (b + 2) (b + 2) 0x1804 0x4182 refl h.w1 (heads (b + 2) is (omega (arith, h.begins)) (omega (arith, h.high))).w0 in omega (arith, same)))
      (λ not_head.
      (let s = swept_step t (b + 2) incoming None swept refl (omega (arith, h.high)) not_head in
      let k = some_known t (b + 2) incoming s in no_second b k.0 h (found_there t (b + 2) incoming k.0 s k.1)))
      (true_or_false (is_head t (b + 2)))

  -- and the third a write of RESUME
  no_third : (b : ℕ) (κ : Known) → HeadWords t b → Found t (b + 4) κ → ⊥
  no_third b κ h (an_instruction i there) =
      let on : b + 4 + 4 ≡ b + 8 = omega arith in
      let fifth : word_or_zero t (b + 4 + 4) ≡ 0x1802 = ap (λ o. unwrap_or o 0) (ap (word_in t.blocks) on ∙ h.w4) in
      let found : instruction_of t (b + 4) ≡ Some (Two MOV false (Imm (word_or_zero t (b + 4 + 2))) (ToAbs 0x1802)) =
      found_at t (b + 4) 0x40B2 h.w2 ∙ ap (λ y. instruction_at 0x40B2 (word_or_zero t (b + 4 + 2)) y) fifth in
      let is : i ≡ Two MOV false (Imm (word_or_zero t (b + 4 + 2))) (ToAbs 0x1802) = inside i (Two MOV false (Imm (word_or_zero t (b + 4 + 2))) (ToAbs 0x1802)) (sym there.found ∙ found) in
      refused t (word_or_zero t (b + 4 + 2)) (b + 4) κ (subst (λ i. InstructionAt t (b + 4) κ i) is there)
  no_third b κ h (a_copy c there) = omega (arith, one_word t (b + 4) (b + 4) 0x40B2 0x403F refl h.w2 there.w0)

  at_third : (b : ℕ) (incoming : Option Known) → HeadWords t b → Swept t (b + 4) incoming None → ⊥
  at_third b incoming h swept = ⊎_elim
      (λ is. (let same = one_word t (b + 4) (b + 4) 0x40B2 0x4182 refl h.w2 (heads (b + 4) is (omega (arith, h.begins)) (omega (arith, h.high))).w0 in omega (arith, same)))
      (λ not_head.
      (let s = swept_step t (b + 4) incoming None swept refl (omega (arith, h.high)) not_head in
      let k = some_known t (b + 4) incoming s in no_third b k.0 h (found_there t (b + 4) incoming k.0 s k.1)))
      (true_or_false (is_head t (b + 4)))

  -- a head in a head
  in_head : (a b : ℕ) → HeadWords t a → HeadWords t b → a < b → b < a + head_bytes → ⊥
  in_head a b x y low high = by_gap (b - a) (omega (arith, low))
    where
      clash : (k w : ℕ) → b ≡ a + k → word_in t.blocks (a + k) ≡ Some w → w ≡ 0x4182
      clash k w at e = one_word t (a + k) b w 0x4182 (sym at) e y.w0

      by_gap : (d : ℕ) → b ≡ a + d → ⊥
      by_gap d at =
          ⊎_elim (λ l. omega (arith, clash 2 0x1804 (omega (arith, at, l, low, x.even, y.even)) x.w1)) (λ g2.
          ⊎_elim (λ l. omega (arith, clash 4 0x40B2 (omega (arith, at, l, g2, x.even, y.even)) x.w2)) (λ g4.
          ⊎_elim (λ l. omega (arith, clash 6 (a + 18) (omega (arith, at, l, g4, x.even, y.even)) x.w3, x.low)) (λ g6.
          ⊎_elim (λ l. omega (arith, clash 8 0x1802 (omega (arith, at, l, g6, x.even, y.even)) x.w4)) (λ g8.
          ⊎_elim (λ l. omega (arith, clash 10 0x4392 (omega (arith, at, l, g8, x.even, y.even)) x.w5)) (λ g10.
          ⊎_elim (λ l. omega (arith, clash 12 0x1800 (omega (arith, at, l, g10, x.even, y.even)) x.w6)) (λ g12.
          ⊎_elim (λ l. omega (arith, clash 14 0xD032 (omega (arith, at, l, g12, x.even, y.even)) x.w7)) (λ g14.
          ⊎_elim (λ l. omega (arith, clash 16 0x0010 (omega (arith, at, l, g14, x.even, y.even)) x.w8)) (λ g16.
          ⊎_elim (λ l. omega (arith, clash 18 0x4382 (omega (arith, at, l, g16, x.even, y.even)) x.w9)) (λ g18.
          omega (arith, clash 20 0x1800 (omega (arith, at, g18, high, x.even, y.even)) x.w10))
          (cases_lt d 19)) (cases_lt d 17)) (cases_lt d 15)) (cases_lt d 13)) (cases_lt d 11)) (cases_lt d 9)) (cases_lt d 7)) (cases_lt d 5)) (cases_lt d 3)

  by_next : (b next : ℕ) (out : Option Known) → HeadWords t b → Swept t next out None → (next ≡ b + 2) ⊎ (next ≡ b + 4) → ⊥
  by_next b next out y swept h = ⊎_elim (λ e. at_second b out y (subst (λ z. Swept t z out None) e swept)) (λ e. at_third b out y (subst (λ z. Swept t z out None) e swept)) h

  -- a head in a copy
  in_copy : (a b : ℕ) (κ : Known) (c : Copy) → CopyAt t a κ c → HeadWords t b → a < b → b < a + copy_bytes → ⊥
  in_copy a b κ c x y low high =
      ⊎_elim (λ l. omega (arith, one_word t (a + 4) (b + 2) 0x4F9F 0x1804 (omega (arith, l, low, x.even, y.even)) x.w2 y.w1)) (λ g2.
      ⊎_elim (λ l. omega (arith, one_word t (a + 4) b 0x4F9F 0x4182 (omega (arith, l, g2, x.even, y.even)) x.w2 y.w0)) (λ g4.
      ⊎_elim (λ l. omega (arith, one_word t (a + 10) (b + 4) 0x832F 0x40B2 (omega (arith, l, g4, x.even, y.even)) x.w5 y.w2)) (λ g6.
      ⊎_elim (λ l. omega (arith, one_word t (a + 10) (b + 2) 0x832F 0x1804 (omega (arith, l, g6, x.even, y.even)) x.w5 y.w1)) (λ g8.
      ⊎_elim (λ l. omega (arith, one_word t (a + 10) b 0x832F 0x4182 (omega (arith, l, g8, x.even, y.even)) x.w5 y.w0)) (λ g10.
      omega (arith, one_word t (a + 12) b 0x23FB 0x4182 (omega (arith, g10, high, x.even, y.even)) x.w6 y.w0))
      (cases_lt b (a + 11))) (cases_lt b (a + 9))) (cases_lt b (a + 7))) (cases_lt b (a + 5))) (cases_lt b (a + 3))

  in_found : (a b : ℕ) (κ : Known) → Found t a κ → HeadWords t b → a < b → b < a + bytes_of (standing t a) → ⊥
  in_found a b κ (a_copy c there) y low high = in_copy a b κ c there y low (subst (λ n. b < a + n) (ap bytes_of there.stands) high)
  in_found a b κ (an_instruction i there) y low high =
      let size : bytes_of (standing t a) ≡ 2 * length_of i = ap bytes_of there.stands in
      let few : length_of i ≤ 3 = length_few i in
      by_next b _ _ y there.rest
      (⊎_elim
      (λ short. inl (omega (arith, size, high, low, short, y.even, there.even)))
      (λ long. ⊎_elim
      (λ near. inr (omega (arith, few, long, near, low, y.even, there.even)))
      (λ far. inl (omega (arith, size, high, few, long, far, y.even, there.even)))
      (cases_lt b (a + 3)))
      (cases_lt (length_of i) 3))

  -- a head in what an address has
  in_step : (a b : ℕ) (incoming : Option Known) → Swept t a incoming None → is_head t a ≡ false → a < t.here.end → HeadWords t b → a < b → b < a + bytes_of (standing t a) → ⊥
  in_step a b incoming swept not_head here y low high =
      let s = swept_step t a incoming None swept refl here not_head in
      let k = some_known t a incoming s in in_found a b k.0 (found_there t a incoming k.0 s k.1) y low high

  pub heads_apart : HeadsApart t
  heads_apart a b incoming swept is begins inside low high = ⊎_elim
      (λ h. in_head a b (heads a h begins (omega (arith, inside, low))) (heads b is (omega (arith, begins, low)) inside) low (subst (λ c. b < a + (if c then head_bytes else bytes_of (standing t a))) h high))
      (λ h. in_step a b incoming swept h (omega (arith, low, inside)) (heads b is (omega (arith, begins, low)) inside) low (subst (λ c. b < a + (if c then head_bytes else bytes_of (standing t a))) h high))
      (true_or_false (is_head t a))
