-- What a return does: MOV @SP+,PC.
use Rattle.std.proofs.Common.{◌≡◌, ℕ, ◌+◌, ◌-◌, ◌*◌, ◌/◌, ◌%◌, ◌≤◌, true, false, Some, None, List, ◌∷◌, length, refl, sym, ap, ◌∙◌, subst, arith, ⊎_elim}
use Rattle.std.specs.Prelude.{if◌then◌else◌, ◌==◌}
use Rattle.board_table.specs.declared.board.Board.{Board}
use Rattle.certificate.specs.declared.cert.Slot.{Slot}
use Rattle.msp430_isa.specs.declared.instr.Src.TheVariants.{AtPlus}
use Rattle.msp430_isa.specs.declared.instr.Dst.TheVariants.{Reg as ToReg}
use Rattle.msp430_isa.specs.declared.instr.TwoOp.TheVariants.{Mov as MOV}
use Rattle.msp430_isa.specs.declared.instr.Instr.{Instr}
use Rattle.msp430_isa.specs.declared.instr.Instr.TheVariants.{Two}
use Rattle.msp430_isa.specs.Encoding.{length_of}
use Rattle.msp430_machine.specs.declared.answer.Why.TheVariants.{Odd}
use Rattle.msp430_machine.specs.declared.addresses.Region.{Region}
use Rattle.msp430_machine.specs.declared.addresses.Region.TheVariants.{Fram}
use Rattle.msp430_machine.specs.Addresses.{region}
use Rattle.msp430_machine.specs.Access.{AsSource, fault_in, first_of, access_fault}
use Rattle.msp430_machine.specs.Cost.{cost, read_cost_in}
use Rattle.msp430_machine.specs.State.{State, set_at, register, with_register}
use Rattle.msp430_machine.specs.Memory.{word_in, read_in, after_read_in}
use Rattle.msp430_machine.specs.Execution.{done}
use Rattle.msp430_machine.specs.Steps.{begun}
use Rattle.cert_rules.specs.Forms.{is_general}
use Rattle.cert_rules.specs.Known.{Known}
use Rattle.cert_rules.specs.Places.{cost_of}
use Rattle.cert_effects.specs.Written.{Written, ReadsOnly}
use Rattle.cert_effects.specs.Knows.{value_of}
use Rattle.cert_effects.proofs.Values.{equal_numbers, not_special}
use Rattle.cert_effects.proofs.Stack.{Stacked, values_stay, stack_region, no_odd}

-- ---- MOV @SP+,PC

abbrev pub return_back : Instr
return_back = Two MOV false (AtPlus 1) (ToReg 0)

pub record Returned (b : Board) (input : List ℕ) (s : State) (ret : ℕ) (rs : List ℕ) : Type 0 where
  pub allowed : access_fault s return_back ≡ None
  pub costs : (κ : Known) → cost b s return_back ≡ cost_of b κ return_back
  pub reads : (w : Written) → ReadsOnly w s return_back
  pub phase : (done input return_back (begun (cost b s return_back) return_back s)).phase ≡ s.phase
  pub pc : (done input return_back (begun (cost b s return_back) return_back s)).reg 0 ≡ ret
  pub code : (done input return_back (begun (cost b s return_back) return_back s)).code ≡ s.code
  pub charge : (done input return_back (begun (cost b s return_back) return_back s)).charge ≡ s.charge - cost b s return_back
  pub stacked : Stacked (done input return_back (begun (cost b s return_back) return_back s)) rs
  pub values : (x : Slot) → value_of (done input return_back (begun (cost b s return_back) return_back s)) x ≡ value_of s x

module _ (b : Board) (input : List ℕ) (s : State) (ret : ℕ) (rs : List ℕ) (few : length (ret ∷ rs) ≤ 64) (stacked : Stacked s (ret ∷ rs)) where
  abbrev c : ℕ
  c = cost b s return_back

  -- where the return address is
  abbrev top : ℕ
  top = s.reg 1

  abbrev t : State
  t = done input return_back (begun c return_back s)

  abbrev behind : ℕ
  behind = (s.reg 0 + 2) % 65536

  -- the state behind it, as the word is one of FRAM
  abbrev u : State
  u = record s { charge = s.charge - c; reg = set_at (set_at (set_at s.reg 0 behind) 1 ((top + 2) % 65536)) 0 ret }

  half_is : top / 2 ≡ 0x4000 - length (ret ∷ rs)
  half_is = omega (arith, stacked.sp, few)

  in_fram : region top ≡ Fram
  in_fram = stack_region top (omega (arith, stacked.sp, few)) (omega (arith, stacked.sp))

  word_is : s.fram (top / 2) ≡ ret
  word_is = ap s.fram half_is ∙ stacked.words.0

  -- the state behind it, by the region of its word
  abbrev by_region : Region → ℕ → State
  by_region q v =
      let s1 : State = after_read_in q (begun c return_back s) in
      let s2 : State = with_register s1 1 ((register s1 1 + 2) % 65536) in
      with_register s2 0 v

  is : t ≡ u
  is =
      ap (λ q. by_region q (read_in q input false (begun c return_back s) top)) in_fram
      ∙ ap (λ q. by_region Fram (word_in q (begun c return_back s) top)) in_fram
      ∙ ap (λ v. by_region Fram v) word_is

  registers : (r : ℕ) → is_general r ≡ true → u.reg r ≡ s.reg r
  registers r g =
      ap (λ d. if d then ret else if r == 1 then (top + 2) % 65536 else if r == 0 then behind else s.reg r) (not_special r 0 g (omega arith))
      ∙ ap (λ d. if d then (top + 2) % 65536 else if r == 0 then behind else s.reg r) (not_special r 1 g (omega arith))
      ∙ ap (λ d. if d then behind else s.reg r) (not_special r 0 g (omega arith))

  even : top % 2 ≡ 0
  even = omega (arith, stacked.sp, few)

  pub returned : Returned b input s ret rs
  returned = record {
    allowed =
        ap (λ d. first_of (if d then Some Odd else if d then Some Odd else fault_in (region top) AsSource false top) None) (no_odd top even) ∙ ap (λ q. first_of (fault_in q AsSource false top) None) in_fram;
    costs = λ κ. ap (λ q. b.core.move_ + b.access.fetch * length_of return_back + read_cost_in b q + 0) in_fram;
    reads = λ w. record {
      registers = λ r lo hi e. absurd (⊎_elim (λ same. omega (arith, lo, same)) (λ x. let bad : false ≡ true = x.0 in cc) e);
      words = λ a lo hi e. absurd (⊎_elim (λ x. (let at : top / 2 * 2 ≡ a = equal_numbers (top / 2 * 2) a x in omega (arith, at, hi, half_is, few))) (λ x. let bad : false ≡ true = x.0 in cc) e);
      flags = λ e. absurd (let bad : false ≡ true = e in cc);
    };
    phase = ap (λ z. z.phase) is;
    pc = ap (λ z. z.reg 0) is;
    code = ap (λ z. z.code) is;
    charge = ap (λ z. z.charge) is;
    stacked = subst (λ z. Stacked z rs) (sym is) (record { sp = omega (arith, stacked.sp, few); words = stacked.words.1 });
    values = λ x. ap (λ z. value_of z x) is ∙ values_stay s u x registers refl (λ k low high. refl);
  }
