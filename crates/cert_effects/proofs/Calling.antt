-- What a call does: CALL #target.
use Rattle.std.proofs.Common.{◌≡◌, ℕ, ◌+◌, ◌-◌, ◌*◌, ◌/◌, ◌%◌, ◌<◌, true, false, Some, None, List, ◌∷◌, length, refl, sym, ap, ◌∙◌, subst, arith}
use Rattle.std.specs.Prelude.{if◌then◌else◌, ◌==◌}
use Rattle.board_table.specs.declared.board.Board.{Board}
use Rattle.certificate.specs.declared.cert.Slot.{Slot}
use Rattle.msp430_isa.specs.declared.instr.Src.TheVariants.{Imm}
use Rattle.msp430_isa.specs.declared.instr.OneOp.TheVariants.{Call as CALL}
use Rattle.msp430_isa.specs.declared.instr.Instr.{Instr}
use Rattle.msp430_isa.specs.declared.instr.Instr.TheVariants.{One}
use Rattle.msp430_isa.specs.Encoding.{length_of}
use Rattle.msp430_machine.specs.declared.answer.Why.TheVariants.{Odd}
use Rattle.msp430_machine.specs.declared.addresses.Region.TheVariants.{Fram}
use Rattle.msp430_machine.specs.Addresses.{region}
use Rattle.msp430_machine.specs.Access.{ByOther, fault_in, access_fault}
use Rattle.msp430_machine.specs.Cost.{cost, one_class, write_cost_in}
use Rattle.msp430_machine.specs.State.{State, set_at}
use Rattle.msp430_machine.specs.Memory.{written_in}
use Rattle.msp430_machine.specs.Execution.{gone_to, done}
use Rattle.msp430_machine.specs.Steps.{begun}
use Rattle.cert_rules.specs.Forms.{is_general}
use Rattle.cert_rules.specs.Known.{Known}
use Rattle.cert_rules.specs.Places.{cost_of}
use Rattle.cert_effects.specs.Written.{Written, ReadsOnly}
use Rattle.cert_effects.specs.Knows.{value_of}
use Rattle.cert_effects.proofs.Values.{not_special}
use Rattle.cert_effects.proofs.Stack.{Stacked, stack_same, values_stay, itself, above, under, stack_region, no_odd}

-- ---- CALL #target

abbrev pub call_to : ℕ → Instr
call_to target = One CALL false (Imm target)

pub record Entered (b : Board) (input : List ℕ) (target : ℕ) (s : State) (rs : List ℕ) : Type 0 where
  pub allowed : access_fault s (call_to target) ≡ None
  pub costs : (κ : Known) → cost b s (call_to target) ≡ cost_of b κ (call_to target)
  pub reads : (w : Written) → ReadsOnly w s (call_to target)
  pub phase : (done input (call_to target) (begun (cost b s (call_to target)) (call_to target) s)).phase ≡ s.phase
  pub pc : (done input (call_to target) (begun (cost b s (call_to target)) (call_to target) s)).reg 0 ≡ target
  pub code : (done input (call_to target) (begun (cost b s (call_to target)) (call_to target) s)).code ≡ s.code
  pub charge : (done input (call_to target) (begun (cost b s (call_to target)) (call_to target) s)).charge ≡ s.charge - cost b s (call_to target)
  pub stacked : Stacked (done input (call_to target) (begun (cost b s (call_to target)) (call_to target) s)) ((s.reg 0 + 4) % 65536 ∷ rs)
  pub values : (x : Slot) → value_of (done input (call_to target) (begun (cost b s (call_to target)) (call_to target) s)) x ≡ value_of s x

module _ (b : Board) (input : List ℕ) (target : ℕ) (s : State) (rs : List ℕ) (few : length rs < 64) (stacked : Stacked s rs) where
  abbrev c : ℕ
  c = cost b s (call_to target)

  -- where the return address goes
  abbrev top : ℕ
  top = (s.reg 1 + 65534) % 65536

  abbrev ret : ℕ
  ret = (s.reg 0 + 4) % 65536

  abbrev t : State
  t = done input (call_to target) (begun c (call_to target) s)

  -- the state behind it, as the word is one of FRAM
  abbrev u : State
  u = record s { charge = s.charge - c; reg = set_at (set_at (set_at s.reg 0 ret) 1 top) 0 target; fram = set_at s.fram (top / 2) ret }

  top_is : top ≡ 0x8000 - 2 * length (ret ∷ rs)
  top_is = omega (arith, stacked.sp, few)

  half_is : top / 2 ≡ 0x4000 - length (ret ∷ rs)
  half_is = omega (arith, top_is, few)

  in_fram : region top ≡ Fram
  in_fram = stack_region top (omega (arith, top_is, few)) (omega (arith, top_is))

  is : t ≡ u
  is = ap (λ q. gone_to (written_in q (record (begun c (call_to target) s) { reg = set_at (begun c (call_to target) s).reg 1 top }) top ret) target) in_fram

  -- R4 to R15
  registers : (r : ℕ) → is_general r ≡ true → u.reg r ≡ s.reg r
  registers r g =
      ap (λ d. if d then target else if r == 1 then top else if r == 0 then ret else s.reg r) (not_special r 0 g (omega arith))
      ∙ ap (λ d. if d then top else if r == 0 then ret else s.reg r) (not_special r 1 g (omega arith))
      ∙ ap (λ d. if d then ret else s.reg r) (not_special r 0 g (omega arith))

  pub entered : Entered b input target s rs
  entered = record {
    allowed =
        (let even : top % 2 ≡ 0 = omega (arith, top_is, few) in
        ap (λ d. if d then Some Odd else fault_in (region top) ByOther false top) (no_odd top even) ∙ ap (λ q. fault_in q ByOther false top) in_fram);
    costs = λ κ. ap (λ q. one_class b CALL + b.access.fetch * length_of (call_to target) + 0 + write_cost_in b q) in_fram;
    reads = λ w. record { registers = λ r lo hi e. absurd e; words = λ a lo hi e. absurd (let bad : false ≡ true = e in cc); flags = λ e. absurd (let bad : false ≡ true = e in cc) };
    phase = ap (λ z. z.phase) is;
    pc = ap (λ z. z.reg 0) is;
    code = ap (λ z. z.code) is;
    charge = ap (λ z. z.charge) is;
    stacked = subst (λ z. Stacked z (ret ∷ rs)) (sym is) (record {
      sp = top_is;
      words = (
        ap (λ k. if k == top / 2 then ret else s.fram k) (sym half_is) ∙ ap (λ d. if d then ret else s.fram (top / 2)) (itself (top / 2)),
        stack_same s.fram u.fram rs (omega (arith, few)) (λ k low high. ap (λ d. if d then ret else s.fram k) (above k (top / 2) (omega (arith, half_is, low, few)))) stacked.words,
      );
    });
    values = λ x. ap (λ z. value_of z x) is ∙ values_stay s u x registers refl (λ k low high. ap (λ d. if d then ret else s.fram k) (under k (top / 2) (omega (arith, half_is, high, few))));
  }
