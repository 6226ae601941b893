-- The instructions that templates have in common, where no more than registers and words without terms are asked of.
use Rattle.std.proofs.Common.{◌≡◌, ℕ, ◌≤◌, true, false, Option, None, refl}
use Rattle.std.specs.Prelude.{◌||◌}
use Rattle.certificate.specs.declared.cert.Slot.TheVariants.{Reg, Word}
use Rattle.msp430_isa.specs.declared.instr.Src.{Src}
use Rattle.msp430_isa.specs.declared.instr.Src.TheVariants.{Reg as FromReg, Short}
use Rattle.msp430_isa.specs.declared.instr.TwoOp.{TwoOp}
use Rattle.msp430_isa.specs.declared.instr.TwoOp.TheVariants.{Mov as MOV, Cmp as CMP}
use Rattle.msp430_isa.specs.Results.{writes_destination}
use Rattle.msp430_machine.specs.Cost.{instruction_cost}
use Rattle.flow_graph.specs.declared.graph.Operand.{Operand}
use Rattle.op_cost.specs.Templates.{Homes, by, loads, stores, source}
use Rattle.cert_rules.specs.Ranges.{any_word}
use Rattle.cert_rules.specs.Forms.{Computes, kind_of}
use Rattle.cert_rules.specs.Known.{Known, Test, is_set}
use Rattle.cert_rules.specs.Places.{InReg, source_place}
use Rattle.cert_rules.specs.Accesses.{is_kept}
use Rattle.cert_rules.specs.Effects.{leaves_flags, test_of}
use Rattle.cert_rules.specs.Sheet.{Sheet}
use Rattle.cert_pieces.specs.Pieces.{Passes, Free, ReadsFrom, ReadsRegister, puts, puts_word, compares}
use Rattle.cert_templates.specs.Frames.{OperandFits, WordFits}
use Rattle.cert_pieces.proofs.Straight.{any_passes, compare_passes, word_passes}
use Rattle.cert_templates.proofs.Templates.{operand_reads, moves_untested}
use Rattle.cert_pieces.proofs.Bare.{gone, lost_all}

-- an operand goes to a register
pub loads_word : (t : Sheet) (homes : Homes) (r : ℕ) (o : Operand) (s : Known) → kind_of (by MOV (source homes o) r) ≡ Computes → is_kept r ≡ false → writes_destination MOV ≡ true
    → OperandFits homes s.fresh o → Free (Reg r) s.spent.terms
    → Passes t gone (loads homes r o) (instruction_cost t.board (loads homes r o)) s (puts (Reg r) any_word (instruction_cost t.board (loads homes r o)) s.flags None s)
loads_word t homes r o s computes lost writes fits free =
    any_passes t gone s MOV (source homes o) r None (record { computes = computes; lost = lost; reads = operand_reads homes s o fits; has = (refl, refl) }) writes
    (λ κ. moves_untested (source_place κ (source homes o)) r) free (lost_all (Reg r))

-- an instruction that writes a register
pub writes_register : (t : Sheet) (op : TwoOp) (src : Src) (r : ℕ) (s : Known) → kind_of (by op src r) ≡ Computes → is_kept r ≡ false → writes_destination op ≡ true → ReadsFrom s src → ReadsRegister s op r
    → ((κ : Known) → test_of op (source_place κ src) (InReg r) ≡ None) → Free (Reg r) s.spent.terms
    → Passes t gone (by op src r) (instruction_cost t.board (by op src r)) s (puts (Reg r) any_word (instruction_cost t.board (by op src r)) (leaves_flags op || s.flags) None s)
writes_register t op src r s computes lost writes reads has tests free =
    any_passes t gone s op src r None (record { computes = computes; lost = lost; reads = reads; has = has }) writes tests free (lost_all (Reg r))

-- a generator's constant goes to a register
pub puts_constant : (t : Sheet) (r v : ℕ) (s : Known) → kind_of (by MOV (Short v) r) ≡ Computes → is_kept r ≡ false → v ≤ 65535 → Free (Reg r) s.spent.terms
    → Passes t gone (by MOV (Short v) r) (instruction_cost t.board (by MOV (Short v) r)) s (puts (Reg r) any_word (instruction_cost t.board (by MOV (Short v) r)) s.flags None s)
puts_constant t r v s computes lost few free = writes_register t MOV (Short v) r s computes lost refl few (refl, refl) (λ κ. moves_untested (source_place κ (Short v)) r) free

-- a register goes to a word
pub stores_word : (t : Sheet) (d r : ℕ) (s : Known) → is_set s r ≡ true → WordFits t d s → Free (Word d) s.spent.terms
    → Passes t gone (stores r d) (instruction_cost t.board (stores r d)) s (puts_word d any_word (instruction_cost t.board (stores r d)) s.flags None s)
stores_word t d r s set fits free =
    word_passes t gone s MOV (FromReg r) d None (record { even = fits.even; may = fits.may; named = fits.named; reads = set; fresh = refl; carries = refl }) fits.goes_on refl
    (λ κ. refl) free (lost_all (Word d))

-- a register is compared with another, or with a constant
pub compares_register : (t : Sheet) (src : Src) (r : ℕ) (test : Option Test) (s : Known) → kind_of (by CMP src r) ≡ Computes → is_kept r ≡ false → ReadsFrom s src → is_set s r ≡ true
    → ((κ : Known) → test_of CMP (source_place κ src) (InReg r) ≡ test)
    → Passes t gone (by CMP src r) (instruction_cost t.board (by CMP src r)) s (compares (instruction_cost t.board (by CMP src r)) test s)
compares_register t src r test s computes lost reads set tests =
    compare_passes t gone s CMP src r test (record { computes = computes; lost = lost; reads = reads; has = (set, refl) }) refl refl tests
