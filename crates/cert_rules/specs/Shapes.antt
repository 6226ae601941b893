-- The rules before an instruction's own: that it is come to, what a loop's counter begins with, and its form.
use Rattle.std.specs.Prelude.{ℕ, ◌+◌, ◌-◌, ◌*◌, ◌==◌, false, not, ◌&&◌, Option, Some, None, is_some, pos, if◌then◌else◌}
use Rattle.certificate.specs.declared.cert.StretchRow.{StretchRow}
use Rattle.certificate.specs.Rows.{Point}
use Rattle.msp430_isa.specs.declared.instr.Src.{Src}
use Rattle.msp430_isa.specs.declared.instr.Src.TheVariants.{Imm}
use Rattle.msp430_isa.specs.declared.instr.Dst.TheVariants.{Reg as ToReg}
use Rattle.msp430_isa.specs.declared.instr.TwoOp.TheVariants.{Mov as MOV}
use Rattle.msp430_isa.specs.declared.instr.Instr.TheVariants.{Two}
use Rattle.msp430_isa.specs.Encoding.{length_of}
use Rattle.cert_rules.specs.declared.Rule.TheVariants.{Gap, Turns, Form}
use Rattle.cert_rules.specs.Words.{word_in, shown}
use Rattle.cert_rules.specs.Faults.{Fault, unless}
use Rattle.cert_rules.specs.Known.{Known}
use Rattle.cert_rules.specs.Forms.{is_form}
use Rattle.cert_rules.specs.Tables.{head_at, point_at, row_at}
use Rattle.cert_rules.specs.Sheet.{Sheet, holds_words, any_point, fits_here}
use Rattle.cert_rules.specs.Standing.{Standing, ACopy, AnInstruction, Nothing}

abbrev pub gap_fault : Sheet → ℕ → ℕ → Option Known → Option Fault
gap_fault t a bytes incoming = unless (is_some incoming && not (any_point t (a + 1) (bytes - 1))) Gap a (pos a) (pos 0)

-- the number of turns that a loop whose first point stands here begins with
abbrev pub turns_of_stretch : Sheet → ℕ → Option StretchRow → Option Point → Option ℕ
turns_of_stretch t a (Some s) (Some p) = if not (s.turns == 0) && p.address == a then Some s.turns else None
turns_of_stretch t a s p = None

abbrev pub turns_at_point : Sheet → ℕ → Option Point → Option ℕ
turns_at_point t a None = None
turns_at_point t a (Some p) = turns_of_stretch t a (head_at t.stretches p.stretch) (row_at (λ q. q.stretch) t.points p.stretch)

abbrev pub turns_at : Sheet → ℕ → Option ℕ
turns_at t a = turns_at_point t a (point_at t.points a)

-- the number that MOV #n,R10 gives, and 0 for all else
abbrev pub counter_source : Src → ℕ
counter_source (Imm n) = n
counter_source src = 0

abbrev pub counter_of : Standing → ℕ
counter_of (AnInstruction (Two MOV false src (ToReg r))) = if r == 10 then counter_source src else 0
counter_of s = 0

abbrev pub turns_fault : ℕ → ℕ → Option ℕ → Option Fault
turns_fault a found None = None
turns_fault a found (Some n) = unless (found == n) Turns a (pos found) (pos n)

abbrev pub form_fault : Sheet → ℕ → Standing → Option Fault
form_fault t a (ACopy c) = None
form_fault t a (AnInstruction i) = unless (fits_here t a (2 * length_of i) && holds_words t a (length_of i) && is_form i) Form a (shown (word_in t.blocks a)) (pos 0)
form_fault t a Nothing = unless false Form a (shown (word_in t.blocks a)) (pos 0)
