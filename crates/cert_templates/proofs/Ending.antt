-- What ends the program: a trap, and Finish.
use Rattle.std.proofs.Common.{◌≡◌, ℕ, ◌+◌, ◌*◌, ◌≤◌, true, false, Option, Some, None, refl, sym, ap, subst}
use Rattle.std.specs.Prelude.{pos, not, ◌&&◌, ◌||◌}
use Rattle.std.specs.Int.Signed.{le_z}
use Rattle.certificate.specs.declared.cert.Slot.TheVariants.{Word}
use Rattle.certificate.specs.Rows.{Flat}
use Rattle.msp430_isa.specs.declared.instr.Src.{Src}
use Rattle.msp430_isa.specs.declared.instr.Src.TheVariants.{Reg as FromReg}
use Rattle.msp430_isa.specs.declared.instr.Dst.TheVariants.{Abs as ToAbs}
use Rattle.msp430_isa.specs.declared.instr.TwoOp.TheVariants.{Mov as MOV}
use Rattle.msp430_isa.specs.declared.instr.Instr.TheVariants.{Two}
use Rattle.msp430_isa.specs.Encoding.{length_of}
use Rattle.msp430_machine.specs.Addresses.{end_port, trap_port}
use Rattle.msp430_machine.specs.Cost.{instruction_cost}
use Rattle.op_cost.specs.Templates.{constant, trap, stores}
use Rattle.cert_rules.specs.Ranges.{any_word}
use Rattle.cert_rules.specs.Slots.{is_memory, in_spans}
use Rattle.cert_rules.specs.Known.{Known, with_cost, is_set}
use Rattle.cert_rules.specs.Places.{InReach, one_address, source_place}
use Rattle.cert_rules.specs.Effects.{computed, leaves_flags, test_of}
use Rattle.cert_rules.specs.Outcomes.{Ends, may_end}
use Rattle.cert_rules.specs.Sheet.{Sheet}
use Rattle.cert_rules.specs.Shapes.{turns_at}
use Rattle.cert_rules.specs.Going.{greatest_spent, limit_of}
use Rattle.cert_pieces.specs.Pieces.{Has, Affords, Begins, Stands, Here, Named, Free, puts_word, puts}
use Rattle.cert_pieces.proofs.Paying.{affords_puts, affords_fresh, pays_end}
use Rattle.cert_pieces.proofs.Stepping.{ends_on}
use Rattle.cert_pieces.proofs.Writing.{after_words}
use Rattle.cert_pieces.proofs.Straight.{WordIs, word_own, word_computed, word_cost, source_word}
use Rattle.cert_templates.proofs.Templates.{constant_reads}

-- a write of a port that ends the program
pub ends_here : (t : Sheet) (a more : ℕ) (src : Src) (d : ℕ) (s : Known) → Stands t a (Two MOV false src (ToAbs d)) → WordIs t s MOV src d
    → ((κ : Known) → may_end true (InReach (one_address d)) κ ≡ Ends κ) → ((κ : Known) → test_of MOV (source_place κ src) (InReach (one_address d)) ≡ None)
    → Free (Word d) s.spent.terms → Affords t (instruction_cost t.board (Two MOV false src (ToAbs d)) + more) s
    → turns_at t (a + 2 * length_of (Two MOV false src (ToAbs d))) ≡ None → Begins t (a + 2 * length_of (Two MOV false src (ToAbs d))) → Here t a s
ends_here t a more src d s st is ends tests free affords turns begins incoming κ e has =
    let i = Two MOV false src (ToAbs d) in
    let c = instruction_cost t.board i in
    let asked = puts_word d any_word c (leaves_flags MOV || s.flags) None s in
    let pays : Affords t more asked = affords_fresh t d more (puts (Word d) any_word c (leaves_flags MOV || s.flags) None s) (affords_puts t (Word d) any_word c (leaves_flags MOV || s.flags) None s free more affords) in
    let after : Has asked (computed t.board i κ) = word_computed t.board c s κ MOV src d any_word None (word_cost t.board s κ MOV src d is.reads) refl is.reads (tests κ)
    (after_words (with_cost c κ) MOV (source_place κ src) (Word d) has.words (source_word s κ src is.reads)) free has in
    ends_on t a i incoming κ (computed t.board i κ) st e (word_own t a s κ MOV src d is has) (ends (computed t.board i κ))
    (subst (λ n. le_z (greatest_spent (computed t.board i κ)) (pos (limit_of t n)) ≡ true) (sym has.stretch) (pays_end t more asked (computed t.board i κ) pays after))
    turns begins

-- a flat function names words of memory alone
pub port_named : (o : Option Flat) (d : ℕ) → is_memory d ≡ false → Named o d
port_named None d h = tt
port_named (Some f) d h = ap (λ c. c && not (in_spans f.writes d)) h

abbrev pub IsTrap : ℕ → Type 0
IsTrap n = (n ≤ 65535) × ((κ : Known) → test_of MOV (source_place κ (constant n)) (InReach (one_address trap_port)) ≡ None)

pub traps_here : (t : Sheet) (a n more : ℕ) (s : Known) → Stands t a (trap n) → IsTrap n → Free (Word trap_port) s.spent.terms → Affords t (instruction_cost t.board (trap n) + more) s
    → turns_at t (a + 2 * length_of (trap n)) ≡ None → Begins t (a + 2 * length_of (trap n)) → Here t a s
traps_here t a n more s st is free affords turns begins =
    ends_here t a more (constant n) trap_port s st
    (record { even = refl; may = refl; named = port_named t.here.flat trap_port refl; reads = constant_reads s n is.0; fresh = refl; carries = refl })
    (λ κ. refl) is.1 free affords turns begins

pub finishes_here : (t : Sheet) (a more : ℕ) (s : Known) → Stands t a (stores 15 end_port) → is_set s 15 ≡ true → Free (Word end_port) s.spent.terms
    → Affords t (instruction_cost t.board (stores 15 end_port) + more) s
    → turns_at t (a + 2 * length_of (stores 15 end_port)) ≡ None → Begins t (a + 2 * length_of (stores 15 end_port)) → Here t a s
finishes_here t a more s st set free affords turns begins =
    ends_here t a more (FromReg 15) end_port s st
    (record { even = refl; may = refl; named = port_named t.here.flat end_port refl; reads = set; fresh = refl; carries = refl })
    (λ κ. refl) (λ κ. refl) free affords turns begins
