-- The table read by fields: what it gives for an instruction's words, and from which words it gives an instruction.
use Rattle.std.proofs.Common.{◌≡◌, ℕ, ◌+◌, ◌*◌, ◌/◌, ◌%◌, ◌<◌, ◌≤◌, true, false, Some, ap, ◌∙◌, subst, arith, List, [], ◌∷◌, ℤ}
use Rattle.std.specs.Prelude.{◌==◌, if◌then◌else◌, Bool, Option}
use Rattle.std.specs.Option.{option_map}
use Rattle.std.proofs.lemmas.Bool.{eqb-true, ne_eqb, and_from, cond_both}
use Rattle.msp430_isa.specs.declared.instr.TwoOp.{TwoOp}
use Rattle.msp430_isa.specs.declared.instr.OneOp.{OneOp}
use Rattle.msp430_isa.specs.declared.instr.Cond.{Cond}
use Rattle.msp430_isa.specs.declared.instr.Src.{Src}
use Rattle.msp430_isa.specs.declared.instr.Dst.{Dst}
use Rattle.msp430_isa.specs.declared.instr.Instr.{Instr}
use Rattle.msp430_isa.specs.declared.instr.Instr.TheVariants.{Two, One, Jump}
use Rattle.msp430_isa.specs.Fields.{two_opcode, one_opcode, condition, offset_bits, width_bit, source_mode, source_register, source_words, destination_mode, destination_register, destination_words}
use Rattle.msp430_isa.specs.Encoding.{two_word, one_word, jump_word}
use Rattle.msp430_isa.specs.Profile.{is_source, is_destination, numbers_fit, offset_fits}
use Rattle.msp430_isa.specs.Decoding.{two_op_at, one_op_at, cond_at, offset_at, source_at, destination_at, behind, jump_at, one_at, two_at, table_at}
use Rattle.msp430_isa.proofs.Passed.{map_some}
use Rattle.msp430_isa.proofs.Fields.{TwoFields, two_fields, two_sum, OneFields, one_fields, one_sum, JumpFields, jump_fields, jump_sum}
use Rattle.msp430_isa.proofs.Lists.{Takes}
use Rattle.msp430_isa.proofs.Operands.{source_back, source_register_low, source_mode_low, destination_back, destination_register_low, destination_mode_low, SourceFields, source_kept, DestinationFields, destination_kept}
use Rattle.msp430_isa.proofs.Opcodes.{two_op_back, two_opcode_bounds, one_op_back, one_opcode_low, cond_back, condition_low, width_back, width_low, offset_back, offset_bits_low, two_op_kept, one_op_kept, cond_kept, offset_kept, width_kept}

-- w, x and y begin with the instruction's words
abbrev pub Written : Instr → ℕ → ℕ → ℕ → Type 0
Written (Two op byte src dst) w x y = (w ≡ two_word op byte src dst) × Takes (source_words src) x × Takes (destination_words dst) (behind (source_words src) x y)
Written (One op byte src) w x y = (w ≡ one_word op byte src) × Takes (source_words src) x
Written (Jump on words) w x y = w ≡ jump_word on words

-- ---- From an instruction to its words and back

abbrev two_from : TwoOp → ℕ → ℕ → ℕ → ℕ → ℕ → ℕ → ℕ → Instr
two_from op x y r m b s d = let src = source_at s r x in Two op (b == 1) src (destination_at m d (behind (source_words src) x y))

pub two_read : (op : TwoOp) (byte : Bool) (src : Src) (dst : Dst) (x y : ℕ) → is_source src ≡ true → is_destination dst ≡ true → Takes (source_words src) x → Takes (destination_words dst) (behind (source_words src) x y) → table_at (two_word op byte src dst) x y ≡ Some (Two op byte src dst)
two_read op byte src dst x y hs hd ts td =
    let w = two_word op byte src dst in
    let r = source_register src in
    let m = destination_mode dst in
    let b = width_bit byte in
    let s = source_mode src in
    let d = destination_register dst in
    let bounds : (4 ≤ two_opcode op) × (two_opcode op < 16) = two_opcode_bounds op in
    let f : TwoFields w (two_opcode op) r m b s d = two_fields (two_opcode op) r m b s d (source_register_low src hs) (destination_mode_low dst) (width_low byte) (source_mode_low src hs) (destination_register_low dst hd) in
    let no_jump : (w / 8192 == 1) ≡ false = ne_eqb (w / 8192) 1 (omega arith) in
    let not_one : (w / 1024 == 4) ≡ false = ne_eqb (w / 1024) 4 (omega arith) in
    ap (λ c. if c then Some (jump_at w) else if w / 1024 == 4 then option_map (one_at w x) (one_op_at (w / 128 % 8)) else option_map (two_at w x y) (two_op_at (w / 4096))) no_jump
    ∙ ap (λ c. if c then option_map (one_at w x) (one_op_at (w / 128 % 8)) else option_map (two_at w x y) (two_op_at (w / 4096))) not_one
    ∙ ap (λ n. option_map (two_at w x y) (two_op_at n)) f.opcode
    ∙ ap (λ o. option_map (two_at w x y) o) (two_op_back op)
    ∙ ap (λ n. Some (two_from op x y n (w / 128 % 2) (w / 64 % 2) (w / 16 % 4) (w % 16))) f.source
    ∙ ap (λ n. Some (two_from op x y r n (w / 64 % 2) (w / 16 % 4) (w % 16))) f.indexed
    ∙ ap (λ n. Some (two_from op x y r m n (w / 16 % 4) (w % 16))) f.width
    ∙ ap (λ n. Some (two_from op x y r m b n (w % 16))) f.mode
    ∙ ap (λ n. Some (two_from op x y r m b s n)) f.destination
    ∙ ap (λ c. Some (Two op c (source_at s r x) (destination_at m d (behind (source_words (source_at s r x)) x y)))) (width_back byte)
    ∙ ap (λ o. Some (Two op byte o (destination_at m d (behind (source_words o) x y)))) (source_back src x hs ts)
    ∙ ap (λ o. Some (Two op byte src o)) (destination_back dst (behind (source_words src) x y) hd td)

pub one_read : (op : OneOp) (byte : Bool) (src : Src) (x y : ℕ) → is_source src ≡ true → Takes (source_words src) x → table_at (one_word op byte src) x y ≡ Some (One op byte src)
one_read op byte src x y hs ts =
    let w = one_word op byte src in
    let r = source_register src in
    let b = width_bit byte in
    let s = source_mode src in
    let low : one_opcode op < 8 = one_opcode_low op in
    let f : OneFields w (one_opcode op) b s r = one_fields (one_opcode op) b s r low (width_low byte) (source_mode_low src hs) (source_register_low src hs) in
    let format : w / 1024 ≡ 4 = f.format in
    let no_jump : (w / 8192 == 1) ≡ false = ne_eqb (w / 8192) 1 (omega arith) in
    ap (λ c. if c then Some (jump_at w) else if w / 1024 == 4 then option_map (one_at w x) (one_op_at (w / 128 % 8)) else option_map (two_at w x y) (two_op_at (w / 4096))) no_jump
    ∙ ap (λ n. if n == 4 then option_map (one_at w x) (one_op_at (w / 128 % 8)) else option_map (two_at w x y) (two_op_at (w / 4096))) format
    ∙ ap (λ n. option_map (one_at w x) (one_op_at n)) f.opcode
    ∙ ap (λ o. option_map (one_at w x) o) (one_op_back op)
    ∙ ap (λ n. Some (One op (n == 1) (source_at (w / 16 % 4) (w % 16) x))) f.width
    ∙ ap (λ n. Some (One op (b == 1) (source_at n (w % 16) x))) f.mode
    ∙ ap (λ n. Some (One op (b == 1) (source_at s n x))) f.register
    ∙ ap (λ c. Some (One op c (source_at s r x))) (width_back byte)
    ∙ ap (λ o. Some (One op byte o)) (source_back src x hs ts)

pub jump_read : (on : Cond) (z : ℤ) (x y : ℕ) → offset_fits z ≡ true → table_at (jump_word on z) x y ≡ Some (Jump on z)
jump_read on z x y h =
    let w = jump_word on z in
    let f : JumpFields w (condition on) (offset_bits z) = jump_fields (condition on) (offset_bits z) (condition_low on) (offset_bits_low z h) in
    ap (λ n. if n == 1 then Some (jump_at w) else if w / 1024 == 4 then option_map (one_at w x) (one_op_at (w / 128 % 8)) else option_map (two_at w x y) (two_op_at (w / 4096))) f.format
    ∙ ap (λ n. Some (Jump (cond_at n) (offset_at (w % 1024)))) f.condition
    ∙ ap (λ n. Some (Jump (cond_at (condition on)) (offset_at n))) f.offset
    ∙ ap (λ o. Some (Jump o (offset_at (offset_bits z)))) (cond_back on)
    ∙ ap (λ o. Some (Jump on o)) (offset_back z h)

-- ---- From words to an instruction and back

abbrev Kept : Instr → ℕ → ℕ → ℕ → Type 0
Kept i w x y = Written i w x y × (numbers_fit i ≡ true)

along : {A : Type 0} (P : A → Type 0) (a b : A) → Some a ≡ Some b → P a → P b
along P a b e p = subst P (let inner : a ≡ b = cc in inner) p

two_kept : (w x y : ℕ) (op : TwoOp) → x < 65536 → y < 65536 → two_opcode op ≡ w / 4096 → Kept (two_at w x y op) w x y
two_kept w x y op hx hy e =
    let src = source_at (w / 16 % 4) (w / 256 % 16) x in
    let next = behind (source_words src) x y in
    let low : next < 65536 = behind_low (source_words src) x y hx hy in
    let s : SourceFields (w / 16 % 4) (w / 256 % 16) x src = source_kept (w / 16 % 4) (w / 256 % 16) x (omega arith) hx in
    let d : DestinationFields (w / 128 % 2) (w % 16) next (destination_at (w / 128 % 2) (w % 16) next) = destination_kept (w / 128 % 2) (w % 16) next (omega arith) low in
    let b : width_bit (w / 64 % 2 == 1) ≡ w / 64 % 2 = width_kept (w / 64 % 2) (omega arith) in
    let sum : w ≡ w / 4096 * 4096 + w / 256 % 16 * 256 + w / 128 % 2 * 128 + w / 64 % 2 * 64 + w / 16 % 4 * 16 + w % 16 = two_sum w in
    ((omega (arith, sum, e, s.register, s.mode, d.register, d.mode, b), s.takes, d.takes), and_from _ _ s.fits d.fits) where
      behind_low : (l : List ℕ) (a c : ℕ) → a < 65536 → c < 65536 → behind l a c < 65536
      behind_low [] a c h k = h
      behind_low (v ∷ l) a c h k = k

one_kept : (w x y : ℕ) (op : OneOp) → x < 65536 → w / 1024 ≡ 4 → one_opcode op ≡ w / 128 % 8 → Kept (one_at w x op) w x y
one_kept w x y op hx format e =
    let src = source_at (w / 16 % 4) (w % 16) x in
    let s : SourceFields (w / 16 % 4) (w % 16) x src = source_kept (w / 16 % 4) (w % 16) x (omega arith) hx in
    let b : width_bit (w / 64 % 2 == 1) ≡ w / 64 % 2 = width_kept (w / 64 % 2) (omega arith) in
    let sum : w ≡ 4096 + w / 128 % 8 * 128 + w / 64 % 2 * 64 + w / 16 % 4 * 16 + w % 16 = one_sum w format in
    ((omega (arith, sum, e, s.register, s.mode, b), s.takes), s.fits)

jump_kept : (w x y : ℕ) → w / 8192 ≡ 1 → Kept (jump_at w) w x y
jump_kept w x y format =
    let c : condition (cond_at (w / 1024 % 8)) ≡ w / 1024 % 8 = cond_kept (w / 1024 % 8) (omega arith) in
    let o = offset_kept (w % 1024) (omega arith) in
    let sum : w ≡ 8192 + w / 1024 % 8 * 1024 + w % 1024 = jump_sum w format in
    (omega (arith, sum, c, o.0), o.1)

pub table_kept : (w x y : ℕ) (i : Instr) → x < 65536 → y < 65536 → table_at w x y ≡ Some i → Kept i w x y
table_kept w x y i hx hy =
    let P = λ (o : Option Instr). o ≡ Some i → Kept i w x y in
    let K = λ (j : Instr). Kept j w x y in
    cond_both (w / 8192 == 1) (Some (jump_at w)) _ P
    (λ e. λ is. along K (jump_at w) i is (jump_kept w x y (eqb-true (w / 8192) 1 e)))
    (λ n. cond_both (w / 1024 == 4) (option_map (one_at w x) (one_op_at (w / 128 % 8))) (option_map (two_at w x y) (two_op_at (w / 4096))) P
    (λ e. λ is. let (op, was, gives) = map_some (one_at w x) (one_op_at (w / 128 % 8)) i is in subst K gives (one_kept w x y op hx (eqb-true (w / 1024) 4 e) (one_op_kept (w / 128 % 8) op was)))
    (λ n'. λ is. let (op, was, gives) = map_some (two_at w x y) (two_op_at (w / 4096)) i is in subst K gives (two_kept w x y op hx hy (two_op_kept (w / 4096) op was))))
