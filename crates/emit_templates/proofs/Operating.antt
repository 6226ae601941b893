-- Operations of one or two operands: load, work, store.
use Rattle.std.proofs.Common.{◌≡◌, ℕ, ◌+◌, ◌<◌, ◌⊎◌, Bool, true, false, List, [], ◌∷◌, ◌++◌, refl, sym, ap, ◌∙◌, subst, arith, inl, inr}
use Rattle.board_table.specs.declared.board.Board.{Board}
use Rattle.msp430_isa.specs.declared.instr.Instr.{Instr}
use Rattle.msp430_isa.specs.Encoding.{length_of}
use Rattle.msp430_isa.specs.Profile.{in_profile}
use Rattle.msp430_machine.specs.declared.addresses.Region.{Region}
use Rattle.msp430_machine.specs.State.{Trapped, State, register}
use Rattle.msp430_machine.specs.Memory.{written}
use Rattle.msp430_machine.specs.Steps.{begun}
use Rattle.c_values.specs.Values.{Worked, Gives, Traps}
use Rattle.msp430_machine.specs.Cost.{instruction_cost}
use Rattle.flow_graph.specs.declared.graph.Operand.{Operand}
use Rattle.flow_graph.specs.declared.graph.OpKind.{OpKind}
use Rattle.flow_graph.specs.declared.graph.OpKind.TheVariants as kind
use Rattle.flow_graph.specs.Operations.{gives}
use Rattle.op_cost.specs.Templates.{Counted, Homes, weight_of, code_of, once, loads, stores, core, result}
use Rattle.msp430_machine.proofs.Memories.{IsAt, is_word}
use Rattle.emit_templates.specs.Placed.{operand_at}
use Rattle.emit_templates.proofs.Steps.{Steps, Now, Stand}
use Rattle.emit_templates.proofs.Moves.{OperandFits, at_small, load_goes, store_goes, Stops}
use Rattle.emit_templates.proofs.Cores.{words_of_code, stand_behind, IsUnary, IsBinary, Result, unary_core_goes, binary_core_goes}

-- ---- Code and weight of a core and what follows it

code_then : (xs : List Counted) (i : Instr) (rest : List Instr) → code_of (xs ++ once (i ∷ [])) ++ rest ≡ code_of xs ++ (i ∷ rest)
code_then [] i rest = refl
code_then (x ∷ xs) i rest = ap (λ is. x.instr ∷ is) (code_then xs i rest)

weight_then : (b : Board) (xs : List Counted) (i : Instr) (need : ℕ) → weight_of b (xs ++ once (i ∷ [])) + need ≡ weight_of b xs + (instruction_cost b i + need)
weight_then b [] i need = omega arith
weight_then b (x ∷ xs) i need = omega (arith, weight_then b xs i need)

words_then : (xs : List Counted) (i : Instr) → words_of_code (code_of (xs ++ once (i ∷ []))) ≡ words_of_code (code_of xs) + length_of i
words_then [] i = omega arith
words_then (x ∷ xs) i = omega (arith, words_then xs i)

-- the result is in R15 or in R13
is_result : (op : OpKind) → (result op ≡ 15) ⊎ (result op ≡ 13)
is_result kind.Mul = inr refl
is_result kind.RemU = inr refl
is_result kind.RemS = inr refl
is_result kind.Eq = inr refl
is_result kind.Ne = inr refl
is_result kind.LtS = inr refl
is_result kind.LtU = inr refl
is_result kind.LeS = inr refl
is_result kind.LeU = inr refl
is_result _ = inl refl

store_fits : (r a : ℕ) → (r ≡ 15) ⊎ (r ≡ 13) → a < 65536 → in_profile (stores r a) ≡ true
store_fits r a (inl e) low = ap (λ x. in_profile (stores x a)) e ∙ is_word a low
store_fits r a (inr e) low = ap (λ x. in_profile (stores x a)) e ∙ is_word a low

holds_result : (r a c w : ℕ) (s : State) → (r ≡ 15) ⊎ (r ≡ 13) → s.reg r ≡ w → register (begun c (stores r a) s) r ≡ w
holds_result r a c w s (inl e) h = ap (λ x. register (begun c (stores r a) s) x) e ∙ ap s.reg (sym e) ∙ h
holds_result r a c w s (inr e) h = ap (λ x. register (begun c (stores r a) s) x) e ∙ ap s.reg (sym e) ∙ h

module _ (b : Board) (input : List ℕ) (s0 : State) (p0 : List ℕ) (W : Bool → ℕ → State → List ℕ → Type 0) (steps : Steps b input s0 p0 W) where
  -- what has to be shown of an operation that writes its result at an address
  abbrev pub Results : (a need taken k : ℕ) → Worked → Type 0
  Results a need taken k (Gives w) = (s' : State) → Now (written false s0 a w) taken k s' → W true need s' p0
  Results a need taken k (Traps t) = (s' : State) → Stops s0 taken (Trapped t) s' → W true 0 s' p0

  stored_result : (op : OpKind) (a need taken k : ℕ) (g : Region) (rest : List Instr) (x : Worked) → IsAt a g → Stand s0.code k (stores (result op) a ∷ rest) → Results a need taken (k + 2) x
      → Result b input s0 p0 W steps (result op) (instruction_cost b (stores (result op) a) + need) taken k x
  stored_result op a need taken k g rest (Gives w) at stands on = λ s' r now.
      store_goes b input s0 p0 W steps (result op) a w need taken k (k + 2) g rest s' at (store_fits (result op) a (is_result op) (at_small a g at)) (λ c. holds_result (result op) a c w s' (is_result op) r) refl now stands on
  stored_result op a need taken k g rest (Traps t) at stands on = on

  abbrev pub stored : OpKind → ℕ → List Counted
  stored op a = core op ++ once (stores (result op) a ∷ [])

  pub unary_goes : (homes : Homes) (op : OpKind) → IsUnary op → (a : Operand) (d need taken k : ℕ) (g : Region) (rest : List Instr) (s : State) → OperandFits homes a → operand_at homes s0 a < 65536 → IsAt d g
      → Stand s0.code k (code_of (once (loads homes 15 a ∷ []) ++ stored op d) ++ rest) → Now s0 taken k s
      → Results d need taken (k + words_of_code (code_of (once (loads homes 15 a ∷ []) ++ stored op d))) (gives op (operand_at homes s0 a) 0)
      → W false (weight_of b (once (loads homes 15 a ∷ []) ++ stored op d) + need) s p0
  unary_goes homes op is a d need taken k g rest s fits low at stands now on =
      steps.less false (instruction_cost b load + (weight_of b (core op) + (instruction_cost b store + need))) (weight_of b (once (load ∷ []) ++ stored op d) + need) s p0 (omega (arith, weight_then b (core op) store need))
      (load_goes b input s0 p0 W steps homes false false a (weight_of b (core op) + (instruction_cost b store + need)) taken k k1 (code_of (stored op d) ++ rest) s fits refl now stands
      (λ now1 stands1. unary_core_goes b input s0 p0 W steps op is (operand_at homes s0 a) 0 (instruction_cost b store + need) taken k1 (store ∷ rest) _ (subst (λ is. Stand s0.code k1 is) (code_then (core op) store rest) stands1) now1 refl low
      (stored_result op d need taken (k1 + words_of_code (code_of (core op))) g rest (gives op (operand_at homes s0 a) 0) at
      (stand_behind s0.code (code_of (core op)) k1 (store ∷ rest) (subst (λ is. Stand s0.code k1 is) (code_then (core op) store rest) stands1))
      (subst (λ n. Results d need taken n (gives op (operand_at homes s0 a) 0)) (let e : k + (length_of load + words_of_code (code_of (stored op d))) ≡ k1 + words_of_code (code_of (core op)) + 2 = omega (arith, words_then (core op) store) in e) on))))
    where
      load : Instr
      load = loads homes 15 a

      store : Instr
      store = stores (result op) d

      k1 : ℕ
      k1 = k + length_of load

  pub binary_goes : (homes : Homes) (op : OpKind) → IsBinary op → (a c : Operand) (d need taken k : ℕ) (g : Region) (rest : List Instr) (s : State)
      → OperandFits homes a → OperandFits homes c → operand_at homes s0 a < 65536 → operand_at homes s0 c < 65536 → IsAt d g
      → Stand s0.code k (code_of (once (loads homes 15 a ∷ loads homes 14 c ∷ []) ++ stored op d) ++ rest) → Now s0 taken k s
      → Results d need taken (k + words_of_code (code_of (once (loads homes 15 a ∷ loads homes 14 c ∷ []) ++ stored op d))) (gives op (operand_at homes s0 a) (operand_at homes s0 c))
      → W false (weight_of b (once (loads homes 15 a ∷ loads homes 14 c ∷ []) ++ stored op d) + need) s p0
  binary_goes homes op is a c d need taken k g rest s fits fits' low low' at stands now on =
      steps.less false (instruction_cost b load + (instruction_cost b load2 + need1)) (weight_of b (once (load ∷ load2 ∷ []) ++ stored op d) + need) s p0 (omega (arith, weight_then b (core op) store need))
      (load_goes b input s0 p0 W steps homes false false a (instruction_cost b load2 + need1) taken k k1 (load2 ∷ (code_of (stored op d) ++ rest)) s fits refl now stands
      (λ now1 stands1. load_goes b input s0 p0 W steps homes true true c need1 taken k1 k2 (code_of (stored op d) ++ rest) _ fits' refl now1 stands1
      (λ now2 stands2. binary_core_goes b input s0 p0 W steps op is (operand_at homes s0 a) (operand_at homes s0 c) (instruction_cost b store + need) taken k2 (store ∷ rest) _ refl low' (subst (λ is. Stand s0.code k2 is) (code_then (core op) store rest) stands2) now2 refl low
      (stored_result op d need taken (k2 + words_of_code (code_of (core op))) g rest (gives op (operand_at homes s0 a) (operand_at homes s0 c)) at
      (stand_behind s0.code (code_of (core op)) k2 (store ∷ rest) (subst (λ is. Stand s0.code k2 is) (code_then (core op) store rest) stands2))
      (subst (λ n. Results d need taken n (gives op (operand_at homes s0 a) (operand_at homes s0 c))) (let e : k + (length_of load + (length_of load2 + words_of_code (code_of (stored op d)))) ≡ k2 + words_of_code (code_of (core op)) + 2 = omega (arith, words_then (core op) store) in e) on)))))
    where
      load : Instr
      load = loads homes 15 a

      load2 : Instr
      load2 = loads homes 14 c

      store : Instr
      store = stores (result op) d

      k1 : ℕ
      k1 = k + length_of load

      k2 : ℕ
      k2 = k1 + length_of load2

      need1 : ℕ
      need1 = weight_of b (core op) + (instruction_cost b store + need)
