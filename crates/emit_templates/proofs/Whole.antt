-- The template of each kind of operation, whatever is to be shown of the run: it comes to what the operation does.
use Rattle.std.proofs.Common.{◌≡◌, ℕ, zero, suc, ◌+◌, ◌-◌, ◌*◌, ◌%◌, ◌<◌, ◌≤◌, Bool, true, false, Option, Some, None, List, ◌∷◌, ◌++◌, refl, sym, ap, ◌∙◌, subst, arith, inl, inr}
use Rattle.std.specs.Prelude.{nat_lt, if◌then◌else◌}
use Rattle.std.proofs.lemmas.Bool.Decides.{nat_tests}
use Rattle.board_table.specs.declared.board.Board.{Board}
use Rattle.msp430_isa.specs.declared.instr.Dst.TheVariants.{Abs as ToAbs}
use Rattle.msp430_isa.specs.declared.instr.TwoOp.TheVariants.{Cmp as CMP}
use Rattle.msp430_isa.specs.declared.instr.Cond.TheVariants.{Jnc as JNC}
use Rattle.msp430_isa.specs.declared.instr.Instr.{Instr}
use Rattle.msp430_isa.specs.declared.instr.Instr.TheVariants.{Two}
use Rattle.msp430_isa.specs.Encoding.{length_of}
use Rattle.msp430_machine.specs.declared.addresses.Region.{Region}
use Rattle.msp430_machine.specs.declared.addresses.Region.TheVariants.{Fram}
use Rattle.msp430_machine.specs.State.{State, input_word}
use Rattle.msp430_machine.specs.Memory.{word_at, written}
use Rattle.msp430_machine.proofs.Memories.{IsAt, IsRun, first_of_run, is_fram}
use Rattle.c_values.specs.Values.{Worked, Gives, Traps as MeetsTrap, is_set}
use Rattle.flow_graph.specs.declared.graph.Operand.{Operand}
use Rattle.flow_graph.specs.declared.graph.Operand.TheVariants.{Const, Object}
use Rattle.flow_graph.specs.declared.graph.ArrayUse.{ArrayUse}
use Rattle.flow_graph.specs.declared.graph.Op.{Op}
use Rattle.flow_graph.specs.declared.graph.OpKind.{OpKind}
use Rattle.flow_graph.specs.declared.graph.OpKind.TheVariants as kind
use Rattle.flow_graph.specs.Operations.{gives}
use Rattle.op_cost.specs.Templates.{Homes, Counted, weight_of, code_of, once, by, constant, loads, source, operand_place, place_of, array_of, length_in, unless, unary, binary, template_by, template}
use Rattle.emit_templates.specs.Effects.{Turn, On, Away, Calls, Returns, Ends, Traps, Effect, leads, first_word, worked, at_element, load, store, effect_by}
use Rattle.emit_templates.specs.Placed as placed
use Rattle.emit_templates.specs.Placed.{operand_at, element_at, Reads, Target, Array, GoesTo, Compares, CanPush, CanPop, Ready}
use Rattle.emit_templates.specs.Layer.{changed, effect_in, Turned, with_put}
use Rattle.emit_templates.proofs.Steps.{Steps, Now, Stand}
use Rattle.emit_templates.proofs.Moves.{OperandFits}
use Rattle.emit_templates.proofs.Cores.{IsUnary, IsBinary, words_of_code}
use Rattle.emit_templates.proofs.Operating.{Results, unary_goes, binary_goes}
use Rattle.emit_templates.proofs.Elements.{load_element_goes, store_element_goes}
use Rattle.emit_templates.proofs.Others.{input_goes, output_goes, finish_goes, test_goes, below_goes, step_goes, go_goes, call_goes, return_goes}

-- ---- Homes

run_of : (a n : ℕ) → placed.IsRun a n → IsRun a n
run_of a n h = record { even = h.even; inside = h.inside }

pub word_home : (a : ℕ) → placed.IsRun a 1 → (g : Region) × IsAt a g
word_home a h = first_of_run a 1 (run_of a 1 h) (omega arith)

reads_fit : (homes : Homes) (s : State) (a : Operand) → Reads homes s a → OperandFits homes a
reads_fit homes s (Const v) h = h.low
reads_fit homes s (Object o) h = word_home (homes o) h.home

target_at : (homes : Homes) (dest : Option ℕ) → Target homes dest → (g : Region) × IsAt (place_of homes dest) g
target_at homes dest t = subst (λ d. (g : Region) × IsAt (place_of homes d) g) (sym t.is) (word_home (homes t.object) t.home)

array_run : (homes : Homes) (array : Option ArrayUse) → Array homes array → IsRun (array_of homes array) (length_in array)
array_run homes array u = subst (λ d. IsRun (array_of homes d) (length_in d)) (sym u.is) (run_of (homes u.used.object) u.used.length u.home)

run_small : (a n : ℕ) → IsRun a n → n ≤ 32768
run_small a n h = elim h.inside [ inl s ↦ omega (arith, s.1) | inr s ↦ omega (arith, s.1) ]

stack_at : (sp : ℕ) → sp % 2 ≡ 0 → 0x4400 ≤ sp → sp < 0x8000 → IsAt sp Fram
stack_at sp even low high = record { inside = is_fram sp low high; even = even }

is_below : (n i : ℕ) → i < n → nat_lt i n ≡ true
is_below n i h = grind (arith, nat_tests)

not_below : (n i : ℕ) → n ≤ i → nat_lt i n ≡ false
not_below n i h = grind (arith, nat_tests)

set_is : (v : ℕ) → 0 < v → is_set v ≡ true
set_is zero h = absurd (omega (arith, h))
set_is (suc v) h = refl

-- ---- The word that is written

first_written : (homes : Homes) (dest : Option ℕ) (w : ℕ) (s : State) → Target homes dest → written false s (place_of homes dest) w ≡ changed homes (first_word dest w) s
first_written homes dest w s t =
    let e : homes t.object ≡ homes t.object + 2 * 0 = omega arith in
    subst (λ d. written false s (place_of homes d) w ≡ changed homes (first_word d w) s) (sym t.is) (ap (λ a. written false s a w) e)

abbrev loaded : Option ℕ → ℕ → Effect
loaded dest w = record { change = first_word dest w; puts = None; takes = false; turn = On }

load_is : (array : Option ArrayUse) (homes : Homes) (dest : Option ℕ) (i element : ℕ) → Array homes array → load array dest i element ≡ at_element (nat_lt i (length_in array)) (loaded dest element)
load_is array homes dest i element u = subst (λ a. load a dest i element ≡ at_element (nat_lt i (length_in a)) (loaded dest element)) (sym u.is) refl

abbrev sent : ℕ → ℕ → ℕ → Effect
sent o i w = record { change = Some (record { object = o; index = i; value = w }); puts = None; takes = false; turn = On }

store_is : (array : Option ArrayUse) (homes : Homes) (w i : ℕ) (u : Array homes array) → store array w i ≡ at_element (nat_lt i (length_in array)) (sent u.used.object i w)
store_is array homes w i u = subst (λ a. store a w i ≡ at_element (nat_lt i (length_in a)) (sent u.used.object i w)) (sym u.is) refl

element_is : (homes : Homes) (s : State) (array : Option ArrayUse) (i : ℕ) → Array homes array → word_at s (array_of homes array + 2 * i) ≡ element_at homes s array i
element_is homes s array i u = subst (λ a. word_at s (array_of homes a + 2 * i) ≡ element_at homes s a i) (sym u.is) refl

-- ---- What is needed behind the operation

abbrev pub left : Turn → ℕ → ℕ
left (Ends w) need = 0
left (Traps t) need = 0
left _ need = need

module _ (b : Board) (input : List ℕ) (s0 : State) (p0 : List ℕ) (W : Bool → ℕ → State → List ℕ → Type 0) (steps : Steps b input s0 p0 W) where
  -- what has to be shown of what the operation comes to
  abbrev pub Continues : (homes : Homes) (need behind kt : ℕ) → Effect → Type 0
  Continues homes need behind kt e = (s' : State) → Turned e homes s0 behind kt s' → W true (left e.turn need) s' (with_put p0 e.puts)

  continues_as : (homes : Homes) (need behind kt : ℕ) (e e' : Effect) → e ≡ e' → Continues homes need behind kt e → Continues homes need behind kt e'
  continues_as homes need behind kt e e' same on = subst (λ x. Continues homes need behind kt x) same on

  -- a result that is written, or its trap
  results_from : (homes : Homes) (dest : Option ℕ) (need behind kt : ℕ) (x : Worked) → Target homes dest → Continues homes need behind kt (worked dest x)
      → Results b input s0 p0 W steps (place_of homes dest) need s0.taken behind x
  results_from homes dest need behind kt (Gives w) t on = λ s' now. on s' (subst (λ m. Now m s0.taken behind s') (first_written homes dest w s0 t) now)
  results_from homes dest need behind kt (MeetsTrap n) t on = on

  -- a template in its place, at some effect
  abbrev Goes : (homes : Homes) (need k kt : ℕ) (rest : List Instr) (s : State) → List Counted → Effect → Type 0
  Goes homes need k kt rest s code e =
      Stand s0.code k (code_of code ++ rest) → Now s0 s0.taken k s → Continues homes need (k + words_of_code (code_of code)) kt e → W false (weight_of b code + need) s p0

  module _ (homes : Homes) (target : ℕ) (op : Op) (need k kt : ℕ) (rest : List Instr) (s : State) where
    abbrev x : ℕ
    x = operand_at homes s0 op.a

    abbrev y : ℕ
    y = operand_at homes s0 op.b

    unary_at : IsUnary op.kind → Reads homes s0 op.a → Target homes op.dest → Goes homes need k kt rest s (unary homes op) (worked op.dest (gives op.kind x 0))
    unary_at is reads t stands now on =
        let at = target_at homes op.dest t in
        unary_goes b input s0 p0 W steps homes op.kind is op.a (place_of homes op.dest) need s0.taken k at.0 rest s (reads_fit homes s0 op.a reads) reads.low at.1 stands now
        (results_from homes op.dest need (k + words_of_code (code_of (unary homes op))) kt (gives op.kind x 0) t on)

    binary_at : IsBinary op.kind → Reads homes s0 op.a → Reads homes s0 op.b → Target homes op.dest → Goes homes need k kt rest s (binary homes op) (worked op.dest (gives op.kind x y))
    binary_at is reads reads' t stands now on =
        let at = target_at homes op.dest t in
        binary_goes b input s0 p0 W steps homes op.kind is op.a op.b (place_of homes op.dest) need s0.taken k at.0 rest s (reads_fit homes s0 op.a reads) (reads_fit homes s0 op.b reads') reads.low reads'.low at.1 stands now
        (results_from homes op.dest need (k + words_of_code (code_of (binary homes op))) kt (gives op.kind x y) t on)

    unary_as : (q : OpKind) → IsUnary q → op.kind ≡ q → Reads homes s0 op.a → Target homes op.dest → Goes homes need k kt rest s (unary homes op) (worked op.dest (gives q x 0))
    unary_as q is e reads t =
        subst (λ z. Goes homes need k kt rest s (unary homes op) (worked op.dest (gives z x 0))) e (unary_at (subst (λ z. IsUnary z) (sym e) is) reads t)

    binary_as : (q : OpKind) → IsBinary q → op.kind ≡ q → Reads homes s0 op.a → Reads homes s0 op.b → Target homes op.dest → Goes homes need k kt rest s (binary homes op) (worked op.dest (gives q x y))
    binary_as q is e reads reads' t =
        subst (λ z. Goes homes need k kt rest s (binary homes op) (worked op.dest (gives z x y))) e (binary_at (subst (λ z. IsBinary z) (sym e) is) reads reads' t)

    -- ---- Elements of arrays

    element_picks : (behind n i : ℕ) (c : Bool) (e e1 : Effect) → e ≡ at_element (nat_lt i n) e1 → nat_lt i n ≡ c → Continues homes need behind kt e → Continues homes need behind kt (at_element c e1)
    element_picks behind n i c e e1 same h on = continues_as homes need behind kt e (at_element c e1) (same ∙ ap (λ v. at_element v e1) h) on

    load_at : Reads homes s0 op.a → Array homes op.array → Target homes op.dest
        → Goes homes need k kt rest s (template_by kind.Load homes target op) (load op.array op.dest x (element_at homes s0 op.array x))
    load_at reads u t stands now on =
        let at = target_at homes op.dest t in
        let n : ℕ = length_in op.array in
        let el : ℕ = element_at homes s0 op.array x in
        let w : ℕ = word_at s0 (array_of homes op.array + 2 * x) in
        let behind : ℕ = k + words_of_code (code_of (template_by kind.Load homes target op)) in
        let to : k + length_of (loads homes 14 op.a) + length_of (by CMP (constant (length_in op.array)) 14) + 8 ≡ k + words_of_code (code_of (template_by kind.Load homes target op)) = omega arith in
        let same = load_is op.array homes op.dest x el u in
        let run = array_run homes op.array u in
        steps.less false _ (weight_of b (template_by kind.Load homes target op) + need) s p0 (omega arith)
        (load_element_goes b input s0 p0 W steps homes op.a (array_of homes op.array) n (place_of homes op.dest) need s0.taken k at.0 rest s (reads_fit homes s0 op.a reads) reads.low run (run_small (array_of homes op.array) n run) at.1 stands now
        (λ above. element_picks behind n x false (load op.array op.dest x el) (loaded op.dest el) same (not_below n x above) on)
        (λ below s' now'. element_picks behind n x true (load op.array op.dest x el) (loaded op.dest el) same (is_below n x below) on s'
        (subst (λ m. Now m s0.taken behind s') (ap (λ v. written false s0 (place_of homes op.dest) v) (element_is homes s0 op.array x u) ∙ first_written homes op.dest el s0 t)
        (subst (λ m. Now (written false s0 (place_of homes op.dest) w) s0.taken m s') to now'))))

    store_at : Reads homes s0 op.a → Reads homes s0 op.b → Array homes op.array → Goes homes need k kt rest s (template_by kind.Store homes target op) (store op.array x y)
    store_at reads reads' u stands now on =
        let n : ℕ = length_in op.array in
        let behind : ℕ = k + words_of_code (code_of (template_by kind.Store homes target op)) in
        let to : k + length_of (loads homes 15 op.a) + length_of (loads homes 14 op.b) + length_of (by CMP (constant (length_in op.array)) 14) + 6 ≡ k + words_of_code (code_of (template_by kind.Store homes target op)) = omega arith in
        let same = store_is op.array homes x y u in
        let run = array_run homes op.array u in
        steps.less false _ (weight_of b (template_by kind.Store homes target op) + need) s p0 (omega arith)
        (store_element_goes b input s0 p0 W steps homes op.a op.b (array_of homes op.array) n need s0.taken k rest s (reads_fit homes s0 op.a reads) (reads_fit homes s0 op.b reads') reads'.low run (run_small (array_of homes op.array) n run) stands now
        (λ above. element_picks behind n y false (store op.array x y) (sent u.used.object y x) same (not_below n y above) on)
        (λ below s' now'. element_picks behind n y true (store op.array x y) (sent u.used.object y x) same (is_below n y below) on s'
        (subst (λ z. Now (written false s0 (z + 2 * y) x) s0.taken behind s') (ap (λ a. array_of homes a) u.is)
        (subst (λ m. Now (written false s0 (array_of homes op.array + 2 * y) x) s0.taken m s') to now'))))

    -- ---- Ports

    input_at : Target homes op.dest → Goes homes need k kt rest s (template_by kind.Input homes target op) (record { change = first_word op.dest (input_word input s0.taken); puts = None; takes = true; turn = On })
    input_at t stands now on =
        let at = target_at homes op.dest t in
        steps.less false _ (weight_of b (template_by kind.Input homes target op) + need) s p0 (omega arith)
        (input_goes b input s0 p0 W steps (place_of homes op.dest) need s0.taken k (k + 4) at.0 rest s at.1 refl stands now
        (λ s' now'. on s' (subst (λ m. Now m (s0.taken + 1) (k + 4) s') (first_written homes op.dest (input_word input s0.taken) s0 t) now')))

    output_at : Reads homes s0 op.a → Goes homes need k kt rest s (template_by kind.Output homes target op) (record { change = None; puts = Some x; takes = false; turn = On })
    output_at reads stands now on =
        steps.less false _ (weight_of b (template_by kind.Output homes target op) + need) s p0 (omega arith)
        (output_goes b input s0 p0 W steps homes op.a need s0.taken k (k + words_of_code (code_of (template_by kind.Output homes target op))) rest s (reads_fit homes s0 op.a reads) (omega arith) stands now on)

    finish_at : Reads homes s0 op.a → Goes homes need k kt rest s (template_by kind.Finish homes target op) (leads (Ends x))
    finish_at reads stands now on =
        steps.less false _ (weight_of b (template_by kind.Finish homes target op) + need) s p0 (omega arith)
        (finish_goes b input s0 p0 W steps homes op.a need s0.taken k rest s (reads_fit homes s0 op.a reads) stands now on)

    -- ---- Tests

    by_test : (behind : ℕ) (c d : Bool) → c ≡ d → Continues homes need behind kt (leads (if c then On else Away)) → Continues homes need behind kt (leads (if d then On else Away))
    by_test behind c d e on = subst (λ z. Continues homes need behind kt (leads (if z then On else Away))) e on

    test_at : Reads homes s0 op.a → GoesTo target kt → Goes homes need k kt rest s (template_by kind.Test homes target op) (leads (if is_set x then On else Away))
    test_at reads to stands now on =
        let behind : ℕ = k + words_of_code (code_of (template_by kind.Test homes target op)) in
        steps.less false _ (weight_of b (template_by kind.Test homes target op) + need) s p0 (omega arith)
        (test_goes b input s0 p0 W steps homes op.a target need s0.taken k behind kt rest s (reads_fit homes s0 op.a reads) reads.low to.is to.low (omega arith) stands now
        (λ some. by_test behind (is_set x) true (set_is x some) on)
        (λ none. by_test behind (is_set x) false (ap is_set none) on))

    abbrev compared : Operand → Operand → List Counted
    compared a c = once (Two CMP false (source homes c) (ToAbs (operand_place homes a)) ∷ unless JNC target)

    abbrev BelowGoes : Operand → Operand → Type 0
    BelowGoes a c = Reads homes s0 a → Reads homes s0 c → Goes homes need k kt rest s (compared a c) (leads (if nat_lt (operand_at homes s0 a) (operand_at homes s0 c) then On else Away))

    below_with : (o c : ℕ) → GoesTo target kt → BelowGoes (Object o) (Const c)
    below_with o c to reads reads' stands now on =
        let at = word_home (homes o) reads.home in
        let behind : ℕ = k + words_of_code (code_of (compared (Object o) (Const c))) in
        steps.less false _ (weight_of b (compared (Object o) (Const c)) + need) s p0 (omega arith)
        (below_goes b input s0 p0 W steps c (homes o) target need s0.taken k behind kt at.0 rest s at.1 reads'.low reads.low to.is to.low (omega arith) stands now
        (λ below. by_test behind (nat_lt (word_at s0 (homes o)) c) true (is_below c (word_at s0 (homes o)) below) on)
        (λ above. by_test behind (nat_lt (word_at s0 (homes o)) c) false (not_below c (word_at s0 (homes o)) above) on))

    below_at : Compares op.a op.b → GoesTo target kt → BelowGoes op.a op.b
    below_at h to = subst (λ a. BelowGoes a op.b) (sym h.is_variable) (subst (λ c. BelowGoes (Object h.variable) c) (sym h.is_bound) (below_with h.variable h.bound to))

    -- ---- A step of a variable, a jump, a call and a return

    step_at : (t : Target homes op.dest) → op.a ≡ Object t.object → Goes homes need k kt rest s (template_by kind.Step homes target op) (worked op.dest (Gives ((x + 1) % 65536)))
    step_at t e stands now on =
        let at = target_at homes op.dest t in
        let d : ℕ = place_of homes op.dest in
        let same : word_at s0 d ≡ x = ap (λ z. word_at s0 (place_of homes z)) t.is ∙ sym (ap (λ a. operand_at homes s0 a) e) in
        steps.less false _ (weight_of b (template_by kind.Step homes target op) + need) s p0 (omega arith)
        (step_goes b input s0 p0 W steps d need s0.taken k (k + 2) at.0 rest s at.1 refl stands now
        (λ s' now'. on s' (subst (λ m. Now m s0.taken (k + 2) s') (ap (λ v. written false s0 d ((v + 1) % 65536)) same ∙ first_written homes op.dest ((x + 1) % 65536) s0 t) now')))

    go_at : GoesTo target kt → Goes homes need k kt rest s (template_by kind.Go homes target op) (leads Away)
    go_at to stands now on =
        steps.less false _ (weight_of b (template_by kind.Go homes target op) + need) s p0 (omega arith)
        (go_goes b input s0 p0 W steps false target need s0.taken k kt rest s to.is to.low stands now on)

    call_at : GoesTo target kt → CanPush s0 → Goes homes need k kt rest s (template_by kind.Call homes target op) (leads Calls)
    call_at to push stands now on =
        let low : 0x4402 ≤ s0.reg 1 = push.low in
        let high : s0.reg 1 ≤ 0x8000 = push.high in
        steps.less false _ (weight_of b (template_by kind.Call homes target op) + need) s p0 (omega arith)
        (call_goes b input s0 p0 W steps target (s0.reg 1) need s0.taken k kt rest s to.is to.low refl (omega (arith, low)) (omega (arith, high))
        (stack_at (s0.reg 1 - 2) (omega (arith, push.even, low)) (omega (arith, low)) (omega (arith, low, high))) stands now on)

    return_at : CanPop s0 kt → Goes homes need k kt rest s (template_by kind.Ret homes target op) (leads Returns)
    return_at pop stands now on =
        let high : s0.reg 1 + 2 ≤ 0x8000 = pop.high in
        steps.less false _ (weight_of b (template_by kind.Ret homes target op) + need) s p0 (omega arith)
        (return_goes b input s0 p0 W steps (s0.reg 1) need s0.taken k kt rest s refl (omega (arith, high)) (stack_at (s0.reg 1) pop.even pop.low (omega (arith, high))) pop.holds stands now on)

    -- ---- All kinds

    by_kind : (q : OpKind) → op.kind ≡ q → Ready q homes s0 target kt op
        → Goes homes need k kt rest s (template_by q homes target op) (effect_by q op x y (element_at homes s0 op.array x) (input_word input s0.taken))
    by_kind kind.Copy e r = unary_as kind.Copy tt e r.0 r.1
    by_kind kind.Neg e r = unary_as kind.Neg tt e r.0 r.1
    by_kind kind.Inv e r = unary_as kind.Inv tt e r.0 r.1
    by_kind kind.ToU8 e r = unary_as kind.ToU8 tt e r.0 r.1
    by_kind kind.ToS8 e r = unary_as kind.ToS8 tt e r.0 r.1
    by_kind kind.Add e r = binary_as kind.Add tt e r.0 r.1 r.2
    by_kind kind.Sub e r = binary_as kind.Sub tt e r.0 r.1 r.2
    by_kind kind.BitAnd e r = binary_as kind.BitAnd tt e r.0 r.1 r.2
    by_kind kind.BitOr e r = binary_as kind.BitOr tt e r.0 r.1 r.2
    by_kind kind.BitXor e r = binary_as kind.BitXor tt e r.0 r.1 r.2
    by_kind kind.Mul e r = binary_as kind.Mul tt e r.0 r.1 r.2
    by_kind kind.DivS e r = binary_as kind.DivS tt e r.0 r.1 r.2
    by_kind kind.DivU e r = binary_as kind.DivU tt e r.0 r.1 r.2
    by_kind kind.RemS e r = binary_as kind.RemS tt e r.0 r.1 r.2
    by_kind kind.RemU e r = binary_as kind.RemU tt e r.0 r.1 r.2
    by_kind kind.Shl e r = binary_as kind.Shl tt e r.0 r.1 r.2
    by_kind kind.ShrS e r = binary_as kind.ShrS tt e r.0 r.1 r.2
    by_kind kind.ShrU e r = binary_as kind.ShrU tt e r.0 r.1 r.2
    by_kind kind.Eq e r = binary_as kind.Eq tt e r.0 r.1 r.2
    by_kind kind.Ne e r = binary_as kind.Ne tt e r.0 r.1 r.2
    by_kind kind.LtS e r = binary_as kind.LtS tt e r.0 r.1 r.2
    by_kind kind.LtU e r = binary_as kind.LtU tt e r.0 r.1 r.2
    by_kind kind.LeS e r = binary_as kind.LeS tt e r.0 r.1 r.2
    by_kind kind.LeU e r = binary_as kind.LeU tt e r.0 r.1 r.2
    by_kind kind.Load e r = load_at r.0 r.1 r.2
    by_kind kind.Store e r = store_at r.0 r.1 r.2
    by_kind kind.Input e r = input_at r
    by_kind kind.Output e r = output_at r
    by_kind kind.Finish e r = finish_at r
    by_kind kind.Test e r = test_at r.0 r.1
    by_kind kind.Below e r = below_at r.2 r.3 r.0 r.1
    by_kind kind.Step e r = step_at r.0 r.1
    by_kind kind.Go e r = go_at r
    by_kind kind.Call e r = call_at r.0 r.1
    by_kind kind.Ret e r = return_at r

    pub operation_goes : Ready op.kind homes s0 target kt op → Goes homes need k kt rest s (template homes target op) (effect_in input homes s0 op)
    operation_goes r = by_kind op.kind refl r
