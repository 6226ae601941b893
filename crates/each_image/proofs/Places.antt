-- Where the code of operations stands.
use Rattle.std.proofs.Common.{◌≡◌, ℕ, zero, suc, ◌+◌, ◌≤◌, Bool, true, false, List, [], ◌∷◌, ◌++◌, length, flat_map, refl, ap, ◌∙◌, arith}
use Rattle.msp430_isa.specs.declared.instr.Instr.{Instr}
use Rattle.msp430_isa.specs.Encoding.{words_of, length_of}
use Rattle.flow_graph.specs.declared.graph.Op.{Op}
use Rattle.flow_graph.specs.declared.graph.OpKind.{OpKind}
use Rattle.flow_graph.specs.declared.graph.OpKind.TheVariants as kind
use Rattle.flow_graph.specs.declared.graph.Graph.{Graph}
use Rattle.resumed_runs.specs.Code.{size_of}
use Rattle.resumed_runs.proofs.Paths.{words_both}
use Rattle.laid_code.specs.Chosen.{Piece, chosen_at, chosen_code, head_code, head_size}
use Rattle.graph_code.specs.Pieces.{IsSteady}
use Rattle.op_cost.specs.Templates.{Homes, code_of, template_by}
use Rattle.each_image.specs.Image.{fram_homes, fram_template}

pub size_is : (is : List Instr) → length (flat_map words_of is) ≡ size_of is
size_is [] = refl
size_is (i ∷ is) = words_both i is ∙ ap (λ n. length_of i + n) (size_is is)

pub size-append : (is js : List Instr) → size_of (is ++ js) ≡ size_of is + size_of js
size-append [] js = let e : size_of js ≡ 0 + size_of js = omega arith in e
size-append (i ∷ is) js = let h = size-append is js in omega (arith, h)

pub head_sized : (c : Bool) (k : ℕ) → size_of (head_code c k) ≡ head_size c
head_sized true k = refl
head_sized false k = refl

-- each piece begins within the code
pub place_low : (k : ℕ) (ps : List Piece) (i : ℕ) → chosen_at k ps i ≤ k + size_of (chosen_code k ps)
place_low k [] i = omega arith
place_low k (p ∷ ps) zero = omega arith
place_low k (p ∷ ps) (suc i) =
    let k2 = k + head_size p.has_head + size_of p.template in
    let h = place_low k2 ps i in
    let outer = size-append (head_code p.has_head k) (p.template ++ chosen_code k2 ps) in
    let inner = size-append p.template (chosen_code k2 ps) in
    let sized = head_sized p.has_head k in
    omega (arith, h, outer, inner, sized)

-- no template's length depends on the place gone to
steady_by : (k : OpKind) (homes : Homes) (a b : ℕ) (op : Op) → size_of (code_of (template_by k homes a op)) ≡ size_of (code_of (template_by k homes b op))
steady_by kind.Test homes a b op = refl
steady_by kind.Below homes a b op = refl
steady_by kind.Go homes a b op = refl
steady_by kind.Call homes a b op = refl
steady_by k homes a b op = refl

pub steady : (g : Graph) → IsSteady (fram_template g)
steady g a b op = steady_by op.kind (fram_homes g) a b op
