-- The form of each template: each instruction is of one that a checked image may have, and none copies a word of an array.
use Rattle.std.proofs.Common.{◌≡◌, ℕ, zero, suc, Bool, true, false, not, Some, None, List, [], ◌∷◌, ◌++◌, refl, sym, ap, ◌∙◌}
use Rattle.std.specs.Prelude.{◌&&◌, is_some, slice_get, if◌then◌else◌}
use Rattle.std.proofs.lemmas.Bool.{and_parts}
use Rattle.board_table.specs.declared.board.Board.{Board}
use Rattle.msp430_isa.specs.declared.instr.Src.TheVariants.{Short, Imm}
use Rattle.msp430_isa.specs.declared.instr.Instr.{Instr}
use Rattle.msp430_isa.specs.Profile.{is_constant}
use Rattle.flow_graph.specs.declared.graph.Operand.{Operand}
use Rattle.flow_graph.specs.declared.graph.Operand.TheVariants.{Const, Object}
use Rattle.flow_graph.specs.declared.graph.Op.{Op}
use Rattle.flow_graph.specs.declared.graph.OpKind.{OpKind}
use Rattle.flow_graph.specs.declared.graph.OpKind.TheVariants as kind
use Rattle.op_cost.specs.Templates.{Counted, Homes, binary, code_of, constant, core, loads, once, place_of, result, source, stores, template_by, unary, length_in}
use Rattle.cert_rules.specs.Forms.{is_form, is_plain_source}
use Rattle.cert_templates.specs.Frames.{inner_by, inner_on}
use Rattle.cert_images.proofs.Coding.{is_double}

abbrev forms : List Counted → Bool
forms [] = true
forms (c ∷ cs) = (is_form c.instr && not (is_double c.instr)) && forms cs

both : (a b : Bool) → a ≡ true → b ≡ true → a && b ≡ true
both a b e f = ap (λ x. x && b) e ∙ f

forms_append : (xs ys : List Counted) → forms xs ≡ true → forms ys ≡ true → forms (xs ++ ys) ≡ true
forms_append [] ys h k = k
forms_append (x ∷ xs) ys h k = let p = and_parts (is_form x.instr && not (is_double x.instr)) (forms xs) h in both _ (forms (xs ++ ys)) p.0 (forms_append xs ys p.1 k)

not_true : (b : Bool) → not b ≡ true → b ≡ false
not_true true e = sym e
not_true false e = refl

pub formed : (cs : List Counted) → forms cs ≡ true → (k : ℕ) (i : Instr) → slice_get (code_of cs) k ≡ Some i → (is_form i ≡ true) × (is_double i ≡ false)
formed [] h k i e = absurd (let no : false ≡ true = ap (λ o. is_some o) e in cc)
formed (c ∷ cs) h zero i e =
    let same : c.instr ≡ i = cc in
    let p = and_parts (is_form c.instr && not (is_double c.instr)) (forms cs) h in
    let q = and_parts (is_form c.instr) (not (is_double c.instr)) p.0 in
    (ap (λ j. is_form j) (sym same) ∙ q.0, ap (λ j. is_double j) (sym same) ∙ not_true (is_double c.instr) q.1)
formed (c ∷ cs) h (suc k) i e = formed cs (and_parts (is_form c.instr && not (is_double c.instr)) (forms cs) h).1 k i e

constant_plain : (v : ℕ) → is_plain_source (constant v) ≡ true
constant_plain v = elim (is_constant v) as (λ c. is_plain_source (if c then Short v else Imm v) ≡ true) [ true ↦ refl | false ↦ refl ]

source_plain : (homes : Homes) (a : Operand) → is_plain_source (source homes a) ≡ true
source_plain homes (Const v) = constant_plain v
source_plain homes (Object o) = refl

load_forms : (homes : Homes) (a : Operand) (b : Bool) → b ≡ true → (is_plain_source (source homes a) && true && true) && b ≡ true
load_forms homes a b e = ap (λ c. (c && true && true) && b) (source_plain homes a) ∙ e

constant_forms : (v : ℕ) (b : Bool) → b ≡ true → (is_plain_source (constant v) && true && true) && b ≡ true
constant_forms v b e = ap (λ c. (c && true && true) && b) (constant_plain v) ∙ e

core_forms : (k : OpKind) → forms (core k) ≡ true
core_forms kind.Mul = refl
core_forms k = refl

result_forms : (k : OpKind) (d : ℕ) → forms (once (stores (result k) d ∷ [])) ≡ true
result_forms kind.Mul d = refl
result_forms k d = refl

module _ (homes : Homes) (target : ℕ) (op : Op) where
  load_15 : (is : List Instr) → forms (once is) ≡ true → forms (once (loads homes 15 op.a ∷ is)) ≡ true
  load_15 is h = load_forms homes op.a (forms (once is)) h

  unary_forms : forms (unary homes op) ≡ true
  unary_forms = forms_append (once (loads homes 15 op.a ∷ []) ++ core op.kind) _ (forms_append (once (loads homes 15 op.a ∷ [])) (core op.kind) (load_15 [] refl) (core_forms op.kind)) (result_forms op.kind (place_of homes op.dest))

  binary_forms : forms (binary homes op) ≡ true
  binary_forms =
      forms_append (once (loads homes 15 op.a ∷ loads homes 14 op.b ∷ []) ++ core op.kind) _
      (forms_append (once (loads homes 15 op.a ∷ loads homes 14 op.b ∷ [])) (core op.kind) (load_15 (loads homes 14 op.b ∷ []) (load_forms homes op.b true refl)) (core_forms op.kind)) (result_forms op.kind (place_of homes op.dest))

  pub kind_forms : (k : OpKind) → forms (template_by k homes target op) ≡ true
  kind_forms kind.Copy = unary_forms
  kind_forms kind.Neg = unary_forms
  kind_forms kind.Inv = unary_forms
  kind_forms kind.ToU8 = unary_forms
  kind_forms kind.ToS8 = unary_forms
  kind_forms kind.Load = load_forms homes op.a _ (constant_forms (length_in op.array) _ refl)
  kind_forms kind.Store = load_forms homes op.a _ (load_forms homes op.b _ (constant_forms (length_in op.array) _ refl))
  kind_forms kind.Input = refl
  kind_forms kind.Output = load_forms homes op.a _ refl
  kind_forms kind.Finish = load_forms homes op.a _ refl
  kind_forms kind.Test = load_forms homes op.a _ refl
  kind_forms kind.Below = load_forms homes op.b _ refl
  kind_forms kind.Step = refl
  kind_forms kind.Go = refl
  kind_forms kind.Call = refl
  kind_forms kind.Ret = refl
  kind_forms k = binary_forms

  pub kind_first : (k : OpKind) → (i : Instr) × (slice_get (code_of (template_by k homes target op)) 0 ≡ Some i)
  kind_first kind.Copy = (_, refl)
  kind_first k = (_, refl)

pub kind_begins : (k : OpKind) (b : Board) (n : ℕ) (code : List Counted) → inner_on (inner_by k b n code) 0 ≡ None
kind_begins kind.Mul b n code = refl
kind_begins k b n code = refl
