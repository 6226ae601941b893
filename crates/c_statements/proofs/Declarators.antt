-- What is judged of a declarator, where the type that stands before it is known.
use Rattle.std.proofs.Common.{◌≡◌, ap, sym, subst, ◌∙◌, List, map, Result}
use Rattle.c_parse.specs.declared.raw.RawRule.{RawRule}
use Rattle.c_parse.specs.declared.raw.RawRule.TheVariants as rule
use Rattle.c_parse.specs.declared.raw.Raw.{Raw}
use Rattle.c_parse.specs.declared.raw.Raw.TheVariants.{Node}
use Rattle.c_tree.specs.declared.tree.Declared.{Declared}
use Rattle.c_typing.specs.declared.value.Base.{Base}
use Rattle.c_typing.specs.declared.state.State.{State}
use Rattle.c_typing.specs.Judged.{Judged}
use Rattle.c_typing.specs.Parts.{Part, Makes}
use Rattle.c_typing.specs.Declarations.{declare_by, declare_global_by}
use Rattle.c_typing.specs.Programs.{judged}
use Rattle.c_typing.proofs.Judging.{judged_node}

node_is : (raw : Raw) (r : RawRule) (parts : List Raw) → raw ≡ Node r parts → r ≡ rule.Declarator → raw ≡ Node rule.Declarator parts
node_is raw r parts e h = e ∙ ap (λ x. Node x parts) h

pub declare_is : (raw : Raw) (r : RawRule) (parts : List Raw) (base : Base) → raw ≡ Node r parts → r ≡ rule.Declarator → declare_by (map judged parts) base ≡ (judged raw).declare base
declare_is raw r parts base e h = sym (ap (λ x. (judged x).declare base) (node_is raw r parts e h) ∙ ap (λ (j : Judged). j.declare base) (judged_node rule.Declarator parts))

pub declare_global_is : (raw : Raw) (r : RawRule) (parts : List Raw) (base : Base) → raw ≡ Node r parts → r ≡ rule.Declarator → declare_global_by (map judged parts) base ≡ (judged raw).declare_global base
declare_global_is raw r parts base e h = sym (ap (λ x. (judged x).declare_global base) (node_is raw r parts e h) ∙ ap (λ (j : Judged). j.declare_global base) (judged_node rule.Declarator parts))

pub makes_same : {A E : Type 0} (p q : Part A) (s : State) (r : Result A E) (s' : State) → p ≡ q → Makes p s r s' → Makes q s r s'
makes_same p q s r s' e m = subst (λ x. Makes x s r s') e m
