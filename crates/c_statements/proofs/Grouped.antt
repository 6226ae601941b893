-- What a call makes of the parts of a statement, by what it makes of each; and what it makes of the parts of a label or of a group, it makes of the node.
use Rattle.std.proofs.Common.{◌≡◌, ◌∷◌, ap, ◌∙◌, sym, false, Option, Some, List, Result, Ok, Err, map}
use Rattle.c_parse.specs.declared.raw.RawRule.TheVariants as rule
use Rattle.c_parse.specs.declared.raw.Raw.{Raw}
use Rattle.c_parse.specs.declared.raw.Raw.TheVariants.{Node}
use Rattle.c_values.specs.declared.ops.Ty.{Ty}
use Rattle.c_tree.specs.declared.tree.Action.{Action}
use Rattle.c_tree.specs.declared.tree.Expr.{Expr}
use Rattle.c_tree.specs.declared.tree.ForFirst.{ForFirst}
use Rattle.c_tree.specs.declared.tree.ForFirst.TheVariants as first
use Rattle.c_tree.specs.declared.tree.Group.{Group}
use Rattle.c_tree.specs.declared.tree.Label.{Label}
use Rattle.c_tree.specs.declared.tree.StmtKind.{StmtKind}
use Rattle.c_typing.specs.declared.state.State.{State}
use Rattle.c_typing.specs.Parts.{Gives, Makes}
use Rattle.c_typing.specs.Judged.{Judged, is_token}
use Rattle.c_typing.specs.Expressions.{value_of}
use Rattle.c_typing.specs.Statements.{label_by, group_by, is_declaration, but_first, first_some, test_by, step_by, for_body}
use Rattle.c_typing.specs.Programs.{judged}
use Rattle.c_typing.proofs.Judging.{judged_node}
use Rattle.c_typing.proofs.Making.{makes_then}

pub node_label : {E : Type 0} (raw : Raw) (parts : List Raw) (ty : Ty) (before : List Label) (s : State) (r : Result (List Label) E) (s' : State)
    → raw ≡ Node rule.Label parts → Makes (label_by (map judged parts) ty before) s r s' → Makes ((judged raw).label ty before) s r s'
node_label raw parts ty before s r s' is made = rw (is, judged_node rule.Label parts) made

pub node_group : {E : Type 0} (raw : Raw) (parts : List Raw) (ty : Ty) (before : List Label) (s : State) (r : Result Group E) (s' : State)
    → raw ≡ Node rule.Group parts → Makes (group_by (map judged parts) ty before) s r s' → Makes ((judged raw).group ty before) s r s'
node_group raw parts ty before s r s' is made = rw (is, judged_node rule.Group parts) made

-- ---- `for`, where something stands in front of a sign that is passed over

pub first_acts : {E : Type 0} (part : Judged) (rest others : List Judged) (a : Action) (s s' : State) (r : Result StmtKind E) (s'' : State)
    → is_declaration part.rule ≡ false → others ≡ but_first rest → part.act s ≡ Gives a s'
    → Makes (test_by others (Some (first.Act a))) s' r s'' → Makes (first_some part rest) s r s''
first_acts part rest others a s s' r s'' other is gives made =
    rw (other, ← is) (makes_then part.act (λ x. test_by others (Some (first.Act x))) s a s' r s'' gives made)

pub test_stands : {E : Type 0} (parts : List Judged) (part : Judged) (rest others : List Judged) (f : Option ForFirst) (e : Expr) (s s' : State) (r : Result StmtKind E) (s'' : State)
    → parts ≡ part ∷ rest → is_token part ≡ false → others ≡ but_first rest → value_of part s ≡ Gives e s'
    → Makes (step_by f others (Some e)) s' r s'' → Makes (test_by parts f) s r s''
test_stands parts part rest others f e s s' r s'' front other is gives made =
    rw (front, other, ← is) (makes_then (value_of part) (λ x. step_by f others (Some x)) s e s' r s'' gives made)

pub step_stands : {E : Type 0} (parts : List Judged) (part : Judged) (rest others : List Judged) (f : Option ForFirst) (test : Option Expr) (a : Action) (s s' : State)
    (r : Result StmtKind E) (s'' : State)
    → parts ≡ part ∷ rest → is_token part ≡ false → others ≡ but_first rest → part.act s ≡ Gives a s'
    → Makes (for_body f test others (Some a)) s' r s'' → Makes (step_by f parts test) s r s''
step_stands parts part rest others f test a s s' r s'' front other is gives made =
    rw (front, other, ← is) (makes_then part.act (λ x. for_body f test others (Some x)) s a s' r s'' gives made)
