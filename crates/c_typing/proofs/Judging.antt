-- What is judged of a tree, by what it is made of.
use Rattle.std.proofs.Common.{◌≡◌, ◌≢◌, refl, ℕ, List, map, ap, sym, ◌∙◌, ◌+◌}
use Rattle.base_io.specs.declared.place.Place.{Place}
use Rattle.c_lex.specs.declared.token.TokenKind.{TokenKind}
use Rattle.c_parse.specs.declared.raw.RawRule.{RawRule}
use Rattle.c_parse.specs.declared.raw.RawRule.TheVariants as rule
use Rattle.c_parse.specs.declared.raw.Raw.{Raw}
use Rattle.c_parse.specs.declared.raw.Raw.TheOpen.{Raw-F}
use Rattle.c_parse.specs.declared.raw.Raw.TheVariants.{Leaf, Node, rolls-Node, rolls-Leaf}
use Rattle.c_parse.specs.declared.raw.Raw.TheFolds.{fold-Raw, fold-roll-Raw}
use Rattle.c_typing.specs.Judged.{Judged, nothing}
use Rattle.c_typing.specs.Sizes.{size, size_by, total}
use Rattle.c_typing.specs.Programs.{judged, judged_by}

pub judged_node : (r : RawRule) (parts : List Raw) → judged (Node r parts) ≡ judged_by (Raw-F.Node r (map judged parts))
unfolding judged
judged_node r parts = ap judged (sym (rolls-Node r parts)) ∙ fold-roll-Raw Judged judged_by _

pub judged_leaf : (kind : TokenKind) (text : List ℕ) (place : Place) → judged (Leaf kind text place) ≡ judged_by (Raw-F.Leaf kind text place)
unfolding judged
judged_leaf kind text place = ap judged (sym (rolls-Leaf kind text place)) ∙ fold-roll-Raw Judged judged_by _

pub size_node : (r : RawRule) (parts : List Raw) → size (Node r parts) ≡ 1 + total parts
unfolding size
size_node r parts = ap size (sym (rolls-Node r parts)) ∙ fold-roll-Raw ℕ size_by _

pub size_leaf : (kind : TokenKind) (text : List ℕ) (place : Place) → size (Leaf kind text place) ≡ 1
unfolding size
size_leaf kind text place = ap size (sym (rolls-Leaf kind text place)) ∙ fold-roll-Raw ℕ size_by _

-- ---- what is judged of a node of another rule is harmless

pub other_ty : (r : RawRule) (parts : List Judged) → r ≢ rule.TypeName → (judged_by (Raw-F.Node r parts)).ty ≡ nothing.ty
other_ty rule.TypeName parts h = absurd (h refl)
other_ty _ parts h = refl

pub other_target : (r : RawRule) (parts : List Judged) → r ≢ rule.Target → (judged_by (Raw-F.Node r parts)).target ≡ nothing.target
other_target rule.Target parts h = absurd (h refl)
other_target _ parts h = refl

pub other_act : (r : RawRule) (parts : List Judged) → r ≢ rule.Action → (judged_by (Raw-F.Node r parts)).act ≡ nothing.act
other_act rule.Action parts h = absurd (h refl)
other_act _ parts h = refl

pub other_expr : (r : RawRule) (parts : List Judged) → r ≢ rule.Expr → r ≢ rule.Binary → r ≢ rule.Unary → r ≢ rule.Primary → (judged_by (Raw-F.Node r parts)).expr ≡ nothing.expr
other_expr rule.Expr parts h i j k = absurd (h refl)
other_expr rule.Binary parts h i j k = absurd (i refl)
other_expr rule.Unary parts h i j k = absurd (j refl)
other_expr rule.Primary parts h i j k = absurd (k refl)
other_expr _ parts h i j k = refl
