-- What is judged of a tree by its rule, from what is judged of its parts.
use Rattle.std.specs.Prelude.{ℕ, ◌∷◌, [], List, Bool, true, false, Option, Some, None, is_none}
use Rattle.std.specs.Str.{bytes_eq}
use Rattle.base_io.specs.declared.place.Place.{Place}
use Rattle.c_lex.specs.declared.token.TokenKind.{TokenKind}
use Rattle.c_lex.specs.declared.token.TokenKind.TheVariants.{Sign}
use Rattle.c_parse.specs.declared.raw.RawRule.{RawRule}
use Rattle.c_values.specs.declared.ops.Ty.{Ty}
use Rattle.c_values.specs.declared.ops.Ty.TheVariants.{I16}
use Rattle.c_tree.specs.declared.tree.Expr.{Expr}
use Rattle.c_tree.specs.declared.tree.ExprKind.TheVariants as kind
use Rattle.c_tree.specs.declared.tree.Action.{Action}
use Rattle.c_tree.specs.declared.tree.Action.TheVariants as action
use Rattle.c_tree.specs.declared.tree.Declared.{Declared}
use Rattle.c_tree.specs.declared.tree.BlockItem.{BlockItem}
use Rattle.c_tree.specs.declared.tree.BlockItem.TheVariants as item
use Rattle.c_tree.specs.declared.tree.Stmt.{Stmt}
use Rattle.c_tree.specs.declared.tree.StmtKind.TheVariants as stmt
use Rattle.c_tree.specs.declared.tree.Group.{Group}
use Rattle.c_tree.specs.declared.tree.Label.{Label}
use Rattle.c_typing.specs.declared.value.Value.{Value}
use Rattle.c_typing.specs.declared.value.Aim.{Aim}
use Rattle.c_typing.specs.declared.value.Base.{Base}
use Rattle.c_typing.specs.declared.value.Parameter.{Parameter}
use Rattle.c_typing.specs.Parts.{Part, pure, skip}

-- Each field is for trees of some rules, and holds something harmless for the others.
pub record Judged : Type 0 where
  pub rule : Option RawRule  -- none for a token
  pub kind : TokenKind  -- of a token
  pub text : List ℕ  -- a token's bytes
  pub place : Place  -- where its first token stands
  pub end : Place  -- where its last token stands
  pub ty : Ty  -- of a type name
  pub params : List Parameter  -- of a list of parameters
  pub defines : List (List ℕ)  -- the names of the functions that it defines
  pub expr : Part Value  -- Expr, Binary, Unary, Primary
  pub target : Part Aim
  pub act : Part Action
  pub declare : Base → Part Declared  -- of a local's declarator
  pub declare_global : Base → Part (Unit {0})
  pub declaration : Part (List Declared)
  pub items : Part (List BlockItem)  -- of a block
  pub item : Part BlockItem
  pub stmt : Part Stmt
  pub label : Ty → List Label → Part (List Label)
  pub group : Ty → List Label → Part Group
  pub external : Part (Unit {0})

abbrev pub no_place : Place
no_place = record { line = 0; column = 0 }

-- what stands for an expression with a fault: no constant, and of type int
abbrev pub absent_tree : Place → Expr
absent_tree place = record { place = place; ty = I16; kind = kind.Input }

abbrev pub absent : Place → Value
absent place = record { tree = absent_tree place; is_void = false }

abbrev pub no_aim : Place → Aim
no_aim place = record { to = record { place = place; variable = 0; index = None }; ty = I16 }

abbrev pub empty_stmt : Stmt
empty_stmt = record { place = no_place; kind = stmt.Empty }

abbrev pub nothing : Judged
nothing = record {
  rule = None;
  kind = Sign;
  text = [];
  place = no_place;
  end = no_place;
  ty = I16;
  params = [];
  defines = [];
  expr = pure (absent no_place);
  target = pure (no_aim no_place);
  act = pure (action.Value (absent_tree no_place));
  declare = λ base. pure (record { place = no_place; variable = 0; values = [] });
  declare_global = λ base. skip;
  declaration = pure [];
  items = pure [];
  item = pure (item.Declare []);
  stmt = pure empty_stmt;
  label = λ ty labels. pure [];
  group = λ ty labels. pure (record { labels = []; items = [] });
  external = skip;
}

abbrev pub spells : List ℕ → Judged → Bool
spells text part = bytes_eq part.text text

abbrev pub is_token : Judged → Bool
is_token part = is_none part.rule
